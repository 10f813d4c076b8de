-- `vectors::Numbers::array` meets its contract: each turn puts one number. Assumes nothing.
use Rattle.std.proofs.Common.{◌≡◌}
use Rattle.arrayvec.specs.ArrayVec.{array_vec_len}
use Rattle.vectors.proofs.Numbers.array.Given as goal

abbrev pub invariant-loop : goal.invariant-loop
invariant-loop g l = array_vec_len l.items ≡ l.counter
