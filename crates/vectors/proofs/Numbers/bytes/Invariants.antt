-- `vectors::Numbers::bytes` meets its contract: each turn puts one byte. Assumes nothing.
use Rattle.std.proofs.Common.{◌≡◌}
use Rattle.arrayvec.specs.ArrayVec.{array_vec_len}
use Rattle.vectors.proofs.Numbers.bytes.Given as goal

abbrev pub invariant-loop : goal.invariant-loop
invariant-loop g l = array_vec_len l.bytes ≡ l.counter
