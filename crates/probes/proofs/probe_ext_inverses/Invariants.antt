-- What the loop of `probe_ext_inverses` keeps: the elements passed are the inverses, and no place is lost.
use Rattle.std.proofs.Common.{◌≡◌, ℕ, ◌<◌, length}
use Rattle.xfield.specs.Extension.{InverseOrZeroX}
use Rattle.table.specs.Columns.{element_at}
use Rattle.probes.proofs.probe_ext_inverses.Given as goal

abbrev pub invariant-loop-i : goal.invariant-loop-i
invariant-loop-i l =
    (length l.out ≡ length l.initial.out) × ((k : ℕ) → k < l.i → InverseOrZeroX (element_at l.words k) (element_at l.out k))
