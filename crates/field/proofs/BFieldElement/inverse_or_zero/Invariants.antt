-- `inverse_or_zero` answers the inverse modulo p, or 0: the loop keeps `Turning`; its two ends
-- are `table_low` and `table_high`, where the inverse of the remainder is looked up. r1 falls with each turn. Assumes nothing.
use Rattle.field.proofs.Euclid.{Turning}
use Rattle.field.proofs.BFieldElement.inverse_or_zero.Given as goal

abbrev pub invariant-loop-r1 : goal.invariant-loop-r1
invariant-loop-r1 l = Turning l.a l.r0 l.r1 l.t0 l.t1

abbrev pub decreases-loop-r1 : goal.decreases-loop-r1
decreases-loop-r1 l = l.r1
