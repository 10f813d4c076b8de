-- What the loops of `transition` keep.
use Rattle.std.proofs.Common.{◌<◌}
use Rattle.air.specs.Check.{transition_at}
use Rattle.check_search.proofs.RowByRow.{FromRow, FromValue}
use Rattle.check_search.proofs.JudgedTable.transition.Given as goal

abbrev pub invariant-loop-index : goal.invariant-loop-index
invariant-loop-index l =
    (l.upper < l.pairs) × FromValue (transition_at l.table l.aux l.self.challenges.now) 2 l.pairs l.upper l.index l.value-items

abbrev pub invariant-pairs : goal.invariant-pairs
invariant-pairs l = FromRow (transition_at l.table l.aux l.self.challenges.now) 2 l.pairs l.upper
