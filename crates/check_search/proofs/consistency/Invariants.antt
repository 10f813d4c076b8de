-- What the loops of `consistency` keep.
use Rattle.std.proofs.Common.{◌<◌}
use Rattle.air.specs.Check.{consistency_at}
use Rattle.check_search.proofs.RowByRow.{FromRow, FromValue}
use Rattle.check_search.proofs.consistency.Given as goal

abbrev pub invariant-loop-index : goal.invariant-loop-index
invariant-loop-index l = (l.row < l.row-end) × FromValue (consistency_at l.table) 1 l.row-end l.row l.index l.value-items

abbrev pub invariant-rows : goal.invariant-rows
invariant-rows l = FromRow (consistency_at l.table) 1 l.row-end l.row
