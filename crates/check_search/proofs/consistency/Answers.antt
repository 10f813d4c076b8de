-- `check_search::consistency` meets its contract: a row that is seen to be consistent is passed, and the values of any other are searched.
-- Assumes nothing.
use Rattle.std.proofs.Common.{ap, ◌∙◌, arith, subst}
use Rattle.table.specs.Columns.{Row}
use Rattle.air.specs.Constraints.{consistency_constraints}
use Rattle.air.specs.Check.{AllZero, consistency_at}
use Rattle.check_search.proofs.RowByRow.{rows_passed, row_passed, row_begun, values_passed, value_passed, value_found}
use Rattle.check_search.proofs.consistency.Goals as goal

pub rows-preserved-then-is_plain_row : goal.rows-preserved-then-is_plain_row
rows-preserved-then-is_plain_row c =
    row_passed _ 1 _ c.rows.row c.rows.invariant c.rows-test.true
    (subst (λ (r : Row). AllZero (consistency_constraints r)) c.at-current.ensures (c.is_plain_row.ensures c.if-is_plain_row.true))

pub loop-index-init : goal.loop-index-init
loop-index-init c = (
  c.rows-test.true,
  row_begun _ 1 _ c.rows.row c.consistency_constraints-values.result c.rows.invariant c.rows-test.true
      (c.consistency_constraints-values.ensures ∙ ap consistency_constraints c.at-current.ensures),
)

pub loop-index-preserved : goal.loop-index-preserved
loop-index-preserved c = (
  c.loop-index.invariant.0,
  value_passed (consistency_at c.args.table.now) 1 _ _ c.consistency_constraints-values.result c.loop-index.index c.loop-index.invariant.1 (omega arith)
      c.is_zero.ensures c.if-not-is_zero.false,
)

pub rows-preserved : goal.rows-preserved
rows-preserved c =
    values_passed (consistency_at c.args.table.now) 1 _ _ c.consistency_constraints-values.result c.loop-index.index c.loop-index.invariant.1 (omega arith)

pub returns-then-not-is_zero : goal.returns-then-not-is_zero
returns-then-not-is_zero c =
    value_found (consistency_at c.args.table.now) 1 _ _ c.consistency_constraints-values.result c.loop-index.index c.loop-index.invariant.1 (omega arith)
    c.is_zero.ensures c.if-not-is_zero.true

pub returns-after-rows : goal.returns-after-rows
returns-after-rows c = rows_passed _ 1 _ c.rows.row c.rows.invariant c.rows-test.false
