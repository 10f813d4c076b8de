-- `check_search::JudgedTable::transition` meets its contract: a pair that is seen to meet its constraints is passed, and the values of any other are
-- searched. Assumes nothing.
use Rattle.std.proofs.Common.{List, ◌∙◌, arith, subst}
use Rattle.xfield.specs.Extension.{Ext}
use Rattle.air.specs.Constraints.{transition_constraints}
use Rattle.air.specs.Check.{AllZero, transition_at}
use Rattle.check_search.proofs.RowByRow.{rows_passed, row_passed, row_begun, values_passed, value_passed, value_found}
use Rattle.check_search.proofs.JudgedTable.transition.Goals as goal

pub pairs-preserved-then-is_plain_pair : goal.pairs-preserved-then-is_plain_pair
pairs-preserved-then-is_plain_pair c =
    let weights = c.from_words-weights.ensures in
    let pair = c.at-pair.ensures in
    row_passed _ 2 _ c.pairs.upper c.pairs.invariant c.pairs-test.true
    (subst (λ (vs : List Ext). AllZero vs)
    (λ i. transition_constraints (weights i) (pair.upper i) (pair.lower i) (pair.sum i) (pair.sum_next i))
    (c.is_plain_pair.ensures c.if-is_plain_pair.true))

pub loop-index-init : goal.loop-index-init
loop-index-init c =
    let weights = c.from_words-weights.ensures in
    let pair = c.at-pair.ensures in (
      c.pairs-test.true,
      row_begun _ 2 _ c.pairs.upper c.transition_constraints-values.result c.pairs.invariant c.pairs-test.true
          (c.transition_constraints-values.ensures
          ∙ (λ i. transition_constraints (weights i) (pair.upper i) (pair.lower i) (pair.sum i) (pair.sum_next i))),
    )

pub loop-index-preserved : goal.loop-index-preserved
loop-index-preserved c =
    let judged = c.args.self.now in (
      c.loop-index.invariant.0,
      value_passed (transition_at judged.rows.table.now judged.aux.now judged.challenges.now) 2 _ _ c.transition_constraints-values.result c.loop-index.index
          c.loop-index.invariant.1 (omega arith) c.is_zero.ensures c.if-not-is_zero.false,
    )

pub pairs-preserved : goal.pairs-preserved
pairs-preserved c =
    let judged = c.args.self.now in
    values_passed (transition_at judged.rows.table.now judged.aux.now judged.challenges.now) 2 _ _ c.transition_constraints-values.result c.loop-index.index
    c.loop-index.invariant.1 (omega arith)

pub returns-then-not-is_zero : goal.returns-then-not-is_zero
returns-then-not-is_zero c =
    let judged = c.args.self.now in
    value_found (transition_at judged.rows.table.now judged.aux.now judged.challenges.now) 2 _ _ c.transition_constraints-values.result c.loop-index.index
    c.loop-index.invariant.1 (omega arith) c.is_zero.ensures c.if-not-is_zero.true

pub returns-after-pairs : goal.returns-after-pairs
returns-after-pairs c = rows_passed _ 2 _ c.pairs.upper c.pairs.invariant c.pairs-test.false
