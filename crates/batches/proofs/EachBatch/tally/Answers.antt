-- `batches::EachBatch::tally` meets its contract. Assumes nothing.
use mathlib.Core.Path.{refl, ap, sym, ◌∙◌}
use native.Mathlib.Omega.{arith}
use borrow.Author.Rules.{rules}
use Rattle.batches.specs.Left.{batches_left}
use Rattle.batches.proofs.Walking.{all_small, trial_fine, tally_starts, tally_step, tally_ends}
use Rattle.batches.proofs.EachBatch.tally.Goals as goal

pub loop-batch-init : goal.loop-batch-init
loop-batch-init c = tally_starts (ap batches_left c.into_iter-batch-iterator.ensures.into_iter_gives)

pub overflow_add-totals : goal.overflow_add-totals
overflow_add-totals c =
    let small = all_small _ _ c.args.self.fine in
    let step = tally_step c.loop-batch.invariant c.in-Some.ensures.steps refl in
    search rules

pub overflow_add-totals-in-loop-batch : goal.overflow_add-totals-in-loop-batch
overflow_add-totals-in-loop-batch c =
    let small = all_small _ _ c.args.self.fine in
    let step = tally_step c.loop-batch.invariant c.in-Some.ensures.steps refl in
    search rules

pub padding-requires : goal.padding-requires
padding-requires c =
    let small = all_small _ _ c.args.self.fine in
    let step = tally_step c.loop-batch.invariant c.in-Some.ensures.steps refl in
    omega arith

pub overflow_add-totals-in-loop-batch-2 : goal.overflow_add-totals-in-loop-batch-2
overflow_add-totals-in-loop-batch-2 c =
    let small = all_small _ _ c.args.self.fine in
    let step = tally_step c.loop-batch.invariant c.in-Some.ensures.steps c.padding.ensures in
    search rules

pub loop-batch-preserved : goal.loop-batch-preserved
loop-batch-preserved c = tally_step c.loop-batch.invariant c.in-Some.ensures.steps c.padding.ensures

pub returns : goal.returns
returns c = tally_ends c.loop-batch.invariant c.in-None.ensures.steps.0 ∙ sym (trial_fine _ _ c.args.self.fine)
