-- `batches::Batch::open` meets its contract. The loop's invariant: the batches of the jobs are those of the open batch, as it is, and of the jobs that
-- are not looked at yet. Assumes nothing.
use mathlib.Core.Path.{refl, ◌∙◌}
use native.Mathlib.Omega.{arith}
use Rattle.batches.proofs.Walking.{joins, opens, ends}
use Rattle.batches.proofs.Batch.open.Goals as goal

pub loop-height-init : goal.loop-height-init
loop-height-init c = (refl, c.requires, refl)

pub returns-then-setting-batch-clause-batches : goal.returns-then-setting-batch-clause-batches
returns-then-setting-batch-clause-batches c = opens _ _ _ _ c.loop-height.invariant.2 c.loop-height.invariant.0 c.loop-height-test.true (omega arith)

pub loop-height-preserved : goal.loop-height-preserved
loop-height-preserved c = (
  omega arith,
  omega arith,
  c.loop-height.invariant.2 ∙ joins _ _ _ _ c.loop-height-test.true (omega arith),
)

pub returns-clause-batches : goal.returns-clause-batches
returns-clause-batches c = ends _ _ _ _ c.loop-height.invariant.2 c.loop-height.invariant.0 c.loop-height-test.false
