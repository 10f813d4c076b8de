-- `check_plain::is_plain_pair` meets its contract: a section begins below an end row, or the lower row is a plain step (proofs/Steps.antt); and
-- the sum is accumulated, or stays (proofs/Sums.antt). Assumes nothing.
use Rattle.std.proofs.Common.{rules}
use Rattle.air.proofs.Lists.{zero_transition}
use Rattle.table.specs.Layouts.{row_of}
use Rattle.check_plain.proofs.Steps.{step_zero, seam}
use Rattle.check_plain.proofs.Sums.{sum_stays, sum_accumulates}
use Rattle.check_plain.proofs.is_plain_pair.Goals as goal

pub returns-then-is_end : goal.returns-then-is_end
unfolding row_of
returns-then-is_end c =
    let one = c.if-pair-eq1.true in
    λ e. zero_transition _ _ _ _ _ (seam (c.is_end.ensures (search rules)) one) (sum_accumulates _ _ _ _ one (c.accumulates.ensures e))

pub returns-then-is_step : goal.returns-then-is_step
unfolding row_of
returns-then-is_step c =
    let step = c.is_step.ensures (search rules) in
    λ e. zero_transition _ _ _ _ _ (step_zero step) (sum_stays _ _ _ _ step.flag (c.same_words.ensures e))
