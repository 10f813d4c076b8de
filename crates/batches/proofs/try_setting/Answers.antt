-- `batches::try_setting` meets its contract: the totals are those of the jobs that were judged, and a reason is handed on. Assumes nothing.
use mathlib.Core.Path.{ap, ◌∙◌}
use Rattle.words.proofs.Judgements.{handed_on}
use Rattle.batches.specs.Batches.{trial_answer}
use Rattle.batches.proofs.Answering.{trial_declined}
use Rattle.batches.proofs.try_setting.Goals as goal

pub returns-in_err-new : goal.returns-in_err-new
returns-in_err-new c = ap trial_answer (handed_on _ c.from_residual.ensures.1) ∙ trial_declined _ _ c.in_err-new.ensures
