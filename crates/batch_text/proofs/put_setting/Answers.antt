-- `batch_text::put_setting` meets its contract: the totals that the setting gives, or the reason against it.
use mathlib.Core.Path.{refl, sym, ap, ◌∙◌}
use Rattle.batches.specs.Batches.{trial_answer}
use Rattle.batches.proofs.Answering.{trial_bounds}
use Rattle.batch_text.proofs.Tables.{totals_due, refusal_due}
use Rattle.batch_text.proofs.put_setting.Goals as goal

pub put_totals-requires : goal.put_totals-requires
put_totals-requires c =
    (c.requires, trial_bounds c.args.jobs.now c.args.setting (ap trial_answer (sym c.in-Ok.is) ∙ c.try_setting.ensures))

pub returns-in-Err : goal.returns-in-Err
returns-in-Err c =
    refusal_due c.args.jobs.now c.args.setting c.in-Err.reason (ap trial_answer (sym c.in-Err.is) ∙ c.try_setting.ensures) refl
    c.put_refusal.ensures

pub returns-in-Ok : goal.returns-in-Ok
returns-in-Ok c =
    totals_due c.args.jobs.now c.args.setting (ap trial_answer (sym c.in-Ok.is) ∙ c.try_setting.ensures) c.put_totals.ensures
