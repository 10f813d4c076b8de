-- `transcript::put_list` meets its contract: a refusal goes on as it is; else it is the text of the height and the padded height that were planned.
use Rattle.std.proofs.Common.{refl}
use Rattle.words.proofs.Judgements.{handed_on}
use Rattle.transcript.proofs.Steps.{plan_refused, plan_made}
use Rattle.transcript.proofs.put_list.Goals as goal

pub returns-in_err-heights : goal.returns-in_err-heights
returns-in_err-heights c =
    rw (handed_on _ c.from_residual.ensures.1) (plan_refused _ _ c.plan.ensures _ c.in_err-heights.was, refl)

pub returns : goal.returns
returns c = rw (plan_made _ _ c.plan.ensures _ c.in_ok-heights.was) c.put_height.ensures
