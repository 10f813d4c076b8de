-- `transcript::put_calls` meets its contract: a refusal goes on as it is; else the text is what the other three calls lead to.
use Rattle.std.proofs.Common.{refl}
use Rattle.words.proofs.Judgements.{handed_on}
use Rattle.transcript.proofs.Steps.{filling_refused, filling_made}
use Rattle.transcript.proofs.put_calls.Goals as goal

pub returns-in_err-fill : goal.returns-in_err-fill
returns-in_err-fill c = rw (handed_on _ c.from_residual.ensures.1) (filling_refused _ _ _ _ _ _ _ c.in_err-fill.ensures, refl)

pub returns : goal.returns
returns c = rw (filling_made _ _ _ _ _ _ _ c.in_ok-fill.ensures) c.put_filled.ensures
