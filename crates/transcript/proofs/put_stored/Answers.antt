-- `transcript::put_stored` meets its contract: a refusal goes on as it is; else it is the text of the list that was read.
use Rattle.std.proofs.Common.{refl}
use Rattle.words.proofs.Judgements.{handed_on}
use Rattle.transcript.proofs.Steps.{reading_refused, reading_made}
use Rattle.transcript.proofs.put_stored.Goals as goal

pub returns-in_err-read_list : goal.returns-in_err-read_list
returns-in_err-read_list c =
    rw (handed_on _ c.from_residual.ensures.1) (reading_refused _ _ _ c.in_err-read_list.ensures.outcome, refl)

pub returns : goal.returns
returns c = rw (reading_made _ _ _ c.in_ok-read_list.ensures.outcome) (rw c.view.ensures at c.put_list.ensures)
