-- `transcript::put_transcript` meets its contract: the text was put, or else the line of the refusal is.
use Rattle.transcript.proofs.Steps.{all_printed, still_room, reason_printed}
use Rattle.transcript.proofs.put_transcript.Goals as goal

pub put_refused-requires : goal.put_refused-requires
put_refused-requires c = still_room _ _ _ c.put_input.ensures _ c.in-Err.is c.requires

pub returns-in_default : goal.returns-in_default
returns-in_default c = all_printed _ _ _ c.put_input.ensures c.in_default.is

pub returns-in-Err : goal.returns-in-Err
returns-in-Err c = reason_printed _ _ _ c.put_input.ensures _ c.in-Err.is c.put_refused.ensures
