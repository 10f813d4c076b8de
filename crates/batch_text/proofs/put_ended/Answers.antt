-- `batch_text::put_ended` meets its contract: a case for what the text is.
use Rattle.batch_text.proofs.put_ended.Goals as goal

pub returns-in-Err : goal.returns-in-Err
returns-in-Err c = rw c.in-Err.is c.put_fault.ensures

pub returns-in-Ok : goal.returns-in-Ok
returns-in-Ok c = rw c.in-Ok.is c.put.ensures
