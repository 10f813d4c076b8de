-- `archive_text::unpack` meets its contract: the rows, or the line of the fault.
use Rattle.archive_text.proofs.Unpacking.{rows_restored, fault_unpacked}
use Rattle.archive_text.proofs.unpack.Goals as goal

pub returns-in-Ok : goal.returns-in-Ok
returns-in-Ok c = rows_restored _ _ _ c.unpack_all.ensures c.in-Ok.is

pub returns-in-Err : goal.returns-in-Err
returns-in-Err c = fault_unpacked _ _ _ c.unpack_all.ensures _ c.in-Err.is c.put.ensures
