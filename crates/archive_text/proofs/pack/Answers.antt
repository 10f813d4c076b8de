-- `archive_text::pack` meets its contract: the archive, or the line of the fault.
use native.Mathlib.Omega.{arith}
use Rattle.archive_text.proofs.Packing.{archive_packed, fault_packed, room_kept}
use Rattle.archive_text.proofs.pack.Goals as goal

pub put-requires : goal.put-requires
put-requires c =
    omega (arith, c.requires.2, room_kept _ _ _ c.pack_ended.ensures _ c.in-Err.is)

pub returns-in-Ok : goal.returns-in-Ok
returns-in-Ok c = archive_packed _ _ _ c.pack_ended.ensures c.in-Ok.is

pub returns-in-Err : goal.returns-in-Err
returns-in-Err c = fault_packed _ _ _ c.pack_ended.ensures _ c.in-Err.is c.put.ensures
