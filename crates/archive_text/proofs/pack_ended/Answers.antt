-- `archive_text::pack_ended` meets its contract: a text without a table is the fault; else what its rows lead to.
use mathlib.Core.Path.{refl}
use Rattle.archive_text.proofs.Packing.{ended_as, fault_taken}
use Rattle.archive_text.proofs.pack_ended.Goals as goal

pub pack_rows-requires : goal.pack_rows-requires
pack_rows-requires c = (c.requires.0, c.in_ok-rows.ensures.few c.end_number-ended.ensures.within)

pub returns-in_err-rows : goal.returns-in_err-rows
returns-in_err-rows c =
    rw (fault_taken _ c.from_residual.ensures.1) (ended_as _ _ _ c.end_number-ended.ensures _ c.in_err-rows.ensures.taken _ refl, refl)

pub returns : goal.returns
returns c =
    rw (ended_as _ _ _ c.end_number-ended.ensures _ c.in_ok-rows.ensures.taken _ refl) c.pack_rows.ensures
