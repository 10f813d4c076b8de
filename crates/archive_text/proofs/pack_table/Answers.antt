-- `archive_text::pack_table` meets its contract: a refusal of extension is the fault; else archiving follows, and is not refused.
use mathlib.Core.Path.{refl}
use Rattle.archive_text.proofs.Packing.{sums_archived, table_archived, table_refused, archive_put, archive_made, rows_limit, fault_of}
use Rattle.archive_text.proofs.pack_table.Goals as goal

pub returns-in_err-extend : goal.returns-in_err-extend
returns-in_err-extend c =
    rw (fault_of _ c.from_residual.ensures.1) (table_refused _ _ _ _ _ c.in_err-extend.ensures, refl)

pub returns-in_err-archive : goal.returns-in_err-archive
returns-in_err-archive c =
    let fine = sums_archived _ _ _ _ _ c.in_ok-extend.ensures _ c.requires.0 c.requires.1 in
    absurd (archive_made _ _ _ fine _ c.in_err-archive.ensures)

pub archive_length-requires : goal.archive_length-requires
archive_length-requires c =
    rows_limit _ _ _ (sums_archived _ _ _ _ _ c.in_ok-extend.ensures _ c.requires.0 c.requires.1)

pub returns : goal.returns
returns c =
    let extended = c.in_ok-extend.ensures in
    let fine = sums_archived _ _ _ _ _ extended _ c.requires.0 c.requires.1 in
    rw (table_archived _ _ _ _ _ extended) (refl, archive_put _ _ _ fine c.in_ok-archive.ensures _ c.archive_length.ensures)
