-- `archive_trips::archive_then_restore` meets its contract: what was archived is within the bytes, and the law is `comes_back`. Assumes nothing.
use mathlib.Core.Path.{sym}
use native.Mathlib.Omega.{arith}
use lib.Seq.{length-take-le}
use Rattle.archive.proofs.Reasons.{shaped, archivable}
use Rattle.words.proofs.Judgements.{handed_on}
use Rattle.archive_trips.proofs.TwoCalls.{archive_answered, archived_within, archive_refused, then_restored}
use Rattle.archive_trips.proofs.archive_then_restore.Goals as goal

pub archive_length-end-requires : goal.archive_length-end-requires
archive_length-end-requires c =
    let told = c.in_ok-archive.ensures in
    let few = (shaped _ _ (archivable _ _ _ (archive_answered _ _ _ told.answer)).right).table_is_whole.limit in
    omega arith

pub slice_bounds-restore-end : goal.slice_bounds-restore-end
slice_bounds-restore-end c =
    let e = c.archive_length-end.ensures in
    let within = archived_within _ _ _ _ c.in_ok-archive.ensures in
    omega arith

pub slice_bounds-restore-end-2 : goal.slice_bounds-restore-end-2
slice_bounds-restore-end-2 c =
    let e = c.archive_length-end.ensures in
    let within = archived_within _ _ _ _ c.in_ok-archive.ensures in
    sym (length-take-le _ c.archive.new.out (omega arith))

pub returns-in_err-archive : goal.returns-in_err-archive
returns-in_err-archive c = rw (handed_on _ c.from_residual.ensures.1) (archive_refused _ _ _ _ _ _ _ c.in_err-archive.ensures)

pub returns : goal.returns
returns c =
    then_restored _ _ _ _ _ _ _ _ c.in_ok-archive.ensures
    (rw c.archive_length-end.ensures at c.restore.ensures)
