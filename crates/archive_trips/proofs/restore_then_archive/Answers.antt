-- `archive_trips::restore_then_archive` meets its contract: the rows that came back are within the arrays, and the law is `same_archive`. Assumes nothing.
use mathlib.Core.Path.{sym}
use native.Mathlib.Omega.{arith}
use lib.Seq.{length-take-le}
use Rattle.words.proofs.Judgements.{handed_on}
use Rattle.archive_trips.proofs.TwoCalls.{restored_within, restore_refused, then_archived}
use Rattle.archive_trips.proofs.restore_then_archive.Goals as goal

pub archived_rows-rows-requires : goal.archived_rows-rows-requires
archived_rows-rows-requires c = let within = restored_within _ _ _ _ c.in_ok-restore.ensures in omega arith

pub overflow_mul-main_words : goal.overflow_mul-main_words
overflow_mul-main_words c =
    let e = c.archived_rows-rows.ensures in
    let within = restored_within _ _ _ _ c.in_ok-restore.ensures in
    omega arith

pub overflow_mul-aux_words : goal.overflow_mul-aux_words
overflow_mul-aux_words c =
    let e = c.archived_rows-rows.ensures in
    let within = restored_within _ _ _ _ c.in_ok-restore.ensures in
    omega arith

pub slice_bounds-archive-end : goal.slice_bounds-archive-end
slice_bounds-archive-end c =
    let e = c.archived_rows-rows.ensures in
    let within = restored_within _ _ _ _ c.in_ok-restore.ensures in
    omega arith

pub slice_bounds-archive-end-2 : goal.slice_bounds-archive-end-2
slice_bounds-archive-end-2 c =
    let e = c.archived_rows-rows.ensures in
    let within = restored_within _ _ _ _ c.in_ok-restore.ensures in
    sym (length-take-le _ c.restore.new.table (omega arith))

pub slice_bounds-archive-end-3 : goal.slice_bounds-archive-end-3
slice_bounds-archive-end-3 c =
    let e = c.archived_rows-rows.ensures in
    let within = restored_within _ _ _ _ c.in_ok-restore.ensures in
    omega arith

pub slice_bounds-archive-end-4 : goal.slice_bounds-archive-end-4
slice_bounds-archive-end-4 c =
    let e = c.archived_rows-rows.ensures in
    let within = restored_within _ _ _ _ c.in_ok-restore.ensures in
    sym (length-take-le _ c.restore.new.aux (omega arith))

pub returns-in_err-restore : goal.returns-in_err-restore
returns-in_err-restore c = rw (handed_on _ c.from_residual.ensures.1) (restore_refused _ _ _ _ _ _ c.in_err-restore.ensures)

pub returns : goal.returns
returns c =
    then_archived _ _ _ _ _ _ _ (λ j. (c.type_inv.bytes j).fits)
    c.in_ok-restore.ensures
    (rw c.archived_rows-rows.ensures at c.archive.ensures)
