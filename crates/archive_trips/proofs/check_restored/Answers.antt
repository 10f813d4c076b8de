-- `archive_trips::check_restored` meets its contract: the rows that came back are within the arrays, and the law is `checks_alike`. Assumes nothing.
use mathlib.Core.Path.{sym}
use lib.Seq.{length-take-le}
use Rattle.words.proofs.Judgements.{handed_on}
use Rattle.archive_trips.proofs.ThreeCalls.{back_within, trip_refused, then_checked}
use Rattle.archive_trips.proofs.check_restored.Goals as goal

pub slice_bounds-check-end : goal.slice_bounds-check-end
slice_bounds-check-end c = (back_within _ _ _ _ _ _ _ c.in_ok-archive_then_restore.ensures).0

pub slice_bounds-check-end-2 : goal.slice_bounds-check-end-2
slice_bounds-check-end-2 c =
    sym (length-take-le _ c.archive_then_restore.new.to_table (back_within _ _ _ _ _ _ _ c.in_ok-archive_then_restore.ensures).0)

pub slice_bounds-check-end-3 : goal.slice_bounds-check-end-3
slice_bounds-check-end-3 c = (back_within _ _ _ _ _ _ _ c.in_ok-archive_then_restore.ensures).1

pub slice_bounds-check-end-4 : goal.slice_bounds-check-end-4
slice_bounds-check-end-4 c =
    sym (length-take-le _ c.archive_then_restore.new.to_aux (back_within _ _ _ _ _ _ _ c.in_ok-archive_then_restore.ensures).1)

pub returns-in_err-archive_then_restore : goal.returns-in_err-archive_then_restore
returns-in_err-archive_then_restore c = rw (handed_on _ c.from_residual.ensures.1) (trip_refused _ _ _ _ _ _ _ _ _ c.in_err-archive_then_restore.ensures)

pub returns : goal.returns
returns c =
    then_checked _ _ _ _ _ _ _ _ _ c.in_ok-archive_then_restore.ensures c.check.ensures.exact
