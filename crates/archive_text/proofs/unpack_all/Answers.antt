-- `archive_text::unpack_all` meets its contract: too many rows are the fault, or a refusal of restoring; else the rows are there.
use Rattle.archive_text.proofs.Packing.{fault_of, fault_taken}
use Rattle.archive_text.proofs.Unpacking.{too_many_line_lem, restore_refused, restore_done, restored_count, few_rows, rows_unpacked}
use Rattle.archive_text.proofs.unpack_all.Goals as goal

pub returns-in_err-judge_count : goal.returns-in_err-judge_count
returns-in_err-judge_count c =
    let e = c.in_err-judge_count.ensures in
    rw (fault_taken _ c.from_residual.ensures.1, e.1) (too_many_line_lem _ _ _ e.0)

pub returns-in_err-restore : goal.returns-in_err-restore
returns-in_err-restore c =
    rw (fault_of _ c.from_residual-in_err-restore.ensures.1) (restore_refused _ _ _ c.in_ok-judge_count.ensures _ c.in_err-restore.ensures)

pub archived_rows-requires : goal.archived_rows-requires
archived_rows-requires c = restored_count _ _ _ c.in_ok-judge_count.ensures c.in_ok-restore.ensures

pub returns : goal.returns
returns c =
    let few = c.in_ok-judge_count.ensures in
    let done = c.in_ok-restore.ensures in
    rows_unpacked _ _ _ _ c.archived_rows.ensures (restore_done _ _ _ few done) (few_rows _ _ _ few done)
