-- The laws of the archive (change request 10): "The inverse gives back both arrays. Each accepted archive rearranges back to its own bytes, and the
-- check under the same challenges answers alike on a table and on the rows that came back from the archive."
use Rattle.std.specs.Prelude.{ℕ, ◌*◌, ◌≤◌, ◌≡◌, cond, List, [], ◌++◌, eqb, length, take, drop}
use Rattle.words.specs.Answers.{Answer, done}
use Rattle.words.specs.Outcomes.{Outcome, Leaves, completed_answer, unless_declined}
use Rattle.words.specs.Refusals.{Judgement, Fine}
use Rattle.table.specs.Columns.{main_width, aux_width, row_count}
use Rattle.air.specs.Check.{check_all}
use Rattle.archive.specs.Archives.{archive_length, archived_rows, shapes, archive_reason, archive_all, restore_reason, restore_all, TableAndAux, table_and_aux}
use Rattle.check_table.specs.Verdicts.{Verdict, verdict_answer}

-- ---- archive, then restore

-- "The inverse gives back both arrays": restoring has answered done, and the first rows of the destination are those of table and aux; later rows are
-- as they were
pub record ComesBack (table aux to_table to_aux : List ℕ) (restoring : Outcome TableAndAux) : Type 0 where
  pub answer : restoring.answer ≡ done []
  pub table_back : restoring.left.table ≡ table ++ drop (length table) to_table
  pub aux_back : restoring.left.aux ≡ aux ++ drop (length aux) to_aux

-- the bytes that archiving left are restored; nothing is where archiving refuses
unfoldable pub archive_then_restore : (table aux out to_table to_aux : List ℕ) → Outcome TableAndAux
archive_then_restore table aux out to_table to_aux =
    unless_declined (archive_reason table aux out) (table_and_aux to_table to_aux)
    (restore_all (take (archive_length (row_count table)) (archive_all table aux out).left) to_table to_aux)

-- What both calls leave, and the law: what is not refused comes back, onto any destination of right shape with as many rows
pub record IsArchivedThenRestored (table aux out to_table to_aux : List ℕ) (r : Judgement) (out_after : List ℕ) (after : TableAndAux) : Type 0 where
  pub exact : Leaves (archive_then_restore table aux out to_table to_aux) (completed_answer r) after
  pub bytes : out_after ≡ (archive_all table aux out).left
  pub law : archive_reason table aux out ≡ Fine → shapes to_table to_aux ≡ Fine → row_count table ≤ row_count to_table
      → ComesBack table aux to_table to_aux (record { answer = completed_answer r; left = after })

-- ---- restore, then archive

-- "Each accepted archive rearranges back to its own bytes": archiving has answered done and left the bytes s; what follows them is as it was
pub record SameArchive (s out : List ℕ) (archiving : Outcome (List ℕ)) : Type 0 where
  pub answer : archiving.answer ≡ done []
  pub bytes : archiving.left ≡ s ++ drop (length s) out

-- the rows that came back are archived; nothing is where restoring refuses
unfoldable pub restore_then_archive : (s table aux out : List ℕ) → Outcome (List ℕ)
restore_then_archive s table aux out =
    unless_declined (restore_reason s table aux) out
    (archive_all
    (take (main_width * archived_rows s) (restore_all s table aux).left.table)
    (take (aux_width * archived_rows s) (restore_all s table aux).left.aux)
    out)

-- What both calls leave, and the law: bytes that are not refused are archived again to the same bytes, wherever there is room for them
pub record IsRestoredThenArchived (s table aux out : List ℕ) (r : Judgement) (after : TableAndAux) (out_after : List ℕ) : Type 0 where
  pub exact : Leaves (restore_then_archive s table aux out) (completed_answer r) out_after
  pub arrays : after ≡ (restore_all s table aux).left
  pub law : restore_reason s table aux ≡ Fine → length s ≤ length out → SameArchive s out (record { answer = completed_answer r; left = out_after })

-- ---- the check of what came back

-- the check of the rows that came back; where archiving or restoring refuses, that reason
unfoldable pub check_restored : (table aux challenges out to_table to_aux : List ℕ) → Answer
check_restored table aux challenges out to_table to_aux =
    let back = archive_then_restore table aux out to_table to_aux in
    cond (eqb back.answer.number 0)
    (check_all (take (length table) back.left.table) (take (length aux) back.left.aux) challenges)
    back.answer

-- What the three calls answer and leave, and the law: "the check under the same challenges answers alike on a table and on the rows that came back",
-- whatever the challenges are
pub record IsCheckedRestored (table aux challenges out to_table to_aux : List ℕ) (r : Verdict) (out_after : List ℕ) (after : TableAndAux) : Type 0 where
  pub exact : verdict_answer r ≡ check_restored table aux challenges out to_table to_aux
  pub bytes : out_after ≡ (archive_all table aux out).left
  pub arrays : after ≡ (archive_then_restore table aux out to_table to_aux).left
  pub law : archive_reason table aux out ≡ Fine → shapes to_table to_aux ≡ Fine → row_count table ≤ row_count to_table
      → verdict_answer r ≡ check_all table aux challenges
