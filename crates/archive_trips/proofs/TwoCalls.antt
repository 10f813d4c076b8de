-- The trips as calls make them one after the other: from what each call ensures to the law. Where the first call refuses, the second is not made and
-- the law asks nothing. Assumes nothing.
use Prim.Native.Nat.{ℕ, ◌*◌, ◌≤◌, ◌<◌}
use mathlib.Core.Path.{◌≡◌, sym, ap, ◌∙◌}
use mathlib.Core.List.{List, []}
use native.Mathlib.Omega.{arith}
use lib.ListN.{length, get_or, take}
use lib.Seq.{length-sets}
use Rattle.words.specs.Limits.{max_rows}
use Rattle.words.specs.Answers.{Answer, done}
use Rattle.words.specs.Outcomes.{Outcome, Leaves, completed_answer}
use Rattle.words.specs.Refusals.{Fine, Judgement, Declined}
use Rattle.words.specs.declared.Refusal.{Refusal}
use Rattle.words.proofs.Outcomes.{outcome_done, reason_told, unless_fine, unless_told}
use Rattle.table.specs.Columns.{main_width, aux_width, row_count}
use Rattle.archive.specs.Archives.{word_width, archive_length, archive_bytes, archived_rows, archived_table, archived_aux}
use Rattle.archive.specs.Archives.{archive_reason, archive_all, restore_reason, restore_all, TableAndAux, table_and_aux, restored}
use Rattle.archive.proofs.Reasons.{shaped, archivable, restorable}
use Rattle.archive_trips.specs.ArchiveTrips.{archive_then_restore, IsArchivedThenRestored, restore_then_archive, IsRestoredThenArchived}
use Rattle.archive_trips.proofs.RoundTrips.{archived_is, restored_is, comes_back, same_archive}

-- ---- an answer other than a refusal

pub archive_answered : (table aux out : List ℕ) → done [] ≡ (archive_all table aux out).answer → archive_reason table aux out ≡ Fine
unfolding archive_all
archive_answered table aux out e = outcome_done (archive_reason table aux out) _ _ _ (ap (λ (a : Answer). a.number) (sym e))

pub restore_answered : (s table aux : List ℕ) → done [] ≡ (restore_all s table aux).answer → restore_reason s table aux ≡ Fine
unfolding restore_all
restore_answered s table aux e = outcome_done (restore_reason s table aux) _ _ _ (ap (λ (a : Answer). a.number) (sym e))

-- ---- archive, then restore

module _ (table aux out : List ℕ) where
  -- what was archived is within the bytes
  pub archived_within : (after : List ℕ) → Leaves (archive_all table aux out) (completed_answer Fine) after → archive_length (row_count table) ≤ length after
  archived_within after w =
      let e = archive_answered table aux out w.answer in
      let r = (archivable table aux out e).room in
      let g : length after ≡ length out
      = ap length (w.left ∙ ap (λ (x : Outcome (List ℕ)). x.left) (archived_is table aux out e)) ∙ length-sets out 0 (archive_bytes table aux) in
      omega arith

  module _ (to_table to_aux : List ℕ) where
    pub archive_refused : (k : Refusal) (after : List ℕ) → Leaves (archive_all table aux out) (completed_answer (Declined k)) after
        → IsArchivedThenRestored table aux out to_table to_aux (Declined k) after (table_and_aux to_table to_aux)
    unfolding archive_then_restore archive_all
    archive_refused k after w = record {
      exact = unless_told (archive_reason table aux out) _ _ _ k w.answer (table_and_aux to_table to_aux) _;
      bytes = w.left;
      law = λ e. absurd (reason_told (archive_reason table aux out) _ _ _ k w.answer e);
    }

    pub then_restored : (bytes : List ℕ) (r : Judgement) (after : TableAndAux) → Leaves (archive_all table aux out) (completed_answer Fine) bytes
        → Leaves (restore_all (take (archive_length (row_count table)) bytes) to_table to_aux) (completed_answer r) after
        → IsArchivedThenRestored table aux out to_table to_aux r bytes after
    unfolding archive_then_restore
    then_restored bytes r after w d =
        let e = archive_answered table aux out w.answer in
        let v = rw w.left at d in
        record {
          exact = rw (unless_fine (table_and_aux to_table to_aux) _ e) v;
          bytes = w.left;
          law = λ _ right room.
              let b = comes_back table aux out e to_table to_aux right room in
              record { answer = v.answer ∙ b.answer; table_back = rw v.left b.table_back; aux_back = rw v.left b.aux_back };
        }

-- ---- restore, then archive

-- the rows that came back lie within the arrays
pub record Within (s : List ℕ) (after : TableAndAux) : Type 0 where
  pub count : word_width ≤ length s
  pub few : archived_rows s ≤ max_rows
  pub rows : main_width * archived_rows s ≤ length after.table
  pub sums : aux_width * archived_rows s ≤ length after.aux

pub restored_within : (s table aux : List ℕ) (after : TableAndAux) → Leaves (restore_all s table aux) (completed_answer Fine) after → Within s after
restored_within s table aux after d =
    let e = restore_answered s table aux d.answer in
    let h = restorable s table aux e in
    let f = shaped table aux h.right in
    let whole = f.table_is_whole.whole in
    let aux_whole = f.aux_length in
    let room = h.room in
    let few = h.complete.few in
    let long = h.complete.long in
    let left : after ≡ restored s table aux = d.left ∙ ap (λ (x : Outcome TableAndAux). x.left) (restored_is s table aux e) in
    let t : length after.table ≡ length table = ap (λ (x : TableAndAux). length x.table) left ∙ length-sets table 0 (archived_table s) in
    let x : length after.aux ≡ length aux = ap (λ (x : TableAndAux). length x.aux) left ∙ length-sets aux 0 (archived_aux s) in
    record { count = omega arith; few = few; rows = omega arith; sums = omega arith }

module _ (s table aux out : List ℕ) where
  pub restore_refused : (k : Refusal) (after : TableAndAux) → Leaves (restore_all s table aux) (completed_answer (Declined k)) after
      → IsRestoredThenArchived s table aux out (Declined k) after out
  unfolding restore_then_archive restore_all
  restore_refused k after d = record {
    exact = unless_told (restore_reason s table aux) _ _ _ k d.answer out _;
    arrays = d.left;
    law = λ e. absurd (reason_told (restore_reason s table aux) _ _ _ k d.answer e);
  }

  pub then_archived : (after : TableAndAux) (r : Judgement) (bytes : List ℕ) → ((j : ℕ) → get_or s j 0 < 256)
      → Leaves (restore_all s table aux) (completed_answer Fine) after
      → Leaves (archive_all (take (main_width * archived_rows s) after.table) (take (aux_width * archived_rows s) after.aux) out) (completed_answer r) bytes
      → IsRestoredThenArchived s table aux out r after bytes
  unfolding restore_then_archive
  then_archived after r bytes b d w =
      let e = restore_answered s table aux d.answer in
      let v = rw d.left at w in
      record {
        exact = rw (unless_fine out _ e) v;
        arrays = d.left;
        law = λ _ room.
            let a = same_archive s table aux e out b room in
            record { answer = v.answer ∙ a.answer; bytes = v.left ∙ a.bytes };
      }
