-- The laws of the archive, over `archive_all`, `restore_all` and `check_all`, which the contracts of the calls cite. That the second call does not refuse
-- is a conclusion of each. Assumes nothing.
use Prim.Native.Nat.{ℕ, ◌*◌, ◌%◌, ◌≤◌, ◌<◌}
use mathlib.Core.Path.{◌≡◌, refl, sym, ap, ap₂, ◌∙◌}
use mathlib.Core.Bool.{true, ◌&&◌, and-eq-true_iff}
use mathlib.Core.List.{List, []}
use native.Mathlib.Omega.{arith}
use borrow.Author.Tests.{eq-eqb, le-ltb}
use lib.ListN.{length, get_or, take, drop}
use lib.Seq.{sets, take_at}
use Rattle.words.specs.Limits.{max_rows}
use Rattle.words.specs.Answers.{done}
use Rattle.words.specs.Outcomes.{Outcome}
use Rattle.words.specs.Refusals.{Fine}
use Rattle.words.proofs.Outcomes.{outcome_fine}
use Rattle.words.proofs.Sets.{sets_front, take_sets_front}
use Rattle.table.specs.Columns.{main_width, aux_width, row_count, table_shape, aux_shape, all_reduced}
use Rattle.air.specs.Check.{check_all}
use Rattle.archive.specs.Archives.{archive_length, archive_bytes, archived_rows, archived_table, archived_aux}
use Rattle.archive.specs.Archives.{shapes, archive_reason, archive_all, restore_reason, restore_all, TableAndAux, restored}
use Rattle.archive.proofs.Reasons.{shaped, shapes_told, archivable, archive_fine, Restorable, restorable, restorable_fine}
use Rattle.archive_trips.specs.ArchiveTrips.{ComesBack, SameArchive}
use Rattle.archive_trips.proofs.Rearranged.{archive_long, rows_held, held_reduced, table_held, aux_held, rows_length, rows_reduced, count_again, own_bytes}

-- what is due where nothing is against it
pub archived_is : (table aux out : List ℕ) → archive_reason table aux out ≡ Fine
    → archive_all table aux out ≡ record { answer = done []; left = sets out 0 (archive_bytes table aux) }
unfolding archive_all
archived_is table aux out e = outcome_fine [] _ _ e

pub restored_is : (s table aux : List ℕ) → restore_reason s table aux ≡ Fine
    → restore_all s table aux ≡ record { answer = done []; left = restored s table aux }
unfolding restore_all
restored_is s table aux e = outcome_fine [] _ _ e

shape_right : (table aux : List ℕ) (m : ℕ) → length table ≡ main_width * m → length aux ≡ aux_width * m → m ≤ max_rows
    → (table_shape table && aux_shape table aux) ≡ true
unfolding table_shape aux_shape
shape_right table aux m e f h =
    rw (
      eq-eqb (length table % main_width) 0 (omega arith),
      le-ltb max_rows (row_count table) (omega arith),
      eq-eqb (length aux) (aux_width * row_count table) (omega arith),
    )

-- ---- what was archived comes back

module _ (table aux out : List ℕ) (fine : archive_reason table aux out ≡ Fine) where
  -- the bytes that archiving left, as many as it wrote
  pub archived_bytes : take (archive_length (row_count table)) (archive_all table aux out).left ≡ archive_bytes table aux
  archived_bytes =
      let a = archivable table aux out fine in
      let long = archive_long table aux (shaped table aux a.right) a.table_reduced a.aux_reduced in
      ap (λ (o : Outcome (List ℕ)). take (archive_length (row_count table)) o.left) (archived_is table aux out fine)
      ∙ take_sets_front (archive_bytes table aux) out (archive_length (row_count table)) long a.room

  module _ (to_table to_aux : List ℕ) (right : shapes to_table to_aux ≡ Fine) (room : row_count table ≤ row_count to_table) where
    archive_restorable : Restorable (archive_bytes table aux) to_table to_aux
    archive_restorable =
        let a = archivable table aux out fine in
        let f = shaped table aux a.right in
        let n = rows_held table aux f a.table_reduced a.aux_reduced in
        let few = f.table_is_whole.limit in
        record {
          right = shapes_told to_table to_aux right;
          complete = record {
            few = rw n few;
            long = archive_long table aux f a.table_reduced a.aux_reduced ∙ ap archive_length (sym n);
          };
          room = rw n room;
          reduced = held_reduced table aux f a.table_reduced a.aux_reduced;
        }

    pub comes_back : ComesBack table aux to_table to_aux (restore_all (take (archive_length (row_count table)) (archive_all table aux out).left) to_table to_aux)
    comes_back =
        let a = archivable table aux out fine in
        let f = shaped table aux a.right in
        let t = shaped to_table to_aux (shapes_told to_table to_aux right) in
        let whole = f.table_is_whole.whole in
        let aux_whole = f.aux_length in
        let to_whole = t.table_is_whole.whole in
        let to-aux_whole = t.aux_length in
        rw (archived_bytes, restored_is (archive_bytes table aux) to_table to_aux (restorable_fine (archive_bytes table aux) to_table to_aux archive_restorable))
        (record {
          answer = refl;
          table_back = ap (sets to_table 0) (table_held table aux f a.table_reduced a.aux_reduced) ∙ sets_front table to_table (omega arith);
          aux_back = ap (sets to_aux 0) (aux_held table aux f a.table_reduced a.aux_reduced) ∙ sets_front aux to_aux (omega arith);
        })

    -- and the check answers alike on it, whatever the challenges
    pub checks_alike : (challenges : List ℕ)
        → check_all
        (take (length table) (restore_all (take (archive_length (row_count table)) (archive_all table aux out).left) to_table to_aux).left.table)
        (take (length aux) (restore_all (take (archive_length (row_count table)) (archive_all table aux out).left) to_table to_aux).left.aux)
        challenges
        ≡ check_all table aux challenges
    checks_alike challenges =
        let b = comes_back in
        ap₂ (λ (t x : List ℕ). check_all t x challenges)
        (ap (take (length table)) b.table_back ∙ take_at table (drop (length table) to_table) (length table) refl)
        (ap (take (length aux)) b.aux_back ∙ take_at aux (drop (length aux) to_aux) (length aux) refl)

-- ---- an accepted archive is archived again to its own bytes

module _ (s table aux : List ℕ) (fine : restore_reason s table aux ≡ Fine) where
  table_came : take (main_width * archived_rows s) (restore_all s table aux).left.table ≡ archived_table s
  table_came =
      let h = restorable s table aux fine in
      let whole = (shaped table aux h.right).table_is_whole.whole in
      let room = h.room in
      ap (λ (o : Outcome TableAndAux). take (main_width * archived_rows s) o.left.table) (restored_is s table aux fine)
      ∙ take_sets_front (archived_table s) table (main_width * archived_rows s) (rows_length s 1 main_width) (omega arith)

  aux_came : take (aux_width * archived_rows s) (restore_all s table aux).left.aux ≡ archived_aux s
  aux_came =
      let h = restorable s table aux fine in
      let whole = (shaped table aux h.right).aux_length in
      let room = h.room in
      ap (λ (o : Outcome TableAndAux). take (aux_width * archived_rows s) o.left.aux) (restored_is s table aux fine)
      ∙ take_sets_front (archived_aux s) aux (aux_width * archived_rows s) (rows_length s _ aux_width) (omega arith)

  archived_right : (table_shape (archived_table s) && aux_shape (archived_table s) (archived_aux s)) ≡ true
  archived_right =
      let few = (restorable s table aux fine).complete.few in
      shape_right (archived_table s) (archived_aux s) (archived_rows s) (rows_length s 1 main_width) (rows_length s _ aux_width) few

  pub same_archive : (out : List ℕ) → ((j : ℕ) → get_or s j 0 < 256) → length s ≤ length out
      → SameArchive s out
      (archive_all (take (main_width * archived_rows s) (restore_all s table aux).left.table) (take (aux_width * archived_rows s) (restore_all s table aux).left.aux) out)
  same_archive out bytes room =
      let h = restorable s table aux fine in
      let long = h.complete.long in
      let n = count_again s in
      let reduced : (all_reduced (archived_table s) && all_reduced (archived_aux s)) ≡ true
      = (and-eq-true_iff (all_reduced (archived_table s)) (all_reduced (archived_aux s))).1
      (rows_reduced s h.reduced 1 main_width (omega arith) (omega arith), rows_reduced s h.reduced _ aux_width (omega arith) (omega arith)) in
      let again = archive_fine (archived_table s) (archived_aux s) out archived_right (omega arith) reduced in
      rw (table_came, aux_came, archived_is (archived_table s) (archived_aux s) out again)
      (record { answer = refl; bytes = ap (sets out 0) (own_bytes s bytes long) ∙ sets_front s out room })
