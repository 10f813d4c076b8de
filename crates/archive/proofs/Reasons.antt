-- Archiving and restoring: what it tells that no reason is given, and what is enough for it. Assumes nothing.
use Prim.Native.Nat.{ℕ, ◌*◌, ◌≤◌, ◌<◌}
use mathlib.Core.Path.{◌≡◌, refl, ◌∙◌}
use mathlib.Core.Bool.{Bool, true, false, not, ◌&&◌, ◌||◌, and-eq-true_iff}
use mathlib.Core.List.{List}
use native.Mathlib.Omega.{arith}
use borrow.Author.Tests.{ltb-false, lt-ltb, le-ltb, eqb-true, eq-eqb}
use lib.ListN.{length}
use Rattle.words.specs.Limits.{max_rows}
use Rattle.words.specs.Refusals.{Fine, Declined}
use Rattle.words.specs.declared.Refusal.TheVariants.{Shape, Short, Unreduced, Torn}
use Rattle.words.proofs.Judgements.{or_first, or_next, or_both, decline_true, decline_false, decline_fine, decline_not_true, decline_not_fine}
use Rattle.table.specs.Columns.{aux_width, row_count, table_shape, aux_shape, all_reduced}
use Rattle.table.proofs.Rows.{TableShape, table_shaped, aux_shaped}
use Rattle.archive.specs.Archives.{archive_length, archived_rows, archived_words}
use Rattle.archive.specs.Archives.{shapes, torn, archive_reason, restore_reason}

-- ---- shapes

pub record Shaped (table aux : List ℕ) : Type 0 where
  pub table_is_whole : TableShape table
  pub aux_length : length aux ≡ aux_width * row_count table

pub shaped : (table aux : List ℕ) → (table_shape table && aux_shape table aux) ≡ true → Shaped table aux
shaped table aux h =
    let parts = (and-eq-true_iff (table_shape table) (aux_shape table aux)).0 h in
    record { table_is_whole = table_shaped table parts.0; aux_length = aux_shaped table aux parts.1 }

module _ (table aux : List ℕ) where
  pub shapes_right : (table_shape table && aux_shape table aux) ≡ true → shapes table aux ≡ Fine
  unfolding shapes
  shapes_right e = rw e

  pub shapes_told : shapes table aux ≡ Fine → (table_shape table && aux_shape table aux) ≡ true
  unfolding shapes
  shapes_told e = decline_not_fine _ Shape e

-- ---- archiving

-- bytes too few come before words that are p or more
pub archive_short : (table aux out : List ℕ) → (table_shape table && aux_shape table aux) ≡ true → length out < archive_length (row_count table)
    → archive_reason table aux out ≡ Declined Short
unfolding archive_reason
archive_short table aux out right h = or_next _ (shapes_right table aux right) ∙ or_first _ (decline_true Short (lt-ltb _ _ h))

pub archive_fine : (table aux out : List ℕ) → (table_shape table && aux_shape table aux) ≡ true → archive_length (row_count table) ≤ length out
    → (all_reduced table && all_reduced aux) ≡ true → archive_reason table aux out ≡ Fine
unfolding archive_reason
archive_fine table aux out right room e =
    or_next _ (shapes_right table aux right) ∙ or_next _ (decline_false Short (le-ltb _ _ room)) ∙ decline_not_true Unreduced e

-- what it tells that nothing is against it
pub record Archivable (table aux out : List ℕ) : Type 0 where
  pub right : (table_shape table && aux_shape table aux) ≡ true
  pub room : archive_length (row_count table) ≤ length out
  pub table_reduced : all_reduced table ≡ true
  pub aux_reduced : all_reduced aux ≡ true

pub archivable : (table aux out : List ℕ) → archive_reason table aux out ≡ Fine → Archivable table aux out
unfolding archive_reason
archivable table aux out e =
    let a = or_both _ _ e in
    let b = or_both _ _ a.1 in
    let r = (and-eq-true_iff (all_reduced table) (all_reduced aux)).0 (decline_not_fine _ Unreduced b.1) in
    record {
      right = shapes_told table aux a.0;
      room = ltb-false (length out) (archive_length (row_count table)) (decline_fine _ Short b.0);
      table_reduced = r.0;
      aux_reduced = r.1;
    }

-- ---- bytes that are whole

pub record Whole (s : List ℕ) : Type 0 where
  pub few : archived_rows s ≤ max_rows
  pub long : length s ≡ archive_length (archived_rows s)

both_false : (a b : Bool) → a || not b ≡ false → (a ≡ false) × (b ≡ true)
both_false false true e = (refl, refl)
both_false false false e = absurd (let z : ◌≡◌ {A = ℕ} 0 1 = cc in omega arith)
both_false true b e = absurd (let z : ◌≡◌ {A = ℕ} 0 1 = cc in omega arith)

module _ (s : List ℕ) where
  pub whole_fine : Whole s → torn s ≡ Fine
  unfolding torn
  whole_fine h = rw (le-ltb max_rows (archived_rows s) h.few, eq-eqb (length s) (archive_length (archived_rows s)) h.long)

  pub whole : torn s ≡ Fine → Whole s
  unfolding torn
  whole e =
      let a = both_false _ _ (decline_fine _ Torn e) in
      record { few = ltb-false max_rows (archived_rows s) a.0; long = eqb-true _ _ a.1 }

-- ---- restoring

pub record Restorable (s table aux : List ℕ) : Type 0 where
  pub right : (table_shape table && aux_shape table aux) ≡ true
  pub complete : Whole s
  pub room : archived_rows s ≤ row_count table
  pub reduced : all_reduced (archived_words s) ≡ true

pub restorable : (s table aux : List ℕ) → restore_reason s table aux ≡ Fine → Restorable s table aux
unfolding restore_reason
restorable s table aux e =
    let a = or_both _ _ e in
    let b = or_both _ _ a.1 in
    let c = or_both _ _ b.1 in
    record {
      right = shapes_told table aux a.0;
      complete = whole s b.0;
      room = ltb-false (row_count table) (archived_rows s) (decline_fine _ Short c.0);
      reduced = decline_not_fine _ Unreduced c.1;
    }

pub restore_fine : (s table aux : List ℕ) → (table_shape table && aux_shape table aux) ≡ true → torn s ≡ Fine → archived_rows s ≤ row_count table
    → all_reduced (archived_words s) ≡ true → restore_reason s table aux ≡ Fine
unfolding restore_reason
restore_fine s table aux right complete room e =
    or_next _ (shapes_right table aux right) ∙ or_next _ complete ∙ or_next _ (decline_false Short (le-ltb _ _ room))
    ∙ decline_not_true Unreduced e

-- a whole destination with room is all that is asked beside the bytes
pub restorable_fine : (s table aux : List ℕ) → Restorable s table aux → restore_reason s table aux ≡ Fine
restorable_fine s table aux h = restore_fine s table aux h.right (whole_fine s h.complete) h.room h.reduced
