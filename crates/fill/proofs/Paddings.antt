-- Padding: the last filled row (`last_row`), one more padding row (`pad_turn`), and what each way out of `pad` leaves. Assumes nothing.
use Prim.Native.Nat.{ℕ, zero, suc, ◌+◌, ◌-◌, ◌*◌, ◌≤◌, ◌<◌}
use mathlib.Core.Path.{◌≡◌, refl, sym, ap, ◌∙◌}
use mathlib.Core.Bool.{true, false, not}
use mathlib.Core.List.{List, []}
use native.Mathlib.Omega.{arith}
use lib.ListN.{length, replicate, length-replicate, replicate-append-replicate}
use lib.Seq.{sets}
use borrow.Author.Tests.{lt-ltb, le-ltb}
use Rattle.words.specs.Answers.{done, declined}
use Rattle.words.specs.Outcomes.{Leaves}
use Rattle.words.specs.declared.Refusal.{Refusal}
use Rattle.words.specs.declared.Refusal.TheVariants.{Shape, Short, Unreduced}
use Rattle.words.specs.Refusals.{Declined}
use Rattle.words.proofs.Judgements.{decline_true, decline_false, decline_not_true, or_first, or_next}
use Rattle.words.proofs.Outcomes.{leaves_done, leaves_declined}
use Rattle.words.proofs.Sets.{sets_then}
use Rattle.table.specs.Columns.{Row, main_width, row_at, row_count, table_shape, all_reduced}
use Rattle.table.specs.RowWords.{row_words, table_words}
use Rattle.fill.specs.Padding.{last_filled, padded, pad_reason, pad_all}
use Rattle.fill.proofs.ListSections.{words_append, words_length}

-- ---- the last filled row

pub last_row : (table : List ℕ) (filled : ℕ) {row : Row} → (filled ≡ 0 → ⊥) → row ≡ row_at table (filled - 1) → row ≡ last_filled table filled
last_row table zero h e = absurd (h refl)
last_row table (suc i) h e = e ∙ ap (row_at table) (omega arith)

-- ---- one more padding row

copies_length : (n : ℕ) (row : Row) → length (table_words (replicate n row)) ≡ main_width * n
copies_length n row = words_length (replicate n row) ∙ ap (λ (k : ℕ). main_width * k) (length-replicate n row)

one_copy : (row : Row) → table_words (replicate 1 row) ≡ row_words row
unfolding table_words
one_copy row = refl

pub pad_start : (table : List ℕ) (filled : ℕ) (row : Row) → table ≡ sets table (main_width * filled) (table_words (replicate (filled - filled) row))
unfolding table_words
pad_start table filled row = let n : filled - filled ≡ 0 = omega arith in rw n

pub pad_turn : (table₀ table after : List ℕ) (filled i : ℕ) (row : Row) → filled ≤ i
    → table ≡ sets table₀ (main_width * filled) (table_words (replicate (i - filled) row))
    → after ≡ sets table (main_width * i) (row_words row)
    → after ≡ sets table₀ (main_width * filled) (table_words (replicate (i + 1 - filled) row))
pad_turn table₀ table after filled i row h e f =
    let n : i + 1 - filled ≡ (i - filled) + 1 = omega arith in
    rw (n, ← replicate-append-replicate (i - filled) 1 row, words_append (replicate (i - filled) row) (replicate 1 row), one_copy row)
    (f ∙ sym (sets_then (table_words (replicate (i - filled) row)) (row_words row) table₀ table (main_width * filled) (main_width * i) e
    (omega (arith, copies_length (i - filled) row))))

-- ---- the ways out

module _ (table : List ℕ) (filled : ℕ) where
  -- the table as it was, and the reason
  abbrev Declines : Refusal → Type 0
  Declines reason = Leaves (pad_all table filled) (declined reason) table

  refused : {reason : Refusal} → pad_reason table filled ≡ Declined reason → Declines reason
  unfolding pad_all
  refused e = leaves_declined _ _ _ e

  pub pad_shape : table_shape table ≡ false → Declines Shape
  unfolding pad_reason
  pad_shape e = refused (or_first _ (decline_true Shape (ap not e)))

  module _ (shape : table_shape table ≡ true) where
    pub pad_short : row_count table < filled → Declines Short
    unfolding pad_reason
    pad_short h = refused (or_next _ (decline_not_true Shape shape) ∙ or_first _ (decline_true Short (lt-ltb _ _ h)))

    module _ (room : filled ≤ row_count table) where
      pub pad_unreduced : all_reduced (row_words (last_filled table filled)) ≡ false → Declines Unreduced
      unfolding pad_reason
      pad_unreduced h =
          refused (or_next _ (decline_not_true Shape shape) ∙ or_next _ (decline_false Short (le-ltb _ _ room)) ∙ decline_true Unreduced (ap not h))

      pub pad_done : {after : List ℕ} → all_reduced (row_words (last_filled table filled)) ≡ true → after ≡ padded table filled
          → Leaves (pad_all table filled) (done []) after
      unfolding pad_reason pad_all
      pad_done h e =
          leaves_done [] table (padded table filled)
          (or_next _ (decline_not_true Shape shape) ∙ or_next _ (decline_false Short (le-ltb _ _ room)) ∙ decline_not_true Unreduced h)
          refl e

-- what `pad` is proved by: its loop and its ways out
pub ruleset pad_steps = (pad_start, pad_turn, pad_shape, pad_short, pad_unreduced, pad_done)
