-- What it tells of rows and elements that a shape is right and that all words are below p. Lists are gone through word by word.
-- Assumes nothing.
use Prim.Native.Nat.{ℕ, zero, suc, ◌+◌, ◌*◌, ◌%◌, ◌<◌, ◌≤◌}
use mathlib.Core.Path.{◌≡◌, refl}
use mathlib.Core.Bool.{true, not, ◌&&◌, and-eq-true_iff}
use mathlib.Core.List.{List, [], ◌∷◌, ◌++◌}
use native.Mathlib.Omega.{arith}
use lib.Dec.{ltb, eqb}
use lib.ListN.{length, get_or}
use borrow.Author.Tests.{ltb-true, ltb-false, eqb-true, lt-ltb, not-true}
use Rattle.field.specs.Elements.{p}
use Rattle.words.specs.Limits.{max_rows}
use Rattle.xfield.specs.Extension.{Reduced}
use Rattle.table.specs.Columns.{Row, main_width, row_at, row_count, aux_width, element_at, table_shape, aux_shape, all_reduced}
use Rattle.table.specs.Challenges.{challenge_words, challenges_shape}

-- ---- shapes
pub record TableShape (table : List ℕ) : Type 0 where
  pub whole : length table ≡ main_width * row_count table
  pub limit : row_count table ≤ max_rows

pub table_shaped : (table : List ℕ) → table_shape table ≡ true → TableShape table
unfolding table_shape
table_shaped table h =
    let parts = (and-eq-true_iff (eqb (length table % main_width) 0) (not (ltb max_rows (row_count table)))).0 h in
    let rest : length table % main_width ≡ 0 = eqb-true (length table % main_width) 0 parts.0 in
    record { whole = omega arith; limit = ltb-false max_rows (row_count table) (not-true (ltb max_rows (row_count table)) parts.1) }

pub aux_shaped : (table aux : List ℕ) → aux_shape table aux ≡ true → length aux ≡ aux_width * row_count table
unfolding aux_shape
aux_shaped table aux h = eqb-true (length aux) (aux_width * row_count table) h

pub challenges_shaped : (challenges : List ℕ) → challenges_shape challenges ≡ true → length challenges ≡ challenge_words
unfolding challenges_shape
challenges_shaped challenges h = eqb-true (length challenges) challenge_words h

-- the shapes of the three arrays that extend and the check are given
pub record Shaped (table aux challenges : List ℕ) : Type 0 where
  pub table_is_whole : TableShape table
  pub aux_length : length aux ≡ aux_width * row_count table
  pub challenges_right : challenges_shape challenges ≡ true
  pub challenges_length : length challenges ≡ challenge_words

pub shaped : (table aux challenges : List ℕ) → (table_shape table && (aux_shape table aux && challenges_shape challenges)) ≡ true
    → Shaped table aux challenges
shaped table aux challenges h =
    let parts = (and-eq-true_iff (table_shape table) (aux_shape table aux && challenges_shape challenges)).0 h in
    let arrays = (and-eq-true_iff (aux_shape table aux) (challenges_shape challenges)).0 parts.1 in
    record {
      table_is_whole = table_shaped table parts.0;
      aux_length = aux_shaped table aux arrays.0;
      challenges_right = arrays.1;
      challenges_length = challenges_shaped challenges arrays.1;
    }

-- ---- words below p
pub reduced_word : (ws : List ℕ) → all_reduced ws ≡ true → (i : ℕ) → i < length ws → get_or ws i 0 < p
unfolding all_reduced
reduced_word [] h i l = absurd (omega arith)
reduced_word (w ∷ ws) h zero l = ltb-true w p ((and-eq-true_iff (ltb w p) (all_reduced ws)).0 h).0
reduced_word (w ∷ ws) h (suc i) l = reduced_word ws ((and-eq-true_iff (ltb w p) (all_reduced ws)).0 h).1 i (omega arith)

pub all_reduced_lem : (ws : List ℕ) → ((i : ℕ) → i < length ws → get_or ws i 0 < p) → all_reduced ws ≡ true
unfolding all_reduced
all_reduced_lem [] h = refl
all_reduced_lem (w ∷ ws) h = (and-eq-true_iff (ltb w p) (all_reduced ws)).1 (lt-ltb w p (h 0 (omega arith)), all_reduced_lem ws (λ i l. h (suc i) (omega arith)))

-- of two lists joined
pub reduced_join : (xs ys : List ℕ) → all_reduced xs ≡ true → all_reduced ys ≡ true → all_reduced (xs ++ ys) ≡ true
unfolding all_reduced
reduced_join [] ys h k = k
reduced_join (x ∷ xs) ys h k =
    let parts = (and-eq-true_iff (ltb x p) (all_reduced xs)).0 h in
    (and-eq-true_iff (ltb x p) (all_reduced (xs ++ ys))).1 (parts.0, reduced_join xs ys parts.1 k)

-- the words of a row are below p
pub record RowReduced (row : Row) : Type 0 where
  pub copy_flag_below : row.copy_flag < p
  pub bits_below : row.bits < p
  pub bits_minus33_inv_below : row.bits_minus33_inv < p
  pub ci_below : row.ci < p
  pub lhs_below : row.lhs < p
  pub lhs_inv_below : row.lhs_inv < p
  pub rhs_below : row.rhs < p
  pub rhs_inv_below : row.rhs_inv < p
  pub result_below : row.result < p
  pub lookup_multiplicity_below : row.lookup_multiplicity < p

pub row_reduced : (table : List ℕ) → all_reduced table ≡ true → (i : ℕ) → i < row_count table → RowReduced (row_at table i)
unfolding row_at
row_reduced table h i l = record {
  copy_flag_below = reduced_word table h (main_width * i) (omega arith);
  bits_below = reduced_word table h (main_width * i + 1) (omega arith);
  bits_minus33_inv_below = reduced_word table h (main_width * i + 2) (omega arith);
  ci_below = reduced_word table h (main_width * i + 3) (omega arith);
  lhs_below = reduced_word table h (main_width * i + 4) (omega arith);
  lhs_inv_below = reduced_word table h (main_width * i + 5) (omega arith);
  rhs_below = reduced_word table h (main_width * i + 6) (omega arith);
  rhs_inv_below = reduced_word table h (main_width * i + 7) (omega arith);
  result_below = reduced_word table h (main_width * i + 8) (omega arith);
  lookup_multiplicity_below = reduced_word table h (main_width * i + 9) (omega arith);
}

pub element_reduced : (ws : List ℕ) → all_reduced ws ≡ true → (i : ℕ) → 3 * i + 2 < length ws → Reduced (element_at ws i)
unfolding element_at
element_reduced ws h i l = record {
  a_below = reduced_word ws h (3 * i) (omega arith);
  b_below = reduced_word ws h (3 * i + 1) (omega arith);
  c_below = reduced_word ws h (3 * i + 2) l;
}
