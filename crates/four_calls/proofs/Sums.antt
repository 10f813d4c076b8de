-- The aux words that `extend` makes meet the constraints over the aux column. Each row's element is the sum of the one above and the
-- row's summand, so of the two transition constraints one is zero by its factor CopyFlag or CopyFlag − 1, and the other since
-- nothing is added, or since multiplicity / denominator times the denominator is the multiplicity. The words are below p.
use Prim.Native.Nat.{ℕ, zero, suc, ◌<◌}
use mathlib.Core.Path.{◌≡◌, refl, sym, ap, ap₂, ◌∙◌}
use mathlib.Core.Logic.{◌⊎◌, inl, inr}
use mathlib.Core.Bool.{Bool, true, false, cond, not, ◌&&◌, ◌||◌}
use mathlib.Core.List.{List, [], ◌∷◌, ◌++◌}
use lib.Dec.{eqb}
use Rattle.field.specs.Elements.{p, sub_f}
use Rattle.xfield.specs.Extension.{Ext, zero_x, lift_x, add_x, sub_x, mul_x, scale_x, HasInverse, is_zero_x}
use Rattle.xfield.specs.Inverses.{inv_x}
use Rattle.xfield.proofs.Laws.{zero_x_reduced, add_x_zero_left, sub_x_self}
use Rattle.xfield.proofs.Laws.{lift_x_word, sum_stepped, sum_started}
use Rattle.table.specs.Columns.{Row, row_at}
use Rattle.table.specs.Challenges.{Challenges, challenges_of, row_denominator}
use Rattle.sums.specs.RunningSum.{add_summand, running_sum, denominator_ok, denominators_ok}
use Rattle.sums.specs.LookupSum.{summand_at}
use Rattle.air.specs.Constraints as Poly
use Rattle.air.specs.Constraints.{base_value}
use Rattle.air.proofs.Lists.{SumZero}
use Rattle.sums.proofs.RunningSums.{adds_nothing, adds_share}
use Rattle.sums.specs.LookupSum.{summand_of}
use Rattle.four_calls.specs.FourCalls.{table_rows_to, copy_flag1, none_zero, sum_from}
use Rattle.check_plain.proofs.Products.{same_zero}
use Rattle.check_plain.proofs.Sums.{scale_zero, zero_scale, sum_stays, sum_accumulates}
use Rattle.four_calls.proofs.RowLists.{flagged_join}

-- ---- a row and the sums before it and with it
module _ (c : Challenges) (row : Row) (sum : Ext) (bit : (row.copy_flag ≡ 0) ⊎ (row.copy_flag ≡ 1)) (m : row.lookup_multiplicity < p)
    (invertible : row.copy_flag ≡ 1 → HasInverse (row_denominator c row)) where
  abbrev next : Ext
  next = add_summand sum (summand_of c row)

  base_is : base_value row.lookup_multiplicity ≡ lift_x row.lookup_multiplicity
  base_is = sym (lift_x_word row.lookup_multiplicity m)

  pub next_sum_zero : SumZero c row sum next
  unfolding Poly.if_copy_flag_next_is_1_then_running_sum_log_derivative_accumulates_next_row
  next_sum_zero = go bit
    where
      go : (row.copy_flag ≡ 0) ⊎ (row.copy_flag ≡ 1) → SumZero c row sum next
      go (inl f) = sum_stays c row sum next f (sym (adds_nothing sum (summand_of c row) f))
      go (inr f) =
          sum_accumulates c row sum next f
          (scale_zero row.copy_flag
          (ap₂ (λ (x v : Ext). sub_x (mul_x (sub_x x sum) (row_denominator c row)) v) (adds_share sum (summand_of c row) f) base_is
          ∙ sum_stepped row.lookup_multiplicity (row_denominator c row) sum (invertible f)))

module _ (c : Challenges) (row : Row) (bit : (row.copy_flag ≡ 0) ⊎ (row.copy_flag ≡ 1)) (m : row.lookup_multiplicity < p)
    (invertible : row.copy_flag ≡ 1 → HasInverse (row_denominator c row)) where
  pub first_sum_zero : Poly.running_sum_log_derivative_starts_correctly c row (add_summand zero_x (summand_of c row)) ≡ zero_x
  unfolding Poly.running_sum_log_derivative_starts_correctly
  first_sum_zero = go bit
    where
      both : {x y : Ext} → x ≡ zero_x → y ≡ zero_x → add_x x y ≡ zero_x
      both e f = ap₂ add_x e f ∙ add_x_zero_left zero_x zero_x_reduced

      go : (row.copy_flag ≡ 0) ⊎ (row.copy_flag ≡ 1)
          → Poly.running_sum_log_derivative_starts_correctly c row (add_summand zero_x (summand_of c row)) ≡ zero_x
      go (inl f) =
          both
          (scale_zero (sub_f row.copy_flag 1) (ap (λ (x : Ext). sub_x x zero_x) (adds_nothing zero_x (summand_of c row) f) ∙ sub_x_self zero_x))
          (zero_scale _ f)
      go (inr f) =
          both (zero_scale _ (same_zero f))
          (scale_zero row.copy_flag
          (ap₂ (λ (x v : Ext). sub_x (mul_x x (row_denominator c row)) v) (adds_share zero_x (summand_of c row) f)
          (sym (lift_x_word row.lookup_multiplicity m))
          ∙ sum_started row.lookup_multiplicity (row_denominator c row) (invertible f)))

-- ---- the sum over rows, then over more
pub sum_join : (c : Challenges) (sum : Ext) (xs ys : List Row) → sum_from c sum (xs ++ ys) ≡ sum_from c (sum_from c sum xs) ys
unfolding sum_from
sum_join c sum [] ys = refl
sum_join c sum (a ∷ xs) ys = sum_join c (add_x sum (scale_x a.lookup_multiplicity (inv_x (row_denominator c a)))) xs ys

-- ---- only the CopyFlag 1 rows count, for the denominators and for the sum
module _ (table challenges : List ℕ) where
  abbrev challenge : Challenges
  challenge = challenges_of challenges

  none_zero_join : (xs ys : List Row) → none_zero challenge (xs ++ ys) ≡ (none_zero challenge xs && none_zero challenge ys)
  unfolding none_zero
  none_zero_join [] ys = refl
  none_zero_join (a ∷ xs) ys =
      ap (λ (t : Bool). not (is_zero_x (row_denominator challenge a)) && t) (none_zero_join xs ys)
      ∙ regroup (not (is_zero_x (row_denominator challenge a)))
    where
      regroup : (t : Bool)
          → (t && (none_zero challenge xs && none_zero challenge ys)) ≡ ((t && none_zero challenge xs) && none_zero challenge ys)
      regroup true = refl
      regroup false = refl

  one_not_zero : (row : Row) → denominator_ok (summand_of challenge row) ≡ none_zero challenge (copy_flag1 (row ∷ []))
  unfolding denominator_ok none_zero copy_flag1
  one_not_zero row = go (eqb row.copy_flag 1)
    where
      go : (t : Bool) → (not t || not (is_zero_x (row_denominator challenge row))) ≡ none_zero challenge (cond t (row ∷ []) [])
      go true = same (not (is_zero_x (row_denominator challenge row)))
        where
          same : (t : Bool) → t ≡ (t && true)
          same true = refl
          same false = refl
      go false = refl

  one_sum : (sum : Ext) (row : Row) → add_summand sum (summand_of challenge row) ≡ sum_from challenge sum (copy_flag1 (row ∷ []))
  unfolding add_summand sum_from copy_flag1
  one_sum sum row = go (eqb row.copy_flag 1)
    where
      go : (t : Bool)
          → cond t (add_x sum (scale_x row.lookup_multiplicity (inv_x (row_denominator challenge row)))) sum
          ≡ sum_from challenge sum (cond t (row ∷ []) [])
      go true = refl
      go false = refl

  pub denominators_of_rows : (n : ℕ)
      → denominators_ok (summand_at table challenges) n ≡ none_zero challenge (copy_flag1 (table_rows_to table n))
  unfolding denominators_ok table_rows_to summand_at none_zero copy_flag1
  denominators_of_rows zero = refl
  denominators_of_rows (suc n) =
      ap₂ (λ (s t : Bool). s && t) (denominators_of_rows n) (one_not_zero (row_at table n))
      ∙ sym (none_zero_join (copy_flag1 (table_rows_to table n)) (copy_flag1 (row_at table n ∷ [])))
      ∙ ap (none_zero challenge) (sym (flagged_join (table_rows_to table n) (row_at table n ∷ [])))

  pub sum_of_rows : (n : ℕ) → running_sum (summand_at table challenges) n ≡ sum_from challenge zero_x (copy_flag1 (table_rows_to table n))
  unfolding running_sum table_rows_to summand_at sum_from copy_flag1
  sum_of_rows zero = refl
  sum_of_rows (suc n) =
      ap (λ (sum : Ext). add_summand sum (summand_of challenge (row_at table n))) (sum_of_rows n)
      ∙ one_sum _ (row_at table n)
      ∙ sym (sum_join challenge zero_x (copy_flag1 (table_rows_to table n)) (copy_flag1 (row_at table n ∷ [])))
      ∙ ap (sum_from challenge zero_x) (sym (flagged_join (table_rows_to table n) (row_at table n ∷ [])))
