-- The running sum: where all constraints are zero and no CopyFlag 1 row's denominator is zero, each row's aux element is the
-- sum so far, and so the last one is the sum over the CopyFlag 1 rows. By induction on the row: the initial constraint gives the first
-- sum, and of the two transition constraints one lets it stay where the next CopyFlag is 0, the other adds the next row where it is 1,
-- times the denominator, which its inverse cancels. Only ring laws are used, and that every element but zero has an inverse. Reason 9 is not met
-- exactly where no CopyFlag 1 row's denominator is zero.
use Prim.Native.Nat.{ℕ, zero, suc, ◌+◌, ◌-◌, ◌*◌, ◌<◌}
use mathlib.Core.Path.{◌≡◌, refl, sym, ap, ap₂, subst, ◌∙◌}
use mathlib.Core.Bool.{Bool, true, false, true≢false}
use mathlib.Core.Logic.{◌⊎◌, inl, inr, ◌↔◌}
use mathlib.Core.List.{List, [], ◌∷◌}
use native.Mathlib.Numerals.{add-one}
use native.Mathlib.Omega.{arith}
use lib.ListN.{length}
use Rattle.field.specs.Elements.{sub_f}
use Rattle.field.proofs.Ring.{var, con, neg, ◌:+◌, ◌:*◌, ◌:-◌, combine}
use Rattle.xfield.specs.Extension.{Ext, zero_x, lift_x, add_x, sub_x, mul_x, scale_x, HasInverse, Reduced}
use Rattle.xfield.proofs.RingLawsX.{𝔼, neg_one_x, lift_x_sub_f, scale_x_is, sub_x_of_red, sub_x_reduced, reduced_same}
use Rattle.xfield.specs.Inverses.{inv_x}
use Rattle.xfield.proofs.Inverses.{inv_x_mul_x}
use Rattle.xfield.proofs.Laws.{only_zero_has_none}
use Rattle.table.specs.Columns.{Row, row_at, row_count, aux_at, aux_width, all_reduced}
use Rattle.table.specs.Challenges.{Challenges, challenges_of, denominator, row_denominator}
use Rattle.sums.specs.RunningSum.{add_summand, running_sum, denominators_ok, ZeroDenominator}
use Rattle.sums.specs.LookupSum.{summand_at, lookup_sum}
use Rattle.sums.proofs.RunningSums.{adds_nothing, adds_share}
use Rattle.sums.proofs.ZeroDenominators.{flat_exactly}
use Rattle.sums.proofs.LookupSums.{summand_reduced}
use Rattle.air.specs.Constraints.{base_value}
use Rattle.air.specs.Constraints as Poly
use Rattle.air.specs.Check.{ConstraintsHold}
use Rattle.air.specs.Claim.{DenominatorsNotZero, last_sum}
use Rattle.table.proofs.Rows.{element_reduced}
use Rattle.air.proofs.Lists.{initial_zero, SumZero, sum_zero}
use Rattle.air.proofs.Descent.{copy_flag_bit}
use Rattle.air.proofs.Soundness.{row_ok}

-- ---- the constraints as equations of the extension ring
-- flag − 1, times an element
less_one : (flag : ℕ) (x : Ext) → scale_x (sub_f flag 1) x ≡ mul_x (sub_x (lift_x flag) (lift_x 1)) x
less_one flag x = scale_x_is (sub_f flag 1) x ∙ ap (λ (t : Ext). mul_x t x) (lift_x_sub_f flag 1)

-- flag, times an element less a base value
times_difference : (flag m : ℕ) (x : Ext) → scale_x flag (sub_x x (base_value m)) ≡ mul_x (lift_x flag) (sub_x x (lift_x m))
times_difference flag m x = scale_x_is flag (sub_x x (base_value m)) ∙ ap (mul_x (lift_x flag)) (sym (sub_x_of_red x (base_value m)))

-- ---- what the constraints say of a row and the sums before it and with it
module _ (c : Challenges) (row : Row) (sum next : Ext) (rn : Reduced next) where
  abbrev share : Ext
  share = scale_x row.lookup_multiplicity (inv_x (row_denominator c row))

  -- (0 − 1) (next − sum) = 0
  stays : Reduced sum → row.copy_flag ≡ 0 → Poly.if_copy_flag_next_is_0_then_running_sum_log_derivative_stays row sum next ≡ zero_x
      → next ≡ sum
  unfolding Poly.if_copy_flag_next_is_0_then_running_sum_log_derivative_stays
  stays rs f e =
      let equation : mul_x (sub_x (lift_x 0) (lift_x 1)) (sub_x next sum) ≡ zero_x =
      ap (λ (t : ℕ). mul_x (sub_x (lift_x t) (lift_x 1)) (sub_x next sum)) (sym f) ∙ sym (less_one row.copy_flag (sub_x next sum)) ∙ e
      in
      sym (reduced_same next rn)
      ∙ combine 𝔼 neg_one_x
      (record { times = neg (con 1); left = (con 0 :- con 1) :* (var 0 :- var 1); right = con 0 } ∷ [])
      (var 0) (var 1) refl (next ∷ sum ∷ []) equation
      ∙ reduced_same sum rs

  -- 1 ((next − sum) d − m) = 0
  accumulates : HasInverse (row_denominator c row) → row.copy_flag ≡ 1
      → Poly.if_copy_flag_next_is_1_then_running_sum_log_derivative_accumulates_next_row c row sum next ≡ zero_x → next ≡ add_x sum share
  unfolding Poly.if_copy_flag_next_is_1_then_running_sum_log_derivative_accumulates_next_row
  accumulates i f e =
      let d = row_denominator c row in
      let m = lift_x row.lookup_multiplicity in
      let equation : mul_x (lift_x 1) (sub_x (mul_x (sub_x next sum) d) m) ≡ zero_x =
      ap (λ (t : ℕ). mul_x (lift_x t) (sub_x (mul_x (sub_x next sum) d) m)) (sym f)
      ∙ sym (times_difference row.copy_flag row.lookup_multiplicity (mul_x (sub_x next sum) d)) ∙ e
      in
      sym (reduced_same next rn)
      ∙ combine 𝔼 neg_one_x
      (record { times = var 4; left = con 1 :* ((var 0 :- var 1) :* var 2 :- var 3); right = con 0 }
      ∷ record { times = neg (var 0 :- var 1); left = var 4 :* var 2; right = con 1 } ∷ [])
      (var 0) (var 1 :+ var 3 :* var 4) refl (next ∷ sum ∷ d ∷ m ∷ inv_x d ∷ []) equation (inv_x_mul_x d i)
      ∙ ap (add_x sum) (sym (scale_x_is row.lookup_multiplicity (inv_x d)))

  -- (flag − 1) (next − 0) + flag (next d − m) = 0
  abbrev Starts : ℕ → Type 0
  Starts flag =
      add_x (mul_x (sub_x (lift_x flag) (lift_x 1)) (sub_x next zero_x))
      (mul_x (lift_x flag) (sub_x (mul_x next (row_denominator c row)) (lift_x row.lookup_multiplicity))) ≡ zero_x

  starts : (flag : ℕ) → row.copy_flag ≡ flag → Poly.running_sum_log_derivative_starts_correctly c row next ≡ zero_x → Starts flag
  unfolding Poly.running_sum_log_derivative_starts_correctly
  starts flag f e =
      subst Starts f
      (sym
      (ap₂ add_x (less_one row.copy_flag (sub_x next zero_x))
      (times_difference row.copy_flag row.lookup_multiplicity (mul_x next (row_denominator c row)))) ∙ e)

  starts_zero : row.copy_flag ≡ 0 → Poly.running_sum_log_derivative_starts_correctly c row next ≡ zero_x → next ≡ zero_x
  starts_zero f e =
      sym (reduced_same next rn)
      ∙ combine 𝔼 neg_one_x
      (record { times = neg (con 1); left = (con 0 :- con 1) :* (var 0 :- con 0) :+ con 0 :* (var 0 :* var 1 :- var 2); right = con 0 } ∷ [])
      (var 0) (con 0) refl (next ∷ row_denominator c row ∷ lift_x row.lookup_multiplicity ∷ []) (starts 0 f e)

  starts_first : HasInverse (row_denominator c row) → row.copy_flag ≡ 1
      → Poly.running_sum_log_derivative_starts_correctly c row next ≡ zero_x → next ≡ add_x zero_x share
  starts_first i f e =
      let d = row_denominator c row in
      sym (reduced_same next rn)
      ∙ combine 𝔼 neg_one_x
      (record { times = var 3; left = (con 1 :- con 1) :* (var 0 :- con 0) :+ con 1 :* (var 0 :* var 1 :- var 2); right = con 0 }
      ∷ record { times = neg (var 0); left = var 3 :* var 1; right = con 1 } ∷ [])
      (var 0) (con 0 :+ var 2 :* var 3) refl (next ∷ d ∷ lift_x row.lookup_multiplicity ∷ inv_x d ∷ []) (starts 1 f e) (inv_x_mul_x d i)
      ∙ ap (add_x zero_x) (sym (scale_x_is row.lookup_multiplicity (inv_x d)))

-- ---- all rows
module _ (table aux challenges : List ℕ) (table_reduced : all_reduced table ≡ true) (aux_reduced : all_reduced aux ≡ true)
    (aux_length : length aux ≡ aux_width * row_count table) (holds : ConstraintsHold table aux challenges)
    (not_zero : DenominatorsNotZero table challenges) where
  -- "every extension element with words below p but (0, 0, 0) has an inverse"
  invertible : (i : ℕ) → i < row_count table → (row_at table i).copy_flag ≡ 1 → HasInverse (row_denominator (challenges_of challenges) (row_at table i))
  unfolding denominator
  invertible i h f = only_zero_has_none _ (sub_x_reduced _ _) (not_zero i h f)

  aux_element : (i : ℕ) → i < row_count table → Reduced (aux_at aux i)
  aux_element i h = element_reduced aux aux_reduced i (omega arith)

  flag_bit : (i : ℕ) → i < row_count table → ((row_at table i).copy_flag ≡ 0) ⊎ ((row_at table i).copy_flag ≡ 1)
  flag_bit i h = copy_flag_bit (row_ok table aux challenges table_reduced holds i h)

  -- the first row
  first_sum : 0 < row_count table → aux_at aux 0 ≡ add_summand zero_x (summand_at table challenges 0)
  unfolding summand_at
  first_sum h = go (flag_bit 0 h)
    where
      zero_sum : Poly.running_sum_log_derivative_starts_correctly (challenges_of challenges) (row_at table 0) (aux_at aux 0) ≡ zero_x
      zero_sum = initial_zero (challenges_of challenges) (row_at table 0) (aux_at aux 0) (holds.initial h)

      go : ((row_at table 0).copy_flag ≡ 0) ⊎ ((row_at table 0).copy_flag ≡ 1) → aux_at aux 0 ≡ add_summand zero_x (summand_at table challenges 0)
      go (inl f) =
          starts_zero (challenges_of challenges) (row_at table 0) zero_x (aux_at aux 0) (aux_element 0 h) f zero_sum
          ∙ sym (adds_nothing zero_x (summand_at table challenges 0) f)
      go (inr f) =
          starts_first (challenges_of challenges) (row_at table 0) zero_x (aux_at aux 0) (aux_element 0 h) (invertible 0 h f) f zero_sum
          ∙ sym (adds_share zero_x (summand_at table challenges 0) f)

  -- a row and the row below it
  next_sum : (i : ℕ) → i + 1 < row_count table → aux_at aux (i + 1) ≡ add_summand (aux_at aux i) (summand_at table challenges (i + 1))
  unfolding summand_at
  next_sum i h = go (flag_bit (i + 1) h)
    where
      zero_sums : SumZero (challenges_of challenges) (row_at table (i + 1)) (aux_at aux i) (aux_at aux (i + 1))
      zero_sums =
          sum_zero (challenges_of challenges) (row_at table i) (row_at table (i + 1)) (aux_at aux i) (aux_at aux (i + 1)) (holds.transition i h)

      go : ((row_at table (i + 1)).copy_flag ≡ 0) ⊎ ((row_at table (i + 1)).copy_flag ≡ 1)
          → aux_at aux (i + 1) ≡ add_summand (aux_at aux i) (summand_at table challenges (i + 1))
      go (inl f) =
          stays (challenges_of challenges) (row_at table (i + 1)) (aux_at aux i) (aux_at aux (i + 1)) (aux_element (i + 1) h)
          (aux_element i (omega arith)) f
          zero_sums.if_copy_flag_next_is_0_then_running_sum_log_derivative_stays
          ∙ sym (adds_nothing (aux_at aux i) (summand_at table challenges (i + 1)) f)
      go (inr f) =
          accumulates (challenges_of challenges) (row_at table (i + 1)) (aux_at aux i) (aux_at aux (i + 1)) (aux_element (i + 1) h)
          (invertible (i + 1) h f) f
          zero_sums.if_copy_flag_next_is_1_then_running_sum_log_derivative_accumulates_next_row
          ∙ sym (adds_share (aux_at aux i) (summand_at table challenges (i + 1)) f)

  -- each row's element is the sum so far
  pub sum_so_far : (i : ℕ) → i < row_count table → aux_at aux i ≡ running_sum (summand_at table challenges) (suc i)
  unfolding running_sum
  sum_so_far zero h = first_sum h
  sum_so_far (suc i) h =
      ap (λ (j : ℕ). aux_at aux j) (sym (add-one i)) ∙ next_sum i (omega arith)
      ∙ ap₂ (λ (sum : Ext) (j : ℕ). add_summand sum (summand_at table challenges j)) (sum_so_far i (omega arith)) (add-one i)

  pub last_is_lookup_sum : 0 < row_count table → last_sum table aux ≡ lookup_sum table challenges
  unfolding lookup_sum
  last_is_lookup_sum h =
      sum_so_far (row_count table - 1) (omega arith) ∙ ap (running_sum (summand_at table challenges)) (omega arith)

-- ---- where reason 9 is not met
-- nothing is against them exactly where the check's clause on the last sum speaks
pub denominators_not_zero : (table challenges : List ℕ)
    → (denominators_ok (summand_at table challenges) (row_count table) ≡ true) ↔ DenominatorsNotZero table challenges
unfolding summand_at
denominators_not_zero table challenges = (
  λ h i l f e. true≢false (sym h ∙ exactly.1 (i, l, f, e)),
  λ g. told g (denominators_ok (summand_at table challenges) (row_count table)) refl,
)
  where
    exactly : (denominators_ok (summand_at table challenges) (row_count table) ≡ false) ↔ ZeroDenominator (summand_at table challenges) (row_count table)
    exactly = flat_exactly (summand_at table challenges) (row_count table) (summand_reduced table challenges)

    told : DenominatorsNotZero table challenges → (t : Bool) → denominators_ok (summand_at table challenges) (row_count table) ≡ t → t ≡ true
    told g true e = refl
    told g false e = let z = exactly.0 e in absurd (g z.0 z.1 z.2 z.3)
