-- lt: Result is 1 where LHS < RHS and 0 where LHS > RHS. Where they are equal it is 2 in a row with CopyFlag 0, and 0 in one with
-- CopyFlag 1. By induction on the descent to the end row: a Result of 0 or 1 is carried up, and the bits decide where it is 2.
use Prim.Native.Nat.{ℕ, ◌<◌, ◌≤◌}
use mathlib.Core.Path.{◌≡◌, sym, ◌∙◌}
use mathlib.Core.Logic.{◌⊎◌, inl, inr}
use native.Mathlib.Omega.{arith}
use lib.Dec.{lit<}
use Rattle.field.specs.Elements.{p, sub_f, mul_f}
use Rattle.field.proofs.Laws.{sub_f_lt, sub_f_zero_eq}
use Rattle.isa.specs.Opcodes.{op_lt}
use Rattle.isa.specs.PlainFunctions.{plain_lt}
use Rattle.isa.proofs.PlainLaws.{lt_one, lt_zero}
use Rattle.table.specs.Columns.{Row}
use Rattle.air.specs.Constraints.{instruction_deselector, lhs_lsb, rhs_lsb, equal_bits}
use Rattle.air.specs.Constraints as Poly
use Rattle.air.proofs.Lists.{TransitionZero}
use Rattle.air.proofs.Factors.{Nonzero, nonzero_is, word_one, difference, zero_less_one, ◌⊠◌, last_zero, deselector_nonzero, zero_marked, equal_zeros, equal_ones}
use Rattle.air.proofs.Descent.{RowOk, Descent, end, step, Halved, copy_flag_bit, halves}

pub data LtRow (row : Row) : Type 0 where
  less : row.lhs < row.rhs → row.result ≡ 1 → LtRow row
  more : row.rhs < row.lhs → row.result ≡ 0 → LtRow row
  equal_below : row.lhs ≡ row.rhs → row.copy_flag ≡ 0 → row.result ≡ 2 → LtRow row
  equal_first : row.lhs ≡ row.rhs → row.copy_flag ≡ 1 → row.result ≡ 0 → LtRow row

on : {ci : ℕ} → ci ≡ op_lt → Nonzero (instruction_deselector op_lt ci)
on c = deselector_nonzero c (lit< tt)

-- Result is the literal that is subtracted from it
is_literal : {row : Row} {n : ℕ} → RowOk row → n < p → sub_f row.result n ≡ 0 → row.result ≡ n
is_literal {row} {n} o l e = sub_f_zero_eq row.result n o.reduced.result_below l e

-- ---- one step up
module _ {upper lower : Row} (o : RowOk upper) (t : TransitionZero upper lower) (z : lower.copy_flag ≡ 0) (c : lower.ci ≡ op_lt) where
  head : Nonzero (mul_f (sub_f lower.copy_flag 1) (instruction_deselector op_lt lower.ci))
  head = zero_less_one z ⊠ on c

  carry_1 : lower.result ≡ 1 → upper.result ≡ 1
  unfolding Poly.if_copy_flag_next_is_0_and_ci_is_lt_and_result_next_is_1_then_result_is_1
  carry_1 e =
      is_literal o (lit< tt)
      (last_zero (head ⊠ word_one e ⊠ difference (omega arith) (lit< tt) (omega arith)) (sub_f_lt _ _)
      t.if_copy_flag_next_is_0_and_ci_is_lt_and_result_next_is_1_then_result_is_1)

  carry_0 : lower.result ≡ 0 → upper.result ≡ 0
  unfolding Poly.if_copy_flag_next_is_0_and_ci_is_lt_and_result_next_is_0_then_result_is_0
  carry_0 e =
      last_zero (head ⊠ zero_less_one e ⊠ difference (omega arith) (lit< tt) (omega arith)) o.reduced.result_below
      t.if_copy_flag_next_is_0_and_ci_is_lt_and_result_next_is_0_then_result_is_0

  -- what the four constraints for a Result of 2 below begin with
  undecided : lower.result ≡ 2
      → Nonzero (mul_f (mul_f (mul_f (sub_f lower.copy_flag 1) (instruction_deselector op_lt lower.ci)) lower.result) (sub_f lower.result 1))
  undecided e =
      head ⊠ nonzero_is e (record { below = lit< tt; not_zero = omega arith }) ⊠ difference (omega arith) (lit< tt) (omega arith)

  decide_1 : lower.result ≡ 2 → lhs_lsb upper lower ≡ 0 → rhs_lsb upper lower ≡ 1 → upper.result ≡ 1
  unfolding Poly.if_copy_flag_next_is_0_and_ci_is_lt_and_result_next_is_2_and_lt_is_0_then_result_is_0
  decide_1 e l r =
      is_literal o (lit< tt)
      (last_zero (undecided e ⊠ zero_less_one l ⊠ word_one r) (sub_f_lt _ _)
      t.if_copy_flag_next_is_0_and_ci_is_lt_and_result_next_is_2_and_lt_is_0_then_result_is_0)

  decide_0 : lower.result ≡ 2 → lhs_lsb upper lower ≡ 1 → rhs_lsb upper lower ≡ 0 → upper.result ≡ 0
  unfolding Poly.if_copy_flag_next_is_0_and_ci_is_lt_and_result_next_is_2_and_lt_is_1_then_result_is_1
  decide_0 e l r =
      last_zero (undecided e ⊠ word_one l ⊠ zero_less_one r) o.reduced.result_below
      t.if_copy_flag_next_is_0_and_ci_is_lt_and_result_next_is_2_and_lt_is_1_then_result_is_1

  still_equal : lower.result ≡ 2 → Nonzero (equal_bits (lhs_lsb upper lower) (rhs_lsb upper lower)) → upper.lhs ≡ upper.rhs
      → (upper.copy_flag ≡ 0) ⊎ (upper.copy_flag ≡ 1) → LtRow upper
  unfolding
      Poly.if_copy_flag_next_is_0_and_ci_is_lt_and_result_still_not_known_then_result_is_2
      Poly.if_copy_flag_next_is_0_and_ci_is_lt_and_copy_flag_dictates_result_then_result_is_0
  still_equal e u q (inl f) =
      equal_below q f
      (is_literal o (lit< tt)
      (last_zero (undecided e ⊠ u ⊠ zero_less_one f) (sub_f_lt _ _)
      t.if_copy_flag_next_is_0_and_ci_is_lt_and_result_still_not_known_then_result_is_2))
  still_equal e u q (inr f) =
      equal_first q f
      (last_zero (undecided e ⊠ u ⊠ word_one f) o.reduced.result_below
      t.if_copy_flag_next_is_0_and_ci_is_lt_and_copy_flag_dictates_result_then_result_is_0)

  -- equal below: the bits decide
  decided : lower.lhs ≡ lower.rhs → lower.result ≡ 2
      → Halved upper.lhs lower.lhs (lhs_lsb upper lower) → Halved upper.rhs lower.rhs (rhs_lsb upper lower)
      → (lhs_lsb upper lower ≡ 0) ⊎ (lhs_lsb upper lower ≡ 1) → (rhs_lsb upper lower ≡ 0) ⊎ (rhs_lsb upper lower ≡ 1) → LtRow upper
  decided q e l r (inl i) (inl j) = still_equal e (equal_zeros i j) (omega arith) (copy_flag_bit o)
  decided q e l r (inl i) (inr j) = less (omega arith) (decide_1 e i j)
  decided q e l r (inr i) (inl j) = more (omega arith) (decide_0 e i j)
  decided q e l r (inr i) (inr j) = still_equal e (equal_ones i j) (omega arith) (copy_flag_bit o)

  up : LtRow lower → Halved upper.lhs lower.lhs (lhs_lsb upper lower) → Halved upper.rhs lower.rhs (rhs_lsb upper lower)
      → LtRow upper
  up (less h e) l r = less (omega arith) (carry_1 e)
  up (more h e) l r = more (omega arith) (carry_0 e)
  up (equal_below q f e) l r = decided q e l r l.bit r.bit
  up (equal_first q f e) l r = absurd (omega arith)

-- ---- the end row
at_end : {row : Row} → RowOk row → row.ci ≡ op_lt → row.lhs ≡ 0 → row.rhs ≡ 0 → (row.copy_flag ≡ 0) ⊎ (row.copy_flag ≡ 1) → LtRow row
unfolding
    Poly.result_is_initialized_correctly_for_lt_with_copy_flag_0
    Poly.result_is_initialized_correctly_for_lt_with_copy_flag_1
at_end o c l r (inl f) =
    equal_below (l ∙ sym r) f
    (is_literal o (lit< tt)
    (last_zero (on c ⊠ zero_less_one f ⊠ zero_marked _ l ⊠ zero_marked _ r) (sub_f_lt _ _)
    o.zero.result_is_initialized_correctly_for_lt_with_copy_flag_0))
at_end o c l r (inr f) =
    equal_first (l ∙ sym r) f
    (last_zero (on c ⊠ word_one f ⊠ zero_marked _ l ⊠ zero_marked _ r) o.reduced.result_below
    o.zero.result_is_initialized_correctly_for_lt_with_copy_flag_1)

-- ---- the whole descent
pub lt_row : {row : Row} {k : ℕ} → Descent row k → k ≤ 32 → row.ci ≡ op_lt → LtRow row
lt_row (end o e) h c = at_end o c (e.lhs_zero (omega arith)) e.rhs_zero (copy_flag_bit o)
lt_row (step o o' t q z s) h c =
    let w = halves o o' t z s (omega arith) (omega arith) in
    let c' = w.ci_same ∙ c in
    up o t z c' (lt_row s (omega arith) c') w.lhs w.rhs

-- in a row with CopyFlag 1
pub lt_plain : {row : Row} → LtRow row → row.copy_flag ≡ 1 → row.result ≡ plain_lt row.lhs row.rhs
lt_plain (less h e) f = e ∙ sym (lt_one h)
lt_plain (more h e) f = e ∙ sym (lt_zero (omega arith))
lt_plain (equal_below q g e) f = absurd (omega arith)
lt_plain (equal_first q g e) f = e ∙ sym (lt_zero (omega arith))
