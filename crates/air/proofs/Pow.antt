-- pow: Result is LHS to the power RHS. By induction on the descent to the end row, where RHS is 0 and Result is 1: each step up squares, and
-- multiplies by LHS where RHS's bit is 1; LHS stays.
use Prim.Native.Nat.{ℕ, ◌+◌, ◌*◌, ◌≤◌}
use mathlib.Core.Path.{◌≡◌, sym, ap, ap₂, ◌∙◌}
use mathlib.Core.Logic.{◌⊎◌, inl, inr}
use native.Mathlib.Omega.{arith}
use lib.Dec.{lit<}
use Rattle.field.specs.Elements.{mul_f}
use Rattle.field.proofs.Laws.{sub_f_lt, mul_f_lt, sub_f_zero_eq}
use Rattle.isa.specs.Opcodes.{op_pow}
use Rattle.isa.specs.PlainFunctions.{plain_pow}
use Rattle.isa.proofs.PlainLaws.{pow-zero, pow_step_zero, pow_step_one}
use Rattle.table.specs.Columns.{Row}
use Rattle.air.specs.Constraints.{instruction_deselector, rhs_lsb}
use Rattle.air.specs.Constraints as Poly
use Rattle.air.proofs.Lists.{TransitionZero}
use Rattle.air.proofs.Factors.{Nonzero, word_one, zero_less_one, ◌⊠◌, last_zero, deselector_nonzero, zero_marked}
use Rattle.air.proofs.Descent.{RowOk, Descent, end, step, Halved, ci_stays_lem, rhs_halved, rhs_bound, below_32_bits}

on : {ci : ℕ} → ci ≡ op_pow → Nonzero (instruction_deselector op_pow ci)
on c = deselector_nonzero c (lit< tt)

module _ {upper lower : Row} (o : RowOk upper) (o' : RowOk lower) (t : TransitionZero upper lower) (z : lower.copy_flag ≡ 0)
    (c : lower.ci ≡ op_pow) (below : lower.result ≡ plain_pow lower.lhs lower.rhs) where
  lhs_stays : lower.lhs ≡ upper.lhs
  unfolding Poly.if_copy_flag_next_is_0_and_ci_is_pow_then_lhs_remains_unchanged
  lhs_stays =
      sub_f_zero_eq lower.lhs upper.lhs o'.reduced.lhs_below o.reduced.lhs_below
      (last_zero (zero_less_one z ⊠ on c) (sub_f_lt _ _) t.if_copy_flag_next_is_0_and_ci_is_pow_then_lhs_remains_unchanged)

  below_power : lower.result ≡ plain_pow upper.lhs lower.rhs
  below_power = below ∙ ap (λ (l : ℕ). plain_pow l lower.rhs) lhs_stays

  up : Halved upper.rhs lower.rhs (rhs_lsb upper lower) → (rhs_lsb upper lower ≡ 0) ⊎ (rhs_lsb upper lower ≡ 1)
      → upper.result ≡ plain_pow upper.lhs upper.rhs
  unfolding
      Poly.if_copy_flag_next_is_0_and_ci_is_pow_and_rhs_lsb_is_0_then_result_squares
      Poly.if_copy_flag_next_is_0_and_ci_is_pow_and_rhs_lsb_is_1_then_result_squares_and_mults
  up w (inl b) =
      let double : 2 * lower.rhs ≡ upper.rhs = omega arith in
      sub_f_zero_eq upper.result (mul_f lower.result lower.result) o.reduced.result_below (mul_f_lt _ _)
      (last_zero (zero_less_one z ⊠ on c ⊠ zero_less_one b) (sub_f_lt _ _)
      t.if_copy_flag_next_is_0_and_ci_is_pow_and_rhs_lsb_is_0_then_result_squares)
      ∙ ap₂ mul_f below_power below_power ∙ sym (pow_step_zero upper.lhs lower.rhs) ∙ ap (plain_pow upper.lhs) double
  up w (inr b) =
      let double : 2 * lower.rhs + 1 ≡ upper.rhs = omega arith in
      sub_f_zero_eq upper.result (mul_f (mul_f lower.result lower.result) upper.lhs) o.reduced.result_below (mul_f_lt _ _)
      (last_zero (zero_less_one z ⊠ on c ⊠ word_one b) (sub_f_lt _ _)
      t.if_copy_flag_next_is_0_and_ci_is_pow_and_rhs_lsb_is_1_then_result_squares_and_mults)
      ∙ ap (λ (x : ℕ). mul_f x upper.lhs) (ap₂ mul_f below_power below_power)
      ∙ sym (pow_step_one upper.lhs lower.rhs) ∙ ap (plain_pow upper.lhs) double

at_end : {row : Row} → RowOk row → row.ci ≡ op_pow → row.rhs ≡ 0 → row.result ≡ plain_pow row.lhs row.rhs
unfolding Poly.result_is_initialized_correctly_for_pow
at_end {row} o c r =
    sub_f_zero_eq row.result 1 o.reduced.result_below (lit< tt)
    (last_zero (on c ⊠ zero_marked _ r) (sub_f_lt _ _) o.zero.result_is_initialized_correctly_for_pow)
    ∙ sym (ap (plain_pow row.lhs) r ∙ pow-zero row.lhs)

pub pow_row : {row : Row} {k : ℕ} → Descent row k → k ≤ 32 → row.ci ≡ op_pow → row.result ≡ plain_pow row.lhs row.rhs
pow_row (end o e) h c = at_end o c e.rhs_zero
pow_row (step {k = k} o o' t q z s) h c =
    let c' = ci_stays_lem o o' t z ∙ c in
    let w = rhs_halved o o' t z (below_32_bits k (omega arith) (rhs_bound s (omega arith))) in
    up o o' t z c' (pow_row s (omega arith) c') w w.bit
