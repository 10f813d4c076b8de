-- and: Result is the bitwise and. By induction on the descent to the end row: each step up doubles Result and adds the product of the two bits.
use Prim.Native.Nat.{ℕ, ◌+◌, ◌*◌, ◌^◌, ◌≤◌, ◌<◌}
use mathlib.Core.Path.{◌≡◌, sym, ap, ap₂, ◌∙◌}
use mathlib.Core.Logic.{◌⊎◌, inl, inr}
use native.Mathlib.Omega.{arith}
use lib.Dec.{lit<}
use Rattle.field.specs.Elements.{p, sub_f, mul_f}
use Rattle.field.proofs.Laws.{sub_f_lt, mul_f_lt, sub_f_zero_eq, mul_f_small, bit_law}
use Rattle.isa.specs.Opcodes.{op_and}
use Rattle.isa.specs.PlainFunctions.{plain_and}
use Rattle.isa.proofs.PlainLaws.{and_zero_left, and_left, and_step_bits}
use Rattle.table.specs.Columns.{Row}
use Rattle.air.specs.Constraints.{instruction_deselector, lhs_lsb, rhs_lsb}
use Rattle.air.specs.Constraints as Poly
use Rattle.air.proofs.Lists.{TransitionZero}
use Rattle.air.proofs.Factors.{Nonzero, zero_less_one, ◌⊠◌, last_zero, deselector_nonzero, zero_marked}
use Rattle.air.proofs.Descent.{RowOk, Descent, end, step, Halves, halves}

on : {ci : ℕ} → ci ≡ op_and → Nonzero (instruction_deselector op_and ci)
on c = deselector_nonzero c (lit< tt)

bit_product : {i j : ℕ} → (i ≡ 0) ⊎ (i ≡ 1) → j ≤ 1 → i * j ≤ 1
bit_product {i} {j} (inl b) h = rw b (omega arith)
bit_product {i} {j} (inr b) h = rw b (omega arith)

-- x − 2 y − i j = 0 for bits i and j, as an equation of numbers
carried : {x y i j : ℕ} → x < p → y < 2 ^ 32 → (i ≡ 0) ⊎ (i ≡ 1) → j ≤ 1 → sub_f (sub_f x (mul_f 2 y)) (mul_f i j) ≡ 0 → x ≡ 2 * y + i * j
carried {x} {y} {i} {j} lx ly b h e =
    let bit : i * j ≤ 1 = bit_product b h in
    let product : mul_f i j ≡ i * j = mul_f_small i j (omega arith) in
    bit_law x y (i * j) lx ly bit (sub_f_zero_eq (sub_f x (mul_f 2 y)) (mul_f i j) (sub_f_lt _ _) (mul_f_lt i j) e ∙ product)

up : {upper lower : Row} → RowOk upper → TransitionZero upper lower → lower.copy_flag ≡ 0 → lower.ci ≡ op_and → Halves upper lower
    → lower.result ≡ plain_and lower.lhs lower.rhs → upper.result ≡ plain_and upper.lhs upper.rhs
unfolding Poly.if_copy_flag_next_is_0_and_ci_is_and_then_results_updates_correctly
up {upper} {lower} o t z c w below =
    let small : lower.result < 2 ^ 32 = omega (arith, and_left lower.lhs lower.rhs) in
    let carry : upper.result ≡ 2 * lower.result + lhs_lsb upper lower * rhs_lsb upper lower =
    carried o.reduced.result_below small w.lhs.bit w.rhs.small
    (last_zero (zero_less_one z ⊠ on c) (sub_f_lt _ _) t.if_copy_flag_next_is_0_and_ci_is_and_then_results_updates_correctly)
    in
    carry ∙ ap (λ (x : ℕ). 2 * x + lhs_lsb upper lower * rhs_lsb upper lower) below
    ∙ sym (and_step_bits lower.lhs lower.rhs (lhs_lsb upper lower) (rhs_lsb upper lower) (omega arith) (omega arith))
    ∙ sym (ap₂ plain_and w.lhs.whole w.rhs.whole)

at_end : {row : Row} → RowOk row → row.ci ≡ op_and → row.lhs ≡ 0 → row.rhs ≡ 0 → row.result ≡ plain_and row.lhs row.rhs
unfolding Poly.result_is_initialized_correctly_for_and
at_end {row} o c l r =
    last_zero (on c ⊠ zero_marked _ l ⊠ zero_marked _ r) o.reduced.result_below o.zero.result_is_initialized_correctly_for_and
    ∙ sym (ap (λ (x : ℕ). plain_and x row.rhs) l ∙ and_zero_left row.rhs)

pub and_row : {row : Row} {k : ℕ} → Descent row k → k ≤ 32 → row.ci ≡ op_and → row.result ≡ plain_and row.lhs row.rhs
and_row (end o e) h c = at_end o c (e.lhs_zero (omega arith)) e.rhs_zero
and_row (step o o' t q z s) h c =
    let w = halves o o' t z s (omega arith) (omega arith) in
    let c' = w.ci_same ∙ c in
    up o t z c' w (and_row s (omega arith) c')
