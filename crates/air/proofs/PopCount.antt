-- pop_count: Result is the number of LHS's one-bits. By induction on the descent to the end row: each step up adds LHS's bit.
use Prim.Native.Nat.{ℕ, ◌+◌, ◌^◌, ◌≤◌, ◌<◌}
use mathlib.Core.Path.{◌≡◌, sym, ap, ◌∙◌}
use native.Mathlib.Omega.{arith}
use lib.Dec.{lit<}
use Rattle.field.specs.Elements.{p, sub_f}
use Rattle.field.proofs.Laws.{sub_f_lt, sub_f_zero_eq, sub_f_plain}
use Rattle.isa.specs.Opcodes.{op_pop_count}
use Rattle.isa.specs.PlainFunctions.{one_bits}
use Rattle.isa.proofs.PlainLaws.{one_bits_zero, one_bits_step, one_bits_le}
use Rattle.table.specs.Columns.{Row}
use Rattle.air.specs.Constraints.{instruction_deselector, lhs_lsb}
use Rattle.air.specs.Constraints as Poly
use Rattle.air.proofs.Lists.{TransitionZero}
use Rattle.air.proofs.Factors.{Nonzero, zero_less_one, ◌⊠◌, last_zero, deselector_nonzero, zero_marked}
use Rattle.air.proofs.Descent.{RowOk, Descent, end, step, Halved, halves}

on : {ci : ℕ} → ci ≡ op_pop_count → Nonzero (instruction_deselector op_pop_count ci)
on c = deselector_nonzero c (lit< tt)

-- x − y − i = 0 for a bit i, as an equation of numbers
carried : {x y i : ℕ} → x < p → y ≤ 32 → i ≤ 1 → sub_f (sub_f x y) i ≡ 0 → x ≡ y + i
carried {x} {y} {i} lx ly b e = sub_f_plain x y i lx (omega arith) (sub_f_zero_eq (sub_f x y) i (sub_f_lt _ _) (omega arith) e)

up : {upper lower : Row} → RowOk upper → TransitionZero upper lower → lower.copy_flag ≡ 0 → lower.ci ≡ op_pop_count
    → Halved upper.lhs lower.lhs (lhs_lsb upper lower) → lower.lhs < 2 ^ 32
    → lower.result ≡ one_bits lower.lhs → upper.result ≡ one_bits upper.lhs
unfolding Poly.if_copy_flag_next_is_0_and_ci_is_pop_count_then_result_increases_by_lhs_lsb
up {upper} {lower} o t z c w small below =
    let carry : upper.result ≡ lower.result + lhs_lsb upper lower =
    carried o.reduced.result_below (omega (arith, one_bits_le 32 lower.lhs small)) w.small
    (last_zero (zero_less_one z ⊠ on c) (sub_f_lt _ _) t.if_copy_flag_next_is_0_and_ci_is_pop_count_then_result_increases_by_lhs_lsb)
    in
    omega (arith, one_bits_step lower.lhs (lhs_lsb upper lower) (omega arith), ap one_bits w.whole)

at_end : {row : Row} → RowOk row → row.ci ≡ op_pop_count → row.lhs ≡ 0 → row.result ≡ one_bits row.lhs
unfolding Poly.result_is_initialized_correctly_for_pop_count
at_end {row} o c l =
    last_zero (on c ⊠ zero_marked _ l) o.reduced.result_below o.zero.result_is_initialized_correctly_for_pop_count
    ∙ sym (ap one_bits l ∙ one_bits_zero)

pub popcount_row : {row : Row} {k : ℕ} → Descent row k → k ≤ 32 → row.ci ≡ op_pop_count → row.result ≡ one_bits row.lhs
popcount_row (end o e) h c = at_end o c (e.lhs_zero (omega arith))
popcount_row (step o o' t q z s) h c =
    let w = halves o o' t z s (omega arith) (omega arith) in
    let c' = w.ci_same ∙ c in
    up o t z c' w.lhs w.lower_lhs (popcount_row s (omega arith) c')
