-- log_2_floor: where LHS is not 0, Result is Bits plus the floor of LHS's logarithm. By induction on the descent to the end row: in the row
-- whose LHS is the last that is not 0, and so is 1, Result is Bits; above it Result is carried, and each step up has one Bit less and
-- twice the LHS.
use Prim.Native.Nat.{ℕ, ◌+◌, ◌≤◌}
use mathlib.Core.Path.{◌≡◌, ap, ◌∙◌}
use mathlib.Core.Logic.{◌≢◌, ◌⊎◌, inl, inr}
use native.Mathlib.Omega.{arith}
use native.Mathlib.Decide.{ℕ_discrete}
use lib.Dec.{lit<}
use Rattle.field.proofs.Laws.{sub_f_lt, sub_f_zero_eq}
use Rattle.isa.specs.Opcodes.{op_log2_floor}
use Rattle.isa.specs.PlainFunctions.{floor_log2}
use Rattle.isa.proofs.Logarithm.{floor_log2_one}
use Rattle.isa.proofs.PlainLaws.{log_step}
use Rattle.table.specs.Columns.{Row}
use Rattle.air.specs.Constraints.{instruction_deselector, lhs_lsb}
use Rattle.air.specs.Constraints as Poly
use Rattle.air.proofs.Lists.{TransitionZero}
use Rattle.air.proofs.Factors.{Nonzero, word_one, zero_less_one, ◌⊠◌, last_zero, deselector_nonzero, zero_marked, unmarked, one_minus_product_lt}
use Rattle.air.proofs.Descent.{RowOk, Descent, end, step, Halved, bits_increases, halves}

on : {ci : ℕ} → ci ≡ op_log2_floor → Nonzero (instruction_deselector op_log2_floor ci)
on c = deselector_nonzero c (lit< tt)

-- a row with CopyFlag 1 has LHS not 0
pub log2floor_lhs : {row : Row} → RowOk row → row.copy_flag ≡ 1 → row.ci ≡ op_log2_floor → row.lhs ≢ 0
unfolding Poly.if_log_2_floor_on_0_then_vm_crashes
log2floor_lhs {row} o f c =
    unmarked row.lhs row.lhs_inv
    (last_zero (on c ⊠ word_one f) (one_minus_product_lt row.lhs row.lhs_inv) o.zero.if_log_2_floor_on_0_then_vm_crashes)

log_one : {x y lsb : ℕ} → Halved x y lsb → x ≢ 0 → y ≡ 0 → floor_log2 x ≡ 0
log_one {x} {lsb = lsb} h n z = let one : x ≡ 1 = not_zero h.bit in ap floor_log2 one ∙ floor_log2_one
  where
    not_zero : (lsb ≡ 0) ⊎ (lsb ≡ 1) → x ≡ 1
    not_zero (inl b) = absurd (n (omega arith))
    not_zero (inr b) = omega arith

log_double : {x y lsb : ℕ} → Halved x y lsb → y ≢ 0 → floor_log2 x ≡ 1 + floor_log2 y
log_double {x} {y} {lsb} h n = ap floor_log2 h.whole ∙ log_step y lsb (omega arith) n

up : {upper lower : Row} → RowOk upper → RowOk lower → TransitionZero upper lower → lower.copy_flag ≡ 0 → lower.ci ≡ op_log2_floor
    → upper.lhs ≢ 0 → lower.bits ≡ upper.bits + 1 → Halved upper.lhs lower.lhs (lhs_lsb upper lower)
    → (lower.lhs ≢ 0 → lower.result ≡ lower.bits + floor_log2 lower.lhs) → Dec (lower.lhs ≡ 0)
    → upper.result ≡ upper.bits + floor_log2 upper.lhs
unfolding
    Poly.if_copy_flag_next_is_0_and_ci_is_log_2_floor_lhs_next_0_for_first_time_then_set_result
    Poly.if_copy_flag_next_is_0_and_ci_is_log_2_floor_and_lhs_next_not_0_then_copy_result
up {upper} {lower} o o' t z c n b halved below (yes l) =
    let set : upper.result ≡ upper.bits =
    sub_f_zero_eq upper.result upper.bits o.reduced.result_below o.reduced.bits_below
    (last_zero (zero_less_one z ⊠ on c ⊠ zero_marked _ l ⊠ record { below = o.reduced.lhs_below; not_zero = n }) (sub_f_lt _ _)
    t.if_copy_flag_next_is_0_and_ci_is_log_2_floor_lhs_next_0_for_first_time_then_set_result)
    in
    omega (arith, log_one halved n l)
up {upper} {lower} o o' t z c n b halved below (no l) =
    let copied : lower.result ≡ upper.result =
    sub_f_zero_eq lower.result upper.result o'.reduced.result_below o.reduced.result_below
    (last_zero (zero_less_one z ⊠ on c ⊠ record { below = o'.reduced.lhs_below; not_zero = l }) (sub_f_lt _ _)
    t.if_copy_flag_next_is_0_and_ci_is_log_2_floor_and_lhs_next_not_0_then_copy_result)
    in
    omega (arith, below l, log_double halved l)

pub log2floor_row : {row : Row} {k : ℕ} → Descent row k → row.bits + k ≤ 32 → row.ci ≡ op_log2_floor → row.lhs ≢ 0
    → row.result ≡ row.bits + floor_log2 row.lhs
log2floor_row (end o e) h c n = absurd (n (e.lhs_zero (omega arith)))
log2floor_row (step {upper} {lower} o o' t q z s) h c n =
    let w = halves o o' t z s (omega arith) (omega arith) in
    let c' = w.ci_same ∙ c in
    let b : lower.bits ≡ upper.bits + 1 = bits_increases o o' t z q (omega arith) in
    up o o' t z c' n b w.lhs (λ l. log2floor_row s (omega arith) c' l) (ℕ_discrete lower.lhs 0)
