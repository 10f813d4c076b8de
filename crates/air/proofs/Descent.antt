-- A row and the rows below it down to the first end row (RHS is 0, and LHS is 0 or CI is pow), and what the constraints say on that descent:
-- CI stays, Bits counts up and so stops before 33, and each operand is twice the one below and a bit. So it has at most 32 steps and
-- the operands of a row k steps above the end are below 2^k. What stands below the first end row does not matter.
use Prim.Native.Nat.{ℕ, suc, ◌+◌, ◌*◌, ◌^◌, ◌≤◌, ◌<◌}
use mathlib.Core.Path.{◌≡◌, refl, sym, ap, ◌∙◌}
use mathlib.Core.Logic.{◌≢◌, ◌⊎◌, inl, inr, ⊎_elim}
use native.Mathlib.Omega.{arith}
use native.Mathlib.Decide.{ℕ_discrete}
use lib.Dec.{lit<}
use lib.Pow.{pow_mono}
use Rattle.field.specs.Elements.{p, sub_f, mul_f}
use Rattle.field.proofs.Laws.{mul_f_lt, sub_f_lt, mul_f_zero_right, sub_f_self, sub_f_zero_right, sub_f_zero_eq, sub_f_plain, bit_law, flag_one_minus, flag_le, no_zero_divisors_word}
use Rattle.isa.specs.Opcodes.{op_pow}
use Rattle.table.specs.Columns.{Row}
use Rattle.air.specs.Constraints.{ci_is_pow_of, lhs_lsb, rhs_lsb}
use Rattle.air.specs.Constraints as Poly
use Rattle.table.proofs.Rows.{RowReduced}
use Rattle.air.proofs.Lists.{ConsistencyZero, TransitionZero}
use Rattle.air.proofs.Factors.{Nonzero, word_one, difference, zero_less_one, ◌⊠◌, last_zero}

-- ---- rows
-- words below p, and the consistency constraints are zero
pub record RowOk (row : Row) : Type 0 where
  pub reduced : RowReduced row
  pub zero : ConsistencyZero row

-- "A section ends when RHS is 0 and LHS is 0 or CI is pow."
pub record EndRow (row : Row) : Type 0 where
  pub rhs_zero : row.rhs ≡ 0
  pub lhs_zero : row.ci ≢ op_pow → row.lhs ≡ 0

abbrev pub Continues : Row → Type 0
Continues row = (row.rhs ≢ 0) ⊎ ((row.lhs ≢ 0) × (row.ci ≢ op_pow))

pub end_or_continues : (row : Row) → EndRow row ⊎ Continues row
end_or_continues row = go (ℕ_discrete row.rhs 0) (ℕ_discrete row.lhs 0) (ℕ_discrete row.ci op_pow)
  where
    go : Dec (row.rhs ≡ 0) → Dec (row.lhs ≡ 0) → Dec (row.ci ≡ op_pow) → EndRow row ⊎ Continues row
    go (no r) l c = inr (inl r)
    go (yes r) (yes l) c = inl (record { rhs_zero = r; lhs_zero = λ n. l })
    go (yes r) (no l) (yes c) = inl (record { rhs_zero = r; lhs_zero = λ n. absurd (n c) })
    go (yes r) (no l) (no c) = inr (inr (l, c))

-- the descent from a row to the first end row, with the number of its steps
pub data Descent : Row → ℕ → Type 0 where
  end : {row : Row} → RowOk row → EndRow row → Descent row 0
  step : {upper lower : Row} {k : ℕ} → RowOk upper → RowOk lower → TransitionZero upper lower → Continues upper
      → lower.copy_flag ≡ 0 → Descent lower k → Descent upper (suc k)

pub first_ok : {row : Row} {k : ℕ} → Descent row k → RowOk row
first_ok (end o e) = o
first_ok (step o o' t c z s) = o

-- ---- one row
pub copy_flag_bit : {row : Row} → RowOk row → (row.copy_flag ≡ 0) ⊎ (row.copy_flag ≡ 1)
unfolding Poly.copy_flag_is_bit
copy_flag_bit {row} o = flag_one_minus row.copy_flag o.reduced.copy_flag_below o.zero.copy_flag_is_bit

pub bits_zero : {row : Row} → RowOk row → row.copy_flag ≡ 1 → row.bits ≡ 0
unfolding Poly.copy_flag_is_0_or_bits_is_0
bits_zero {row} o f = last_zero (word_one f) o.reduced.bits_below o.zero.copy_flag_is_0_or_bits_is_0

-- Bits − 33 has an inverse
pub bits_not_33 : {row : Row} → RowOk row → row.bits ≢ 33
unfolding Poly.bits_minus_33_inv_is_inverse_of_bits_minus_33
bits_not_33 {row} o e =
    let i = row.bits_minus33_inv in
    let product : mul_f i (sub_f row.bits 33) ≡ 0 =
    ap (λ (b : ℕ). mul_f i (sub_f b 33)) e ∙ ap (mul_f i) (sub_f_self 33) ∙ mul_f_zero_right i
    in
    let contradiction : ◌≡◌ {A = ℕ} 1 0 =
    sym (sub_f_zero_right 1 (lit< tt)) ∙ ap (sub_f 1) (sym product) ∙ o.zero.bits_minus_33_inv_is_inverse_of_bits_minus_33
    in
    omega arith

-- ---- one operand of a row and of the row below: twice the one below and a bit, which is their difference in the field
pub record Halved (upper lower lsb : ℕ) : Type 0 where
  pub bit : (lsb ≡ 0) ⊎ (lsb ≡ 1)
  pub small : lsb ≤ 1
  pub whole : upper ≡ 2 * lower + lsb

halved : {upper lower : ℕ} → upper < p → lower < 2 ^ 32 → (sub_f upper (mul_f 2 lower) ≡ 0) ⊎ (sub_f upper (mul_f 2 lower) ≡ 1)
    → Halved upper lower (sub_f upper (mul_f 2 lower))
halved {upper} {lower} u l b =
    let small = flag_le b in
    record { bit = b; small = small; whole = bit_law upper lower (sub_f upper (mul_f 2 lower)) u l small refl }

-- u · x · (x − 1) = 0 where u is not 0
bit_of : {u x : ℕ} → Nonzero u → x < p → mul_f (mul_f u x) (sub_f x 1) ≡ 0 → (x ≡ 0) ⊎ (x ≡ 1)
bit_of {u} {x} n l e =
    ⊎_elim (λ z. inl (last_zero n l z)) (λ z. inr (sub_f_zero_eq x 1 l (lit< tt) z))
    (no_zero_divisors_word (mul_f u x) (sub_f x 1) (mul_f_lt u x) (sub_f_lt x 1) e)

-- ---- a row and the row below it in one section
module _ {upper lower : Row} (o : RowOk upper) (o' : RowOk lower) (t : TransitionZero upper lower) (z : lower.copy_flag ≡ 0) where
  pub ci_stays_lem : lower.ci ≡ upper.ci
  unfolding Poly.if_copy_flag_next_is_0_then_ci_stays
  ci_stays_lem =
      sub_f_zero_eq lower.ci upper.ci o'.reduced.ci_below o.reduced.ci_below
      (last_zero (zero_less_one z) (sub_f_lt _ _) t.if_copy_flag_next_is_0_then_ci_stays)

  not_pow : upper.ci ≢ op_pow → Nonzero (ci_is_pow_of upper)
  unfolding ci_is_pow_of
  not_pow n = difference o.reduced.ci_below (lit< tt) n

  pub bits_increases : Continues upper → upper.bits ≤ 32 → lower.bits ≡ upper.bits + 1
  unfolding
      Poly.if_copy_flag_next_is_0_and_rhs_next_is_nonzero_then_bits_increases_by_1
      Poly.if_copy_flag_next_is_0_and_lhs_next_is_nonzero_and_ci_not_pow_then_bits_increases_by_1
  bits_increases c h =
      sub_f_plain lower.bits upper.bits 1 o'.reduced.bits_below (omega arith)
      (sub_f_zero_eq (sub_f lower.bits upper.bits) 1 (sub_f_lt _ _) (lit< tt) (difference_zero c))
    where
      difference_zero : Continues upper → sub_f (sub_f lower.bits upper.bits) 1 ≡ 0
      difference_zero (inl r) =
          last_zero (zero_less_one z ⊠ record { below = o.reduced.rhs_below; not_zero = r }) (sub_f_lt _ _)
          t.if_copy_flag_next_is_0_and_rhs_next_is_nonzero_then_bits_increases_by_1
      difference_zero (inr l) =
          last_zero (zero_less_one z ⊠ record { below = o.reduced.lhs_below; not_zero = l.0 } ⊠ not_pow l.1) (sub_f_lt _ _)
          t.if_copy_flag_next_is_0_and_lhs_next_is_nonzero_and_ci_not_pow_then_bits_increases_by_1

  pub rhs_halved : lower.rhs < 2 ^ 32 → Halved upper.rhs lower.rhs (rhs_lsb upper lower)
  unfolding Poly.if_copy_flag_next_is_0_then_rhs_lsb_is_a_bit rhs_lsb
  rhs_halved h =
      halved o.reduced.rhs_below h
      (bit_of (zero_less_one z) (sub_f_lt _ _) t.if_copy_flag_next_is_0_then_rhs_lsb_is_a_bit)

  pub lhs_halved : upper.ci ≢ op_pow → lower.lhs < 2 ^ 32 → Halved upper.lhs lower.lhs (lhs_lsb upper lower)
  unfolding Poly.if_copy_flag_next_is_0_and_ci_not_pow_then_lhs_lsb_is_a_bit lhs_lsb
  lhs_halved n h =
      halved o.reduced.lhs_below h
      (bit_of (zero_less_one z ⊠ not_pow n) (sub_f_lt _ _) t.if_copy_flag_next_is_0_and_ci_not_pow_then_lhs_lsb_is_a_bit)

-- ---- the whole descent
-- at most 32 steps
pub steps_bound : {row : Row} {k : ℕ} → Descent row k → row.bits ≤ 32 → row.bits + k ≤ 32
steps_bound (end o e) h = omega arith
steps_bound (step {upper} {lower} {k} o o' t c z s) h =
    let counted : lower.bits ≡ upper.bits + 1 = bits_increases o o' t z c h in
    let limit : lower.bits ≢ 33 = bits_not_33 o' in
    let rest : lower.bits + k ≤ 32 = steps_bound s (omega arith) in
    omega arith

halved_bound : {upper lower lsb : ℕ} (k : ℕ) → Halved upper lower lsb → lower < 2 ^ k → upper < 2 ^ suc k
halved_bound k w h = omega arith

pub below_32_bits : {x : ℕ} (k : ℕ) → k ≤ 32 → x < 2 ^ k → x < 2 ^ 32
below_32_bits k h l = let m : 2 ^ k ≤ 2 ^ 32 = pow_mono {i = k} {j = 32} h in omega arith

pub rhs_bound : {row : Row} {k : ℕ} → Descent row k → k ≤ 32 → row.rhs < 2 ^ k
rhs_bound (end o e) h = omega (arith, e.rhs_zero)
rhs_bound (step {k = k} o o' t c z s) h =
    let r = rhs_bound s (omega arith) in
    halved_bound k (rhs_halved o o' t z (below_32_bits k (omega arith) r)) r

pub lhs_bound : {row : Row} {k : ℕ} → Descent row k → k ≤ 32 → row.ci ≢ op_pow → row.lhs < 2 ^ k
lhs_bound (end o e) h n = omega (arith, e.lhs_zero n)
lhs_bound (step {k = k} o o' t c z s) h n =
    let r = lhs_bound s (omega arith) (λ q. n (sym (ci_stays_lem o o' t z) ∙ q)) in
    halved_bound k (lhs_halved o o' t z n (below_32_bits k (omega arith) r)) r

-- one step of it, where CI is not pow
pub record Halves (upper lower : Row) : Type 0 where
  pub ci_same : lower.ci ≡ upper.ci
  pub lower_lhs : lower.lhs < 2 ^ 32
  pub lower_rhs : lower.rhs < 2 ^ 32
  pub lhs : Halved upper.lhs lower.lhs (lhs_lsb upper lower)
  pub rhs : Halved upper.rhs lower.rhs (rhs_lsb upper lower)

pub halves : {upper lower : Row} {k : ℕ} → RowOk upper → RowOk lower → TransitionZero upper lower → lower.copy_flag ≡ 0
    → Descent lower k → k ≤ 32 → upper.ci ≢ op_pow → Halves upper lower
halves {upper} {lower} {k} o o' t z s h n =
    let same : lower.ci ≡ upper.ci = ci_stays_lem o o' t z in
    let l : lower.lhs < 2 ^ 32 = below_32_bits k h (lhs_bound s h (λ q. n (sym same ∙ q))) in
    let r : lower.rhs < 2 ^ 32 = below_32_bits k h (rhs_bound s h) in
    record { ci_same = same; lower_lhs = l; lower_rhs = r; lhs = lhs_halved o o' t z n l; rhs = rhs_halved o o' t z r }
