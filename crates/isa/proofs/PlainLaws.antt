-- Laws of the plain functions: their values at 0, what they are at 2x + i and 2y + j for bits i and j in terms of x and y, and bounds.
-- The table's rows halve the operands, so a section's Results follow these steps from its last row up.
use mathlib.Core.Path.{◌≡◌, refl, sym, ap, ◌∙◌}
use mathlib.Core.Bool.{Bool, true, false, cond}
use mathlib.Core.Logic.{◌≢◌, inl, inr}
use Prim.Native.Nat.{ℕ, zero, suc, ◌+◌, ◌*◌, ◌/◌, ◌%◌, ◌^◌, ◌≤◌, ◌<◌, min}
use native.Mathlib.Omega.{arith}
use borrow.Author.Tests.{lt-ltb, le-ltb, ne_eqb, ltb-true, ltb-false, eqb-true, eqb-false}
use lib.Dec.{eqb, ltb}
use lib.Bits.{and_step, and_zero_l, and_zero_r, and_le_l, and_le_r}
use lib.Count.{ones, ones_step, ones-le}
use Rattle.std.proofs.lemmas.Bool.{cond_both}
use Rattle.field.specs.Elements.{p, mul_f}
use Rattle.field.proofs.Laws.{pow_f_lt, pow_f_zero, pow_f_double, pow_f_double_suc}
use Rattle.isa.specs.Opcodes.{op_split, op_lt, op_log2_floor, op_and, op_pop_count, op_pow, is_opcode}
use Rattle.isa.specs.PlainFunctions.{plain_lt, plain_and, floor_log2, plain_pow, digit_sum, one_bits, plain_result}
use Rattle.isa.proofs.Entries.{not_one_of_six}
use Rattle.isa.proofs.Logarithm.{floor_log2_half, floor_log2_below, floor_log2_zero}

-- ---- lt

pub lt_one : {a b : ℕ} → a < b → plain_lt a b ≡ 1
unfolding plain_lt
lt_one {a} {b} h = rw (lt-ltb a b h)

pub lt_zero : {a b : ℕ} → b ≤ a → plain_lt a b ≡ 0
unfolding plain_lt
lt_zero {a} {b} h = rw (le-ltb a b h)

pub lt_same : (a : ℕ) → plain_lt a a ≡ 0
lt_same a = lt_zero (omega arith)

pub lt_bit : (a b : ℕ) → plain_lt a b ≤ 1
lt_bit a b = go (ltb a b) refl where
  go : (t : Bool) → ltb a b ≡ t → plain_lt a b ≤ 1
  go true e = omega (arith, lt_one (ltb-true a b e))
  go false e = omega (arith, lt_zero (ltb-false a b e))

-- the higher bits decide where they differ, and else the lowest bit
pub lt_step : (x y i j : ℕ) → i < 2 → j < 2 → x ≢ y → plain_lt (2 * x + i) (2 * y + j) ≡ plain_lt x y
lt_step x y i j a b d = go (ltb x y) refl where
  go : (t : Bool) → ltb x y ≡ t → plain_lt (2 * x + i) (2 * y + j) ≡ plain_lt x y
  go true e = let h = ltb-true x y e in lt_one (omega arith) ∙ sym (lt_one h)
  go false e = let h = ltb-false x y e in lt_zero (omega arith) ∙ sym (lt_zero h)

pub lt_step_same : (x i j : ℕ) → i < 2 → j < 2 → plain_lt (2 * x + i) (2 * x + j) ≡ plain_lt i j
lt_step_same x i j a b = go (ltb i j) refl where
  go : (t : Bool) → ltb i j ≡ t → plain_lt (2 * x + i) (2 * x + j) ≡ plain_lt i j
  go true e = let h = ltb-true i j e in lt_one (omega arith) ∙ sym (lt_one h)
  go false e = let h = ltb-false i j e in lt_zero (omega arith) ∙ sym (lt_zero h)

-- ---- and

pub and_zero_left : (b : ℕ) → plain_and 0 b ≡ 0
unfolding plain_and
and_zero_left b = and_zero_l b

pub and_zero_right : (a : ℕ) → plain_and a 0 ≡ 0
unfolding plain_and
and_zero_right a = and_zero_r a

pub and_left : (a b : ℕ) → plain_and a b ≤ a
unfolding plain_and
and_left a b = and_le_l a b

pub and_right : (a b : ℕ) → plain_and a b ≤ b
unfolding plain_and
and_right a b = and_le_r a b

bit_product : (i j : ℕ) → i < 2 → j < 2 → min i j ≡ i * j
bit_product zero j a b = omega arith
bit_product (suc zero) j a b = omega arith
bit_product (suc (suc i)) j a b = absurd (omega arith)

pub and_step_bits : (x y i j : ℕ) → i < 2 → j < 2 → plain_and (2 * x + i) (2 * y + j) ≡ 2 * plain_and x y + i * j
unfolding plain_and
and_step_bits x y i j a b =
    let hx : (2 * x + i) / 2 ≡ x = omega arith in
    let hy : (2 * y + j) / 2 ≡ y = omega arith in
    let lx : (2 * x + i) % 2 ≡ i = omega arith in
    let ly : (2 * y + j) % 2 ≡ j = omega arith in
    and_step (2 * x + i) (2 * y + j) ∙ rw (hx, hy, lx, ly, bit_product i j a b) (omega arith)

-- ---- floor log2

pub log_step : (x i : ℕ) → i < 2 → x ≢ 0 → floor_log2 (2 * x + i) ≡ 1 + floor_log2 x
log_step x i a z =
    let h : (2 * x + i) / 2 ≡ x = omega arith in
    floor_log2_half (2 * x + i) (omega arith) ∙ rw h (omega arith)

-- ---- pow

pub pow-zero : (a : ℕ) → plain_pow a 0 ≡ 1
unfolding plain_pow
pow-zero a = pow_f_zero a

pub pow_below : (a e : ℕ) → plain_pow a e < p
unfolding plain_pow
pow_below a e = pow_f_lt a e

-- square, and multiply for a one-bit
pub pow_step_zero : (a y : ℕ) → plain_pow a (2 * y) ≡ mul_f (plain_pow a y) (plain_pow a y)
unfolding plain_pow
pow_step_zero a y = pow_f_double a y

pub pow_step_one : (a y : ℕ) → plain_pow a (2 * y + 1) ≡ mul_f (mul_f (plain_pow a y) (plain_pow a y)) a
unfolding plain_pow
pow_step_one a y = pow_f_double_suc a y

-- ---- one-bits

ones_of_zero : ones 0 ≡ 0
ones_of_zero = omega (arith, ones-le 0 0 (omega arith))

digit_sum_ones : (fuel n : ℕ) → n ≤ fuel → digit_sum fuel n ≡ ones n
digit_sum_ones zero zero h = sym ones_of_zero
digit_sum_ones zero (suc m) h = absurd (omega arith)
digit_sum_ones (suc fuel) zero h = sym ones_of_zero
digit_sum_ones (suc fuel) (suc m) h = rw (digit_sum_ones fuel (suc m / 2) (omega arith)) (sym (ones_step (suc m)))

pub one_bits_ones : (n : ℕ) → one_bits n ≡ ones n
unfolding one_bits
one_bits_ones n = digit_sum_ones n n (omega arith)

pub one_bits_zero : one_bits 0 ≡ 0
unfolding one_bits
one_bits_zero = refl

pub one_bits_step : (x i : ℕ) → i < 2 → one_bits (2 * x + i) ≡ i + one_bits x
one_bits_step x i a =
    let h : (2 * x + i) / 2 ≡ x = omega arith in
    let l : (2 * x + i) % 2 ≡ i = omega arith in
    one_bits_ones (2 * x + i) ∙ ones_step (2 * x + i) ∙ rw (h, l, one_bits_ones x)

pub one_bits_le : (k n : ℕ) → n < 2 ^ k → one_bits n ≤ k
one_bits_le k n h = rw (one_bits_ones n) (ones-le k n h)

-- ---- the plain function of an opcode

module _ (l r : ℕ) where
  pub result_split : plain_result op_split l r ≡ 0
  unfolding plain_result
  result_split = refl

  pub result_lt : plain_result op_lt l r ≡ plain_lt l r
  unfolding plain_result
  result_lt = refl

  pub result_and : plain_result op_and l r ≡ plain_and l r
  unfolding plain_result
  result_and = refl

  pub result_log : plain_result op_log2_floor l r ≡ floor_log2 l
  unfolding plain_result
  result_log = refl

  pub result_pow : plain_result op_pow l r ≡ plain_pow l r
  unfolding plain_result
  result_pow = refl

  pub result_pop_count : plain_result op_pop_count l r ≡ one_bits l
  unfolding plain_result
  result_pop_count = refl

-- split has none, and neither has a word that is no opcode
pub none_of_split : (o l r : ℕ) → o ≡ op_split → plain_result o l r ≡ 0
unfolding plain_result
none_of_split o l r e = rw e

pub none_of_stranger : (o l r : ℕ) → is_opcode o ≡ false → plain_result o l r ≡ 0
unfolding plain_result
none_of_stranger o l r e =
    let no = not_one_of_six o e in
    simp (
      ne_eqb o op_lt (λ k. no (inr (inl k))),
      ne_eqb o op_log2_floor (λ k. no (inr (inr (inl k)))),
      ne_eqb o op_and (λ k. no (inr (inr (inr (inl k))))),
      ne_eqb o op_pop_count (λ k. no (inr (inr (inr (inr (inl k)))))),
      ne_eqb o op_pow (λ k. no (inr (inr (inr (inr (inr k)))))),
    )

pub below_cond : (t : Bool) {a b : ℕ} → a < p → b < p → cond t a b < p
below_cond t {a} {b} f g = cond_both t a b (λ (n : ℕ). n < p) (λ _. f) (λ _. g)

log_below : (l : ℕ) → l < p → floor_log2 l < p
log_below l h = go (eqb l 0) refl where
  go : (t : Bool) → eqb l 0 ≡ t → floor_log2 l < p
  go true e = omega (arith, ap floor_log2 (eqb-true l 0 e), floor_log2_zero)
  go false e = omega (arith, floor_log2_below l 64 (eqb-false l 0 e) (omega arith))

-- every Result is an element
pub result_below : (o l r : ℕ) → l < p → plain_result o l r < p
unfolding plain_result
result_below o l r h =
    below_cond (eqb o op_lt) (omega (arith, lt_bit l r))
    (below_cond (eqb o op_and) (omega (arith, and_left l r))
    (below_cond (eqb o op_log2_floor) (log_below l h)
    (below_cond (eqb o op_pow) (pow_below l r)
    (below_cond (eqb o op_pop_count) (omega (arith, one_bits_le 64 l (omega arith)))
    (omega arith)))))
