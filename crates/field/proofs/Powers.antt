-- Powers modulo p. `pow_bits k a e` is a^e modulo p for e of k bits, by square and multiply: antt computes it, where a ^ e at two
-- large numerals would not end. So a power or an inverse at numerals is shown by `refl`:
--     pow_f_is 7 4294967295 (lit< tt) refl : pow_f 7 4294967295 ≡ 1753635133440165772
-- Assumes nothing.
use Rattle.std.proofs.Common.{◌≡◌, ℕ, zero, suc, ◌+◌, ◌*◌, ◌/◌, ◌%◌, ◌^◌, ◌<◌, sym, ap, ◌∙◌, mod-lt, mod-eq_of_lt, pow-suc, two-mul, add-one, arith, lit<, pow-add}
use native.Mathlib.Nat.{pow-zero}
use Rattle.field.specs.Elements.{p, mul_f, pow_f, inv_f}
use Rattle.field.proofs.Congruence.{Cong, c_eq, c_refl, c_sym, ◌⨾◌, c_mod, c_mul, c_pow, pow_even, pow_one}

-- ---- computed powers
-- e is read bit by bit, k bits
abbrev pub pow_bits : ℕ → ℕ → ℕ → ℕ
pow_bits zero a e = 1
pow_bits (suc k) a e = a ^ (e % 2) * pow_bits k (a * a % p) (e / 2) % p

pow_bits_cong : (k a e : ℕ) → e < 2 ^ k → Cong p (pow_bits k a e) (a ^ e)
pow_bits_cong zero a e h = c_eq (sym (pow-zero a) ∙ ap (λ (x : ℕ). a ^ x) (omega arith))
pow_bits_cong (suc k) a e h =
    c_mod ⨾ c_mul c_refl (pow_bits_cong k (a * a % p) (e / 2) (omega arith) ⨾ c_pow (e / 2) c_mod)
    ⨾ c_eq
    (ap (λ (x : ℕ). a ^ (e % 2) * x) (sym (pow_even a (e / 2))) ∙ sym (pow-add a (e % 2) (2 * (e / 2)))
    ∙ ap (λ (x : ℕ). a ^ x) (omega arith))

pow_bits_lt : (k a e : ℕ) → pow_bits k a e < p
pow_bits_lt zero a e = lit< tt
pow_bits_lt (suc k) a e = mod-lt (a ^ (e % 2) * pow_bits k (a * a % p) (e / 2)) (lit< tt)

-- a power at numerals: `pow_f_is a e (lit< tt) refl`, where the left side of the last equation is computed
pub pow_f_is : (a e : ℕ) {r : ℕ} → e < 2 ^ 64 → pow_bits 64 a e ≡ r → pow_f a e ≡ r
unfolding pow_f
pow_f_is a e h c = sym (pow_bits_cong 64 a e h).same ∙ mod-eq_of_lt (pow_bits_lt 64 a e) ∙ c

-- an inverse at a numeral: `inv_f_computed a refl`
pub inv_f_computed : (a : ℕ) {r : ℕ} → pow_bits 64 a 18446744069414584319 ≡ r → inv_f a ≡ r
unfolding inv_f
inv_f_computed a c = pow_f_is a 18446744069414584319 (lit< tt) c

-- ---- laws
pub pow_f_lt : (a e : ℕ) → pow_f a e < p
unfolding pow_f
pow_f_lt a e = mod-lt (a ^ e) (lit< tt)

-- it depends on a modulo p alone
pub pow_f_of_red : (a e : ℕ) → pow_f (a % p) e ≡ pow_f a e
unfolding pow_f
pow_f_of_red a e = (c_pow e c_mod).same

pub pow_f_zero : (a : ℕ) → pow_f a 0 ≡ 1
unfolding pow_f
pow_f_zero a = ap (λ (x : ℕ). x % p) (pow-zero a)

pub pow_f_one : (a : ℕ) → pow_f a 1 ≡ a % p
unfolding pow_f
pow_f_one a = ap (λ (x : ℕ). x % p) (pow_one a)

pub pow_f_suc : (a e : ℕ) → pow_f a (e + 1) ≡ mul_f (pow_f a e) a
unfolding pow_f mul_f
pow_f_suc a e = (c_eq (ap (λ (x : ℕ). a ^ x) (add-one e) ∙ pow-suc a e) ⨾ c_mul (c_sym c_mod) c_refl).same

pub pow_f_add : (a d e : ℕ) → pow_f a (d + e) ≡ mul_f (pow_f a d) (pow_f a e)
unfolding pow_f mul_f
pow_f_add a d e = (c_eq (pow-add a d e) ⨾ c_mul (c_sym c_mod) (c_sym c_mod)).same

-- square, and square and multiply
pub pow_f_double : (a e : ℕ) → pow_f a (2 * e) ≡ mul_f (pow_f a e) (pow_f a e)
pow_f_double a e = ap (pow_f a) (two-mul e) ∙ pow_f_add a e e

pub pow_f_double_suc : (a e : ℕ) → pow_f a (2 * e + 1) ≡ mul_f (mul_f (pow_f a e) (pow_f a e)) a
pow_f_double_suc a e = pow_f_suc a (2 * e) ∙ ap (λ (x : ℕ). mul_f x a) (pow_f_double a e)

-- a power of a square
pub pow_f_square : (a e : ℕ) → pow_f (mul_f a a) e ≡ pow_f a (2 * e)
unfolding pow_f mul_f
pow_f_square a e = (c_pow e c_mod ⨾ c_eq (sym (pow_even a e))).same
