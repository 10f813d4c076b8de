-- Congruence modulo m, for any m: `Cong m a b` says that a and b leave the same remainder. It is a record, so that its laws
-- take a, b and m as implicit arguments, and a proof is a chain of steps,
--     c_mul c_refl c_mod ⨾ c_eq (mul_assoc x y z) ⨾ c_add h c_refl
-- with `.same` at its end for the plain equation of remainders. Assumes nothing.
use Rattle.std.proofs.Common.{◌≡◌, ℕ, zero, suc, ◌+◌, ◌*◌, ◌/◌, ◌%◌, ◌^◌, ◌<◌, sym, refl, ap, ◌∙◌, ap₂, mod-eq_of_lt, mul_assoc, mul_comm, one-mul, pow-suc, mul-zero, div-add-mod', zero-add, mul-one, mul-suc, pow-add}
use native.Mathlib.Nat.{add-mod, pow-zero, mod-mod}
use Rattle.std.proofs.lemmas.Nat.{mul-mod_first, mul-mod_second, mul-pow}

-- ---- products under %
pub mul_mod : (a b m : ℕ) → a % m * (b % m) % m ≡ a * b % m
mul_mod a b m = mul-mod_first a (b % m) m ∙ mul-mod_second a b m

-- ---- congruence, and its laws
infixr 30 ◌⨾◌
pub record Cong (m a b : ℕ) : Type 0 where
  pub same : a % m ≡ b % m

pub c_eq : {m a b : ℕ} → a ≡ b → Cong m a b
c_eq {m} e = record { same = ap (λ (x : ℕ). x % m) e }

pub c_refl : {m a : ℕ} → Cong m a a
c_refl = record { same = refl }

pub c_sym : {m a b : ℕ} → Cong m a b → Cong m b a
c_sym h = record { same = sym h.same }

pub ◌⨾◌ : {m a b c : ℕ} → Cong m a b → Cong m b c → Cong m a c
◌⨾◌ h k = record { same = h.same ∙ k.same }

pub c_mod : {m a : ℕ} → Cong m (a % m) a
c_mod {m} {a} = record { same = mod-mod a m }

pub c_mul : {m a a' b b' : ℕ} → Cong m a a' → Cong m b b' → Cong m (a * b) (a' * b')
c_mul {m} {a} {a'} {b} {b'} p q =
    record { same = sym (mul_mod a b m) ∙ ap₂ (λ (x y : ℕ). x * y % m) p.same q.same ∙ mul_mod a' b' m }

pub c_add : {m a a' b b' : ℕ} → Cong m a a' → Cong m b b' → Cong m (a + b) (a' + b')
c_add {m} {a} {a'} {b} {b'} p q =
    record { same = add-mod a b m ∙ ap₂ (λ (x y : ℕ). (x + y) % m) p.same q.same ∙ sym (add-mod a' b' m) }

pub c_pow : {m a b : ℕ} (i : ℕ) → Cong m a b → Cong m (a ^ i) (b ^ i)
c_pow {m} {a} {b} zero p = c_eq (pow-zero a ∙ sym (pow-zero b))
c_pow {m} {a} {b} (suc i) p = c_eq (pow-suc a i) ⨾ c_mul (c_pow i p) p ⨾ c_eq (sym (pow-suc b i))

-- two numbers below m that are congruent are equal
pub c_below : {m a b : ℕ} → a < m → b < m → Cong m a b → a ≡ b
c_below h k p = sym (mod-eq_of_lt h) ∙ p.same ∙ mod-eq_of_lt k

-- what is congruent modulo m is so modulo a divisor d of m
pub c_dvd : {m d a b : ℕ} → Cong d m 0 → Cong m a b → Cong d a b
c_dvd {m} {d} {a} {b} h e = red a ⨾ c_eq e.same ⨾ c_sym (red b)
  where
    red : (x : ℕ) → Cong d x (x % m)
    red x = c_eq (sym (div-add-mod' x m)) ⨾ c_add (c_mul c_refl h ⨾ c_eq (mul-zero (x / m))) c_refl ⨾ c_eq (zero-add (x % m))

-- a factor b with an inverse u is cancelled
pub c_cancel : {m x y : ℕ} (b u : ℕ) → Cong m (b * u) 1 → Cong m (b * x) (b * y) → Cong m x y
c_cancel {m} {x} {y} b u h e = c_sym (back x) ⨾ c_mul (c_refl {a = u}) e ⨾ back y
  where
    back : (z : ℕ) → Cong m (u * (b * z)) z
    back z = c_eq (sym (mul_assoc u b z) ∙ ap (λ (t : ℕ). t * z) (mul_comm u b)) ⨾ c_mul h c_refl ⨾ c_eq (one-mul z)

-- ---- powers
pub one_pow : (i : ℕ) → 1 ^ i ≡ 1
one_pow zero = pow-zero 1
one_pow (suc i) = pow-suc 1 i ∙ mul-one (1 ^ i) ∙ one_pow i

pub pow_one : (a : ℕ) → a ^ 1 ≡ a
pow_one a = pow-suc a 0 ∙ ap (λ (x : ℕ). x * a) (pow-zero a) ∙ one-mul a

pub pow_mul : (a i j : ℕ) → a ^ (i * j) ≡ (a ^ i) ^ j
pow_mul a i zero = ap (λ (x : ℕ). a ^ x) (mul-zero i) ∙ pow-zero a ∙ sym (pow-zero (a ^ i))
pow_mul a i (suc j) =
    ap (λ (x : ℕ). a ^ x) (mul-suc i j) ∙ pow-add a (i * j) i ∙ ap (λ (x : ℕ). x * a ^ i) (pow_mul a i j) ∙ sym (pow-suc (a ^ i) j)

-- an even and an odd power, by the square
pub pow_even : (a j : ℕ) → a ^ (2 * j) ≡ (a * a) ^ j
pow_even a j = pow_mul a 2 j ∙ ap (λ (x : ℕ). x ^ j) (pow-suc a 1 ∙ ap (λ (x : ℕ). x * a) (pow_one a))

pub pow_odd : (a j : ℕ) → a ^ (2 * j + 1) ≡ (a * a) ^ j * a
pow_odd a j = pow-add a (2 * j) 1 ∙ ap₂ (λ (x y : ℕ). x * y) (pow_even a j) (pow_one a)

-- the powers of an inverse are inverses of the powers
pub pow_unit : {m : ℕ} (b u i : ℕ) → Cong m (b * u) 1 → Cong m (b ^ i * u ^ i) 1
pow_unit b u i h = c_eq (sym (mul-pow b u i)) ⨾ c_pow i h ⨾ c_eq (one_pow i)
