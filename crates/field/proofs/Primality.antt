-- p is prime. The criterion (`proth`): n is odd, n < 2^(2k + 2), and some c squared k times is -1 modulo n; then n is prime.
-- For let d > 2 divide n. Modulo d, c squared k times is -1 too. Then no power c^i with 0 < i < 2^(k + 1) is 1: for odd i, c^i
-- squared k times is a power of -1 with odd exponent, so not 1; and for even i, c^i is a power of c², to which the same applies
-- with k - 1 (`no_unit`). So the powers c^0 .. c^(2^(k + 1) - 1) all differ modulo d, and 2^(k + 1) ≤ d (`divisor_is_large`). Two
-- such divisors make more than n.
-- At p, k is 31, and c is an element of order 2^32; the 31 squarings are computed. Assumes nothing.
use Rattle.std.proofs.Common.{◌≡◌, ℕ, zero, suc, ◌+◌, ◌-◌, ◌*◌, ◌/◌, ◌%◌, ◌^◌, ◌<◌, ◌≤◌, ◌≢◌, ◌⊎◌, sym, refl, ap, ◌∙◌, inl, inr, add-zero, mod-lt, mul_comm, mul-le-mul, one-mul, mul-zero, zero-mul, mul-one, arith, pow-add}
use native.Mathlib.Nat.{mul-mod_right, zero-mod, mul-div_cancel'}
use native.Mathlib.Decide.{ℕ_discrete, dec_lt}
use Rattle.std.proofs.lemmas.Nat.{mul-pow}
use Rattle.field.proofs.Congruence.{Cong, c_eq, c_refl, c_sym, ◌⨾◌, c_mod, c_mul, c_add, c_pow, c_below, one_pow, pow_even, pow_odd, c_dvd, c_cancel, pow_unit}
use Rattle.field.proofs.Counting.{Injection, pigeonhole}
use Rattle.field.specs.Elements.{p}
use Rattle.field.specs.Primes.{Prime}

-- c squared k times, and the same with each square reduced, which is computed
pub squared : ℕ → ℕ → ℕ
squared zero c = c
squared (suc k) c = squared k (c * c)

unfoldable pub squared_mod : ℕ → ℕ → ℕ → ℕ
squared_mod m zero c = c
squared_mod m (suc k) c = squared_mod m k (c * c % m)

squared_cong : {m a b : ℕ} (k : ℕ) → Cong m a b → Cong m (squared k a) (squared k b)
unfolding squared
squared_cong {a = a} {b = b} zero h = h
squared_cong {a = a} {b = b} (suc k) h = squared_cong {a = a * a} {b = b * b} k (c_mul h h)

pub squared_mod_squared : (m k c : ℕ) → Cong m (squared_mod m k c) (squared k c)
unfolding squared squared_mod
squared_mod_squared m zero c = c_refl
squared_mod_squared m (suc k) c = squared_mod_squared m k (c * c % m) ⨾ squared_cong k c_mod

squared_pow : (k c i : ℕ) → squared k (c ^ i) ≡ squared k c ^ i
unfolding squared
squared_pow zero c i = refl
squared_pow (suc k) c i = ap (squared k) (sym (mul-pow c c i)) ∙ squared_pow k (c * c) i

squared_one : (k : ℕ) → squared k 1 ≡ 1
unfolding squared
squared_one zero = refl
squared_one (suc k) = squared_one k

module _ (d : ℕ) (big : 2 < d) where
  two_not_zero : Cong d 2 0 → ⊥
  two_not_zero h = let e : ◌≡◌ {A = ℕ} 2 0 = c_below big (omega arith) h in omega arith

  -- the square of -1 is 1
  minus_one_squared : (s : ℕ) → Cong d (s + 1) 0 → Cong d (s * s) 1
  minus_one_squared s h =
      c_eq (sym (add-zero (s * s))) ⨾ c_add c_refl (c_sym h) ⨾ c_eq {b = s * (s + 1) + 1} (omega arith)
      ⨾ c_add (c_mul c_refl h ⨾ c_eq (mul-zero s)) c_refl

  odd_no_unit : (k c j : ℕ) → Cong d (squared k c + 1) 0 → Cong d (c ^ (2 * j + 1)) 1 → ⊥
  odd_no_unit k c j h e = two_not_zero (c_add (c_sym is_one) (c_refl {a = 1}) ⨾ h)
    where
      is_one : Cong d (squared k c) 1
      is_one =
          c_eq (sym (one-mul (squared k c))) ⨾ c_mul (c_eq (sym (one_pow j)) ⨾ c_sym (c_pow j (minus_one_squared (squared k c) h))) c_refl
          ⨾ c_eq (sym (pow_odd (squared k c) j)) ⨾ c_eq (sym (squared_pow k c (2 * j + 1))) ⨾ squared_cong k e ⨾ c_eq (squared_one k)

  no_unit : (k c i : ℕ) → Cong d (squared k c + 1) 0 → 0 < i → i < 2 ^ suc k → Cong d (c ^ i) 1 → ⊥
  unfolding squared
  no_unit zero c i h l u e = odd_no_unit zero c 0 h (c_eq (ap (λ (x : ℕ). c ^ x) one) ⨾ e)
    where
      one : 1 ≡ i
      one = omega arith
  no_unit (suc k) c i h l u e = pick (ℕ_discrete (i % 2) 0) (λ lo hi. no_unit k (c * c) (i / 2) h lo hi)
    where
      pick : Dec (i % 2 ≡ 0) → (0 < i / 2 → i / 2 < 2 ^ suc k → Cong d ((c * c) ^ (i / 2)) 1 → ⊥) → ⊥
      pick (yes z) r =
          r (omega arith) (omega arith)
          (c_eq (sym (pow_even c (i / 2)) ∙ ap (λ (x : ℕ). c ^ x) (omega arith)) ⨾ e)
      pick (no z) r = odd_no_unit (suc k) c (i / 2) h (c_eq (ap (λ (x : ℕ). c ^ x) (omega arith)) ⨾ e)

  module _ (k c u : ℕ) (h : Cong d (squared k c + 1) 0) (v : Cong d (c * u) 1) where
    powers_differ : (i j : ℕ) → i < j → j < 2 ^ suc k → Cong d (c ^ i) (c ^ j) → ⊥
    powers_differ i j l b e =
        no_unit k c (j - i) h (omega arith) (omega arith)
        (c_sym (c_cancel (c ^ i) (u ^ i) (pow_unit c u i v)
        (c_eq (mul-one (c ^ i)) ⨾ e ⨾ c_eq (ap (λ (x : ℕ). c ^ x) (omega arith) ∙ pow-add c i (j - i)))))

    powers : Injection (2 ^ suc k) d (λ i. c ^ i % d)
    powers = record { below = λ i l. mod-lt (c ^ i) (omega arith); inj = inj₁ }
      where
        inj₁ : (i j : ℕ) → i < 2 ^ suc k → j < 2 ^ suc k → c ^ i % d ≡ c ^ j % d → i ≡ j
        inj₁ i j hi hj e = pick (dec_lt i j) (dec_lt j i)
          where
            pick : Dec (i < j) → Dec (j < i) → i ≡ j
            pick (yes l) b = absurd (powers_differ i j l hj (record { same = e }))
            pick (no l) (yes b) = absurd (powers_differ j i b hi (record { same = sym e }))
            pick (no l) (no b) = omega arith

    large : 2 ^ suc k ≤ d
    large = pigeonhole (2 ^ suc k) d (λ i. c ^ i % d) powers

module _ (n k c u : ℕ) (odd : n % 2 ≡ 1) (h : Cong n (squared k c + 1) 0) (v : Cong n (c * u) 1) (small : n < 2 ^ suc k * 2 ^ suc k) where
  divisor_is_large : (d e : ℕ) → d * e ≡ n → 1 < d → 2 ^ suc k ≤ d
  divisor_is_large d e q l = large d (pick (ℕ_discrete d 2)) k c u (c_dvd dv h) (c_dvd dv v)
    where
      dv : Cong d n 0
      dv = record { same = ap (λ (x : ℕ). x % d) (sym q) ∙ mul-mod_right d e ∙ sym (zero-mod d) }

      pick : Dec (d ≡ 2) → 2 < d
      pick (yes t) = let r : 2 * e ≡ n = ap (λ (x : ℕ). x * e) (sym t) ∙ q in omega arith
      pick (no t) = omega arith

  divisor_is_trivial : (d e : ℕ) → d * e ≡ n → (d ≡ 1) ⊎ (d ≡ n)
  divisor_is_trivial d e q = pick (ℕ_discrete d 1) (ℕ_discrete e 1)
    where
      one_lt : (x y : ℕ) → x * y ≡ n → x ≢ 1 → 1 < x
      one_lt zero y r f = let z : 0 ≡ n = sym (zero-mul y) ∙ r in omega arith
      one_lt (suc x) y r f = omega arith

      pick : Dec (d ≡ 1) → Dec (e ≡ 1) → (d ≡ 1) ⊎ (d ≡ n)
      pick (yes t) b = inl t
      pick (no t) (yes b) = inr (sym (mul-one d) ∙ ap (λ (x : ℕ). d * x) (sym b) ∙ q)
      pick (no t) (no b) =
          absurd (omega (
            arith,
            small,
            q,
            mul-le-mul (divisor_is_large d e q (one_lt d e q t)) (divisor_is_large e d (mul_comm e d ∙ q) (one_lt e d (mul_comm e d ∙ q) b)),
          ))

  pub proth : 1 < n → Prime n
  unfolding Prime
  proth l = (l, λ d h. divisor_is_trivial d (n / d) (mul-div_cancel' d h))

-- ---- the modulus
-- document 01: "p = 2^64 − 2^32 + 1", and p − 1 in factors
pub p_is : p ≡ 2 ^ 64 - 2 ^ 32 + 1
p_is = refl

pub p_minus_one : p - 1 ≡ 2 ^ 32 * 3 * 5 * 17 * 257 * 65537
p_minus_one = refl

-- what a sum that passes 2^64 is mended by
pub two_pow_64 : 2 ^ 64 % p ≡ 2 ^ 32 - 1
two_pow_64 = refl

pub two_pow_96 : 2 ^ 96 % p ≡ p - 1
two_pow_96 = refl

-- 1753635133440165772 squared 31 times is -1
root_computed : squared_mod p 31 1753635133440165772 ≡ p - 1
unfolding squared_mod
root_computed = refl

root : Cong p (squared 31 1753635133440165772 + 1) 0
root = c_add (c_sym (squared_mod_squared p 31 1753635133440165772) ⨾ c_eq root_computed) (c_refl {a = 1}) ⨾ record { same = refl }

-- document 01: "That p is prime is proved". 8554224884056360729 is the inverse of the element above
pub p_prime : Prime p
p_prime = proth p 31 1753635133440165772 8554224884056360729 refl root (record { same = refl }) (omega arith) (omega arith)
