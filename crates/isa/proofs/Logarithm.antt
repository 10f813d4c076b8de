-- floor_log2 is the logarithm to base 2, rounded down, and height_of the bit length and one more. Both are known by the powers of 2 that n lies
-- between; every other law follows from that.
use mathlib.Core.Path.{◌≡◌, refl, sym, ap, ◌∙◌}
use mathlib.Core.Bool.{Bool, true, false}
use mathlib.Core.Logic.{◌≢◌, ⊎_elim}
use Prim.Native.Nat.{ℕ, zero, suc, ◌+◌, ◌*◌, ◌/◌, ◌^◌, ◌≤◌, ◌<◌}
use native.Mathlib.Nat.{pow-suc, lt_of_le_of_lt, eq-zero-or-pos}
use native.Mathlib.Omega.{arith}
use borrow.Author.Tests.{ltb-true, ltb-false, ne_eqb}
use lib.Dec.{ltb}
use lib.Pow.{pow_pos, pow_mono}
use Rattle.std.specs.Prelude.{Option, None, Some, MatchOption, IfNone, IfSome}
use Rattle.std.specs.Option.{unwrap_or}
use Rattle.isa.specs.PlainFunctions.{halvings, floor_log2}
use Rattle.isa.specs.Entries.{height_of}

-- ---- powers of 2 around n

Between : ℕ → ℕ → Type 0
Between n k = (2 ^ k ≤ n) × (n < 2 ^ suc k)

between_half : (n k : ℕ) → Between (n / 2) k → Between n (suc k)
unfolding Between
between_half n k (l, h) =
    let d : 2 ^ suc (suc k) ≡ 2 ^ suc k * 2 = pow-suc 2 (suc k) in
    let e : 2 ^ suc k ≡ 2 ^ k * 2 = pow-suc 2 k in
    (omega arith, omega arith)

between : (fuel n : ℕ) → n ≤ fuel → 1 ≤ n → Between n (halvings fuel n)
unfolding Between
between zero n h p = absurd (omega arith)
between (suc fuel) zero h p = absurd (omega arith)
between (suc fuel) (suc zero) h p = (p, omega arith)
between (suc fuel) (suc (suc m)) h p = between_half (suc (suc m)) _ (between fuel (suc (suc m) / 2) (omega arith) (omega arith))

pub floor_log2_low : (n : ℕ) → n ≢ 0 → 2 ^ floor_log2 n ≤ n
unfolding floor_log2 Between
floor_log2_low n h = (between n n (omega arith) (⊎_elim (λ e. absurd (h e)) (λ p. p) (eq-zero-or-pos n))).0

pub floor_log2_high : (n : ℕ) → n ≢ 0 → n < 2 ^ suc (floor_log2 n)
unfolding floor_log2 Between
floor_log2_high n h = (between n n (omega arith) (⊎_elim (λ e. absurd (h e)) (λ p. p) (eq-zero-or-pos n))).1

-- 2^j ≤ n < 2^k leaves j < k
exponents : (n j k : ℕ) → 2 ^ j ≤ n → n < 2 ^ k → j < k
exponents n j k l h = go (ltb j k) refl where
  go : (t : Bool) → ltb j k ≡ t → j < k
  go true e = ltb-true j k e
  go false e = absurd (omega (arith, pow_mono (ltb-false j k e)))

pub floor_log2_unique : (n j : ℕ) → 2 ^ j ≤ n → n < 2 ^ suc j → floor_log2 n ≡ j
floor_log2_unique n j l h =
    let z : n ≢ 0 = λ e. omega (arith, pow_pos j) in
    let a = exponents n j _ l (floor_log2_high n z) in
    let b = exponents n _ (suc j) (floor_log2_low n z) h in
    omega arith

pub floor_log2_zero : floor_log2 0 ≡ 0
unfolding floor_log2
floor_log2_zero = refl

-- the logarithm as the library tells it, which for 0 is none
pub floor_log2_told : (n : ℕ) (log : Option ℕ) → IfNone log (n ≡ 0) → IfSome log (λ k. 2 ^ k ≤ n) → IfSome log (λ k. n < 2 * 2 ^ k)
    → unwrap_or log 0 ≡ floor_log2 n
floor_log2_told n None none low high = sym (ap floor_log2 none ∙ floor_log2_zero)
floor_log2_told n (Some k) none low high = sym (floor_log2_unique n k low (omega (arith, pow-suc 2 k, high)))

pub floor_log2_one : floor_log2 1 ≡ 0
unfolding floor_log2
floor_log2_one = refl

pub floor_log2_half : (n : ℕ) → 2 ≤ n → floor_log2 n ≡ suc (floor_log2 (n / 2))
floor_log2_half n h =
    let z : n / 2 ≢ 0 = λ e. omega arith in
    let k = floor_log2 (n / 2) in
    floor_log2_unique n (suc k)
    (omega (arith, pow-suc 2 k, floor_log2_low (n / 2) z))
    (omega (arith, pow-suc 2 (suc k), floor_log2_high (n / 2) z))

pub floor_log2_below : (n k : ℕ) → n ≢ 0 → n < 2 ^ k → floor_log2 n < k
floor_log2_below n k z h = exponents n _ k (floor_log2_low n z) h

pub floor_log2_mono : (m n : ℕ) → m ≢ 0 → m ≤ n → floor_log2 m ≤ floor_log2 n
floor_log2_mono m n z h =
    let y : n ≢ 0 = λ e. z (omega arith) in
    let l = exponents m _ (suc (floor_log2 n)) (floor_log2_low m z) (lt_of_le_of_lt h (floor_log2_high n y)) in
    omega arith

-- ---- the height of a dominant operand

pub height_zero : height_of 0 ≡ 1
unfolding height_of
height_zero = refl

pub height_of_lem : (n : ℕ) → n ≢ 0 → height_of n ≡ 2 + floor_log2 n
unfolding height_of
height_of_lem n z = rw (ne_eqb n 0 z)

-- made of the logarithm as the library tells it: 1 where it is none, else 2 and the logarithm
module _ (h : ℕ) {Made : ℕ → Type 0} (two_more : (k : ℕ) → Made k → h ≡ 2 + k) where
  pub height_told : (n : ℕ) (log : Option ℕ) → IfNone log (n ≡ 0) → IfSome log (λ k. 2 ^ k ≤ n) → IfSome log (λ k. n < 2 * 2 ^ k)
      → MatchOption log (h ≡ 1) Made → h ≡ height_of n
  height_told n None none low high made = made ∙ sym (ap height_of none ∙ height_zero)
  height_told n (Some k) none low high made =
      two_more k made ∙ ap (λ (j : ℕ). 2 + j) (floor_log2_told n (Some k) none low high) ∙ sym (height_of_lem n (λ e. omega (arith, pow_pos k, low)))

pub height_half : (n : ℕ) → n ≢ 0 → height_of n ≡ suc (height_of (n / 2))
height_half n z = go (ltb n 2) refl where
  go : (t : Bool) → ltb n 2 ≡ t → height_of n ≡ suc (height_of (n / 2))
  go true e =
      let l = ltb-true n 2 e in
      let one : n ≡ 1 = ⊎_elim (λ a. absurd (z a)) (λ a. omega arith) (eq-zero-or-pos n) in
      let none : n / 2 ≡ 0 = omega arith in
      omega (arith, height_of_lem n z, ap floor_log2 one, floor_log2_one, ap height_of none, height_zero)
  go false e =
      let l = ltb-false n 2 e in
      let y : n / 2 ≢ 0 = λ a. omega arith in
      omega (arith, height_of_lem n z, floor_log2_half n l, height_of_lem (n / 2) y)

pub height_below : (n k : ℕ) → n < 2 ^ k → height_of n ≤ suc k
height_below n k h = ⊎_elim (λ e. omega (arith, ap height_of e, height_zero)) (λ p. positive p) (eq-zero-or-pos n) where
  positive : 0 < n → height_of n ≤ suc k
  positive p =
      let z : n ≢ 0 = λ e. omega arith in
      omega (arith, height_of_lem n z, floor_log2_below n k z h)

pub height_positive : (n : ℕ) → 1 ≤ height_of n
height_positive n = ⊎_elim (λ e. omega (arith, ap height_of e, height_zero)) (λ p. omega (arith, height_of_lem n (λ e. omega arith))) (eq-zero-or-pos n)

pub height_mono : (m n : ℕ) → m ≤ n → height_of m ≤ height_of n
height_mono m n h = ⊎_elim (λ e. omega (arith, ap height_of e, height_zero, height_positive n)) (λ p. positive p) (eq-zero-or-pos m) where
  positive : 0 < m → height_of m ≤ height_of n
  positive p =
      let z : m ≢ 0 = λ e. omega arith in
      let y : n ≢ 0 = λ e. omega arith in
      omega (arith, height_of_lem m z, height_of_lem n y, floor_log2_mono m n z h)
