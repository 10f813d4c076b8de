-- padded_height h is the smallest power of two that is at least h and at least 256: it is one (padded_power), it is at least h
-- (padded_at_least) and 256 (padded_not_below), and no power of two that is at least both is smaller (padded_least). Each is shown of the
-- doublings from any power of two on, by induction on their number; h doublings are enough, since each adds one or more. It is the larger of 256 and the
-- library's next power of two (padded_next). Assumes nothing.
use Prim.Native.Nat.{ℕ, zero, suc, ◌+◌, ◌*◌, ◌^◌, ◌≤◌, ◌<◌, max}
use mathlib.Core.Path.{◌≡◌, refl, sym, subst, ◌∙◌}
use mathlib.Core.Logic.{◌⊎◌, inl, inr, ⊎_elim}
use native.Mathlib.Nat.{pow-succ', le_antisymm}
use native.Mathlib.Omega.{arith}
use lib.Pow.{pow_mono}
use borrow.Author.Tests.{lt-ltb, le-ltb}
use Rattle.std.specs.Int.{IsNextPowerOfTwo}
use Rattle.std.proofs.lemmas.Bool.{cases_lt}
use Rattle.words.specs.Limits.{min_padded_height}
use Rattle.list_record.specs.Plan.{doubled_to, padded_height}

-- ---- the doublings

pub doubled_stops : (n q h : ℕ) → h ≤ q → doubled_to n q h ≡ q
doubled_stops zero q h l = refl
doubled_stops (suc n) q h l = rw (le-ltb q h l)

-- ---- what they give

doubled_power : (n j h : ℕ) → (k : ℕ) × (doubled_to n (2 ^ j) h ≡ 2 ^ k)
doubled_power zero j h = (j, refl)
doubled_power (suc n) j h =
    ⊎_elim
    (λ (l : 2 ^ j < h). ((doubled_power n (suc j) h).0, rw (lt-ltb (2 ^ j) h l, ← pow-succ' 2 j) (doubled_power n (suc j) h).1))
    (λ (l : h ≤ 2 ^ j). (j, doubled_stops (suc n) (2 ^ j) h l))
    (cases_lt (2 ^ j) h)

doubled_at_least : (n q h : ℕ) → 1 ≤ q → h ≤ q + n → h ≤ doubled_to n q h
doubled_at_least zero q h p a = omega arith
doubled_at_least (suc n) q h p a =
    ⊎_elim
    (λ (l : q < h). rw (lt-ltb q h l) (doubled_at_least n (2 * q) h (omega arith) (omega arith)))
    (λ (l : h ≤ q). rw (le-ltb q h l) l)
    (cases_lt q h)

doubled_from : (n q h : ℕ) → q ≤ doubled_to n q h
doubled_from zero q h = omega arith
doubled_from (suc n) q h =
    ⊎_elim
    (λ (l : q < h). rw (lt-ltb q h l) (omega (arith, doubled_from n (2 * q) h)))
    (λ (l : h ≤ q). rw (le-ltb q h l) (omega arith))
    (cases_lt q h)

-- 256 is 2^8
eight : (k : ℕ) → 256 ≤ 2 ^ k → 8 ≤ k
eight k m =
    ⊎_elim
    (λ (l : k < 8). let k7 : k ≤ 7 = omega arith in let top : 2 ^ k ≤ 2 ^ 7 = pow_mono k7 in absurd (omega arith))
    (λ (l : 8 ≤ k). l)
    (cases_lt k 8)

-- 2^j < h ≤ 2^k leaves j < k
exponents : (j k h : ℕ) → 2 ^ j < h → h ≤ 2 ^ k → suc j ≤ k
exponents j k h a b =
    ⊎_elim (λ (l : j < k). l) (λ (l : k ≤ j). absurd (omega (arith, pow_mono l))) (cases_lt j k)

doubled_least : (n j k h : ℕ) → j ≤ k → h ≤ 2 ^ k → doubled_to n (2 ^ j) h ≤ 2 ^ k
doubled_least zero j k h l b = pow_mono l
doubled_least (suc n) j k h l b =
    ⊎_elim
    (λ (g : 2 ^ j < h). rw (lt-ltb (2 ^ j) h g, ← pow-succ' 2 j) (doubled_least n (suc j) k h (exponents j k h g b) b))
    (λ (g : h ≤ 2 ^ j). rw (le-ltb (2 ^ j) h g) (pow_mono l))
    (cases_lt (2 ^ j) h)

-- ---- the padded height

pub padded_power : (h : ℕ) → (k : ℕ) × (padded_height h ≡ 2 ^ k)
unfolding padded_height
padded_power h = doubled_power h 8 h

pub padded_at_least : (h : ℕ) → h ≤ padded_height h
unfolding padded_height
padded_at_least h = doubled_at_least h min_padded_height h (omega arith) (omega arith)

pub padded_not_below : (h : ℕ) → min_padded_height ≤ padded_height h
unfolding padded_height
padded_not_below h = doubled_from h min_padded_height h

-- and no smaller power of two is at least both
pub padded_least : (h k : ℕ) → h ≤ 2 ^ k → min_padded_height ≤ 2 ^ k → padded_height h ≤ 2 ^ k
unfolding padded_height
padded_least h k b m = doubled_least h 8 k h (eight k m) b

-- "An empty list now gives 256."
pub padded_zero : padded_height 0 ≡ 256
unfolding padded_height
padded_zero = refl

-- it is positive
pub padded_positive : (h : ℕ) → 1 ≤ padded_height h
padded_positive h = omega (arith, padded_not_below h)

-- the properties determine it
pub padded_unique : (h k : ℕ) → h ≤ 2 ^ k → min_padded_height ≤ 2 ^ k
    → ((j : ℕ) → h ≤ 2 ^ j → min_padded_height ≤ 2 ^ j → 2 ^ k ≤ 2 ^ j) → padded_height h ≡ 2 ^ k
padded_unique h k b m least =
    le_antisymm (padded_least h k b m)
    (subst (λ (x : ℕ). 2 ^ k ≤ x) (sym (padded_power h).1)
    (least (padded_power h).0 (subst (λ (x : ℕ). h ≤ x) (padded_power h).1 (padded_at_least h))
    (subst (λ (x : ℕ). min_padded_height ≤ x) (padded_power h).1 (padded_not_below h))))

-- ---- by the library's next power of two

pub padded_next : (h p : ℕ) → IsNextPowerOfTwo h p → max p min_padded_height ≡ padded_height h
padded_next h p (power, low, high) = go power.0 power.1 (cases_lt power.0 8) where
  go : (k : ℕ) → p ≡ 2 ^ k → (k < 8) ⊎ (8 ≤ k) → max p min_padded_height ≡ padded_height h
  go k e (inl l) =
      let k7 : k ≤ 7 = omega arith in
      let small : 2 ^ k ≤ 2 ^ 7 = pow_mono k7 in
      let m : max p min_padded_height ≡ 2 ^ 8 = omega (arith, e) in
      m ∙ sym (padded_unique h 8 (omega (arith, e)) (omega arith) (λ j a b. b))
  go zero e (inr l) = absurd (omega arith)
  go (suc k) e (inr l) =
      let large : 2 ^ 8 ≤ 2 ^ suc k = pow_mono l in
      let m : max p min_padded_height ≡ 2 ^ suc k = omega (arith, e) in
      let half : 2 ^ suc k ≡ 2 * 2 ^ k = pow-succ' 2 k in
      m
      ∙ sym
      (padded_unique h (suc k) (omega (arith, e)) (omega arith)
      (λ j a b. ⊎_elim
      (λ (s : j < suc k). let j_k : j ≤ k = omega arith in let under : 2 ^ j ≤ 2 ^ k = pow_mono j_k in absurd (omega (arith, e)))
      (λ (s : suc k ≤ j). pow_mono s)
      (cases_lt j (suc k))))

-- a power of two that is a word is at most 2^63
pub power_word : (k : ℕ) → 2 ^ k < 2 ^ 64 → 2 ^ k ≤ 2 ^ 63
power_word k w =
    ⊎_elim
    (λ (l : k < 64). let k63 : k ≤ 63 = omega arith in pow_mono k63)
    (λ (l : 64 ≤ k). let large : 2 ^ 64 ≤ 2 ^ k = pow_mono l in absurd (omega arith))
    (cases_lt k 64)
