-- What the code of the operations does to words of 64 bits, over plain numbers: sums that wrap and are mended by 2^32 − 1, and products by halves of 32
-- bits. A remainder is given by its quotient, and `omega` does the rest; it computes with p. Assumes nothing.
use Rattle.std.proofs.Common.{◌≡◌, ℕ, ◌+◌, ◌*◌, ◌/◌, ◌%◌, ◌^◌, ◌<◌, ◌≤◌, sym, refl, ap, ◌∙◌, mul-le-mul, div-add-mod', arith}
use native.Mathlib.Nat.{le-pred_of_lt, add-mul-mod_self_right}
use lib.Arith.{digits_div}
use Rattle.field.specs.Elements.{p, add_f}

-- ---- sums: where the sum of the reduced words passes 2^64, what is left of it mended by 2^32 − 1 is the sum modulo p, since p is 2^64 less 2^32 − 1
-- a and b are x and y reduced, s is their sum without what passes 2^64, r is s mended
pub sum_mended : (x y a b s r : ℕ) → a ≡ x % p → b ≡ y % p → s ≡ (a + b) % 2 ^ 64 → s < a → r ≡ s + 4294967295 → r ≡ add_f x y
unfolding add_f
sum_mended x y a b s r ea eb es l er = omega arith

-- ---- products of two words, by halves of 32 bits
halves : (a b : ℕ) → a < 2 ^ 32 → b < 2 ^ 32 → a * b ≤ 18446744065119617025
halves a b ha hb = mul-le-mul (le-pred_of_lt ha) (le-pred_of_lt hb)

-- what the four products of halves are at most: (2^32 − 1)²
module _ {u v : ℕ} (hu : u < 2 ^ 64) (hv : v < 2 ^ 64) where
  pub low_low : u % 2 ^ 32 * (v % 2 ^ 32) ≤ 18446744065119617025
  low_low = halves _ _ (omega arith) (omega arith)

  pub low_high : u % 2 ^ 32 * (v / 2 ^ 32) ≤ 18446744065119617025
  low_high = halves _ _ (omega arith) (omega arith)

  pub high_low : u / 2 ^ 32 * (v % 2 ^ 32) ≤ 18446744065119617025
  high_low = halves _ _ (omega arith) (omega arith)

  pub high_high : u / 2 ^ 32 * (v / 2 ^ 32) ≤ 18446744065119617025
  high_high = halves _ _ (omega arith) (omega arith)

by_halves : (u v : ℕ) → (u / 2 ^ 32 * 2 ^ 32 + u % 2 ^ 32) * (v / 2 ^ 32 * 2 ^ 32 + v % 2 ^ 32) ≡ u * v
by_halves u v i = div-add-mod' u (2 ^ 32) i * div-add-mod' v (2 ^ 32) i

-- the product of two numbers of two halves each, column by column
columns : (a₁ a₀ b₁ b₀ w t v : ℕ) → w ≡ a₀ * b₀ → t ≡ a₁ * b₀ + w / 2 ^ 32 → v ≡ t % 2 ^ 32 + a₀ * b₁
    → (a₁ * b₁ + t / 2 ^ 32 + v / 2 ^ 32) * 2 ^ 64 + (v % 2 ^ 32 * 2 ^ 32 + w % 2 ^ 32)
    ≡ (a₁ * 2 ^ 32 + a₀) * (b₁ * 2 ^ 32 + b₀)
columns a₁ a₀ b₁ b₀ w t v ew et ev = omega arith

-- its upper 64 bits
pub upper : (u v w t x : ℕ) → w ≡ u % 2 ^ 32 * (v % 2 ^ 32) → t ≡ u / 2 ^ 32 * (v % 2 ^ 32) + w / 2 ^ 32
    → x ≡ t % 2 ^ 32 + u % 2 ^ 32 * (v / 2 ^ 32) → u / 2 ^ 32 * (v / 2 ^ 32) + t / 2 ^ 32 + x / 2 ^ 32 ≡ u * v / 2 ^ 64
upper u v w t x ew et ex =
    sym (digits_div (u / 2 ^ 32 * (v / 2 ^ 32) + t / 2 ^ 32 + x / 2 ^ 32) (omega arith))
    ∙ ap (λ (n : ℕ). n / 2 ^ 64) (columns (u / 2 ^ 32) (u % 2 ^ 32) (v / 2 ^ 32) (v % 2 ^ 32) w t x ew et ex ∙ by_halves u v)

-- its lower 64 bits: m is the sum of the two middle products, n, without the bits that do not count
lower₀ : (a₁ a₀ b₁ b₀ m n : ℕ) → n ≡ a₀ * b₁ + a₁ * b₀ → m ≡ n % 2 ^ 64
    → (m % 2 ^ 32 * 2 ^ 32 + a₀ * b₀) + (a₁ * b₁ + n / 2 ^ 32) * 2 ^ 64 ≡ (a₁ * 2 ^ 32 + a₀) * (b₁ * 2 ^ 32 + b₀)
lower₀ a₁ a₀ b₁ b₀ m n en em = let h : m % 2 ^ 32 ≡ n % 2 ^ 32 = omega arith in omega (arith, div-add-mod' n (2 ^ 32), h)

pub lower : (u v m r : ℕ) → m ≡ (u % 2 ^ 32 * (v / 2 ^ 32) + u / 2 ^ 32 * (v % 2 ^ 32)) % 2 ^ 64
    → r ≡ (m % 2 ^ 32 * 2 ^ 32 + u % 2 ^ 32 * (v % 2 ^ 32)) % 2 ^ 64 → r ≡ u * v % 2 ^ 64
lower u v m r em er =
    er ∙ sym (add-mul-mod_self_right (m % 2 ^ 32 * 2 ^ 32 + u % 2 ^ 32 * (v % 2 ^ 32)) _ (2 ^ 64))
    ∙ ap (λ (n : ℕ). n % 2 ^ 64) (lower₀ (u / 2 ^ 32) (u % 2 ^ 32) (v / 2 ^ 32) (v % 2 ^ 32) m _ refl em ∙ by_halves u v)
