-- The running sum (document 01, "Extension"), of any summands: those of a table's rows are in LookupSum.antt.
use Rattle.std.specs.Prelude.{ℕ, zero, suc, ◌<◌, ◌≡◌, Bool, true, not, cond, ◌&&◌, ◌||◌, List, [], ◌++◌, eqb}
use Rattle.xfield.specs.Extension.{Ext, words_x, zero_x, add_x, scale_x, is_zero_x}
use Rattle.xfield.specs.Inverses.{inv_x}

-- what a row, or another that counts, brings to the sum
pub record Summand : Type 0 where
  pub flag : ℕ
  pub multiplicity : ℕ
  pub denominator : Ext

-- "each row whose CopyFlag is exactly 1 adds multiplicity × inverse of its denominator"
unfoldable pub add_summand : Ext → Summand → Ext
add_summand sum s = cond (eqb s.flag 1) (add_x sum (scale_x s.multiplicity (inv_x s.denominator))) sum

-- the sum of the first n summands, "from (0, 0, 0)". Row i's sum so far is that of the first i + 1
unfoldable pub running_sum : (ℕ → Summand) → ℕ → Ext
running_sum summands zero = zero_x
running_sum summands (suc n) = add_summand (running_sum summands n) (summands n)

-- the three words of an element
abbrev pub element_words : Ext → List ℕ
element_words x = words_x x

-- "Each row stores the sum so far, three words": the words of the first n sums
unfoldable pub sum_words : (ℕ → Summand) → ℕ → List ℕ
sum_words summands zero = []
sum_words summands (suc n) = sum_words summands n ++ element_words (running_sum summands (suc n))

-- nothing against a summand: "Refusal 9 is then met by a denominator of (0, 0, 0) and by nothing else"
unfoldable pub denominator_ok : Summand → Bool
denominator_ok s = not (eqb s.flag 1) || not (is_zero_x s.denominator)

-- nor against the first n
unfoldable pub denominators_ok : (ℕ → Summand) → ℕ → Bool
denominators_ok summands zero = true
denominators_ok summands (suc n) = denominators_ok summands n && denominator_ok (summands n)

-- one of the first n counts, and its denominator is (0, 0, 0)
abbrev pub ZeroDenominator : (ℕ → Summand) → ℕ → Type 0
ZeroDenominator summands n = (i : ℕ) × (i < n) × ((summands i).flag ≡ 1) × ((summands i).denominator ≡ zero_x)
