-- `list_record::padded_height` meets its contract: it is the larger of 256 and the library's next power of two, which is a word exactly where the height
-- is at most 2^63. Assumes nothing.
use Rattle.std.proofs.Common.{◌≡◌, ℕ, ◌^◌, ◌≤◌, ◌<◌, max, Option, None, Some, MatchOption, ◌∙◌, arith, rules}
use Rattle.std.specs.Int.{IsNextPowerOfTwo}
use Rattle.words.specs.Limits.{min_padded_height}
use Rattle.list_record.specs.Plan.{padded_height}
use Rattle.list_record.proofs.PaddedHeight.{padded_next, power_word}
use Rattle.list_record.proofs.padded_height.Goals as goal

-- what `map_or` makes of the power
module _ (h r : ℕ) {Made : ℕ → Type 0} (larger : (power : ℕ) → Made power → r ≡ max power min_padded_height) where
  to_word : (power : Option ℕ) → MatchOption power (2 ^ 63 < h) (IsNextPowerOfTwo h) → MatchOption power (r ≡ 0) Made → h ≤ 2 ^ 63 → r ≡ padded_height h
  to_word (Some power) next made small = larger power made ∙ padded_next h power next
  to_word None high made small = absurd (omega arith)

  past_word : r < 2 ^ 64 → (power : Option ℕ) → MatchOption power (2 ^ 63 < h) (IsNextPowerOfTwo h) → MatchOption power (r ≡ 0) Made → 2 ^ 63 < h → r ≡ 0
  past_word word (Some power) next made high =
      let below = power_word next.0.0 (omega (arith, next.0.1, larger power made, word)) in
      absurd (omega (arith, next.0.1, next.1, below))
  past_word word None past made high = made

pub returns-clause-exact : goal.returns-clause-exact
returns-clause-exact c = to_word _ _ (λ power made. search rules) _ c.checked_next_power_of_two.ensures c.map_or.ensures

pub returns-clause-past_a_word : goal.returns-clause-past_a_word
returns-clause-past_a_word c = past_word _ _ (λ power made. search rules) (omega (arith, c.map_or.type_inv)) _ c.checked_next_power_of_two.ensures c.map_or.ensures
