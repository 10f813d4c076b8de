-- The words of running sums of equal summands are equal, and so is what is against their denominators: by induction on the summands. Assumes
-- nothing.
use Prim.Native.Nat.{ℕ, zero, suc, ◌<◌}
use mathlib.Core.Path.{◌≡◌, refl, ap₂}
use mathlib.Core.Bool.{Bool, ◌&&◌}
use mathlib.Core.List.{List, ◌++◌}
use native.Mathlib.Omega.{arith}
use Rattle.xfield.specs.Extension.{Ext}
use Rattle.sums.specs.RunningSum.{Summand, element_words, sum_words, denominator_ok, denominators_ok}
use Rattle.sums.proofs.RunningSums.{sum_cong}

module _ (s t : ℕ → Summand) where
  abbrev Alike : ℕ → Type 0
  Alike n = (i : ℕ) → i < n → s i ≡ t i

  pub words_alike : (n : ℕ) → Alike n → sum_words s n ≡ sum_words t n
  unfolding sum_words
  words_alike zero e = refl
  words_alike (suc n) e =
      ap₂ (λ (ws : List ℕ) (x : Ext). ws ++ element_words x) (words_alike n (λ i h. e i (omega arith))) (sum_cong s t (suc n) e)

  pub denominators_alike : (n : ℕ) → Alike n → denominators_ok s n ≡ denominators_ok t n
  unfolding denominators_ok
  denominators_alike zero e = refl
  denominators_alike (suc n) e =
      ap₂ (λ (b : Bool) (x : Summand). b && denominator_ok x) (denominators_alike n (λ i h. e i (omega arith))) (e n (omega arith))
