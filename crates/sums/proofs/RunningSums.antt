-- A running sum. A summand that does not count adds nothing, one that does its multiplicity over its denominator; the next sum is the last
-- with the next summand; its words are below p, and it depends on the summands before it alone, by induction on the summands. Assumes nothing.
use Prim.Native.Nat.{ℕ, zero, suc, ◌+◌, ◌<◌}
use mathlib.Core.Path.{◌≡◌, refl, ap, ◌∙◌}
use mathlib.Core.Bool.{Bool, true, false, cond}
use native.Mathlib.Numerals.{add-one}
use native.Mathlib.Omega.{arith}
use lib.Dec.{eqb}
use borrow.Author.Tests.{eq-eqb, ne_eqb}
use Rattle.xfield.specs.Extension.{Ext, add_x, scale_x, Reduced, InverseOrZeroX}
use Rattle.xfield.specs.Inverses.{inv_x}
use Rattle.xfield.proofs.Inverses.{inv_x_only}
use Rattle.xfield.proofs.Laws.{zero_x_reduced, add_x_reduced}
use Rattle.sums.specs.RunningSum.{Summand, add_summand, running_sum}

-- ---- a summand
pub adds_nothing : (sum : Ext) (s : Summand) → s.flag ≡ 0 → add_summand sum s ≡ sum
unfolding add_summand
adds_nothing sum s f = rw (ne_eqb s.flag 1 (omega arith))

pub adds_share : (sum : Ext) (s : Summand) → s.flag ≡ 1 → add_summand sum s ≡ add_x sum (scale_x s.multiplicity (inv_x s.denominator))
unfolding add_summand
adds_share sum s f = rw (eq-eqb s.flag 1 f)

-- as the code makes it, step by step
pub share_added : (sum : Ext) (s : Summand) {m : ℕ} {d i product next : Ext} → s.flag ≡ 1 → s.multiplicity ≡ m → s.denominator ≡ d
    → InverseOrZeroX d i → product ≡ scale_x m i → next ≡ add_x sum product → next ≡ add_summand sum s
share_added sum s f m d i p e = let inverse = inv_x_only _ _ i in let whole = adds_share sum s f in cc

-- ---- the sums
module _ (s : ℕ → Summand) where
  pub sum_turn : (i : ℕ) {sum next : Ext} → sum ≡ running_sum s i → next ≡ add_summand sum (s i) → next ≡ running_sum s (i + 1)
  unfolding running_sum
  sum_turn i e f = rw add-one (f ∙ ap (λ (x : Ext). add_summand x (s i)) e)

  pub sum_reduced : (n : ℕ) → Reduced (running_sum s n)
  unfolding running_sum add_summand
  sum_reduced zero = zero_x_reduced
  sum_reduced (suc n) = either (eqb (s n).flag 1) (sum_reduced n)
    where
      either : (t : Bool) → Reduced (running_sum s n)
          → Reduced (cond t (add_x (running_sum s n) (scale_x (s n).multiplicity (inv_x (s n).denominator))) (running_sum s n))
      either true h = add_x_reduced _ _
      either false h = h

-- it depends on the first n summands alone
pub sum_cong : (s t : ℕ → Summand) (n : ℕ) → ((i : ℕ) → i < n → s i ≡ t i) → running_sum s n ≡ running_sum t n
unfolding running_sum
sum_cong s t zero f = refl
sum_cong s t (suc n) f = rw (sum_cong s t n (λ i l. f i (omega arith)), f n (omega arith))
