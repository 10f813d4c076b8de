-- The denominators of a running sum. Something is against a summand exactly where it counts and its denominator is zero (not_ok_iff), and
-- something is against the first n exactly where it is against one of them (denominators_ok_iff, some_not_ok, by induction on n). So
-- reason 9 is a zero denominator and nothing else (flat_exactly); where it is not met, each denominator has an inverse (ok_inverse), since
-- zero alone has none. Assumes nothing.
use Prim.Native.Nat.{ℕ, zero, suc, ◌+◌, ◌<◌}
use mathlib.Core.Path.{◌≡◌, refl, sym, ◌∙◌}
use mathlib.Core.Logic.{◌↔◌}
use mathlib.Core.Bool.{Bool, true, false, not, ◌&&◌, ◌||◌, and-eq-true_iff, true≢false}
use native.Mathlib.Numerals.{add-one}
use native.Mathlib.Omega.{arith}
use lib.Dec.{eqb}
use borrow.Author.Count.{below_more}
use borrow.Author.Tests.{eqb-true, eq-eqb}
use Rattle.xfield.specs.Extension.{zero_x, reduce_x, HasInverse, Reduced, is_zero_x}
use Rattle.xfield.proofs.Laws.{reduced_same, is_zero_x_true, is_zero_x_yes, nonzero_has_inverse}
use Rattle.sums.specs.RunningSum.{Summand, denominator_ok, denominators_ok, ZeroDenominator}

-- ---- one summand

pub not_ok_iff : (s : Summand) → (denominator_ok s ≡ false) ↔ ((s.flag ≡ 1) × (reduce_x s.denominator ≡ zero_x))
unfolding denominator_ok
not_ok_iff s = (go (eqb s.flag 1) refl (is_zero_x s.denominator) refl, λ (f, z). rw (eq-eqb s.flag 1 f, is_zero_x_yes s.denominator z))
  where
    go : (t : Bool) → eqb s.flag 1 ≡ t → (u : Bool) → is_zero_x s.denominator ≡ u → (not t || not u) ≡ false
        → (s.flag ≡ 1) × (reduce_x s.denominator ≡ zero_x)
    go true a true b e = (eqb-true s.flag 1 a, is_zero_x_true s.denominator b)
    go true a false b e = absurd (true≢false e)
    go false a u b e = absurd (true≢false e)

pub ok_not_zero : (s : Summand) → denominator_ok s ≡ true → s.flag ≡ 1 → reduce_x s.denominator ≡ zero_x → ⊥
ok_not_zero s h f z = true≢false (sym h ∙ (not_ok_iff s).1 (f, z))

-- ---- the first n

module _ (s : ℕ → Summand) where
  pub denominators_ok_iff : (n : ℕ) → (denominators_ok s n ≡ true) ↔ ((i : ℕ) → i < n → denominator_ok (s i) ≡ true)
  unfolding denominators_ok
  denominators_ok_iff zero = (λ h i l. absurd (omega arith), λ g. refl)
  denominators_ok_iff (suc n) =
      let parts = and-eq-true_iff (denominators_ok s n) (denominator_ok (s n)) in
      let rest = denominators_ok_iff n in (
        λ h i l. below_more _ n (rest.0 (parts.0 h).0) (parts.0 h).1 i (omega arith),
        λ g. parts.1 (rest.1 (λ i l. g i (omega arith)), g n (omega arith)),
      )

  -- one summand more
  pub denominators_more : (i : ℕ) → denominators_ok s i ≡ true → denominator_ok (s i) ≡ true → denominators_ok s (i + 1) ≡ true
  unfolding denominators_ok
  denominators_more i h e = rw (add-one i, h) e

  -- one that is not ok
  pub denominators_not_ok : (n i : ℕ) → i < n → denominator_ok (s i) ≡ false → denominators_ok s n ≡ false
  denominators_not_ok n i l e = go (denominators_ok s n) refl
    where
      go : (t : Bool) → denominators_ok s n ≡ t → t ≡ false
      go true h = absurd (true≢false (sym ((denominators_ok_iff n).0 h i l) ∙ e))
      go false h = refl

  some_not_ok : (n : ℕ) → denominators_ok s n ≡ false → (i : ℕ) × (i < n) × (denominator_ok (s i) ≡ false)
  unfolding denominators_ok
  some_not_ok zero e = absurd (true≢false e)
  some_not_ok (suc n) e = go (some_not_ok n) (denominators_ok s n) refl (denominator_ok (s n)) refl e
    where
      go : (denominators_ok s n ≡ false → (i : ℕ) × (i < n) × (denominator_ok (s i) ≡ false))
          → (t : Bool) → denominators_ok s n ≡ t → (u : Bool) → denominator_ok (s n) ≡ u → (t && u) ≡ false
          → (i : ℕ) × (i < suc n) × (denominator_ok (s i) ≡ false)
      go before false a u b e = let r = before a in (r.0, omega (arith, r.1), r.2)
      go before true a false b e = (n, omega arith, b)
      go before true a true b e = absurd (true≢false e)

  -- "Refusal 9 is then met by a denominator of (0, 0, 0) and by nothing else"
  pub flat_exactly : (n : ℕ) → ((i : ℕ) → Reduced (s i).denominator) → (denominators_ok s n ≡ false) ↔ ZeroDenominator s n
  flat_exactly n below = (
    λ e. (let r = some_not_ok n e in let t = (not_ok_iff (s r.0)).0 r.2 in (r.0, r.1, t.0, sym (reduced_same _ (below r.0)) ∙ t.1)),
    λ (i, l, f, z). denominators_not_ok n i l ((not_ok_iff (s i)).1 (f, reduced_same _ (below i) ∙ z)),
  )

  -- else each has an inverse
  pub ok_inverse : (n : ℕ) → denominators_ok s n ≡ true → (i : ℕ) → i < n → (s i).flag ≡ 1 → HasInverse (s i).denominator
  ok_inverse n h i l f = nonzero_has_inverse (s i).denominator (ok_not_zero (s i) ((denominators_ok_iff n).0 h i l) f)
