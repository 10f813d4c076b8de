-- `sums::denominators_ok` meets its contract: `all` tells that nothing is against each summand, or of one that something is against. Assumes nothing.
use Rattle.std.proofs.Common.{◌≡◌, ◌<◌, ℕ, Bool, true, false, length, get_or, MatchBool, refl, sym, ◌∙◌, arith, rules, tests}
use Rattle.std.specs.List.{HoldsAt, AllWithin, range_with_len}
use Rattle.std.proofs.lemmas.List.FromFn.{get_or-range_with_len, length-range_with_len}
use Rattle.std.proofs.lemmas.Iterator.{cases_from_all, YieldsList-from_range}
use Rattle.sums.specs.RunningSum.{Summand, denominator_ok, denominators_ok}
use Rattle.sums.proofs.ZeroDenominators.{denominators_ok_iff, denominators_not_ok}
use Rattle.sums.proofs.denominators_ok.Goals as goal

-- the summands, by their numbers
module _ (s : ℕ → Summand) (n : ℕ) where
  at : (i : ℕ) → i < n → get_or (range_with_len 0 n) i 0 ≡ i
  at i l = get_or-range_with_len 0 n i 0 l ∙ omega arith

  told : (r : Bool) → MatchBool r (AllWithin (λ i. denominator_ok (s i) ≡ true) (range_with_len 0 n) 0 (length (range_with_len 0 n)))
      ((i : ℕ) × (i < length (range_with_len 0 n)) × HoldsAt (λ i. denominator_ok (s i) ≡ false) (range_with_len 0 n) i)
      → r ≡ denominators_ok s n
  told true each =
      sym ((denominators_ok_iff s n).1 (λ i l. rw (at i l) at (each i 0 (omega arith) (omega (arith, length-range_with_len 0 n)))))
  told false w =
      let l : w.0 < n = omega (arith, w.1, length-range_with_len 0 n) in
      sym (denominators_not_ok s n w.0 l (rw (at w.0 l) at (w.2 0)))

pub returns : goal.returns
returns g c =
    let s = g.S.Summands.summand c.args.summands.now in
    let n = c.count.result in
    let cases = cases_from_all _ _ _ (λ i. denominator_ok (s i) ≡ true) (λ i. denominator_ok (s i) ≡ false) c.all.ensures.ran
    (YieldsList-from_range 0 n n refl (omega arith)) (λ x q k. search (rules, tests)) (λ x q k. search (rules, tests)) in
    rw (← c.count.ensures) (told s n _ cases)
