-- The reasons against a sum over a lookup table in their order, 1, 8, 9: what each test makes of the answer and of the aux words; that the sum over the
-- bytes is that over the cascade's places that hold 0, 1, .., 255 (bytes_summed); and that the answer is 9 exactly where some denominator is zero and
-- 1 and 8 are not met (byte_flat_exactly, cascade_flat_exactly). Assumes nothing.
use Prim.Native.Nat.{ℕ, ◌*◌, ◌<◌}
use mathlib.Core.Path.{◌≡◌, refl, sym, ap, subst, ◌∙◌}
use mathlib.Core.Logic.{◌↔◌}
use mathlib.Core.Bool.{Bool, true, false, not, ◌&&◌, and-eq-true_iff}
use mathlib.Core.List.{List}
use native.Mathlib.Omega.{arith}
use lib.ListN.{length, get_or, take}
use borrow.Author.Tests.{eqb-true, eq-eqb}
use Rattle.words.specs.Answers.{Answer, declined}
use Rattle.words.specs.Limits.{byte_rows}
use Rattle.words.specs.Outcomes.{Outcome, Leaves}
use Rattle.words.specs.Refusals.{decline_if, or_else, Judgement, Fine, Declined}
use Rattle.words.specs.declared.Refusal.TheVariants.{Shape, Unreduced, Flat}
use Rattle.words.proofs.Judgements.{decline_not_fine}
use Rattle.words.proofs.Outcomes.{outcome_declined}
use Rattle.xfield.specs.Extension.{Ext, Reduced, is_zero_x}
use Rattle.xfield.proofs.Laws.{sub_x_reduced}
use Rattle.table.specs.Columns.{aux_width, all_reduced}
use Rattle.sums.specs.RunningSum.{Summand, denominator_ok, denominators_ok, ZeroDenominator}
use Rattle.sums.proofs.RunningSums.{sum_cong}
use Rattle.sums.proofs.SumsAlike.{words_alike, denominators_alike}
use Rattle.sums.proofs.ZeroDenominators as Denominators
use Rattle.lookup.specs.ByteLookup.{byte_output, cascade_output}
use Rattle.lookup.specs.Cascades.{Cascade, capacity, used, cascade_shape, bytes_shape}
use Rattle.lookup_sums.specs.LookupSums.{LookupChallenges, lookup_challenge_words, lookup_challenges_of, lookup_denominator, lookup_summand, byte_summand, cascade_summand}
use Rattle.lookup_sums.specs.LookupSums.{sum_shape, places_reason, summed_as, byte_sum_reason, byte_sum_all, cascade_sum_reason, cascade_sum_all}
use Rattle.lookup_sums.specs.Flat.{ByteFlatExactly, CascadeFlatExactly}
use Rattle.lookup.proofs.LookupCases.{Shaped, shaped}
use Rattle.lookup_sums.proofs.OneSum.{byte_summand_lem}

-- ---- nothing against the summand of a value, with the challenges and the denominator that the code holds

pub place_ok : (keys ms challenges : List ℕ) (i : ℕ) {c : LookupChallenges} {d : Ext} → c ≡ lookup_challenges_of challenges
    → d ≡ lookup_denominator c (get_or keys i 0) (cascade_output (get_or keys i 0)) → denominator_ok (cascade_summand keys ms challenges i) ≡ not (is_zero_x d)
unfolding cascade_summand denominator_ok
place_ok keys ms challenges i e f = rw (f, e)

-- ---- 8 and 9

module _ (s : ℕ → Summand) (n : ℕ) (ms challenges : List ℕ) where
  abbrev reduced : Bool
  reduced = all_reduced challenges && all_reduced (take n ms)

  pub challenges_unreduced : all_reduced challenges ≡ false → places_reason s n ms challenges ≡ Declined Unreduced
  unfolding places_reason
  challenges_unreduced r = rw r

  pub multiplicities_unreduced : all_reduced challenges ≡ true → all_reduced (take n ms) ≡ false → places_reason s n ms challenges ≡ Declined Unreduced
  unfolding places_reason
  multiplicities_unreduced r m = rw (r, m)

  -- ---- 1 before them, of any shape; and 9: each of the other ways through the tests has another number

  module _ (shape : Bool) (aux : List ℕ) where
    abbrev reason : Judgement
    reason = or_else (decline_if (not shape) Shape) (places_reason s n ms challenges)

    wrong : shape ≡ false → reason ≡ Declined Shape
    wrong e = rw e

    unreduced : shape ≡ true → reduced ≡ false → reason ≡ Declined Unreduced
    unfolding places_reason
    unreduced e r = rw (e, r)

    zero_met : shape ≡ true → reduced ≡ true → denominators_ok s n ≡ false → reason ≡ Declined Flat
    unfolding places_reason
    zero_met e r d = rw (e, r, d)

    none_met : shape ≡ true → reduced ≡ true → denominators_ok s n ≡ true → reason ≡ Fine
    unfolding places_reason
    none_met e r d = rw (e, r, d)

    flat_exactly : ((i : ℕ) → Reduced (s i).denominator)
        → ((summed_as reason s n aux).answer ≡ declined Flat) ↔ ((shape ≡ true) × (reduced ≡ true) × ZeroDenominator s n)
    flat_exactly below = (
      told shape refl reduced refl (denominators_ok s n) refl,
      λ (a, b, z). ap (λ (o : Outcome (List ℕ)). o.answer) (outcome_declined _ aux _ (zero_met a b (exactly.1 z))),
    )
      where
        exactly : (denominators_ok s n ≡ false) ↔ ZeroDenominator s n
        exactly = Denominators.flat_exactly s n below

        other : {j : Judgement} → reason ≡ j → (summed_as reason s n aux).answer ≡ declined Flat → (summed_as j s n aux).answer.number ≡ 9
        other r e = ap (λ (j : Judgement). (summed_as j s n aux).answer.number) (sym r) ∙ ap (λ a. a.number) e

        told : (b : Bool) → shape ≡ b → (r : Bool) → reduced ≡ r → (d : Bool) → denominators_ok s n ≡ d
            → (summed_as reason s n aux).answer ≡ declined Flat → (shape ≡ true) × (reduced ≡ true) × ZeroDenominator s n
        told false a r b d c e = absurd (let z = other (wrong a) e in omega arith)
        told true a false b d c e = absurd (let z = other (unreduced a b) e in omega arith)
        told true a true b true c e = absurd (let z = other (none_met a b c) e in omega arith)
        told true a true b false c e = (a, b, exactly.0 c)

-- ---- the two sums

byte_reduced : (bytes challenges : List ℕ) (i : ℕ) → Reduced (byte_summand bytes challenges i).denominator
unfolding byte_summand lookup_denominator
byte_reduced bytes challenges i = sub_x_reduced _ _

cascade_reduced : (keys ms challenges : List ℕ) (i : ℕ) → Reduced (cascade_summand keys ms challenges i).denominator
unfolding cascade_summand lookup_denominator
cascade_reduced keys ms challenges i = sub_x_reduced _ _

pub byte_flat_exactly : (bytes challenges aux : List ℕ) → ByteFlatExactly bytes challenges aux
unfolding byte_sum_all byte_sum_reason
byte_flat_exactly bytes challenges aux =
    let s = byte_summand bytes challenges in
    let exactly = flat_exactly s byte_rows bytes challenges (bytes_shape bytes && sum_shape byte_rows challenges aux) aux (byte_reduced bytes challenges) in (
      λ e. (let o = exactly.0 e in record { shapes = o.0; reduced = o.1; zero_denominator = o.2 }),
      λ o. exactly.1 (o.shapes, o.reduced, o.zero_denominator),
    )

pub cascade_flat_exactly : (c : Cascade) (challenges aux : List ℕ) → CascadeFlatExactly c challenges aux
unfolding cascade_sum_all cascade_sum_reason
cascade_flat_exactly c challenges aux =
    let s = cascade_summand c.keys c.multiplicities challenges in
    let exactly =
    flat_exactly s (used c) c.multiplicities challenges (cascade_shape c && sum_shape (capacity c) challenges aux) aux
    (cascade_reduced c.keys c.multiplicities challenges) in (
      λ e. (let o = exactly.0 e in record { shapes = o.0; reduced = o.1; zero_denominator = o.2 }),
      λ o. exactly.1 (o.shapes, o.reduced, o.zero_denominator),
    )

-- ---- the shapes

pub sum_shaped : (places : ℕ) (challenges aux : List ℕ) → sum_shape places challenges aux ≡ true
    → (length challenges ≡ lookup_challenge_words) × (length aux ≡ aux_width * places)
unfolding sum_shape
sum_shaped places challenges aux e = let a = (and-eq-true_iff _ _).0 e in (eqb-true _ _ a.0, eqb-true _ _ a.1)

pub cascade_shaped : {c : Cascade} → Fine ≡ decline_if (not (cascade_shape c)) Shape → Shaped c
cascade_shaped e = shaped _ (decline_not_fine _ Shape (sym e))

-- where they are right, 8 and 9 decide; the summands have the challenges as the code holds them
pub bytes_summed_right : (bytes challenges aux : List ℕ) {c : LookupChallenges} {given : Answer} {left : List ℕ}
    → length bytes ≡ byte_rows → sum_shape byte_rows challenges aux ≡ true → c ≡ lookup_challenges_of challenges
    → (let s : ℕ → Summand = λ i. lookup_summand c i (byte_output i) (get_or bytes i 0) in
    Leaves (summed_as (places_reason s byte_rows bytes challenges) s byte_rows aux) given left)
    → Leaves (byte_sum_all bytes challenges aux) given left
unfolding byte_sum_all byte_sum_reason bytes_shape byte_summand
bytes_summed_right bytes challenges aux {given = given} {left = left} n r e k =
    let due : (LookupChallenges → Outcome (List ℕ)) =
    λ d. (let s : ℕ → Summand = λ i. lookup_summand d i (byte_output i) (get_or bytes i 0) in summed_as (places_reason s byte_rows bytes challenges) s byte_rows aux) in
    rw (eq-eqb _ _ n, r) (subst (λ d. Leaves (due d) given left) e k)

pub cascade_summed_right : (l : Cascade) (challenges aux : List ℕ) {c : LookupChallenges} {given : Answer} {left : List ℕ}
    → Fine ≡ decline_if (not (cascade_shape l)) Shape → sum_shape (capacity l) challenges aux ≡ true → c ≡ lookup_challenges_of challenges
    → (let s : ℕ → Summand = λ i. lookup_summand c (get_or l.keys i 0) (cascade_output (get_or l.keys i 0)) (get_or l.multiplicities i 0) in
    Leaves (summed_as (places_reason s (used l) l.multiplicities challenges) s (used l) aux) given left)
    → Leaves (cascade_sum_all l challenges aux) given left
unfolding cascade_sum_all cascade_sum_reason cascade_summand
cascade_summed_right l challenges aux {given = given} {left = left} n r e k =
    let due : (LookupChallenges → Outcome (List ℕ)) =
    λ d. (let s : ℕ → Summand = λ i. lookup_summand d (get_or l.keys i 0) (cascade_output (get_or l.keys i 0)) (get_or l.multiplicities i 0) in
    summed_as (places_reason s (used l) l.multiplicities challenges) s (used l) aux) in
    rw (decline_not_fine (cascade_shape l) Shape (sym n), r) (subst (λ d. Leaves (due d) given left) e k)

-- the sum over the bytes, by that over keys 0, 1, .., 255
pub bytes_summed : (keys bytes challenges aux : List ℕ) → ((i : ℕ) → i < byte_rows → get_or keys i 0 ≡ i)
    → summed_as (places_reason (cascade_summand keys bytes challenges) byte_rows bytes challenges) (cascade_summand keys bytes challenges) byte_rows aux
    ≡ summed_as (places_reason (byte_summand bytes challenges) byte_rows bytes challenges) (byte_summand bytes challenges) byte_rows aux
unfolding places_reason
bytes_summed keys bytes challenges aux f =
    let s = cascade_summand keys bytes challenges in
    let t = byte_summand bytes challenges in
    let alike : (i : ℕ) → i < byte_rows → s i ≡ t i = λ i h. byte_summand_lem keys bytes challenges i h (f i h) in
    rw (sum_cong s t byte_rows alike, words_alike s t byte_rows alike, denominators_alike s t byte_rows alike)
