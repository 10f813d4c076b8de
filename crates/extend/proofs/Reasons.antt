-- The reasons against an extension in their order, 1, 8, 9: what each answer of the three tests makes of `extend_reason`, what it tells that
-- there is none, what `extend_all` makes of it, and that its answer is 9 exactly where some CopyFlag 1 row's denominator is zero and 1 and 8
-- are not met. Assumes nothing.
use Prim.Native.Nat.{ℕ}
use mathlib.Core.Path.{◌≡◌, refl, sym, ap, ◌∙◌}
use mathlib.Core.Logic.{◌↔◌}
use mathlib.Core.Bool.{Bool, true, false, ◌&&◌, and-eq-true_iff}
use mathlib.Core.List.{List}
use native.Mathlib.Omega.{arith}
use Rattle.std.specs.Prelude.{Ok}
use Rattle.words.specs.Answers.{done, declined}
use Rattle.words.specs.Outcomes.{Outcome, outcome, Leaves}
use Rattle.words.specs.Refusals.{Judgement, Fine, Declined}
use Rattle.words.specs.declared.Refusal.{Refusal}
use Rattle.words.specs.declared.Refusal.TheVariants.{Shape, Unreduced, Flat}
use Rattle.words.proofs.Judgements.{or_both, decline_not_fine}
use Rattle.words.proofs.Outcomes.{outcome_declined, leaves_done, leaves_declined}
use Rattle.xfield.specs.Extension.{Ext}
use Rattle.xfield.specs.declared.XFieldElement.{XFieldElement}
use Rattle.xfield.specs.XFieldElements.{ext_of}
use Rattle.table.specs.Columns.{row_at, row_count, table_shape, aux_shape, all_reduced}
use Rattle.table.specs.Challenges.{challenges_of, challenges_shape}
use Rattle.table.specs.Layouts.{challenges_in}
use Rattle.sums.specs.RunningSum.{denominators_ok, ZeroDenominator}
use Rattle.sums.specs.LookupSum.{summand_of, summand_at, lookup_sum}
use Rattle.table.proofs.Rows.{Shaped, shaped, all_reduced_lem}
use Rattle.sums.proofs.ZeroDenominators.{denominators_more}
use Rattle.sums.proofs.ZeroDenominators as Denominators
use Rattle.sums.specs.RunningSum.{element_words, sum_words}
use Rattle.fill.specs.Extending.{extend_reason, extend_all}
use Rattle.extend.specs.declared.Rows.{Rows}
use Rattle.extend.specs.Extensions.{summands_in, extended_answer}
use Rattle.extend.specs.Flat.{OnlyFlat, FlatExactly}
use Rattle.sums.proofs.LookupSums.{summand_reduced}

module _ (table aux challenges : List ℕ) where
  abbrev shape : Bool
  shape = table_shape table && (aux_shape table aux && challenges_shape challenges)

  abbrev reduced : Bool
  reduced = all_reduced table && all_reduced challenges

  abbrev none_zero_lem : Bool
  none_zero_lem = denominators_ok (summand_at table challenges) (row_count table)

  -- ---- the tests
  pub no_shape : shape ≡ false → extend_reason table aux challenges ≡ Declined Shape
  unfolding extend_reason
  no_shape s = rw s

  pub unreduced : shape ≡ true → reduced ≡ false → extend_reason table aux challenges ≡ Declined Unreduced
  unfolding extend_reason
  unreduced s r = rw (s, r)

  pub flat : shape ≡ true → reduced ≡ true → none_zero_lem ≡ false → extend_reason table aux challenges ≡ Declined Flat
  unfolding extend_reason
  flat s r d = rw (s, r, d)

  pub fine : shape ≡ true → reduced ≡ true → none_zero_lem ≡ true → extend_reason table aux challenges ≡ Fine
  unfolding extend_reason
  fine s r d = rw (s, r, d)

  -- ---- what it tells that there is no reason
  pub record Extendable : Type 0 where
    pub shapes : Shaped table aux challenges
    pub table_reduced : all_reduced table ≡ true
    pub challenges_reduced : all_reduced challenges ≡ true
    pub denominators : none_zero_lem ≡ true

  pub extendable : extend_reason table aux challenges ≡ Fine → Extendable
  unfolding extend_reason
  extendable h =
      let one = or_both _ _ h in
      let eight = or_both _ _ one.1 in
      let words = (and-eq-true_iff (all_reduced table) (all_reduced challenges)).0 (decline_not_fine reduced Unreduced eight.0) in
      record {
        shapes = shaped table aux challenges (decline_not_fine shape Shape one.0);
        table_reduced = words.0;
        challenges_reduced = words.1;
        denominators = decline_not_fine none_zero_lem Flat eight.1;
      }

  -- ---- answers and aux words
  pub extended_refused : {reason : Refusal}
      → extend_reason table aux challenges ≡ Declined reason → Leaves (extend_all table aux challenges) (declined reason) aux
  unfolding extend_all
  extended_refused e = leaves_declined _ _ _ e

  pub extended : {sum : XFieldElement} {after : List ℕ}
      → extend_reason table aux challenges ≡ Fine → ext_of sum ≡ lookup_sum table challenges
      → after ≡ sum_words (summand_at table challenges) (row_count table) → Leaves (extend_all table aux challenges) (extended_answer (Ok sum)) after
  unfolding extend_all
  extended e s w = leaves_done _ _ _ e (ap (λ (x : Ext). done (element_words x)) s) w

  -- ---- 9: each of the other ways through the tests has another number
  pub flat_exactly : FlatExactly table aux challenges
  unfolding extend_all
  flat_exactly = (
    told shape refl reduced refl none_zero_lem refl,
    λ o. ap (λ due. due.answer) (outcome_declined _ aux _ (flat o.shapes o.reduced (exactly.1 o.zero_denominator))),
  )
    where
      exactly : (none_zero_lem ≡ false) ↔ ZeroDenominator (summand_at table challenges) (row_count table)
      exactly = Denominators.flat_exactly (summand_at table challenges) (row_count table) (summand_reduced table challenges)

      due : Judgement → Outcome (List ℕ)
      due reason =
          outcome reason (element_words (lookup_sum table challenges)) aux (sum_words (summand_at table challenges) (row_count table))

      other : {reason : Judgement} → extend_reason table aux challenges ≡ reason
          → (extend_all table aux challenges).answer ≡ declined Flat → (due reason).answer.number ≡ 9
      other r e = ap (λ reason. (due reason).answer.number) (sym r) ∙ ap (λ a. a.number) e

      told : (s : Bool) → shape ≡ s → (r : Bool) → reduced ≡ r → (d : Bool) → none_zero_lem ≡ d
          → (extend_all table aux challenges).answer ≡ declined Flat → OnlyFlat table aux challenges
      told false a r b d c e = absurd (let z = other (no_shape a) e in omega arith)
      told true a false b d c e = absurd (let z = other (unreduced a b) e in omega arith)
      told true a true b true c e = absurd (let z = other (fine a b c) e in omega arith)
      told true a true b false c e = record { shapes = a; reduced = b; zero_denominator = exactly.0 c }

-- ---- the rows that the code has
pub lent : (rows : Rows) (table challenges : List ℕ) → rows.table.now ≡ table → challenges_in rows.challenges ≡ challenges_of challenges
    → summands_in rows ≡ summand_at table challenges
unfolding summand_at
lent rows table challenges t c = λ j i. summand_of (c j) (row_at (t j) i)

pub judged_lent : (rows : Rows) (table challenges : List ℕ) → rows.table.now ≡ table → challenges_in rows.challenges ≡ challenges_of challenges
    → denominators_ok (summands_in rows) (row_count rows.table.now) ≡ denominators_ok (summand_at table challenges) (row_count table)
judged_lent rows table challenges t c = λ j. denominators_ok (lent rows table challenges t c j) (row_count (t j))

-- what the judgement is proved by
pub ruleset judge_steps = (no_shape, unreduced, flat, fine, shaped, judged_lent)
