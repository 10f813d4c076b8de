-- From what the four calls ensure, one after the other, to what `run` ensures: on each way out what is left is that of `run_all`. Where a
-- call refuses, the answer's number is not 0, and `none_refuses` tells that one of the conditions failed. Where none does, the check has
-- found a row or more, and the claim over the four calls says the rest.
use Prim.Native.Nat.{ℕ, ◌<◌}
use mathlib.Core.Path.{◌≡◌, refl, sym, ap, ◌∙◌, subst}
use mathlib.Core.Bool.{Bool, cond}
use mathlib.Core.List.{List, [], ◌∷◌}
use native.Mathlib.Omega.{arith}
use lib.ListN.{get_or}
use borrow.Author.Tests.{eq-eqb, ne_eqb}
use Rattle.xfield.specs.Extension.{zero_x}
use Rattle.words.specs.Answers.{Answer, done, declined}
use Rattle.words.specs.Outcomes.{Outcome}
use Rattle.words.specs.Refusals.{refusal_number, Judgement, Fine, Declined}
use Rattle.words.specs.declared.Refusal.{Refusal}
use Rattle.words.proofs.Answers.{number_positive, declined_not_done}
use Rattle.list.specs.Lists.{U32List}
use Rattle.list.specs.Heights.{list_height}
use Rattle.list.specs.Holds.{HeldList, section_list}
use Rattle.table.specs.Columns.{row_count}
use Rattle.table.specs.Challenges.{challenges_of}
use Rattle.air.specs.Check.{check_reason, first_nonzero, checked_as, check_all}
use Rattle.air.proofs.Judging.{accepted}
use Rattle.fill.specs.Filling.{fill_reason, fill_all}
use Rattle.fill.specs.Padding.{pad_all}
use Rattle.sums.specs.RunningSum.{element_words}
use Rattle.fill.specs.Extending.{extend_all}
use Rattle.four_calls.specs.FourCalls.{copy_flag1_rows, first_rows_of, sum_from, extend_refusals, padded_table, NoneRefuses}
use Rattle.four_calls.specs.Run.{Arrays, answered, then_call, run_all, Ran, RunsHonestly, RefusesNoMore}
use Rattle.four_calls.proofs.Calls.{fill_done}
use Rattle.four_calls.proofs.FourCalls.{padded_rows_lem, four_calls, none_refuses}

-- what `run` ensures
abbrev pub Ensured : HeldList → (table aux challenges : List ℕ) → Answer → (table_after aux_after : List ℕ) → Type 0
Ensured held table aux challenges answer table_after aux_after =
    Ran held table aux challenges answer table_after aux_after
    × (RunsHonestly held answer table_after × RefusesNoMore held table aux challenges answer)

refused_no_claim : (held : HeldList) (reason : Refusal) (table : List ℕ) → RunsHonestly held (declined reason) table
refused_no_claim held reason table e = absurd (omega (arith, number_positive reason))

-- a check that answers with the number 0 has found a row
checked_rows : (table aux challenges : List ℕ) → (check_all table aux challenges).number ≡ 0 → 0 < row_count table
unfolding check_all
checked_rows table aux challenges h = go (check_reason table aux challenges) refl h
  where
    go : (j : Judgement) → check_reason table aux challenges ≡ j → (checked_as j (first_nonzero table aux challenges)).number ≡ 0
        → 0 < row_count table
    go (Declined reason) e z = absurd (omega (arith, number_positive reason))
    go Fine e z = (accepted table aux challenges e).some_row

-- a call that refuses is the last; after one that does not comes the next
stops : (left next : Outcome Arrays) (reason : Refusal) → declined reason ≡ left.answer → then_call left next ≡ left
stops left next reason e =
    let z : refusal_number reason ≡ left.answer.number = ap (λ (a : Answer). a.number) e in
    ap (λ (b : Bool). cond b next left) (ne_eqb left.answer.number 0 (λ n. omega (arith, number_positive reason)))

goes_on : (left next : Outcome Arrays) (values : List ℕ) → done values ≡ left.answer → then_call left next ≡ next
goes_on left next values e =
    ap (λ (b : Bool). cond b next left) (eq-eqb left.answer.number 0 (sym (ap (λ (a : Answer). a.number) e)))

-- ---- the four ways out
module _ (held : HeldList) (table aux challenges : List ℕ) where
  abbrev l : U32List
  l = section_list held

  abbrev none : fill_reason held table ≡ Fine → extend_refusals l table aux challenges ≡ Fine
      → NoneRefuses held table aux challenges (list_height l) (element_words (sum_from (challenges_of challenges) zero_x (first_rows_of l)))
  none = none_refuses held table aux challenges

  pub fill_refused : (reason : Refusal) (after : List ℕ) → declined reason ≡ (fill_all held table).answer → after ≡ (fill_all held table).left
      → Ensured held table aux challenges (declined reason) after aux
  unfolding run_all
  fill_refused reason after a t = (
    rw (stops (answered (fill_all held table).answer (fill_all held table).left aux) _ reason a)
        (record { answer = a; left = ap (λ (w : List ℕ). record { table = w; aux = aux }) t }),
    (refused_no_claim held reason after, λ fine _ h. absurd (declined_not_done reason (a ∙ (none fine h).fill))),
  )

  module _ (height : ℕ) (filled : List ℕ) (fill_answer : done (height ∷ []) ≡ (fill_all held table).answer) (fill_table : filled ≡ (fill_all held table).left) where
    height_is_lem : fill_reason held table ≡ Fine → extend_refusals l table aux challenges ≡ Fine → height ≡ list_height l
    height_is_lem fine h = ap (λ (a : Answer). get_or a.values 0 0) (fill_answer ∙ (none fine h).fill)

    pads : fill_reason held table ≡ Fine → extend_refusals l table aux challenges ≡ Fine → (pad_all filled height).answer ≡ done []
    pads fine h = rw (fill_table, height_is_lem fine h) (none fine h).pad

    pub pad_refused : (reason : Refusal) (after : List ℕ) → declined reason ≡ (pad_all filled height).answer → after ≡ (pad_all filled height).left
        → Ensured held table aux challenges (declined reason) after aux
    unfolding run_all
    pad_refused reason after a t = (
      rw (← fill_answer, ← fill_table, stops (answered (pad_all filled height).answer (pad_all filled height).left aux) _ reason a)
          (record { answer = a; left = ap (λ (w : List ℕ). record { table = w; aux = aux }) t }),
      (refused_no_claim held reason after, λ fine _ h. absurd (declined_not_done reason (a ∙ pads fine h))),
    )

    module _ (padded : List ℕ) (pad_answer : done [] ≡ (pad_all filled height).answer) (pad_table : padded ≡ (pad_all filled height).left) where
      extends : fill_reason held table ≡ Fine → extend_refusals l table aux challenges ≡ Fine
          → (extend_all padded aux challenges).answer ≡ done (element_words (sum_from (challenges_of challenges) zero_x (first_rows_of l)))
      extends fine h = rw (pad_table, fill_table, height_is_lem fine h) (none fine h).extend

      pub extend_refused : (reason : Refusal) (after : List ℕ) → declined reason ≡ (extend_all padded aux challenges).answer
          → after ≡ (extend_all padded aux challenges).left → Ensured held table aux challenges (declined reason) padded after
      unfolding run_all
      extend_refused reason after a x = (
        rw (← fill_answer, ← fill_table, ← pad_answer, ← pad_table, stops (answered (extend_all padded aux challenges).answer padded (extend_all padded aux challenges).left) _ reason a)
            (record { answer = a; left = ap (λ (w : List ℕ). record { table = padded; aux = w }) x }),
        (
          refused_no_claim held reason padded,
          λ fine _ h. absurd (declined_not_done reason (a ∙ extends fine h)),
        ),
      )

      pub checked : (sum : List ℕ) (extended : List ℕ) (answer : Answer) → done sum ≡ (extend_all padded aux challenges).answer
          → extended ≡ (extend_all padded aux challenges).left → answer ≡ check_all padded extended challenges
          → Ensured held table aux challenges answer padded extended
      unfolding run_all
      checked sum extended answer a x v = (
        rw (← fill_answer, ← fill_table, ← pad_answer, ← pad_table, ← a, ← x)
            (record { answer = v; left = refl }),
        (
          λ z. honest (subst (λ (n : ℕ). 0 < n) same_rows (checked_rows padded extended challenges (ap (λ (b : Answer). b.number) (sym v) ∙ z))),
          λ fine n h. (honest n).0,
        ),
      )
        where
          padded_is : padded ≡ padded_table held table height
          padded_is = rw (pad_table, fill_table)

          same_rows : row_count padded ≡ row_count table
          same_rows = ap (λ (t : List ℕ). row_count t) padded_is ∙ padded_rows_lem (fill_done held table height (sym fill_answer))

          calls : NoneRefuses held table aux challenges height sum
          calls = record {
            fill = sym fill_answer;
            pad = rw (← fill_table) (sym pad_answer);
            extend = rw (← padded_is) (sym a);
          }

          honest : 0 < row_count table → (answer ≡ done []) × (copy_flag1_rows padded ≡ first_rows_of l)
          honest n =
              let c = four_calls held table aux challenges height sum n calls in
              (v ∙ rw (x, padded_is) c.zero, rw padded_is c.first_rows)
