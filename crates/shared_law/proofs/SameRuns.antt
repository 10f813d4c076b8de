-- What a run of fill, pad, extend and check answers goes by four things of a list and by lengths: how it is judged, its height, whether none of its first rows'
-- denominators is zero, and the sum over its first rows (same_run). Pad never refuses after fill, and check answers zero where there is a row; where there is
-- none, it is asked of nothing on both. And the verdict that `run` answers is the last of these answers (run_last). Assumes nothing.
use Prim.Native.Nat.{ℕ, ◌/◌, ◌<◌}
use mathlib.Core.Path.{◌≡◌, refl, sym, ap, ap₂, ◌∙◌}
use mathlib.Core.Bool.{Bool, true, false, cond}
use mathlib.Core.List.{List, [], ◌∷◌}
use native.Mathlib.Decide.{dec_lt}
use native.Mathlib.Omega.{arith}
use lib.Dec.{eqb}
use lib.ListN.{length, get_or}
use Rattle.std.proofs.lemmas.List.{nil_from_length}
use Rattle.words.specs.Answers.{Answer, done, declined}
use Rattle.words.specs.Outcomes.{Outcome, outcome}
use Rattle.words.specs.Refusals.{Judgement, Fine, Declined}
use Rattle.words.specs.declared.Refusal.{Refusal}
use Rattle.words.proofs.Answers.{not_done}
use Rattle.words.proofs.Outcomes.{outcome_fine}
use Rattle.xfield.specs.Extension.{Ext, zero_x}
use Rattle.list.specs.Heights.{list_height}
use Rattle.list.specs.Holds.{HeldList, section_list, judge_held}
use Rattle.table.specs.Columns.{main_width, row_count, aux_shape}
use Rattle.table.specs.Challenges.{challenges_of}
use Rattle.table.specs.RowWords.{table_words}
use Rattle.sums.specs.RunningSum.{element_words, sum_words}
use Rattle.sums.specs.LookupSum.{summand_at, lookup_sum}
use Rattle.air.specs.Check.{zero_answer, check_all}
use Rattle.fill.specs.Filling.{filled, fill_reason, fill_all}
use Rattle.fill.specs.Padding.{pad_all}
use Rattle.fill.specs.Extending.{extend_reason, extend_all}
use Rattle.four_calls.specs.FourCalls.{first_rows_of, none_zero, sum_from, padded_table, extend_refusals}
use Rattle.four_calls.specs.Run.{Arrays, then_call, run_all}
use Rattle.four_calls.proofs.Calls.{fill_answer, fill_done, shape_by_length, final_rows, final_count, padded_is}
use Rattle.four_calls.proofs.FourCalls.{four_calls, after_fill, none_refuses}
use Rattle.shared_law.specs.NotNoticed.{and_then, run_answers}

-- ---- the answer of a call does not tell what it leaves

outcome_answer : {L : Type 0} (j : Judgement) (v : List ℕ) (l m x y : L) → (outcome j v l m).answer ≡ (outcome j v x y).answer
outcome_answer Fine v l m x y = refl
outcome_answer (Declined k) v l m x y = refl

refused_ends : (k : Refusal) (rest : List Answer) → and_then (declined k) rest ≡ declined k ∷ []
refused_ends k rest = rw (not_done k)

-- ---- one list

module _ (h : HeldList) (table aux challenges : List ℕ) where
  abbrev height : ℕ
  height = list_height (section_list h)

  abbrev padded : List ℕ
  padded = padded_table h table (list_height (section_list h))

  run_refused : {k : Refusal} → fill_reason h table ≡ Declined k → run_answers h table aux challenges ≡ declined k ∷ []
  unfolding run_answers fill_all
  run_refused {k} q =
      let a : (outcome (fill_reason h table) (list_height (section_list h) ∷ []) table (filled (section_list h) table)).answer ≡ declined k
      = ap (λ (j : Judgement). (outcome j (list_height (section_list h) ∷ []) table (filled (section_list h) table)).answer) q in
      rw a (refused_ends k _)

  module _ (fine : fill_reason h table ≡ Fine) where
    -- pad does not refuse what fill has left
    run_filled : run_answers h table aux challenges
        ≡ done (height ∷ []) ∷ done [] ∷ and_then (extend_all padded aux challenges).answer
        (check_all padded (extend_all padded aux challenges).left challenges ∷ [])
    unfolding run_answers
    run_filled =
        let a = fill_answer h table fine in
        rw (a, (after_fill h table height a).pad_done)

    reason_is : extend_reason padded aux challenges ≡ extend_refusals (section_list h) table aux challenges
    reason_is = (after_fill h table height (fill_answer h table fine)).extend_refuses aux challenges

    -- what extend answers
    extend_is : (extend_all padded aux challenges).answer
        ≡ (outcome (extend_refusals (section_list h) table aux challenges)
        (element_words (sum_from (challenges_of challenges) zero_x (first_rows_of (section_list h)))) aux aux).answer
    unfolding extend_all
    extend_is =
        outcome_answer (extend_reason padded aux challenges) (element_words (lookup_sum padded challenges)) aux
        (sum_words (summand_at padded challenges) (row_count padded)) aux aux
        ∙ ap₂ (λ (j : Judgement) (x : Ext). (outcome j (element_words x) aux aux).answer) reason_is
        ((after_fill h table height (fill_answer h table fine)).sum_is challenges)

    module _ (accepted : extend_refusals (section_list h) table aux challenges ≡ Fine) where
      check_zero : 0 < row_count table → check_all padded (extend_all padded aux challenges).left challenges ≡ zero_answer
      check_zero some =
          (four_calls h table aux challenges height
          (element_words (sum_from (challenges_of challenges) zero_x (first_rows_of (section_list h)))) some
          (none_refuses h table aux challenges fine accepted)).zero

      -- no row: the table is empty, and so is the aux
      padded_none : row_count table ≡ 0 → padded ≡ []
      unfolding table_words
      padded_none z =
          let f = fill_done h table height (fill_answer h table fine) in
          padded_is f ∙ ap table_words (nil_from_length (final_rows f) (final_count f ∙ z))

      check_none : row_count table ≡ 0
          → check_all padded (extend_all padded aux challenges).left challenges
          ≡ check_all [] (sum_words (summand_at [] challenges) (row_count [])) challenges
      unfolding extend_all
      check_none z =
          ap (λ (o : Outcome (List ℕ)). check_all padded o.left challenges) (outcome_fine _ _ _ (reason_is ∙ accepted))
          ∙ ap (λ (ws : List ℕ). check_all ws (sum_words (summand_at ws challenges) (row_count ws)) challenges) (padded_none z)

-- ---- two lists

module _ (S O : HeldList) (t u a b c : List ℕ) (rows : length t ≡ length u) (words : length a ≡ length b)
    (judged : judge_held S ≡ judge_held O) (heights : list_height (section_list S) ≡ list_height (section_list O))
    (zeros : none_zero (challenges_of c) (first_rows_of (section_list S)) ≡ none_zero (challenges_of c) (first_rows_of (section_list O)))
    (sums : sum_from (challenges_of c) zero_x (first_rows_of (section_list S)) ≡ sum_from (challenges_of c) zero_x (first_rows_of (section_list O))) where
  row_counts : row_count t ≡ row_count u
  row_counts = ap (λ (n : ℕ). n / main_width) rows

  fill_reasons : fill_reason S t ≡ fill_reason O u
  unfolding fill_reason
  fill_reasons = rw (shape_by_length t u rows, judged, heights, row_counts)

  extend_reasons : extend_refusals (section_list S) t a c ≡ extend_refusals (section_list O) u b c
  unfolding extend_refusals aux_shape
  extend_reasons = rw (zeros, row_counts, words)

  abbrev P : List ℕ
  P = padded_table S t (list_height (section_list S))

  abbrev Q : List ℕ
  Q = padded_table O u (list_height (section_list O))

  module _ (fs : fill_reason S t ≡ Fine) (fo : fill_reason O u ≡ Fine) where
    extends : (extend_all P a c).answer ≡ (extend_all Q b c).answer
    extends =
        extend_is S t a c fs
        ∙ ap₂ (λ (j : Judgement) (x : Ext). (outcome j (element_words x) a a).answer) extend_reasons sums
        ∙ outcome_answer (extend_refusals (section_list O) u b c)
        (element_words (sum_from (challenges_of c) zero_x (first_rows_of (section_list O)))) a a b b
        ∙ sym (extend_is O u b c fo)

    verdicts : extend_refusals (section_list S) t a c ≡ Fine
        → check_all P (extend_all P a c).left c ≡ check_all Q (extend_all Q b c).left c
    verdicts e = go (dec_lt 0 (row_count t)) where
      f : extend_refusals (section_list O) u b c ≡ Fine
      f = sym extend_reasons ∙ e

      go : Dec (0 < row_count t) → check_all P (extend_all P a c).left c ≡ check_all Q (extend_all Q b c).left c
      go (yes some) = check_zero S t a c fs e some ∙ sym (check_zero O u b c fo f (omega (arith, row_counts)))
      go (no none) =
          let z : row_count t ≡ 0 = omega arith in
          check_none S t a c fs e z ∙ sym (check_none O u b c fo f (sym row_counts ∙ z))

    last_two : and_then (extend_all P a c).answer (check_all P (extend_all P a c).left c ∷ [])
        ≡ and_then (extend_all Q b c).answer (check_all Q (extend_all Q b c).left c ∷ [])
    last_two = go (extend_refusals (section_list S) t a c) refl where
      go : (j : Judgement) → extend_refusals (section_list S) t a c ≡ j
          → and_then (extend_all P a c).answer (check_all P (extend_all P a c).left c ∷ [])
          ≡ and_then (extend_all Q b c).answer (check_all Q (extend_all Q b c).left c ∷ [])
      go Fine e = ap₂ (λ (x y : Answer). and_then x (y ∷ [])) extends (verdicts e)
      go (Declined k) e =
          let s : (extend_all P a c).answer ≡ declined k
          = extend_is S t a c fs
          ∙ ap (λ (j : Judgement). (outcome j (element_words (sum_from (challenges_of c) zero_x (first_rows_of (section_list S)))) a a).answer) e in
          let o : (extend_all Q b c).answer ≡ declined k = sym extends ∙ s in
          rw (s, o) (refused_ends k (check_all P (extend_all P a c).left c ∷ []) ∙ sym (refused_ends k (check_all Q (extend_all Q b c).left c ∷ [])))

  pub same_run : run_answers S t a c ≡ run_answers O u b c
  same_run = go (fill_reason S t) refl where
    go : (j : Judgement) → fill_reason S t ≡ j → run_answers S t a c ≡ run_answers O u b c
    go Fine fs =
        let fo = sym fill_reasons ∙ fs in
        run_filled S t a c fs
        ∙ ap₂ (λ (n : ℕ) (xs : List Answer). done (n ∷ []) ∷ done [] ∷ xs) heights (last_two fs fo)
        ∙ sym (run_filled O u b c fo)
    go (Declined k) q = run_refused S t a c q ∙ sym (run_refused O u b c (sym fill_reasons ∙ q))

-- ---- the verdict of `run`

abbrev last_answer : Answer → List Answer → Answer
last_answer x [] = x
last_answer x (y ∷ ys) = last_answer y ys

run_last : (h : HeldList) (table aux challenges : List ℕ) → (run_all h table aux challenges).answer ≡ last_answer (done []) (run_answers h table aux challenges)
unfolding run_all run_answers
run_last h table aux challenges =
    let filling = fill_all h table in
    let padding = pad_all filling.left (get_or filling.answer.values 0 0) in
    let extension = extend_all padding.left aux challenges in
    go (record { answer = filling.answer; left = record { table = filling.left; aux = aux } })
    (record { answer = padding.answer; left = record { table = padding.left; aux = aux } })
    (record { answer = extension.answer; left = record { table = padding.left; aux = extension.left } })
    (record { answer = check_all padding.left extension.left challenges; left = record { table = padding.left; aux = extension.left } })
  where
    three : (x y z w : Outcome Arrays) (r s t : Bool)
        → (cond r (cond s (cond t w z) y) x).answer
        ≡ last_answer (done []) (x.answer ∷ cond r (y.answer ∷ cond s (z.answer ∷ cond t (w.answer ∷ []) []) []) [])
    three x y z w true true true = refl
    three x y z w true true false = refl
    three x y z w true false t = refl
    three x y z w false s t = refl

    go : (x y z w : Outcome Arrays)
        → (then_call x (then_call y (then_call z w))).answer
        ≡ last_answer (done []) (and_then x.answer (and_then y.answer (and_then z.answer (w.answer ∷ []))))
    go x y z w = three x y z w (eqb x.answer.number 0) (eqb y.answer.number 0) (eqb z.answer.number 0)

pub same_verdict : (S O : HeldList) (t u a b c : List ℕ) → run_answers S t a c ≡ run_answers O u b c
    → (run_all S t a c).answer ≡ (run_all O u b c).answer
same_verdict S O t u a b c q = run_last S t a c ∙ ap (last_answer (done [])) q ∙ sym (run_last O u b c)
