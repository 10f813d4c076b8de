-- The table's end, of an admitted list with no open hold. The first rows of what gets sections are those of the counted places (counted_first_rows), and their
-- sum is that over all places, since a place that is not counted adds nothing (server_sum). Where no denominator of a key that gets a section is zero and
-- what is lent is right, neither fill nor extend declines (fill_fine, extend_fine), and the last sum stands in the last row of aux (last_sum). Assumes nothing.
use Prim.Native.Nat.{ℕ, zero, suc, ◌+◌, ◌-◌, ◌≤◌, ◌<◌}
use mathlib.Core.Path.{◌≡◌, refl, sym, ap, ◌∙◌}
use mathlib.Core.Bool.{true, not, and-eq-true_iff}
use mathlib.Core.List.{List, [], ◌∷◌, ◌++◌, map}
use mathlib.Core.Logic.{◌≢◌}
use native.Mathlib.Nat.{zero-add}
use native.Mathlib.Omega.{arith}
use borrow.Author.Tests.{le-ltb}
use Rattle.words.specs.Places.{places_from, places}
use Rattle.words.specs.Outcomes.{Outcome}
use Rattle.words.specs.Refusals.{Fine}
use Rattle.words.specs.declared.Refusal.TheVariants.{Shape, Short, Unreduced, Flat}
use Rattle.words.proofs.Judgements.{or_next, decline_false, decline_not_true}
use Rattle.words.proofs.Outcomes.{outcome_fine}
use Rattle.xfield.specs.Extension.{zero_x, add_x, scale_x, is_zero_x}
use Rattle.xfield.specs.Inverses.{inv_x}
use Rattle.xfield.proofs.Laws.{add_x_zero_right, scale_x_zero, reduced_same, is_zero_x_no}
use Rattle.isa.specs.declared.U32TableEntry.{U32TableEntry}
use Rattle.list.specs.Lists.{U32List, used, entry_at, multiplicity_at}
use Rattle.list.specs.Heights.{list_height}
use Rattle.list.specs.Counted.{counted_places, counted}
use Rattle.list.specs.Holds.{HeldList, section_list, judge_held}
use Rattle.list.proofs.CountedLists.{counted_used, counted_entry, counted_count, counted_fold, places_map}
use Rattle.list_record.proofs.RecordViews.{view_of}
use Rattle.table.specs.Columns.{Row, row_count, aux_at}
use Rattle.table.specs.Challenges.{Challenges, challenges_of}
use Rattle.sums.specs.RunningSum.{running_sum}
use Rattle.sums.specs.LookupSum.{summand_at, lookup_sum}
use Rattle.sums.proofs.SumWords.{sums_at}
use Rattle.sums.proofs.PlainSums.{sum_x, sum_x_reduced}
use Rattle.fill_sections.specs.Sections.{first_row}
use Rattle.fill.specs.Filling.{fill_reason}
use Rattle.fill.specs.Extending.{extend_all}
use Rattle.four_calls.specs.FourCalls.{first_rows_at, first_rows_of, none_zero, sum_from, extend_refusals, padded_table, extended_aux, AfterFill}
use Rattle.four_calls.proofs.Calls.{fill_answer, fill_done}
use Rattle.four_calls.proofs.Sums.{sum_join}
use Rattle.four_calls.proofs.FourCalls.{padded_rows_lem, after_fill}
use Rattle.client_sum.specs.Client.{entry_denominator}
use Rattle.client_law.specs.ClientLaw.{RightlyLent}
use Rattle.client_law.proofs.Requests.{entry_reduced}
use Rattle.client_law.proofs.TermSums.{term_at, term_sum}

-- ---- the sum over the first rows

pub rows_append : (l : U32List) (is js : List ℕ) → first_rows_at l (is ++ js) ≡ first_rows_at l is ++ first_rows_at l js
unfolding first_rows_at
rows_append l [] js = refl
rows_append l (i ∷ is) js = ap (λ (rs : List Row). first_row (entry_at l i) (multiplicity_at l i) ∷ rs) (rows_append l is js)

rows_map : (l : U32List) (is : List ℕ) → first_rows_at l is ≡ map (λ i. first_row (entry_at l i) (multiplicity_at l i)) is
unfolding first_rows_at
rows_map l [] = refl
rows_map l (i ∷ is) = ap (λ (rs : List Row). first_row (entry_at l i) (multiplicity_at l i) ∷ rs) (rows_map l is)

-- what stands at the places of the counted list stands at the counted places
pub counted_first_rows : (l : U32List) → first_rows_of (counted l) ≡ first_rows_at l (counted_places l)
counted_first_rows l =
    rows_map (counted l) (places (used (counted l)))
    ∙ ap (λ (n : ℕ). map (λ i. first_row (entry_at (counted l) i) (multiplicity_at (counted l) i)) (places n)) (counted_used l)
    ∙ places_map (λ i. first_row (entry_at (counted l) i) (multiplicity_at (counted l) i)) (λ i. first_row (entry_at l i) (multiplicity_at l i))
    (counted_places l) 0 (λ j h. rw (zero-add j, counted_entry l j h, counted_count l j h))
    ∙ sym (rows_map l (counted_places l))

pub server_sum : (c : Challenges) (h : HeldList) → sum_from c zero_x (first_rows_of (section_list h)) ≡ term_sum c (view_of h)
unfolding section_list term_sum sum_x sum_from first_rows_at first_row view_of
server_sum c h =
    ap (sum_from c zero_x) (counted_first_rows h.list)
    ∙ counted_fold h.list (λ is. sum_from c zero_x (first_rows_at h.list is)) (λ n. sum_x (term_at c (view_of h)) n)
    (λ x i. add_x x (term_at c (view_of h) i)) more refl skip (λ n z. refl) (used h.list)
  where
    more : (is : List ℕ) (i : ℕ)
        → sum_from c zero_x (first_rows_at h.list (is ++ (i ∷ []))) ≡ add_x (sum_from c zero_x (first_rows_at h.list is)) (term_at c (view_of h) i)
    more is i =
        ap (sum_from c zero_x) (rows_append h.list is (i ∷ []))
        ∙ sum_join c zero_x (first_rows_at h.list is) (first_rows_at h.list (i ∷ []))

    skip : (n : ℕ) → multiplicity_at h.list n ≡ 0
        → add_x (sum_x (term_at c (view_of h)) n) (term_at c (view_of h) n) ≡ sum_x (term_at c (view_of h)) n
    skip n z =
        let y = inv_x (entry_denominator c (entry_at h.list n)) in
        ap (λ (m : ℕ). add_x (sum_x (term_at c (view_of h)) n) (scale_x m y)) z
        ∙ ap (add_x (sum_x (term_at c (view_of h)) n)) (scale_x_zero y)
        ∙ add_x_zero_right (sum_x (term_at c (view_of h)) n) (sum_x_reduced (term_at c (view_of h)) n)

-- ---- no first row's denominator is zero

-- no denominator of a key of the list is zero
abbrev pub NoZeroSection : Challenges → U32List → Type 0
NoZeroSection c l = (i : ℕ) → i < used l → entry_denominator c (entry_at l i) ≢ zero_x

denominator_not_zero : (c : Challenges) (e : U32TableEntry) → entry_denominator c e ≢ zero_x → not (is_zero_x (entry_denominator c e)) ≡ true
denominator_not_zero c e n = rw (is_zero_x_no (entry_denominator c e) (λ z. n (sym (reduced_same _ (entry_reduced c e)) ∙ z)))

none_from : (c : Challenges) (l : U32List) (i n : ℕ) → ((j : ℕ) → i ≤ j → j < i + n → entry_denominator c (entry_at l j) ≢ zero_x)
    → none_zero c (first_rows_at l (places_from i n)) ≡ true
unfolding none_zero first_rows_at places_from first_row
none_from c l i zero f = refl
none_from c l i (suc n) f =
    (and-eq-true_iff _ _).1 (
      denominator_not_zero c (entry_at l i) (f i (omega arith) (omega arith)),
      none_from c l (suc i) n (λ j a b. f j (omega arith) (omega arith)),
    )

pub none_zero_lem : (c : Challenges) (l : U32List) → NoZeroSection c l → none_zero c (first_rows_of l) ≡ true
none_zero_lem c l each = none_from c l 0 (used l) (λ j a b. each j (omega arith))

-- ---- nothing is declined

module _ (h : HeldList) (table aux challenges : List ℕ) (lent : RightlyLent (list_height (section_list h)) table aux challenges) where
  abbrev l : U32List
  l = section_list h

  pub fill_fine : judge_held h ≡ Fine → fill_reason h table ≡ Fine
  unfolding fill_reason
  fill_fine judged =
      or_next _ (decline_not_true Shape lent.table_shaped)
      ∙ or_next _ judged
      ∙ decline_false Short (le-ltb (row_count table) (list_height l) lent.room)

  pub extend_fine : none_zero (challenges_of challenges) (first_rows_of l) ≡ true → extend_refusals l table aux challenges ≡ Fine
  unfolding extend_refusals
  extend_fine n =
      or_next _ (decline_not_true Shape ((and-eq-true_iff _ _).1 (lent.aux_shaped, lent.challenges_shaped)))
      ∙ or_next _ (decline_not_true Unreduced lent.challenges_reduced)
      ∙ decline_not_true Flat n

  -- the sum over the first rows stands in the last row
  pub last_sum : fill_reason h table ≡ Fine → extend_refusals l table aux challenges ≡ Fine → 0 < row_count table
      → aux_at (extended_aux h table (list_height l) aux challenges) (row_count table - 1) ≡ sum_from (challenges_of challenges) zero_x (first_rows_of l)
  unfolding extend_all lookup_sum
  last_sum f e some =
      let padded = padded_table h table (list_height l) in
      let answer = fill_answer h table f in
      let rows : row_count padded ≡ row_count table = padded_rows_lem (fill_done h table (list_height l) answer) in
      let after : AfterFill h table (list_height l) = after_fill h table (list_height l) answer in
      let s = summand_at padded challenges in
      let all : suc (row_count table - 1) ≡ row_count padded = omega arith in
      ap (λ (o : Outcome (List ℕ)). aux_at o.left (row_count table - 1)) (outcome_fine _ _ _ (after.extend_refuses aux challenges ∙ e))
      ∙ sums_at s (row_count padded) (row_count table - 1) (omega arith)
      ∙ ap (running_sum s) all
      ∙ after.sum_is challenges
