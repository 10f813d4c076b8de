-- The rows of the counted places of a list, as weights of its used places. The height of what gets sections is the sum of the rows of the counted keys
-- (section_height); none of the denominators of its first rows is zero exactly where the counted keys with one weigh nothing (section_zeros). Assumes nothing.
use Prim.Native.Nat.{ℕ, ◌+◌}
use mathlib.Core.Path.{◌≡◌, refl, sym, ap, ◌∙◌}
use mathlib.Core.Bool.{Bool, true, false, cond, not, ◌&&◌, and-true, and-false, and_assoc}
use mathlib.Core.List.{List, [], ◌∷◌, ◌++◌, map, map-append}
use mathlib.Core.Logic.{◌≢◌}
use native.Mathlib.Nat.{add-zero}
use native.Mathlib.Omega.{arith}
use lib.Dec.{eqb}
use borrow.Author.Tests.{eq-eqb, ne_eqb}
use Rattle.xfield.specs.Extension.{is_zero_x}
use Rattle.isa.specs.Entries.{height}
use Rattle.list.specs.Lists.{used, entry_at, multiplicity_at}
use Rattle.list.specs.Heights.{sum_heights, list_height}
use Rattle.list.specs.Holds.{HeldList, section_list}
use Rattle.list.proofs.JudgedLists.{sum_append}
use Rattle.list.proofs.CountedLists.{counted_fold, counted_height}
use Rattle.list_record.proofs.RecordViews.{view_of}
use Rattle.table.specs.Columns.{Row}
use Rattle.table.specs.Challenges.{Challenges, row_denominator}
use Rattle.fill_sections.specs.Sections.{first_row}
use Rattle.four_calls.specs.FourCalls.{first_rows_at, first_rows_of, none_zero}
use Rattle.client_sum.specs.Client.{entry_denominator}
use Rattle.client_law.proofs.Servers.{rows_append, counted_first_rows}
use Rattle.shared_law.proofs.Sums.{sum_to}
use Rattle.shared_law.proofs.Occurring.{bit}
use Rattle.shared_law.proofs.Weighed.{Weight, weight_at, weigh}

-- ---- the height

-- the rows of a key, none where it is not counted
abbrev pub rows_weight : Weight
rows_weight m g k = cond (eqb m 0) 0 (height k)

pub section_height : (h : HeldList) → list_height (section_list h) ≡ weigh rows_weight (view_of h)
unfolding section_list weigh sum_to sum_heights view_of
section_height h =
    counted_height h.list
    ∙ counted_fold h.list (λ is. sum_heights (map (entry_at h.list) is)) (λ n. sum_to (weight_at rows_weight (view_of h)) n)
    (λ b i. b + height (entry_at h.list i)) more refl skip take (used h.list)
  where
    more : (is : List ℕ) (i : ℕ)
        → sum_heights (map (entry_at h.list) (is ++ (i ∷ []))) ≡ sum_heights (map (entry_at h.list) is) + height (entry_at h.list i)
    more is i =
        ap sum_heights (map-append (entry_at h.list) is (i ∷ []))
        ∙ sum_append (map (entry_at h.list) is) (entry_at h.list i ∷ [])
        ∙ ap (λ (n : ℕ). sum_heights (map (entry_at h.list) is) + n) (add-zero (height (entry_at h.list i)))

    skip : (n : ℕ) → multiplicity_at h.list n ≡ 0
        → sum_to (weight_at rows_weight (view_of h)) n + weight_at rows_weight (view_of h) n ≡ sum_to (weight_at rows_weight (view_of h)) n
    skip n z =
        let none : weight_at rows_weight (view_of h) n ≡ 0 = rw (eq-eqb (multiplicity_at h.list n) 0 z) in
        omega arith

    take : (n : ℕ) → multiplicity_at h.list n ≢ 0
        → sum_to (weight_at rows_weight (view_of h)) n + weight_at rows_weight (view_of h) n
        ≡ sum_to (weight_at rows_weight (view_of h)) n + height (entry_at h.list n)
    take n z = rw (ne_eqb (multiplicity_at h.list n) 0 z)

-- ---- the denominators

-- a counted key whose denominator is zero
abbrev pub zero_weight : Challenges → Weight
zero_weight c m g k = cond (eqb m 0) 0 (bit (is_zero_x (entry_denominator c k)))

none_join : (c : Challenges) (xs ys : List Row) → none_zero c (xs ++ ys) ≡ (none_zero c xs && none_zero c ys)
unfolding none_zero
none_join c [] ys = refl
none_join c (a ∷ xs) ys =
    ap (λ (t : Bool). not (is_zero_x (row_denominator c a)) && t) (none_join c xs ys)
    ∙ sym (and_assoc (not (is_zero_x (row_denominator c a))) (none_zero c xs) (none_zero c ys))

-- a sum with one more is 0 where it was and nothing comes
zero_more : (s : ℕ) (t : Bool) → eqb (s + bit t) 0 ≡ (eqb s 0 && not t)
zero_more s true = ne_eqb (s + 1) 0 (λ q. omega arith) ∙ sym (and-false (eqb s 0))
zero_more s false = ap (λ (n : ℕ). eqb n 0) (add-zero s) ∙ sym (and-true (eqb s 0))

pub section_zeros : (c : Challenges) (h : HeldList) → none_zero c (first_rows_of (section_list h)) ≡ eqb (weigh (zero_weight c) (view_of h)) 0
unfolding section_list weigh sum_to none_zero first_rows_at first_row view_of
section_zeros c h =
    ap (none_zero c) (counted_first_rows h.list)
    ∙ counted_fold h.list (λ is. none_zero c (first_rows_at h.list is)) (λ n. eqb (sum_to (weight_at (zero_weight c) (view_of h)) n) 0)
    (λ t i. t && not (is_zero_x (entry_denominator c (entry_at h.list i)))) more refl skip take (used h.list)
  where
    more : (is : List ℕ) (i : ℕ)
        → none_zero c (first_rows_at h.list (is ++ (i ∷ [])))
        ≡ (none_zero c (first_rows_at h.list is) && not (is_zero_x (entry_denominator c (entry_at h.list i))))
    more is i =
        ap (none_zero c) (rows_append h.list is (i ∷ []))
        ∙ none_join c (first_rows_at h.list is) (first_rows_at h.list (i ∷ []))
        ∙ ap (λ (t : Bool). none_zero c (first_rows_at h.list is) && t) (and-true (not (is_zero_x (entry_denominator c (entry_at h.list i)))))

    skip : (n : ℕ) → multiplicity_at h.list n ≡ 0
        → eqb (sum_to (weight_at (zero_weight c) (view_of h)) n + weight_at (zero_weight c) (view_of h) n) 0
        ≡ eqb (sum_to (weight_at (zero_weight c) (view_of h)) n) 0
    skip n z =
        let none : weight_at (zero_weight c) (view_of h) n ≡ 0 = rw (eq-eqb (multiplicity_at h.list n) 0 z) in
        ap (λ (m : ℕ). eqb (sum_to (weight_at (zero_weight c) (view_of h)) n + m) 0) none
        ∙ ap (λ (m : ℕ). eqb m 0) (add-zero (sum_to (weight_at (zero_weight c) (view_of h)) n))

    take : (n : ℕ) → multiplicity_at h.list n ≢ 0
        → eqb (sum_to (weight_at (zero_weight c) (view_of h)) n + weight_at (zero_weight c) (view_of h) n) 0
        ≡ (eqb (sum_to (weight_at (zero_weight c) (view_of h)) n) 0 && not (is_zero_x (entry_denominator c (entry_at h.list n))))
    take n z =
        let one : weight_at (zero_weight c) (view_of h) n ≡ bit (is_zero_x (entry_denominator c (entry_at h.list n)))
        = rw (ne_eqb (multiplicity_at h.list n) 0 z) in
        ap (λ (m : ℕ). eqb (sum_to (weight_at (zero_weight c) (view_of h)) n + m) 0) one
        ∙ zero_more (sum_to (weight_at (zero_weight c) (view_of h)) n) (is_zero_x (entry_denominator c (entry_at h.list n)))
