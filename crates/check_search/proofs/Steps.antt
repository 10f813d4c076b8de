-- The steps of a search over the values of a row: the values are those that an evaluator answered, and a test was made of one of them.
-- Assumes nothing.
use Prim.Native.Nat.{ℕ, zero, suc, ◌+◌, ◌≤◌, ◌<◌}
use native.Mathlib.Numerals.{add-one}
use mathlib.Core.Path.{◌≡◌, refl, sym, ap, ◌∙◌}
use mathlib.Core.Bool.{Bool, true, false, not}
use mathlib.Core.List.{List, map}
use native.Mathlib.Omega.{arith}
use lib.ListN.{length, get_or, drop, get_or-map, length-map}
use borrow.Author.Tests.{not-true, not-false}
use Rattle.words.specs.Answers.{Answer}
use Rattle.xfield.specs.Extension.{Ext, zero_x, is_zero_x}
use Rattle.xfield.specs.XFieldElements.{ext_of}
use Rattle.xfield.specs.declared.XFieldElement.{XFieldElement}
use Rattle.table.specs.Columns.{row_at, aux_at}
use Rattle.table.specs.Challenges.{Challenges, challenges_of}
use Rattle.air.specs.Constraints.{initial_constraints}
use Rattle.air.specs.Check.{nonzero, first_in, first_in_rows, initial_at}
use Rattle.air.proofs.Scan.{value_zero, value_nonzero, values_done}
use Rattle.std.specs.Prelude.{Option, Some, None, is_some}
use Rattle.check_search.specs.declared.Nonzero.{Nonzero}
use Rattle.check_search.specs.Finds.{followed_by}

-- what stands past the end of an array of elements
abbrev pub zero_element : XFieldElement
zero_element = record { 0 = record { 0 = 0 }; 1 = record { 0 = 0 }; 2 = record { 0 = 0 } }

-- one row is searched from its first value on
pub one_row : (constraints : ℕ → List Ext) (group row : ℕ) (next : Answer)
    → first_in_rows constraints group row 1 next ≡ first_in group row 0 (drop 0 (constraints row)) next
unfolding first_in_rows
one_row constraints group row next = refl

-- the search of one row alone
pub row_alone : (constraints : ℕ → List Ext) (group row : ℕ) (next : Answer) {vs : List Ext} {a : Answer}
    → a ≡ first_in group row 0 vs next → vs ≡ constraints row → a ≡ first_in_rows constraints group row 1 next
row_alone constraints group row next e q = e ∙ ap (λ (l : List Ext). first_in group row 0 l next) q ∙ sym (one_row constraints group row next)

-- the search of row 0, of challenges and a sum that were read from words
pub initial_searched : (table aux challenges : List ℕ) {w : Challenges} {sum : Ext} (o : Option Nonzero)
    → ((next : Answer) → followed_by o next ≡ first_in 0 0 0 (initial_constraints w (row_at table 0) sum) next)
    → w ≡ challenges_of challenges → sum ≡ aux_at aux 0
    → (next : Answer) → followed_by o next ≡ first_in_rows (initial_at table aux challenges) 0 0 1 next
initial_searched table aux challenges o s w sum next =
    row_alone _ 0 0 next (s next) (λ i. initial_constraints (w i) (row_at table 0) (sum i))

-- ---- the values of one row
module _ (group row : ℕ) (values : List XFieldElement) (i : ℕ) (next : Answer) where
  abbrev vs : List Ext
  vs = map ext_of values

  sized : length vs ≡ length values
  sized = length-map values ext_of

  -- all have been passed
  pub all_passed : length values ≤ i → first_in group row i (drop i vs) next ≡ next
  all_passed h = values_done group row vs i next (omega (arith, sized))

  value_at_lem : get_or vs i zero_x ≡ ext_of (get_or values i zero_element)
  value_at_lem = get_or-map ext_of values i zero_element

  module _ (h : i < length values) where
    -- the value is zero: on to the next
    pub passed : {t : Bool} → t ≡ is_zero_x (ext_of (get_or values i zero_element)) → not t ≡ false
        → first_in group row i (drop i vs) next ≡ first_in group row (i + 1) (drop (i + 1) vs) next
    passed {t} f z = value_zero group row vs i next (omega (arith, sized)) (ap is_zero_x value_at_lem ∙ sym f ∙ not-false t z)

    -- it is not: it is the answer
    pub found : {t : Bool} → t ≡ is_zero_x (ext_of (get_or values i zero_element)) → not t ≡ true
        → first_in group row i (drop i vs) next ≡ nonzero group row i (ext_of (get_or values i zero_element))
    found {t} f z =
        value_nonzero group row vs i next (omega (arith, sized)) (ap is_zero_x value_at_lem ∙ sym f ∙ not-true t z) ∙ ap (nonzero group row i) value_at_lem

-- those before the k-th have been passed
module _ (group row : ℕ) (values : List XFieldElement) (next : Answer) where
  pub passed_before : (k : ℕ) → k ≤ length values → ((i : ℕ) → i < k → is_zero_x (ext_of (get_or values i zero_element)) ≡ true)
      → first_in group row 0 (map ext_of values) next ≡ first_in group row k (drop k (map ext_of values)) next
  passed_before zero h z = refl
  passed_before (suc k) h z =
      passed_before k (omega arith) (λ i l. z i (omega arith))
      ∙ rw (add-one k) at (passed group row values k next (omega arith) (sym (z k (omega arith))) refl)

-- ---- one search before another
pub some_found : (o : Option Nonzero) → is_some o ≡ true → (a b : Answer) → followed_by o a ≡ followed_by o b
some_found None e a b = absurd (let z : ◌≡◌ {A = ℕ} 0 1 = cc in omega arith)
some_found (Some n) e a b = refl

pub none_found : (o : Option Nonzero) → is_some o ≡ false → (a : Answer) → followed_by o a ≡ a
none_found None e a = refl
none_found (Some n) e a = absurd (let z : ◌≡◌ {A = ℕ} 0 1 = cc in omega arith)
