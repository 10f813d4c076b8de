-- A search row by row, and in each row index by index, as two nested loops make it: before each turn the whole search is the search from this
-- row, or from this value of this row, on, whatever follows it. Assumes nothing.
use Prim.Native.Nat.{ℕ, ◌+◌, ◌-◌, ◌<◌, ◌≤◌}
use mathlib.Core.Path.{◌≡◌, sym, ap, ◌∙◌}
use mathlib.Core.Bool.{Bool, true, false, not}
use mathlib.Core.List.{List, map}
use lib.ListN.{length, get_or, drop}
use Rattle.words.specs.Answers.{Answer}
use Rattle.xfield.specs.Extension.{Ext, is_zero_x}
use Rattle.xfield.specs.XFieldElements.{ext_of}
use Rattle.xfield.specs.declared.XFieldElement.{XFieldElement}
use Rattle.air.specs.Check.{AllZero, nonzero, first_in, first_in_rows}
use Rattle.air.proofs.Scan.{row_next, rows_done, values_zero}
use Rattle.check_search.proofs.Steps.{zero_element, all_passed, passed, found}

-- of the constraints of one group, in the rows before `limit`
module _ (constraints : ℕ → List Ext) (group limit : ℕ) where
  abbrev pub FromRow : ℕ → Type 0
  FromRow row = (next : Answer) → first_in_rows constraints group 0 limit next ≡ first_in_rows constraints group row (limit - row) next

  abbrev pub FromValue : ℕ → ℕ → List XFieldElement → Type 0
  FromValue row index values =
      (next : Answer) → first_in_rows constraints group 0 limit next
      ≡ first_in group row index (drop index (map ext_of values)) (first_in_rows constraints group (row + 1) (limit - (row + 1)) next)

  module _ (row : ℕ) where
    -- every row has been passed
    pub rows_passed : FromRow row → limit ≤ row → (next : Answer) → next ≡ first_in_rows constraints group 0 limit next
    rows_passed from h next = sym (from next ∙ rows_done constraints group row limit next h)

    -- the values of this row are all zero: on to the next
    pub row_passed : FromRow row → row < limit → AllZero (constraints row) → FromRow (row + 1)
    row_passed from h zero next = from next ∙ row_next constraints group row limit next h ∙ values_zero group row 0 _ zero

    module _ (values : List XFieldElement) where
      -- they are evaluated
      pub row_begun : FromRow row → row < limit → map ext_of values ≡ constraints row → FromValue row 0 values
      row_begun from h e next =
          from next
          ∙ row_next constraints group row limit next h
          ∙ ap (λ (vs : List Ext). first_in group row 0 vs (first_in_rows constraints group (row + 1) (limit - (row + 1)) next)) (sym e)

      module _ (i : ℕ) (from : FromValue row i values) where
        -- every value of this row has been passed
        pub values_passed : length values ≤ i → FromRow (row + 1)
        values_passed h next = from next ∙ all_passed group row values i _ h

        module _ (h : i < length values) {t : Bool} (f : t ≡ is_zero_x (ext_of (get_or values i zero_element))) where
          -- this value is zero: on to the next
          pub value_passed : t ≡ true → FromValue row (i + 1) values
          value_passed z next = from next ∙ passed group row values i _ h f (ap not z)

          -- it is not: it is the answer
          pub value_found : t ≡ false → (next : Answer) → nonzero group row i (ext_of (get_or values i zero_element)) ≡ first_in_rows constraints group 0 limit next
          value_found z next = sym (from next ∙ found group row values i _ h f (ap not z))
