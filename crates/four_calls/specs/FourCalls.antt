-- What four calls in a row leave (document 01, "Check": "The last sentence is one claim about four calls in a row, whatever table
-- and aux held at first: each takes what the one before answered or left, and nothing else writes there meanwhile";
-- proofs/FourCalls.antt). Of a list with its holds it is `section_list` whose first rows the table has: that of the keys whose multiplicity is not 0.
use Rattle.std.specs.Prelude.{ℕ, zero, suc, ◌≡◌, Bool, true, cond, not, ◌&&◌, List, [], ◌∷◌, ◌++◌, eqb}
use Rattle.words.specs.Answers.{done}
use Rattle.words.specs.Refusals.{decline_if, or_else, Judgement}
use Rattle.words.specs.declared.Refusal.TheVariants.{Shape, Unreduced, Flat}
use Rattle.xfield.specs.Extension.{Ext, zero_x, add_x, scale_x, is_zero_x}
use Rattle.xfield.specs.Inverses.{inv_x}
use Rattle.list.specs.Lists.{U32List, entry_at, multiplicity_at}
use Rattle.list.specs.Heights.{section_places}
use Rattle.list.specs.Holds.{HeldList, section_list}
use Rattle.table.specs.Columns.{Row, row_at, row_count, aux_shape, all_reduced}
use Rattle.table.specs.Challenges.{Challenges, challenges_of, challenges_shape, row_denominator}
use Rattle.sums.specs.LookupSum.{lookup_sum}
use Rattle.air.specs.Check.{zero_answer, check_all}
use Rattle.fill_sections.specs.Sections.{first_row}
use Rattle.fill.specs.Filling.{fill_all}
use Rattle.fill.specs.Padding.{pad_all}
use Rattle.fill.specs.Extending.{extend_reason, extend_all}

-- the first n rows of a table, in order
unfoldable pub table_rows_to : List ℕ → ℕ → List Row
table_rows_to table zero = []
table_rows_to table (suc n) = table_rows_to table n ++ (row_at table n ∷ [])

-- those of these rows whose CopyFlag is 1, in the same order
unfoldable pub copy_flag1 : List Row → List Row
copy_flag1 [] = []
copy_flag1 (r ∷ rs) = cond (eqb r.copy_flag 1) (r ∷ copy_flag1 rs) (copy_flag1 rs)

-- the CopyFlag 1 rows of a table
abbrev pub copy_flag1_rows : List ℕ → List Row
copy_flag1_rows table = copy_flag1 (table_rows_to table (row_count table))

-- a first row for each of these places of the list: all ten words written out, the Result that of the plain function
unfoldable pub first_rows_at : U32List → List ℕ → List Row
first_rows_at l [] = []
first_rows_at l (i ∷ is) = first_row (entry_at l i) (multiplicity_at l i) ∷ first_rows_at l is

-- for each place that gets a section, in list order
abbrev pub first_rows_of : U32List → List Row
first_rows_of l = first_rows_at l (section_places l)

-- ---- of rows, each with its multiplicity and its denominator
-- no denominator is zero
unfoldable pub none_zero : Challenges → List Row → Bool
none_zero c [] = true
none_zero c (r ∷ rs) = not (is_zero_x (row_denominator c r)) && none_zero c rs

-- the sum of multiplicity × inverse of the denominator, from a sum on
unfoldable pub sum_from : Challenges → Ext → List Row → Ext
sum_from c sum [] = sum
sum_from c sum (r ∷ rs) = sum_from c (add_x sum (scale_x r.lookup_multiplicity (inv_x (row_denominator c r)))) rs

-- ---- the calls, each on what the one before answered or left: pad takes the height that fill answered
abbrev pub filled_table : HeldList → List ℕ → List ℕ
filled_table h table = (fill_all h table).left

abbrev pub padded_table : HeldList → List ℕ → ℕ → List ℕ
padded_table h table height = (pad_all (filled_table h table) height).left

abbrev pub extended_aux : HeldList → List ℕ → ℕ → List ℕ → List ℕ → List ℕ
extended_aux h table height aux challenges = (extend_all (padded_table h table height) aux challenges).left

-- none of the three calls before the check refuses
pub record NoneRefuses (h : HeldList) (table aux challenges : List ℕ) (height : ℕ) (sum : List ℕ) : Type 0 where
  pub fill : (fill_all h table).answer ≡ done (height ∷ [])
  pub pad : (pad_all (filled_table h table) height).answer ≡ done []
  pub extend : (extend_all (padded_table h table height) aux challenges).answer ≡ done sum

-- the CopyFlag 1 rows of a table are the first rows of a list, and the check answers zero
pub record Honest (l : U32List) (table aux challenges : List ℕ) : Type 0 where
  pub first_rows : copy_flag1_rows table ≡ first_rows_of l
  pub zero : check_all table aux challenges ≡ zero_answer

-- ---- what can still be refused once fill has answered a height: nothing of the table
-- "Extend 1, 8, 9": 1 for aux and challenges alone, 8 for the challenges alone, 9 where a first row's denominator is zero
unfoldable pub extend_refusals : U32List → List ℕ → List ℕ → List ℕ → Judgement
extend_refusals l table aux challenges =
    or_else (decline_if (not (aux_shape table aux && challenges_shape challenges)) Shape)
    (or_else (decline_if (not (all_reduced challenges)) Unreduced)
    (decline_if (not (none_zero (challenges_of challenges) (first_rows_of l))) Flat))

pub record AfterFill (h : HeldList) (table : List ℕ) (height : ℕ) : Type 0 where
  pub pad_done : (pad_all (filled_table h table) height).answer ≡ done []
  pub extend_refuses : (aux challenges : List ℕ)
      → extend_reason (padded_table h table height) aux challenges ≡ extend_refusals (section_list h) table aux challenges
  -- the sum that extend answers is that over the first rows of the keys that get a section
  pub sum_is : (challenges : List ℕ)
      → lookup_sum (padded_table h table height) challenges ≡ sum_from (challenges_of challenges) zero_x (first_rows_of (section_list h))
