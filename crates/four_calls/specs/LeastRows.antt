-- No row is wasted (change request 8): the height that fill reports is the least number of rows of any honest table for the keys of the list that
-- get a section.
use Rattle.std.specs.Prelude.{ℕ, max, ◌≤◌, ◌≡◌, List}
use Rattle.list.specs.Lists.{U32List}
use Rattle.list.specs.Heights.{section_entries}
use Rattle.list.specs.Holds.{HeldList, section_list}
use Rattle.table.specs.Columns.{row_count}
use Rattle.air.specs.Check.{zero_answer, check_all}
use Rattle.row_bound.specs.OwnRows.{OwnRows}
use Rattle.four_calls.specs.FourCalls.{padded_table, extended_aux, NoneRefuses}

-- a table passes the check, and each entry of the list has a CopyFlag 1 row of its own there
pub record HonestFor (l : U32List) (table aux challenges : List ℕ) : Type 0 where
  pub zero : check_all table aux challenges ≡ zero_answer
  pub own : ℕ → ℕ
  pub own_rows : OwnRows table (section_entries l) own

-- it does so, and no table that does has fewer rows
pub record Shortest (l : U32List) (table aux challenges : List ℕ) : Type 0 where
  pub honest : HonestFor l table aux challenges
  pub none_shorter : (other other_aux other_challenges : List ℕ) → HonestFor l other other_aux other_challenges → row_count table ≤ row_count other

-- on as many rows as fill reports, or on one where it reports none, the four calls make a shortest table for the keys that get a section
abbrev pub FilledIsShortest : HeldList → List ℕ → List ℕ → List ℕ → ℕ → List ℕ → Type 0
FilledIsShortest h table aux challenges height sum =
    row_count table ≡ max height 1 → NoneRefuses h table aux challenges height sum
    → Shortest (section_list h) (padded_table h table height) (extended_aux h table height aux challenges) challenges
