-- No shorter honest table (change request 8): "Let a table of one row or more pass the check, and let a list of admitted entries each have a
-- CopyFlag 1 row of its own there, with its CI, LHS and RHS. Then that table has at least as many rows as the height that filling reports for
-- the list. Split is included." The three statements below are proved for every table, aux and challenges, whoever made them (proofs/RowBound.antt).
use Rattle.std.specs.Prelude.{ℕ, ◌<◌, ◌≤◌, ◌≡◌, ◌≢◌, List, [], ◌∷◌, length, get_or}
use Rattle.isa.specs.declared.U32TableEntry.{U32TableEntry}
use Rattle.isa.specs.Entries.{entry}
use Rattle.words.specs.Answers.{done}
use Rattle.list.specs.Heights.{section_entries, sum_heights}
use Rattle.list.specs.Holds.{HeldList, section_list}
use Rattle.table.specs.Columns.{Row, row_at, row_count}
use Rattle.air.specs.Check.{zero_answer, check_all}
use Rattle.fill.specs.Filling.{fill_all}

-- "with its CI, LHS and RHS": the entry that a row is about
abbrev pub entry_of : Row → U32TableEntry
entry_of row = entry row.ci row.lhs row.rhs

-- the entry at a position of a list of entries
abbrev pub entry_in : List U32TableEntry → ℕ → U32TableEntry
entry_in es k = get_or es k (entry 0 0 0)

-- "each have a CopyFlag 1 row of its own there": `own` takes every position of the list to such a row of the table, no two positions to one
-- row. So an entry that is listed twice has two rows
pub record OwnRows (table : List ℕ) (es : List U32TableEntry) (own : ℕ → ℕ) : Type 0 where
  pub inside : (k : ℕ) → k < length es → own k < row_count table
  pub flagged : (k : ℕ) → k < length es → (row_at table (own k)).copy_flag ≡ 1
  pub tells : (k : ℕ) → k < length es → entry_of (row_at table (own k)) ≡ entry_in es k
  pub apart : (j k : ℕ) → j < length es → k < length es → own j ≡ own k → j ≡ k

-- A table that passes has at least as many rows as the heights of the entries together, for any list of entries. That they are admitted is no
-- condition, since the CopyFlag 1 rows of such a table are in range; nor is it that there is a row, since the check refuses a table of none
abbrev pub NoShorter : (table aux challenges : List ℕ) → Type 0
NoShorter table aux challenges =
    check_all table aux challenges ≡ zero_answer → (es : List U32TableEntry) (own : ℕ → ℕ) → OwnRows table es own → sum_heights es ≤ row_count table

-- "at least as many rows as the height that filling reports for the list", of whatever table was lent to it. The entries of the list are those that
-- get a section: keys whose multiplicity is 0 are left out (request 11), and need no row
abbrev pub NoShorterThanFilled : (table aux challenges : List ℕ) → Type 0
NoShorterThanFilled table aux challenges =
    check_all table aux challenges ≡ zero_answer → (held : HeldList) (own : ℕ → ℕ) → OwnRows table (section_entries (section_list held)) own
    → (lent : List ℕ) (h : ℕ) → (fill_all held lent).answer ≡ done (h ∷ []) → h ≤ row_count table

-- "No shorter honest table": none with fewer rows than fill reports passes, if each key of the list that gets a section has a row of its own
-- there
abbrev pub NoneShorterPasses : (table aux challenges : List ℕ) → Type 0
NoneShorterPasses table aux challenges =
    (held : HeldList) (own : ℕ → ℕ) → OwnRows table (section_entries (section_list held)) own
    → (lent : List ℕ) (h : ℕ) → (fill_all held lent).answer ≡ done (h ∷ []) → row_count table < h → check_all table aux challenges ≢ zero_answer
