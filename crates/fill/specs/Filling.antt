-- Filling (document 01, under that heading): the sections of a list, joined, and what `fill` answers and leaves. The list that gets sections is
-- `section_list`: "A fill .. leaves out keys whose count .. is 0" (request 11).
use Rattle.std.specs.Prelude.{ℕ, not, List, [], ◌∷◌, ◌++◌, ltb, Result, Ok, Err}
use Rattle.std.proofs.lemmas.List.Edits.{sets}
use Rattle.words.specs.Answers.{Answer, done, declined}
use Rattle.words.specs.Outcomes.{Outcome, outcome}
use Rattle.words.specs.Refusals.{decline_if, or_else, Judgement}
use Rattle.words.specs.declared.Refusal.{Refusal}
use Rattle.words.specs.declared.Refusal.TheVariants.{Shape, Short}
use Rattle.list.specs.Lists.{U32List, entry_at, multiplicity_at}
use Rattle.list.specs.Heights.{section_places, list_height}
use Rattle.list.specs.Holds.{HeldList, section_list, judge_held}
use Rattle.table.specs.Columns.{Row, row_count, table_shape}
use Rattle.table.specs.RowWords.{table_words}
use Rattle.fill_sections.specs.Sections.{section, rows_of}

-- "Sections follow list order", joined: the rows of the sections of these places. Every entry of a list that is judged fine has a section
-- (proofs/ListSections.antt: section_at_lem), so as many rows as the height says (rows_height)
unfoldable pub sections_at : U32List → List ℕ → List Row
sections_at l [] = []
sections_at l (i ∷ is) = rows_of (section (entry_at l i) (multiplicity_at l i)) ++ sections_at l is

abbrev pub sections : U32List → List Row
sections l = sections_at l (section_places l)

-- "Fill .. 1, then 2 to 5 entry by entry, then (fill) 7": 1 also for the table, 7 is "table below the height"; request 6 has 15 "directly after 1".
-- 2 to 5 and 7 look at the keys that get a section: "left-out keys are not examined" (request 11)
unfoldable pub fill_reason : HeldList → List ℕ → Judgement
fill_reason h table =
    or_else (decline_if (not (table_shape table)) Shape)
    (or_else (judge_held h) (decline_if (ltb (row_count table) (list_height (section_list h))) Short))

-- "Rows past the height keep their words"
abbrev pub filled : U32List → List ℕ → List ℕ
filled l table = sets table 0 (table_words (sections l))

-- ".. the answer is the height."
unfoldable pub fill_all : HeldList → List ℕ → Outcome (List ℕ)
fill_all h table = outcome (fill_reason h table) (list_height (section_list h) ∷ []) table (filled (section_list h) table)

-- what `fill` answers, the height or why it declines; and what the answer means
abbrev pub Filled : Type 0
Filled = Result ℕ Refusal

abbrev pub filled_answer : Filled → Answer
filled_answer (Ok height) = done (height ∷ [])
filled_answer (Err reason) = declined reason
