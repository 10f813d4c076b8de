-- The search of one group, before another. No contract of `check` cites this page: it states what a step of the code does, and proofs/Groups.antt
-- shows that the four steps are the search of air/specs/Check.antt.
use Rattle.std.specs.Prelude.{ℕ, ◌-◌, List}
use Rattle.words.specs.Answers.{Answer}
use Rattle.table.specs.Columns.{row_count}
use Rattle.air.specs.Check.{initial_at, consistency_at, transition_at, terminal_at, first_in_rows}
use Rattle.check_search.specs.declared.Group.{Group}
use Rattle.check_search.specs.declared.Group.TheVariants.{Initial, Consistency, Transition, Terminal}
use Rattle.check_search.specs.Nonzeros.{group_number}

-- a group's constraints, over the rows where they are asked
abbrev pub search_group : List ℕ → List ℕ → List ℕ → Group → Answer → Answer
search_group table aux challenges Initial next = first_in_rows (initial_at table aux challenges) (group_number Initial) 0 1 next
search_group table aux challenges Consistency next = first_in_rows (consistency_at table) (group_number Consistency) 0 (row_count table) next
search_group table aux challenges Transition next = first_in_rows (transition_at table aux challenges) (group_number Transition) 0 (row_count table - 1) next
search_group table aux challenges Terminal next = first_in_rows (terminal_at table) (group_number Terminal) (row_count table - 1) 1 next
