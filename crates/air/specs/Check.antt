-- Check (document 01, under that heading): when every constraint of a table is zero, and the answer of the check.
use Rattle.std.specs.Prelude.{ℕ, zero, suc, ◌+◌, ◌-◌, ◌<◌, ◌≡◌, cond, not, ◌&&◌, List, [], ◌∷◌, eqb}
use Rattle.words.specs.Answers.{Answer, done, declined}
use Rattle.words.specs.Refusals.{decline_if, or_else, Judgement, Fine, Declined}
use Rattle.words.specs.declared.Refusal.TheVariants.{Shape, Short, Unreduced}
use Rattle.xfield.specs.Extension.{Ext, words_x, zero_x, is_zero_x}
use Rattle.table.specs.Columns.{row_at, row_count, aux_at, table_shape, aux_shape, all_reduced}
use Rattle.table.specs.Challenges.{challenges_of, challenges_shape}
use Rattle.air.specs.Constraints.{initial_constraints, consistency_constraints, transition_constraints, terminal_constraints}

-- ---- the constraints of a table, where they are asked
abbrev pub initial_at : List ℕ → List ℕ → List ℕ → ℕ → List Ext
initial_at table aux challenges i = initial_constraints (challenges_of challenges) (row_at table i) (aux_at aux i)

abbrev pub consistency_at : List ℕ → ℕ → List Ext
consistency_at table i = consistency_constraints (row_at table i)

-- of the pair whose upper row is row i
abbrev pub transition_at : List ℕ → List ℕ → List ℕ → ℕ → List Ext
transition_at table aux challenges i =
    transition_constraints (challenges_of challenges) (row_at table i) (row_at table (i + 1)) (aux_at aux i) (aux_at aux (i + 1))

abbrev pub terminal_at : List ℕ → ℕ → List Ext
terminal_at table i = terminal_constraints (row_at table i)

-- ---- every constraint is zero
-- every value of the list is zero
infixr 5 ◌and◌
pub data AllZero : List Ext → Type 0 where
  none : AllZero []
  ◌and◌ : {v : Ext} {vs : List Ext} → v ≡ zero_x → AllZero vs → AllZero (v ∷ vs)

-- "initial on row 0, consistency row by row, transition pair by pair, terminal on the last row", all zero
pub record ConstraintsHold (table aux challenges : List ℕ) : Type 0 where
  pub initial : 0 < row_count table → AllZero (initial_at table aux challenges 0)
  pub consistency : (i : ℕ) → i < row_count table → AllZero (consistency_at table i)
  pub transition : (i : ℕ) → i + 1 < row_count table → AllZero (transition_at table aux challenges i)
  pub terminal : (i : ℕ) → i + 1 ≡ row_count table → AllZero (terminal_at table i)

-- ---- the answer
-- "Check 1, 7, 8": 7 is "check on no rows", 8 "a word p or more: table, challenge or, in the check, aux"
unfoldable pub check_reason : List ℕ → List ℕ → List ℕ → Judgement
check_reason table aux challenges =
    or_else (decline_if (not (table_shape table && (aux_shape table aux && challenges_shape challenges))) Shape)
    (or_else (decline_if (eqb (row_count table) 0) Short)
    (decline_if (not (all_reduced table && (all_reduced challenges && all_reduced aux))) Unreduced))

-- "or it answers zero": nothing more comes with it
abbrev pub zero_answer : Answer
zero_answer = done []

-- "group 0 to 3, (upper) row, index from 0 and three-word value"
abbrev pub nonzero : ℕ → ℕ → ℕ → Ext → Answer
nonzero group row index v = done (group ∷ row ∷ index ∷ words_x v)

-- the first value, from an index on, that is not zero; `next` where there is none
unfoldable pub first_in : ℕ → ℕ → ℕ → List Ext → Answer → Answer
first_in group row index [] next = next
first_in group row index (v ∷ vs) next =
    cond (is_zero_x v) (first_in group row (index + 1) vs next) (nonzero group row index v)

-- the first in the rows, from a row on, of which `left` are left; `next` where there is none
unfoldable pub first_in_rows : (ℕ → List Ext) → ℕ → ℕ → ℕ → Answer → Answer
first_in_rows constraints group row zero next = next
first_in_rows constraints group row (suc left) next =
    first_in group row 0 (constraints row) (first_in_rows constraints group (row + 1) left next)

-- "The check goes initial on row 0, consistency row by row, transition pair by pair, terminal on the last row, and stops at the
-- first constraint that is not zero"; "or it answers zero"
unfoldable pub first_nonzero : List ℕ → List ℕ → List ℕ → Answer
first_nonzero table aux challenges =
    first_in_rows (initial_at table aux challenges) 0 0 1
    (first_in_rows (consistency_at table) 1 0 (row_count table)
    (first_in_rows (transition_at table aux challenges) 2 0 (row_count table - 1)
    (first_in_rows (terminal_at table) 3 (row_count table - 1) 1
    zero_answer)))

abbrev pub checked_as : Judgement → Answer → Answer
checked_as Fine found = found
checked_as (Declined reason) found = declined reason

unfoldable pub check_all : List ℕ → List ℕ → List ℕ → Answer
check_all table aux challenges = checked_as (check_reason table aux challenges) (first_nonzero table aux challenges)
