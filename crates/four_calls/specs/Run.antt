-- What `run` leaves, which makes the four calls: it is the claim's witness, and no call of document 01.
use Rattle.std.specs.Prelude.{ℕ, ◌<◌, ◌≡◌, cond, List, eqb, get_or}
use Rattle.words.specs.Answers.{Answer}
use Rattle.words.specs.Outcomes.{Outcome, Leaves}
use Rattle.words.specs.Refusals.{Fine}
use Rattle.list.specs.Holds.{HeldList, section_list}
use Rattle.table.specs.Columns.{row_count}
use Rattle.air.specs.Check.{zero_answer, check_all}
use Rattle.fill.specs.Filling.{fill_reason, fill_all}
use Rattle.fill.specs.Padding.{pad_all}
use Rattle.fill.specs.Extending.{extend_all}
use Rattle.four_calls.specs.FourCalls.{copy_flag1_rows, first_rows_of, extend_refusals}

-- the arrays that are lent
pub record Arrays : Type 0 where
  pub table : List ℕ
  pub aux : List ℕ

-- a call that has answered, the arrays being these now
abbrev pub answered : Answer → (table aux : List ℕ) → Outcome Arrays
answered answer table aux = record { answer = answer; left = record { table = table; aux = aux } }

-- where a call refuses, the calls after it are not made and what the calls before it have written stays
abbrev pub then_call : Outcome Arrays → Outcome Arrays → Outcome Arrays
then_call made next = cond (eqb made.answer.number 0) next made

-- "each takes what the one before answered or left": pad the height that fill answered
unfoldable pub run_all : HeldList → (table aux challenges : List ℕ) → Outcome Arrays
run_all h table aux challenges =
    let filling = fill_all h table in
    let padding = pad_all filling.left (get_or filling.answer.values 0 0) in
    let extension = extend_all padding.left aux challenges in
    then_call (answered filling.answer filling.left aux)
    (then_call (answered padding.answer padding.left aux)
    (then_call (answered extension.answer padding.left extension.left)
    (answered (check_all padding.left extension.left challenges) padding.left extension.left)))

-- the answer and both arrays afterwards are those that are due
abbrev pub Ran : HeldList → (table aux challenges : List ℕ) → Answer → (table_after aux_after : List ℕ) → Type 0
Ran h table aux challenges answer table_after aux_after =
    Leaves (run_all h table aux challenges) answer (record { table = table_after; aux = aux_after })

-- THE CLAIM. A run that refuses nothing answers zero, never a constraint that is not zero; and then the CopyFlag 1 rows of the table are
-- the first rows of the keys that get a section, in list order.
abbrev pub RunsHonestly : HeldList → Answer → (table_after : List ℕ) → Type 0
RunsHonestly h answer table_after = answer.number ≡ 0 → (answer ≡ zero_answer) × (copy_flag1_rows table_after ≡ first_rows_of (section_list h))

-- And a run refuses nothing where fill does not, there is a row, aux and challenges are right, and no first row's denominator is zero.
abbrev pub RefusesNoMore : HeldList → (table aux challenges : List ℕ) → Answer → Type 0
RefusesNoMore h table aux challenges answer =
    fill_reason h table ≡ Fine → 0 < row_count table → extend_refusals (section_list h) table aux challenges ≡ Fine → answer ≡ zero_answer
