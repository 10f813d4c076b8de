-- What `u32check` prints: the answer of extension and check on the table that a text has, or why it has none.
use Rattle.std.specs.Prelude.{ℕ, ◌*◌, List, [], ◌∷◌, ◌++◌, take, drop, Result, Ok, Err}
use Rattle.air.specs.Check.{check_all}
use Rattle.fill.specs.Extending.{extend_all}
use Rattle.check_table.specs.Verdicts.{Verdict, verdict_answer}
use Rattle.text.specs.Lines.{verdict_line, field_line, malformed_line, too_many_line}
use Rattle.transcript.specs.Transcript.{unless_refused}
use Rattle.names.specs.Names.{name_of}
use Rattle.numbers.specs.declared.Fault.{Fault}
use Rattle.numbers.specs.declared.Fault.TheVariants.{Malformed, TooMany}
use Rattle.table_text.specs.TableText.{rows_at, head_numbers, most_rows, Stage, start_stage, feed_all, end_number, taken_of}

-- the line before a verdict's: of a constraint that is not zero, its name
abbrev pub name_line : (verdict : List ℕ) → List ℕ
name_line (group ∷ row ∷ index ∷ value) = field_line (name_of group index)
name_line (group ∷ row ∷ []) = []
name_line (group ∷ []) = []
name_line [] = []

unfoldable pub verdict_lines : (verdict : List ℕ) → List ℕ
verdict_lines verdict = name_line verdict ++ verdict_line verdict

-- what is put after a check
abbrev pub verdict_due : Verdict → List ℕ
verdict_due v = unless_refused (verdict_answer v) (verdict_lines (verdict_answer v).values)

-- extension, then the check; "A refusal prints `refused` and the number alone"
unfoldable pub verdict_text : (challenges table aux : List ℕ) → List ℕ
verdict_text challenges table aux =
    let extension = extend_all table aux challenges in
    let verdict = check_all table extension.left challenges in
    unless_refused extension.answer (unless_refused verdict (verdict_lines verdict.values))

-- the line of what speaks against a text
abbrev pub fault_line : Fault → List ℕ
fault_line (Malformed line) = malformed_line line
fault_line (TooMany rows) = too_many_line rows most_rows

-- a text's first fifteen numbers are the challenges, those after the number of rows are the table's, ten a row
abbrev pub taken_text : Result ℕ Fault → (words aux : List ℕ) → List ℕ
taken_text (Ok rows) words aux = verdict_text (take rows_at words) (take (10 * rows) (drop head_numbers words)) (take (3 * rows) aux)
taken_text (Err fault) words aux = fault_line fault

-- for a text that ended here
unfoldable pub answer_text : Stage → (words aux : List ℕ) → List ℕ
answer_text stage words aux =
    let end = end_number stage words in
    taken_text (taken_of end.stage) end.words aux

-- for a whole text, with words lent for its numbers and for the sums
unfoldable pub check_text : (text words aux : List ℕ) → List ℕ
check_text text words aux =
    let read = feed_all start_stage text words in
    answer_text read.stage read.words aux

-- no answer is longer
abbrev pub max_answer : ℕ
max_answer = 256
