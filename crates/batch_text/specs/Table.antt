-- What `u32batch` prints: a line for each setting, with the number of batches, their rows, the padding and its share of all padded rows, or the
-- refusal in words.
use Rattle.std.specs.Prelude.{ℕ, ◌+◌, ◌*◌, ◌/◌, ◌%◌, cond, eqb, length, get_or, take, drop, Ok, Err}
use mathlib.Core.List.{List, ◌++◌, flat_map}
use Rattle.words.specs.Answers.{Answer}
use Rattle.batches.specs.Batches.{trial_all}
use Rattle.text.specs.Lines.{ascii, column, malformed_line}
use Rattle.numbers.specs.declared.Fault.{Fault}
use Rattle.numbers.specs.declared.Fault.TheVariants.{Malformed, TooMany}
use Rattle.batch_text.specs.Sheet.{most_settings, Stage, start_stage, feed_all, end_number}

-- ---- a line
-- how many thousandths of all padded rows are padding, rounded down; 0 where there are none
unfoldable pub share_of : (rows padding : ℕ) → ℕ
share_of rows padding = cond (eqb (rows + padding) 0) 0 (1000 * padding / (rows + padding))

-- as a percentage with one decimal
unfoldable pub share_text : (thousandths : ℕ) → List ℕ
share_text thousandths = column 5 (thousandths / 10) ++ (ascii "." ++ (column 1 (thousandths % 10) ++ ascii "%\n"))

unfoldable pub totals_line : (setting count rows padding : ℕ) → List ℕ
totals_line setting count rows padding =
    column 11 setting ++ (column 11 count ++ (column 11 rows ++ (column 11 padding ++ share_text (share_of rows padding))))

-- a reason in words: these jobs are not too many, so 1 is the setting's, and any other is 17
unfoldable pub reason_text : (number : ℕ) → List ℕ
reason_text number =
    cond (eqb number 1) (ascii ": a setting is a number of rows from 1 to 131072\n") (ascii ": a job has more rows than the setting\n")

unfoldable pub refusal_line : (setting number : ℕ) → List ℕ
refusal_line setting number = column 11 setting ++ (ascii "  refused " ++ (column 1 number ++ reason_text number))

-- the line of a setting and of what it gives
unfoldable pub setting_line : (setting : ℕ) → Answer → List ℕ
setting_line setting answer =
    cond (eqb answer.number 0) (totals_line setting (get_or answer.values 0 0) (get_or answer.values 1 0) (get_or answer.values 2 0))
    (refusal_line setting answer.number)

-- ---- the table
unfoldable pub head_text : (jobs : ℕ) → List ℕ
head_text jobs = ascii "jobs " ++ (column 1 jobs ++ ascii "\n    setting    batches       rows    padding   share\n")

abbrev pub line_for : (jobs : List ℕ) → (setting : ℕ) → List ℕ
line_for jobs setting = setting_line setting (trial_all jobs setting)

unfoldable pub table_text : (settings jobs : List ℕ) → List ℕ
table_text settings jobs = head_text (length jobs) ++ flat_map (line_for jobs) settings

-- there is something to try
unfoldable pub sheet_text : (settings jobs : List ℕ) → List ℕ
sheet_text settings jobs = cond (eqb (length settings) 0) (ascii "no setting in the first line\n") (table_text settings jobs)

unfoldable pub too_many_text : (most : ℕ) → List ℕ
too_many_text most = cond (eqb most most_settings) (ascii "too many settings: at most 16\n") (ascii "too many jobs: at most 65536\n")

-- ---- a text
-- what speaks against it
abbrev pub fault_text : Fault → List ℕ
fault_text (Malformed line) = malformed_line line
fault_text (TooMany most) = too_many_text most

abbrev pub taken_text : Stage → (words : List ℕ) → List ℕ
taken_text (Ok r) words = sheet_text (take r.sheet.settings words) (take r.sheet.jobs (drop most_settings words))
taken_text (Err fault) words = fault_text fault

-- for a text that ended here
unfoldable pub answer_text : Stage → (words : List ℕ) → List ℕ
answer_text stage words =
    let end = end_number stage words in
    taken_text end.stage end.words

-- for a whole text, with words lent for its numbers
unfoldable pub batch_text : (text words : List ℕ) → List ℕ
batch_text text words =
    let read = feed_all start_stage text words in
    answer_text read.stage read.words

-- no line is longer
abbrev pub max_line : ℕ
max_line = 256

-- no answer is longer
abbrev pub max_answer : ℕ
max_answer = 8192
