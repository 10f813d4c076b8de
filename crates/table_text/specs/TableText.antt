-- The text of a table: fifteen challenge words, the number of rows, and ten words a row, as numbers (crate numbers). It is read byte by byte;
-- what speaks against it first counts.
use Rattle.std.specs.Prelude.{ℕ, ◌+◌, ◌*◌, ◌-◌, ◌/◌, ◌≤◌, cond, ◌&&◌, List, eqb, ltb, leb, set, Result, Ok, Err}
use Rattle.numbers.specs.declared.Fault.{Fault}
use Rattle.numbers.specs.declared.Fault.TheVariants.{Malformed, TooMany}
use Rattle.numbers.specs.declared.Reader.{Reader}
use Rattle.numbers.specs.Sheets as sheets
use Rattle.table_text.specs.declared.TableSheet.{TableSheet}

-- fifteen challenge words stand before the number of rows
abbrev pub rows_at : ℕ
rows_at = 15

-- the numbers before those of the rows
abbrev pub head_numbers : ℕ
head_numbers = 16

-- more rows are not taken
abbrev pub most_rows : ℕ
most_rows = 16384

-- the numbers of the longest text
abbrev pub max_words : ℕ
max_words = head_numbers + 10 * most_rows

-- how far a text is read: so many numbers of so many that are due, or what speaks against it
abbrev pub Stage : Type 0
Stage = Result (Reader TableSheet) Fault

-- the same, and the lent words, which have its numbers at their places
abbrev pub Fed : Type 0
Fed = sheets.Fed (Reader TableSheet)

abbrev pub sheet : (count due : ℕ) → TableSheet
sheet count due = record { count = count; due = due }

-- before the first byte: no number of sixteen
abbrev pub start_stage : Stage
start_stage = Ok (sheets.start_reader (sheet 0 head_numbers))

-- one number more, which ended on this line: one too many is a fault on its line, and the number of rows says how many are due
unfoldable pub take_number : (line count due value : ℕ) → (words : List ℕ) → sheets.Fed TableSheet
take_number line count due value words =
    cond (leb due count) (sheets.fed (Err (Malformed line)) words)
    (cond (eqb count rows_at)
    (cond (ltb most_rows value) (sheets.fed (Err (TooMany value)) words)
    (sheets.fed (Ok (sheet head_numbers (head_numbers + 10 * value))) (set words count value)))
    (sheets.fed (Ok (sheet (count + 1) due)) (set words count value)))

abbrev pub takes : (line : ℕ) → TableSheet → (value : ℕ) → (words : List ℕ) → sheets.Fed TableSheet
takes line s value words = take_number line s.count s.due value words

-- one byte more; after a fault nothing is read
abbrev pub feed_byte : Stage → (byte : ℕ) → (words : List ℕ) → Fed
feed_byte = sheets.feed_byte takes

-- some bytes more
abbrev pub feed_all : Stage → (text words : List ℕ) → Fed
feed_all = sheets.feed_all takes

-- the end of the text ends a number too
abbrev pub end_number : Stage → (words : List ℕ) → Fed
end_number = sheets.end_number takes

-- where all numbers that are due were read, the text is the table of so many rows; else it ends too early, on its last line
abbrev pub taken_of : Stage → Result ℕ Fault
taken_of (Ok r) =
    cond (leb r.sheet.due r.sheet.count && leb head_numbers r.sheet.due) (Ok ((r.sheet.due - head_numbers) / 10)) (Err (Malformed r.place.line))
taken_of (Err fault) = Err fault

-- ---- the calls
-- the numbers that are due have places among the lent words
abbrev pub Fits : TableSheet → Type 0
Fits s = s.due ≤ max_words

abbrev pub Within : Stage → Type 0
Within = sheets.Within Fits

-- what a call that reads leaves
abbrev pub IsFed : (due : Fed) (r : Stage) (after : List ℕ) → Type 0
IsFed = sheets.IsFed Fits
