-- The text that `u32batch` reads: the settings to try stand in the first line, and every number after it is the height of a job, in order. Numbers
-- are those of the crate numbers. The text is read byte by byte; what speaks against it first counts.
use Rattle.std.specs.Prelude.{ℕ, ◌+◌, ◌≤◌, cond, List, eqb, leb, set, Result, Ok, Err}
use Rattle.numbers.specs.declared.Fault.{Fault}
use Rattle.numbers.specs.declared.Fault.TheVariants.{TooMany}
use Rattle.numbers.specs.declared.Reader.{Reader}
use Rattle.numbers.specs.Sheets as sheets
use Rattle.batch_text.specs.declared.BatchSheet.{BatchSheet}

-- more settings are not taken
abbrev pub most_settings : ℕ
most_settings = 16

-- more jobs are not taken
abbrev pub most_jobs : ℕ
most_jobs = 65536

-- the lent words have the settings first, then the jobs
abbrev pub max_words : ℕ
max_words = most_settings + most_jobs

-- how far a text is read, or what speaks against it
abbrev pub Stage : Type 0
Stage = Result (Reader BatchSheet) Fault

-- the same, and the lent words, which have its numbers at their places
abbrev pub Fed : Type 0
Fed = sheets.Fed (Reader BatchSheet)

abbrev pub sheet : (settings jobs : ℕ) → BatchSheet
sheet settings jobs = record { settings = settings; jobs = jobs }

-- before the first byte
abbrev pub start_stage : Stage
start_stage = Ok (sheets.start_reader (sheet 0 0))

-- one number more, which ended on this line: a setting in the first line, else a job
unfoldable pub take_number : (line settings jobs value : ℕ) → (words : List ℕ) → sheets.Fed BatchSheet
take_number line settings jobs value words =
    cond (eqb line 1)
    (cond (leb most_settings settings) (sheets.fed (Err (TooMany most_settings)) words)
    (sheets.fed (Ok (sheet (settings + 1) jobs)) (set words settings value)))
    (cond (leb most_jobs jobs) (sheets.fed (Err (TooMany most_jobs)) words)
    (sheets.fed (Ok (sheet settings (jobs + 1))) (set words (most_settings + jobs) value)))

abbrev pub takes : (line : ℕ) → BatchSheet → (value : ℕ) → (words : List ℕ) → sheets.Fed BatchSheet
takes line s value words = take_number line s.settings s.jobs value words

-- one byte more; after a fault nothing is read
abbrev pub feed_byte : Stage → (byte : ℕ) → (words : List ℕ) → Fed
feed_byte = sheets.feed_byte takes

-- some bytes more
abbrev pub feed_all : Stage → (text words : List ℕ) → Fed
feed_all = sheets.feed_all takes

-- the end of the text ends a number too
abbrev pub end_number : Stage → (words : List ℕ) → Fed
end_number = sheets.end_number takes

-- ---- the calls
-- the numbers have places among the lent words
abbrev pub Fits : BatchSheet → Type 0
Fits s = (s.settings ≤ most_settings) × (s.jobs ≤ most_jobs)

abbrev pub Within : Stage → Type 0
Within = sheets.Within Fits

-- what a call that reads leaves
abbrev pub IsFed : (due : Fed) (r : Stage) (after : List ℕ) → Type 0
IsFed = sheets.IsFed Fits
