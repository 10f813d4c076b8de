-- Numbers in a text: decimal digits, with one or more spaces or newlines between the numbers and anywhere around them. A text is a list of
-- bytes; it is read byte by byte.
use Rattle.std.specs.Prelude.{ℕ, ◌+◌, ◌*◌, ◌-◌, Bool, false, cond, ◌&&◌, ◌||◌, List, [], ◌∷◌, eqb, ltb, leb, Option, None, Some, Result, Ok, Err}
use Rattle.std.specs.Prelude.{unwrap_or, option_to_list}
use Rattle.numbers.specs.declared.Place.{Place}
use Rattle.numbers.specs.declared.Step.{Step}

-- ---- bytes
-- `0` to `9`
abbrev pub is_digit : ℕ → Bool
is_digit byte = leb 48 byte && leb byte 57

abbrev pub is_newline : ℕ → Bool
is_newline byte = eqb byte 10

-- what stands between numbers: a space or a newline
abbrev pub is_gap : ℕ → Bool
is_gap byte = eqb byte 32 || is_newline byte

-- a number is a word, below 2^64
abbrev pub max_word : ℕ
max_word = 18446744073709551615

-- ---- one byte
-- before the first byte
abbrev pub start_place : Place
start_place = record { line = 1; ended = false; number = None }

-- the line of the byte after those: one more after a newline (lines past the largest word are not counted)
abbrev pub line_of_next : Place → ℕ
line_of_next p = cond (p.ended && ltb p.line max_word) (p.line + 1) p.line

-- at this place, with the number that ended there, if one did
abbrev pub step : Option ℕ → Place → Step
step number place = record { number = number; place = place }

-- a digit is the next of the number, which must not be past 64 bits: the line, where it is
abbrev pub digit_step : (line before digit : ℕ) → Result Step ℕ
digit_step line before digit =
    cond (leb (10 * before + digit) max_word)
    (Ok (step None (record { line = line; ended = false; number = Some (10 * before + digit) })))
    (Err line)

-- a space or a newline ends the number before it, if there is one
abbrev pub gap_step : Place → (line : ℕ) → (newline : Bool) → Step
gap_step p line newline = step p.number (record { line = line; ended = newline; number = None })

-- any other byte is a fault
unfoldable pub step_of : Place → (byte : ℕ) → Result Step ℕ
step_of p byte =
    cond (is_gap byte) (Ok (gap_step p (line_of_next p) (is_newline byte)))
    (cond (is_digit byte) (digit_step (line_of_next p) (unwrap_or p.number 0) (byte - 48)) (Err (line_of_next p)))

-- ---- a whole text
-- its numbers, or the line of its first fault
pub data Reading : Type 0 where
  numbers : List ℕ → Reading
  fault : (line : ℕ) → Reading

-- a number before those of a reading
abbrev pub before : ℕ → Reading → Reading
before n (numbers ns) = numbers (n ∷ ns)
before n (fault line) = fault line

-- a number before those of a reading, if there is one
abbrev pub before_if : Option ℕ → Reading → Reading
before_if None r = r
before_if (Some n) r = before n r

-- after one byte, with what is read of the rest
abbrev pub read_after : Result Step ℕ → (Place → Reading) → Reading
read_after (Ok s) rest = before_if s.number (rest s.place)
read_after (Err line) rest = fault line

-- the end of a text ends a number too
unfoldable pub read_from : Place → List ℕ → Reading
read_from p [] = numbers (option_to_list p.number)
read_from p (byte ∷ text) = read_after (step_of p byte) (λ next. read_from next text)

-- the numbers of a text
unfoldable pub read_text : List ℕ → Reading
read_text text = read_from start_place text
