-- The text of a sheet: each of its numbers (Numbers) goes to a place among lent words. What a sheet makes of one number more is the sheet's own; this is
-- the reading of a whole text for every sheet, byte by byte. What speaks against the text first counts.
use Rattle.std.specs.Prelude.{ℕ, ◌≡◌, List, [], ◌∷◌, Option, None, Some, Result, Ok, Err, IfOk}
use Rattle.numbers.specs.Numbers.{start_place, step_of}
use Rattle.numbers.specs.declared.Place.{Place}
use Rattle.numbers.specs.declared.Step.{Step}
use Rattle.numbers.specs.declared.Fault.{Fault}
use Rattle.numbers.specs.declared.Fault.TheVariants.{Malformed}
use Rattle.numbers.specs.declared.Reader.{Reader}

-- how far a text is read, or what speaks against it, and the lent words, which have its numbers at their places
pub record Fed (A : Type 0) : Type 0 where
  pub stage : Result A Fault
  pub words : List ℕ

abbrev pub fed : {A : Type 0} → Result A Fault → List ℕ → Fed A
fed stage words = record { stage = stage; words = words }

abbrev pub reader : {S : Type 0} → Place → S → Reader S
reader place sheet = record { place = place; sheet = sheet }

-- before the first byte
abbrev pub start_reader : {S : Type 0} → S → Reader S
start_reader sheet = reader start_place sheet

-- where the sheet took a number, the text is read on from this place
abbrev pub reader_after : {S : Type 0} → Place → Result S Fault → Result (Reader S) Fault
reader_after place (Ok sheet) = Ok (reader place sheet)
reader_after place (Err fault) = Err fault

module _ {S : Type 0} (take : (line : ℕ) → S → (value : ℕ) → (words : List ℕ) → Fed S) where
  -- the number that ended at this place, if one did
  abbrev pub take_ended : Place → Option ℕ → S → (words : List ℕ) → Fed (Reader S)
  take_ended place None sheet words = fed (Ok (reader place sheet)) words
  take_ended place (Some value) sheet words =
      fed (reader_after place (take place.line sheet value words).stage) (take place.line sheet value words).words

  abbrev pub after_step : S → Result Step ℕ → (words : List ℕ) → Fed (Reader S)
  after_step sheet (Ok step) words = take_ended step.place step.number sheet words
  after_step sheet (Err line) words = fed (Err (Malformed line)) words

  -- one byte more; after a fault nothing is read
  abbrev pub feed_byte : Result (Reader S) Fault → (byte : ℕ) → (words : List ℕ) → Fed (Reader S)
  feed_byte (Ok r) byte words = after_step r.sheet (step_of r.place byte) words
  feed_byte (Err fault) byte words = fed (Err fault) words

  -- some bytes more
  unfoldable pub feed_all : Result (Reader S) Fault → (text words : List ℕ) → Fed (Reader S)
  feed_all stage [] words = fed stage words
  feed_all stage (byte ∷ text) words = feed_all (feed_byte stage byte words).stage text (feed_byte stage byte words).words

  -- the end of the text ends a number too
  abbrev pub end_number : Result (Reader S) Fault → (words : List ℕ) → Fed (Reader S)
  end_number (Ok r) words = take_ended r.place r.place.number r.sheet words
  end_number (Err fault) words = fed (Err fault) words

-- ---- the calls
-- the numbers that are due have places among the lent words
abbrev pub Within : {S : Type 0} → (S → Type 0) → Result (Reader S) Fault → Type 0
Within fits stage = IfOk stage (λ r. fits r.sheet)

-- what a call leaves that takes a number
pub record IsTaken {S : Type 0} (fits : S → Type 0) (due : Fed S) (r : Result S Fault) (after : List ℕ) : Type 0 where
  pub stage : r ≡ due.stage
  pub words : after ≡ due.words
  pub within : IfOk r fits

-- what a call that reads leaves
pub record IsFed {S : Type 0} (fits : S → Type 0) (due : Fed (Reader S)) (r : Result (Reader S) Fault) (after : List ℕ) : Type 0 where
  pub stage : r ≡ due.stage
  pub words : after ≡ due.words
  pub within : Within fits r
