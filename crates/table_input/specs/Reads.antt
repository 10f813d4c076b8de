-- The numbers of a sheet have places among the lent words, once its text is read; and the answer for it is written.
use Rattle.std.specs.Prelude.{ℕ, List, Option, Result, IfOk}
use Rattle.std.specs.Io.KnownBytes.{Appends}
use Rattle.numbers.specs.declared.Fault.{Fault}
use Rattle.numbers.specs.declared.Reader.{Reader}
use Rattle.numbers.specs.Sheets.{Within}

abbrev pub ReadWithin : {S E : Type 0} → (S → Type 0) → Result (Result (Reader S) Fault) E → Type 0
ReadWithin fits r = IfOk r (Within fits)

-- what was written behind the bytes before is the answer for a text whose numbers have places
abbrev pub AnswerWritten : {S : Type 0} → (S → Type 0) → (answer : Result (Reader S) Fault → (words : List ℕ) → List ℕ)
    → (before after : Option (List ℕ)) → Type 0
AnswerWritten fits answer before after = (stage : _) × (words : _) × Within fits stage × Appends before after (answer stage words)
