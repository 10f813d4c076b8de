-- What `u32archive` writes: "A refusal goes to standard error, standard output stays empty."
use Rattle.std.specs.Prelude.{ℕ, cond, List, [], eqb}
use Rattle.words.specs.Answers.{Answer}
use Rattle.words.specs.Refusals.{refusal_number}
use Rattle.text.specs.Lines.{refused_line}
use Rattle.table_text.specs.Answers.{fault_line as text_fault_line}
use Rattle.archive_text.specs.declared.Fault.{Fault}
use Rattle.archive_text.specs.declared.Fault.TheVariants.{Taken, Refused}

-- the bytes of standard output, and those of standard error
pub record Output : Type 0 where
  pub out : List ℕ
  pub error : List ℕ

-- nothing was refused
abbrev pub written : List ℕ → Output
written bytes = record { out = bytes; error = [] }

-- a line that says why there is nothing
abbrev pub refused : List ℕ → Output
refused line = record { out = []; error = line }

-- the line of a call that is refused, or else what it leads to
unfoldable pub output_of : Answer → Output → Output
output_of answer output = cond (eqb answer.number 0) output (refused (refused_line answer.number))

-- the line that says why there is nothing
abbrev pub fault_line : Fault → List ℕ
fault_line (Taken fault) = text_fault_line fault
fault_line (Refused reason) = refused_line (refusal_number reason)
