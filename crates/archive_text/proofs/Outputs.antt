-- The output after a call that is refused, and after one that is made. Assumes nothing.
use Prim.Native.Nat.{ℕ}
use mathlib.Core.Path.{◌≡◌, refl}
use mathlib.Core.List.{List}
use Rattle.words.specs.Answers.{done, declined}
use Rattle.words.specs.Refusals.{refusal_number}
use Rattle.words.specs.declared.Refusal.{Refusal}
use Rattle.words.proofs.Answers.{not_done}
use Rattle.text.specs.Lines.{refused_line}
use Rattle.archive_text.specs.Outputs.{Output, refused, output_of}

pub output_refused : (output : Output) (reason : Refusal) → output_of (declined reason) output ≡ refused (refused_line (refusal_number reason))
unfolding output_of
output_refused output reason = rw (not_done reason)

pub output_made : (output : Output) (values : List ℕ) → output_of (done values) output ≡ output
unfolding output_of
output_made output values = refl
