-- `list::other_word` meets its contract: the sum with p is a word exactly where LHS is below 2^32 − 1. Assumes nothing.
use Rattle.std.proofs.Common.{◌≡◌, ℕ, ◌+◌, ◌^◌, ◌≤◌, ◌<◌, Option, None, Some, SomeIff, sym, ◌∙◌, arith}
use Rattle.std.specs.Option.{unwrap_or}
use Rattle.std.proofs.lemmas.Bool.{cases_lt}
use mathlib.Core.Logic.{⊎_elim}
use Rattle.field.specs.Elements.{p}
use Rattle.isa.specs.declared.U32TableEntry.{U32TableEntry}
use Rattle.isa.specs.Opcodes.{op_pow}
use Rattle.isa.specs.Entries.{lhs}
use Rattle.list.specs.Eights.{other_word}
use Rattle.list.proofs.Finding.{other_word_fits, other_word_past}
use Rattle.list.proofs.other_word.Goals as goal

-- of pow, the sum where it is a word, and else LHS
of_pow : (e : U32TableEntry) (sum : Option ℕ) {r : ℕ} → e.opcode ≡ op_pow → SomeIff sum (lhs e + p < 2 ^ 64) (lhs e + p) → r ≡ unwrap_or sum (lhs e) → r ≡ other_word e
of_pow e (Some word) pow fits is = is ∙ fits.1 ∙ sym (other_word_fits e pow (omega (arith, fits.0)))
of_pow e None pow past is =
    is
    ∙ ⊎_elim
    (λ (b : lhs e + p < 2 ^ 64). absurd (past b))
    (λ (b : 2 ^ 64 ≤ lhs e + p). sym (other_word_past e pow (omega arith)))
    (cases_lt (lhs e + p) (2 ^ 64))

pub returns-then-key : goal.returns-then-key
returns-then-key c = of_pow _ _ c.if-key.true c.checked_add.ensures c.unwrap_or.ensures
