-- Eight places told apart from a key at once, by the words that stand where LHS does. No contract of a call cites this page.
use Rattle.std.specs.Prelude.{ℕ, ◌+◌, ◌*◌, ◌<◌, cond, ◌&&◌, ◌≢◌, List, eqb, ltb, get_or}
use Rattle.field.specs.Elements.{p}
use Rattle.isa.specs.Opcodes.{op_pow}
use Rattle.isa.specs.declared.U32TableEntry.{U32TableEntry}
use Rattle.isa.specs.Entries.{lhs, entry_width}

-- The other word that stands for LHS of the key: of pow, LHS + p, where that is below 2^64. Where there is none, LHS
unfoldable pub other_word : U32TableEntry → ℕ
other_word e = cond (eqb e.opcode op_pow && ltb (lhs e) 4294967295) (lhs e + p) (lhs e)

-- the eight places from i on have another word there
unfoldable pub EightDiffer : List ℕ → (i lhs : ℕ) → Type 0
EightDiffer keys i lhs = (k : ℕ) → k < 8 → get_or keys (entry_width * (i + k) + 1) 0 ≢ lhs
