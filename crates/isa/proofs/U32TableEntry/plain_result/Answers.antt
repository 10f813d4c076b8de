-- `isa::U32TableEntry::plain_result` meets its contract. In an arm the opcode is known, so the definition computes to that opcode's plain function.
use Rattle.std.proofs.Common.{ℕ, ◌≡◌, refl, sym, ◌∙◌, Bool, true, false, cond, ltb, bit_and}
use Rattle.std.specs.Int.{from_bool}
use Rattle.std.specs.Int.Count.{ones}
use Rattle.isa.specs.PlainFunctions.{plain_lt, plain_and, plain_pow, plain_result, floor_log2}
use Rattle.field.specs.Elements.{pow_f}
use Rattle.isa.proofs.PlainLaws.{one_bits_ones, result_lt, result_and, result_log, result_pow, result_pop_count}
use Rattle.isa.proofs.Opcodes.{opcode_at}
use Rattle.isa.proofs.U32TableEntry.plain_result.Goals as goal

as_bit : (b : Bool) → cond b 1 0 ≡ from_bool b
as_bit true = refl
as_bit false = refl

-- ---- the definition at each opcode
module _ {o : ℕ} (l r : ℕ) where
  less_bit : o ≡ 6 → plain_result o l r ≡ from_bool (ltb l r)
  unfolding plain_lt
  less_bit k = rw k (result_lt l r ∙ as_bit (ltb l r))

  both_bits : o ≡ 14 → plain_result o l r ≡ bit_and l r
  unfolding plain_and
  both_bits k = rw k (result_and l r)

  logarithm : o ≡ 12 → plain_result o l r ≡ floor_log2 l
  logarithm k = rw k (result_log l r)

  power : o ≡ 30 → plain_result o l r ≡ pow_f l r
  unfolding plain_pow
  power k = rw k (result_pow l r)

  counted : o ≡ 28 → plain_result o l r ≡ ones l
  counted k = rw k (result_pop_count l r ∙ one_bits_ones l)

pub returns-in-Ok-Lt : goal.returns-in-Ok-Lt
returns-in-Ok-Lt c = c.from.ensures ∙ sym (less_bit _ _ (opcode_at c.in-Ok-Lt.ensures c.in-Ok-Lt.field-0-is))

pub returns-in-Ok-And : goal.returns-in-Ok-And
returns-in-Ok-And c = sym (both_bits _ _ (opcode_at c.in-Ok-And.ensures c.in-Ok-And.field-0-is))

pub returns-in-Ok-Log2Floor : goal.returns-in-Ok-Log2Floor
returns-in-Ok-Log2Floor c =
    c.floor_log2.ensures.exact ∙ sym (logarithm _ _ (opcode_at c.in-Ok-Log2Floor.ensures c.in-Ok-Log2Floor.field-0-is))

pub returns-in-Ok-Pow : goal.returns-in-Ok-Pow
returns-in-Ok-Pow c = c.pow.ensures ∙ sym (power _ _ (opcode_at c.in-Ok-Pow.ensures c.in-Ok-Pow.field-0-is))

pub returns-in-Ok-PopCount : goal.returns-in-Ok-PopCount
returns-in-Ok-PopCount c =
    c.from-in-Ok-PopCount.ensures ∙ sym (counted _ _ (opcode_at c.in-Ok-PopCount.ensures c.in-Ok-PopCount.field-0-is))
