-- A word that is the number of none of the four, and of none of the six, is no instruction.
use Rattle.std.proofs.Common.{◌≢◌, ℕ, false, ◌≡◌, rules}
use Rattle.std.proofs.lemmas.Bool.{ne_eqb}
use Rattle.words.proofs.Judgements.{handed_on}
use Rattle.isa.specs.Opcodes.{op_div_mod, op_xor, op_merkle_step, op_merkle_step_mem, is_opcode}
use Rattle.list_replay.specs.Steps.{is_instruction}
use Rattle.list_replay.proofs.InstructionTryFromU64.try_from.Goals as goal

none_of_ten : (o : ℕ) → is_opcode o ≡ false → o ≢ op_div_mod → o ≢ op_xor → o ≢ op_merkle_step → o ≢ op_merkle_step_mem → is_instruction o ≡ false
unfolding is_instruction
none_of_ten o six a b c d = simp (six, ne_eqb o op_div_mod a, ne_eqb o op_xor b, ne_eqb o op_merkle_step c, ne_eqb o op_merkle_step_mem d)

pub returns-in_err-try_from-in_default : goal.returns-in_err-try_from-in_default
returns-in_err-try_from-in_default c =
    let six = c.in_err-try_from-in_default.ensures in
    rw (handed_on _ c.from_residual.ensures.1) (none_of_ten _ six.0 (search rules) (search rules) (search rules) (search rules), six.1)
