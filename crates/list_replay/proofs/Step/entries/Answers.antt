-- `list_replay::Step::entries` meets its contract. In an arm the opcode is known, so the definition computes to that arm. Assumes nothing.
use mathlib.Core.Logic.{◌⊎◌, inl, inr}
use Rattle.std.proofs.Common.{◌≡◌, false, Err, refl, ◌∙◌, eqb}
use Rattle.std.proofs.lemmas.Bool.{or_parts}
use Rattle.words.specs.declared.Refusal.{Refusal}
use Rattle.words.specs.declared.Refusal.TheVariants.{Stranger}
use Rattle.words.proofs.Judgements.{handed_on}
use Rattle.isa.specs.Opcodes.{op_split, op_lt, op_log2_floor, op_and, op_pop_count, op_pow, op_div_mod, op_xor, op_merkle_step, op_merkle_step_mem, is_opcode}
use Rattle.list_replay.specs.declared.Instruction.{Instruction}
use Rattle.list_replay.specs.declared.Step.{Step}
use Rattle.list_replay.specs.Steps.{is_instruction, instruction_number, Entries, step_entries}
use Rattle.list_replay.proofs.Step.entries.Goals as goal

-- what an arm answers of its instruction, whose number the opcode is
in_arm : (s : Step) {i j : Instruction} {answer : Entries} → s.opcode ≡ instruction_number i → i ≡ j
    → answer ≡ step_entries (record { opcode = instruction_number j; first = s.first; second = s.second }) → answer ≡ step_entries s
in_arm s n q e = e ∙ rw (← q, ← n)

-- of an arm for two
in_either : (s : Step) {i j k : Instruction} {answer : Entries} → s.opcode ≡ instruction_number i → (i ≡ j) ⊎ (i ≡ k)
    → answer ≡ step_entries (record { opcode = instruction_number j; first = s.first; second = s.second })
    → answer ≡ step_entries (record { opcode = instruction_number k; first = s.first; second = s.second }) → answer ≡ step_entries s
in_either s n (inl q) e f = in_arm s n q e
in_either s n (inr q) e f = in_arm s n q f

stranger : (s : Step) {k : Refusal} → is_instruction s.opcode ≡ false → k ≡ Stranger → Err k ≡ step_entries s
unfolding step_entries is_instruction is_opcode
stranger s h q =
    let o = s.opcode in
    let a = or_parts (is_opcode o) _ h in
    let a4 = or_parts (eqb o op_split) _ a.0 in
    let a6 = or_parts (eqb o op_lt) _ a4.1 in
    let a12 = or_parts (eqb o op_log2_floor) _ a6.1 in
    let a14 = or_parts (eqb o op_and) _ a12.1 in
    let a28 = or_parts (eqb o op_pop_count) (eqb o op_pow) a14.1 in
    let a20 = or_parts (eqb o op_div_mod) _ a.1 in
    let a22 = or_parts (eqb o op_xor) _ a20.1 in
    let a36 = or_parts (eqb o op_merkle_step) (eqb o op_merkle_step_mem) a22.1 in
    rw (q, a4.0, a6.0, a12.0, a14.0, a28.0, a28.1, a20.0, a22.0, a36.0, a36.1) refl

pub returns-in_err-plain : goal.returns-in_err-plain
returns-in_err-plain c = handed_on _ c.from_residual.ensures.1 ∙ stranger _ c.in_err-plain.ensures.0 c.in_err-plain.ensures.1

pub returns-in-Plain : goal.returns-in-Plain
returns-in-Plain c = in_arm _ c.in_ok-plain.ensures c.in-Plain.is c.plain_step.ensures

pub returns-in-Xor : goal.returns-in-Xor
unfolding step_entries
returns-in-Xor c = in_arm _ c.in_ok-plain.ensures c.in-Xor.is c.one.ensures

pub returns-in-DivMod : goal.returns-in-DivMod
unfolding step_entries
returns-in-DivMod c = in_arm _ c.in_ok-plain.ensures c.in-DivMod.is c.div_mod_step.ensures

pub returns-in-MerkleStep : goal.returns-in-MerkleStep
unfolding step_entries
returns-in-MerkleStep c = in_either _ c.in_ok-plain.ensures c.in-MerkleStep.is c.merkle_step.ensures c.merkle_step.ensures
