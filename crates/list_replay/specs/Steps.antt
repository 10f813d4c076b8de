-- What a step of a trace records (request 1, sentence by sentence).
use Rattle.std.specs.Prelude.{◌≡◌, ℕ, ◌+◌, ◌*◌, ◌/◌, ◌%◌, Bool, false, cond, not, ◌&&◌, ◌||◌, List, [], ◌∷◌, eqb, ltb, get_or, Result, Ok, Err}
use Rattle.field.specs.Elements.{p}
use Rattle.words.specs.declared.Refusal.{Refusal}
use Rattle.words.specs.declared.Refusal.TheVariants.{Stranger, Wide, ZeroDivisor}
use Rattle.isa.specs.Opcodes.{op_split, op_lt, op_log2_floor, op_and, op_pop_count, op_pow, op_div_mod, op_xor, op_merkle_step, op_merkle_step_mem, is_opcode, opcode_number}
use Rattle.isa.specs.Entries.{entry, rhs_limit}
use Rattle.isa.specs.declared.U32TableEntry.{U32TableEntry}
use Rattle.list_replay.specs.declared.Instruction.{Instruction}
use Rattle.list_replay.specs.declared.Instruction.TheVariants.{Plain, DivMod, Xor, MerkleStep, MerkleStepMem}
use Rattle.list_replay.specs.declared.Step.{Step}
use Rattle.list_replay.specs.declared.StepEntries.{StepEntries}
use Rattle.list_replay.specs.declared.StepEntries.TheVariants.{One, Two}

-- one of the ten: the six, "Div_mod (20)", "Xor (22)" and the "Merkle steps (36, 44)"
unfoldable pub is_instruction : ℕ → Bool
is_instruction o = is_opcode o || (eqb o op_div_mod || (eqb o op_xor || (eqb o op_merkle_step || eqb o op_merkle_step_mem)))

abbrev pub instruction_number : Instruction → ℕ
instruction_number (Plain opcode) = opcode_number opcode
instruction_number DivMod = op_div_mod
instruction_number Xor = op_xor
instruction_number MerkleStep = op_merkle_step
instruction_number MerkleStepMem = op_merkle_step_mem

-- what a word is as an instruction: the one whose number it is; reason 2 where it is the number of none
abbrev pub Names : ℕ → Result Instruction Refusal → Type 0
Names word (Ok instruction) = word ≡ instruction_number instruction
Names word (Err reason) = (is_instruction word ≡ false) × (reason ≡ Stranger)

-- "A recorded trace of steps (opcode, first, second)": three words each
abbrev pub step_width : ℕ
step_width = 3

-- the three words of step i
unfoldable pub step_at : List ℕ → ℕ → Step
step_at trace i = record {
  opcode = get_or trace (step_width * i) 0;
  first = get_or trace (step_width * i + 1) 0;
  second = get_or trace (step_width * i + 2) 0;
}

-- a step's entries, or the reason against it
abbrev pub Entries : Type 0
Entries = Result StepEntries Refusal

-- "split takes its first value v below p and records split(v mod 2^32, v div 2^32)"
abbrev pub split_step : ℕ → Entries
split_step v = cond (ltb v p) (Ok (One (entry op_split (v % 4294967296) (v / 4294967296)))) (Err Wide)

-- "Div_mod (20) of n by d, both below 2^32, records lt(n mod d, d) and split(n, n div d)"; "13, div_mod with d = 0, after 3"
abbrev pub div_mod_step : (n d : ℕ) → Entries
div_mod_step n d =
    cond (not (ltb n rhs_limit && ltb d rhs_limit)) (Err Wide)
    (cond (eqb d 0) (Err ZeroDivisor)
    (Ok (Two (entry op_lt (n % d) d) (entry op_split n (n / d)))))

-- "Merkle steps (36, 44) with index i below 2^32 as first value record split(i, i div 2)"
abbrev pub merkle_step : ℕ → Entries
merkle_step i = cond (ltb i rhs_limit) (Ok (One (entry op_split i (i / 2)))) (Err Wide)

-- "Opcodes of the six record as they are", but split; "For log_2_floor and pop_count RHS is 0"; "Xor (22) records and(a, b)"; "refusal 2 of
-- opcodes not named here". Whether an entry is admitted, recording decides
unfoldable pub step_entries : Step → Entries
step_entries s =
    cond (eqb s.opcode op_split) (split_step s.first)
    (cond (eqb s.opcode op_log2_floor || eqb s.opcode op_pop_count) (Ok (One (entry s.opcode s.first 0)))
    (cond (eqb s.opcode op_lt || (eqb s.opcode op_and || eqb s.opcode op_pow)) (Ok (One (entry s.opcode s.first s.second)))
    (cond (eqb s.opcode op_xor) (Ok (One (entry op_and s.first s.second)))
    (cond (eqb s.opcode op_div_mod) (div_mod_step s.first s.second)
    (cond (eqb s.opcode op_merkle_step || eqb s.opcode op_merkle_step_mem) (merkle_step s.first)
    (Err Stranger))))))

-- as a list
abbrev pub entries_of : Entries → List U32TableEntry
entries_of (Ok (One e)) = e ∷ []
entries_of (Ok (Two e f)) = e ∷ f ∷ []
entries_of (Err reason) = []
