-- "Opcodes: split 4, lt 6, log_2_floor 12, and 14, pop_count 28, pow 30."
use Rattle.std.specs.Prelude.{◌≡◌, ℕ, Bool, false, ◌||◌, eqb, Result, Ok, Err}
use Rattle.words.specs.declared.Refusal.{Refusal}
use Rattle.words.specs.declared.Refusal.TheVariants.{Stranger}
use Rattle.isa.specs.declared.Opcode.{Opcode}
use Rattle.isa.specs.declared.Opcode.TheVariants.{Split, Lt, Log2Floor, And, PopCount, Pow}

abbrev pub op_split : ℕ
op_split = 4

abbrev pub op_lt : ℕ
op_lt = 6

abbrev pub op_log2_floor : ℕ
op_log2_floor = 12

abbrev pub op_and : ℕ
op_and = 14

abbrev pub op_pop_count : ℕ
op_pop_count = 28

abbrev pub op_pow : ℕ
op_pow = 30

-- Request 1 names four more, which a trace has and the table has not: "Div_mod (20)", "Xor (22)", "Merkle steps (36, 44)".
abbrev pub op_div_mod : ℕ
op_div_mod = 20

abbrev pub op_xor : ℕ
op_xor = 22

abbrev pub op_merkle_step : ℕ
op_merkle_step = 36

abbrev pub op_merkle_step_mem : ℕ
op_merkle_step_mem = 44

-- one of the six
unfoldable pub is_opcode : ℕ → Bool
is_opcode o = eqb o op_split || (eqb o op_lt || (eqb o op_log2_floor || (eqb o op_and || (eqb o op_pop_count || eqb o op_pow))))

abbrev pub opcode_number : Opcode → ℕ
opcode_number Split = op_split
opcode_number Lt = op_lt
opcode_number Log2Floor = op_log2_floor
opcode_number And = op_and
opcode_number PopCount = op_pop_count
opcode_number Pow = op_pow

-- what a word is as an opcode: the one whose number it is; reason 2 where it is the number of none
abbrev pub Decodes : ℕ → Result Opcode Refusal → Type 0
Decodes word (Ok opcode) = word ≡ opcode_number opcode
Decodes word (Err reason) = (is_opcode word ≡ false) × (reason ≡ Stranger)
