-- "Plain functions: lt is 1 if LHS < RHS, else 0; bitwise and; floor log2 of LHS; LHS^RHS modulo p with 0^0 = 1; one-bits of LHS."
use Rattle.std.specs.Prelude.{ℕ, zero, suc, ◌+◌, ◌/◌, ◌%◌, cond, eqb, ltb}
use Rattle.std.specs.Int.Bits.{bit_and}
use Rattle.field.specs.Elements.{pow_f}
use Rattle.isa.specs.Opcodes.{op_lt, op_log2_floor, op_and, op_pop_count, op_pow}

unfoldable pub plain_lt : ℕ → ℕ → ℕ
plain_lt lhs rhs = cond (ltb lhs rhs) 1 0

unfoldable pub plain_and : ℕ → ℕ → ℕ
plain_and lhs rhs = bit_and lhs rhs

-- How often n can be halved until it is 1; n itself is fuel enough. proofs/Logarithm.antt: 2^(floor_log2 n) ≤ n < 2^(floor_log2 n + 1)
-- for every n but 0
abbrev pub halvings : ℕ → ℕ → ℕ
halvings zero n = 0
halvings (suc fuel) zero = 0
halvings (suc fuel) (suc zero) = 0
halvings (suc fuel) (suc (suc m)) = suc (halvings fuel (suc (suc m) / 2))

unfoldable pub floor_log2 : ℕ → ℕ
floor_log2 n = halvings n n

-- a ^ 0 is 1 for every a, 0 included
unfoldable pub plain_pow : ℕ → ℕ → ℕ
plain_pow lhs rhs = pow_f lhs rhs

-- The sum of n's binary digits; n itself is fuel enough. proofs/PlainLaws.antt: one_bits (2 * x + i) is i + one_bits x for a bit i
abbrev pub digit_sum : ℕ → ℕ → ℕ
digit_sum zero n = 0
digit_sum (suc fuel) zero = 0
digit_sum (suc fuel) (suc m) = suc m % 2 + digit_sum fuel (suc m / 2)

unfoldable pub one_bits : ℕ → ℕ
one_bits n = digit_sum n n

-- An opcode's plain function; 0 for split, which has none
unfoldable pub plain_result : ℕ → ℕ → ℕ → ℕ
plain_result opcode lhs rhs =
    cond (eqb opcode op_lt) (plain_lt lhs rhs)
    (cond (eqb opcode op_and) (plain_and lhs rhs)
    (cond (eqb opcode op_log2_floor) (floor_log2 lhs)
    (cond (eqb opcode op_pow) (plain_pow lhs rhs)
    (cond (eqb opcode op_pop_count) (one_bits lhs)
    0))))
