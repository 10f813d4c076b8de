-- The Result column (document 01, "Filling"): where a section ends, the Result of its end row, and each Result from that of the row below.
use Rattle.std.specs.Prelude.{ℕ, ◌-◌, ◌/◌, ◌%◌, Bool, cond, ◌&&◌, ◌||◌, eqb, ltb, Option, Some, None}
use Rattle.field.specs.Elements.{p, add_f, mul_f}
use Rattle.isa.specs.Opcodes.{op_split, op_lt, op_log2_floor, op_and, op_pop_count, op_pow}

-- "A section ends when RHS is 0 and LHS is 0 or CI is pow."
unfoldable pub is_end : (ci lhs rhs : ℕ) → Bool
is_end ci lhs rhs = eqb rhs 0 && (eqb lhs 0 || eqb ci op_pow)

-- "Ends: split 0, lt 2 (0 if Bits is 0), and 0, log_2_floor −1, pow 1, pop_count 0." No other number has one
unfoldable pub ending : (ci bits : ℕ) → Option ℕ
ending ci bits =
    cond (eqb ci op_split) (Some 0)
    (cond (eqb ci op_lt) (Some (cond (eqb bits 0) 0 2))
    (cond (eqb ci op_and) (Some 0)
    (cond (eqb ci op_log2_floor) (Some (p - 1))
    (cond (eqb ci op_pow) (Some 1)
    (cond (eqb ci op_pop_count) (Some 0)
    None)))))

-- "Carrying is as source document 000; for split the Result is copied." `below` is the Result of the row below; the lowest bits of
-- LHS and RHS are those of this row
-- lt: known below; else told by the two bits; else the operands are equal, which is 0 in the first row and not known yet above it
unfoldable pub carry_lt : (copy_flag lhs rhs below : ℕ) → ℕ
carry_lt copy_flag lhs rhs below =
    cond (eqb below 2)
    (cond (ltb (lhs % 2) (rhs % 2)) 1 (cond (ltb (rhs % 2) (lhs % 2)) 0 (cond (eqb copy_flag 1) 0 2)))
    below

-- log_2_floor: −1 above LHS 0; this row's Bits where LHS is 1; else what the row below has
unfoldable pub carry_log2_floor : (bits lhs below : ℕ) → ℕ
carry_log2_floor bits lhs below = cond (eqb lhs 0) (p - 1) (cond (eqb (lhs / 2) 0) bits below)

-- pow: squared, and times LHS where RHS is odd
unfoldable pub carry_pow : (lhs rhs below : ℕ) → ℕ
carry_pow lhs rhs below = cond (eqb (rhs % 2) 0) (mul_f below below) (mul_f (mul_f below below) lhs)

-- and: the bits above, doubled, and the product of the two lowest bits
unfoldable pub carry_and : (lhs rhs below : ℕ) → ℕ
carry_and lhs rhs below = add_f (mul_f 2 below) (mul_f (lhs % 2) (rhs % 2))

-- pop_count: one more where LHS is odd
unfoldable pub carry_pop_count : (lhs below : ℕ) → ℕ
carry_pop_count lhs below = add_f below (lhs % 2)

unfoldable pub carry : (ci copy_flag bits lhs rhs below : ℕ) → Option ℕ
carry ci copy_flag bits lhs rhs below =
    cond (eqb ci op_split) (Some below)
    (cond (eqb ci op_lt) (Some (carry_lt copy_flag lhs rhs below))
    (cond (eqb ci op_and) (Some (carry_and lhs rhs below))
    (cond (eqb ci op_log2_floor) (Some (carry_log2_floor bits lhs below))
    (cond (eqb ci op_pow) (Some (carry_pow lhs rhs below))
    (cond (eqb ci op_pop_count) (Some (carry_pop_count lhs below))
    None)))))
