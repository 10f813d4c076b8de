-- The constraint polynomials (document 01, "Check": "Initial (1), consistency (15), transition (22) and terminal (2) constraints are
-- the polynomials of source document 001, in the order of its lists"), each under the source's name. A polynomial over main columns
-- has a base element for its value, one over the aux column an extension element.
use Rattle.std.specs.Prelude.{ℕ, cond, List, [], ◌∷◌, eqb}
use Rattle.field.specs.Elements.{add_f, sub_f, mul_f}
use Rattle.xfield.specs.Extension.{Ext, ext, zero_x, add_x, sub_x, mul_x, scale_x}
use Rattle.isa.specs.Opcodes.{op_split, op_lt, op_and, op_log2_floor, op_pow, op_pop_count}
use Rattle.table.specs.Columns.{Row}
use Rattle.table.specs.Challenges.{Challenges, row_denominator}

infixl 60 ◌⊕◌ ◌⊖◌
infixl 70 ◌⊗◌
abbrev pub ◌⊕◌ : ℕ → ℕ → ℕ
a ⊕ b = add_f a b

abbrev pub ◌⊖◌ : ℕ → ℕ → ℕ
a ⊖ b = sub_f a b

abbrev pub ◌⊗◌ : ℕ → ℕ → ℕ
a ⊗ b = mul_f a b

-- ---- the source's `instruction_deselector`: from 1, the product of CI − opcode over the instructions other than the selected one
abbrev pub instructions : List ℕ
instructions = op_split ∷ op_lt ∷ op_and ∷ op_log2_floor ∷ op_pow ∷ op_pop_count ∷ []

unfoldable pub deselect_from : ℕ → List ℕ → ℕ → ℕ → ℕ
deselect_from product [] selected ci = product
deselect_from product (o ∷ os) selected ci = deselect_from (cond (eqb o selected) product (product ⊗ (ci ⊖ o))) os selected ci

unfoldable pub instruction_deselector : ℕ → ℕ → ℕ
instruction_deselector selected ci = deselect_from 1 instructions selected ci

-- ---- what several polynomials share
-- 1 − x · inverse: `one() - lhs * lhs_inv` and `one() - rhs * rhs_inv`
unfoldable pub one_minus_product_of : ℕ → ℕ → ℕ
one_minus_product_of x inverse = 1 ⊖ x ⊗ inverse

-- `ci_is_pow`, of the upper row
unfoldable pub ci_is_pow_of : Row → ℕ
ci_is_pow_of upper = upper.ci ⊖ op_pow

-- `lhs_lsb`
unfoldable pub lhs_lsb : Row → Row → ℕ
lhs_lsb upper lower = upper.lhs ⊖ 2 ⊗ lower.lhs

-- `rhs_lsb`
unfoldable pub rhs_lsb : Row → Row → ℕ
rhs_lsb upper lower = upper.rhs ⊖ 2 ⊗ lower.rhs

-- `one() - lhs_lsb - rhs_lsb + two() * lhs_lsb * rhs_lsb`: 1 where two bits are equal, else 0
unfoldable pub equal_bits : ℕ → ℕ → ℕ
equal_bits l r = 1 ⊖ l ⊖ r ⊕ 2 ⊗ l ⊗ r

-- "(v, 0, 0) for a base value v"
abbrev pub base_value : ℕ → Ext
base_value v = ext v 0 0

-- ---- initial
-- the source's `LookupArg::default_initial()`
abbrev pub default_initial : Ext
default_initial = zero_x

unfoldable pub running_sum_log_derivative_starts_correctly : Challenges → Row → Ext → Ext
running_sum_log_derivative_starts_correctly c row sum =
    add_x
    (scale_x (row.copy_flag ⊖ 1) (sub_x sum default_initial))
    (scale_x row.copy_flag (sub_x (mul_x sum (row_denominator c row)) (base_value row.lookup_multiplicity)))

unfoldable pub initial_constraints : Challenges → Row → Ext → List Ext
initial_constraints c row sum = running_sum_log_derivative_starts_correctly c row sum ∷ []

-- ---- consistency
unfoldable pub copy_flag_is_bit : Row → ℕ
copy_flag_is_bit row = row.copy_flag ⊗ (1 ⊖ row.copy_flag)

unfoldable pub copy_flag_is_0_or_bits_is_0 : Row → ℕ
copy_flag_is_0_or_bits_is_0 row = row.copy_flag ⊗ row.bits

unfoldable pub bits_minus_33_inv_is_inverse_of_bits_minus_33 : Row → ℕ
bits_minus_33_inv_is_inverse_of_bits_minus_33 row = 1 ⊖ row.bits_minus33_inv ⊗ (row.bits ⊖ 33)

unfoldable pub lhs_inv_is_0_or_the_inverse_of_lhs : Row → ℕ
lhs_inv_is_0_or_the_inverse_of_lhs row = row.lhs_inv ⊗ one_minus_product_of row.lhs row.lhs_inv

unfoldable pub lhs_is_0_or_lhs_inverse_is_the_inverse_of_lhs : Row → ℕ
lhs_is_0_or_lhs_inverse_is_the_inverse_of_lhs row = row.lhs ⊗ one_minus_product_of row.lhs row.lhs_inv

unfoldable pub rhs_inv_is_0_or_the_inverse_of_rhs : Row → ℕ
rhs_inv_is_0_or_the_inverse_of_rhs row = row.rhs_inv ⊗ one_minus_product_of row.rhs row.rhs_inv

unfoldable pub rhs_is_0_or_rhs_inverse_is_the_inverse_of_rhs : Row → ℕ
rhs_is_0_or_rhs_inverse_is_the_inverse_of_rhs row = row.rhs ⊗ one_minus_product_of row.rhs row.rhs_inv

unfoldable pub result_is_initialized_correctly_for_lt_with_copy_flag_0 : Row → ℕ
result_is_initialized_correctly_for_lt_with_copy_flag_0 row =
    instruction_deselector op_lt row.ci ⊗ (row.copy_flag ⊖ 1) ⊗ one_minus_product_of row.lhs row.lhs_inv
    ⊗ one_minus_product_of row.rhs row.rhs_inv ⊗ (row.result ⊖ 2)

unfoldable pub result_is_initialized_correctly_for_lt_with_copy_flag_1 : Row → ℕ
result_is_initialized_correctly_for_lt_with_copy_flag_1 row =
    instruction_deselector op_lt row.ci ⊗ row.copy_flag ⊗ one_minus_product_of row.lhs row.lhs_inv
    ⊗ one_minus_product_of row.rhs row.rhs_inv ⊗ row.result

unfoldable pub result_is_initialized_correctly_for_and : Row → ℕ
result_is_initialized_correctly_for_and row =
    instruction_deselector op_and row.ci ⊗ one_minus_product_of row.lhs row.lhs_inv
    ⊗ one_minus_product_of row.rhs row.rhs_inv ⊗ row.result

unfoldable pub result_is_initialized_correctly_for_pow : Row → ℕ
result_is_initialized_correctly_for_pow row =
    instruction_deselector op_pow row.ci ⊗ one_minus_product_of row.rhs row.rhs_inv ⊗ (row.result ⊖ 1)

unfoldable pub result_is_initialized_correctly_for_log_2_floor : Row → ℕ
result_is_initialized_correctly_for_log_2_floor row =
    instruction_deselector op_log2_floor row.ci ⊗ (row.copy_flag ⊖ 1) ⊗ one_minus_product_of row.lhs row.lhs_inv
    ⊗ (row.result ⊕ 1)

unfoldable pub result_is_initialized_correctly_for_pop_count : Row → ℕ
result_is_initialized_correctly_for_pop_count row =
    instruction_deselector op_pop_count row.ci ⊗ one_minus_product_of row.lhs row.lhs_inv ⊗ row.result

unfoldable pub if_log_2_floor_on_0_then_vm_crashes : Row → ℕ
if_log_2_floor_on_0_then_vm_crashes row =
    instruction_deselector op_log2_floor row.ci ⊗ row.copy_flag ⊗ one_minus_product_of row.lhs row.lhs_inv

unfoldable pub if_copy_flag_is_0_then_lookup_multiplicity_is_0 : Row → ℕ
if_copy_flag_is_0_then_lookup_multiplicity_is_0 row = (row.copy_flag ⊖ 1) ⊗ row.lookup_multiplicity

unfoldable pub consistency_constraints : Row → List Ext
consistency_constraints row =
    base_value (copy_flag_is_bit row)
    ∷ base_value (copy_flag_is_0_or_bits_is_0 row)
    ∷ base_value (bits_minus_33_inv_is_inverse_of_bits_minus_33 row)
    ∷ base_value (lhs_inv_is_0_or_the_inverse_of_lhs row)
    ∷ base_value (lhs_is_0_or_lhs_inverse_is_the_inverse_of_lhs row)
    ∷ base_value (rhs_inv_is_0_or_the_inverse_of_rhs row)
    ∷ base_value (rhs_is_0_or_rhs_inverse_is_the_inverse_of_rhs row)
    ∷ base_value (result_is_initialized_correctly_for_lt_with_copy_flag_0 row)
    ∷ base_value (result_is_initialized_correctly_for_lt_with_copy_flag_1 row)
    ∷ base_value (result_is_initialized_correctly_for_and row)
    ∷ base_value (result_is_initialized_correctly_for_pow row)
    ∷ base_value (result_is_initialized_correctly_for_log_2_floor row)
    ∷ base_value (result_is_initialized_correctly_for_pop_count row)
    ∷ base_value (if_log_2_floor_on_0_then_vm_crashes row)
    ∷ base_value (if_copy_flag_is_0_then_lookup_multiplicity_is_0 row)
    ∷ []

-- ---- transition, of a row and the row below it. The deselectors ask the lower row's CI
unfoldable pub if_copy_flag_next_is_1_then_lhs_is_0_or_ci_is_pow : Row → Row → ℕ
if_copy_flag_next_is_1_then_lhs_is_0_or_ci_is_pow upper lower = lower.copy_flag ⊗ upper.lhs ⊗ ci_is_pow_of upper

unfoldable pub if_copy_flag_next_is_1_then_rhs_is_0 : Row → Row → ℕ
if_copy_flag_next_is_1_then_rhs_is_0 upper lower = lower.copy_flag ⊗ upper.rhs

unfoldable pub if_copy_flag_next_is_0_then_ci_stays : Row → Row → ℕ
if_copy_flag_next_is_0_then_ci_stays upper lower = (lower.copy_flag ⊖ 1) ⊗ (lower.ci ⊖ upper.ci)

unfoldable pub if_copy_flag_next_is_0_and_lhs_next_is_nonzero_and_ci_not_pow_then_bits_increases_by_1 : Row → Row → ℕ
if_copy_flag_next_is_0_and_lhs_next_is_nonzero_and_ci_not_pow_then_bits_increases_by_1 upper lower =
    (lower.copy_flag ⊖ 1) ⊗ upper.lhs ⊗ ci_is_pow_of upper ⊗ (lower.bits ⊖ upper.bits ⊖ 1)

unfoldable pub if_copy_flag_next_is_0_and_rhs_next_is_nonzero_then_bits_increases_by_1 : Row → Row → ℕ
if_copy_flag_next_is_0_and_rhs_next_is_nonzero_then_bits_increases_by_1 upper lower =
    (lower.copy_flag ⊖ 1) ⊗ upper.rhs ⊗ (lower.bits ⊖ upper.bits ⊖ 1)

unfoldable pub if_copy_flag_next_is_0_and_ci_not_pow_then_lhs_lsb_is_a_bit : Row → Row → ℕ
if_copy_flag_next_is_0_and_ci_not_pow_then_lhs_lsb_is_a_bit upper lower =
    (lower.copy_flag ⊖ 1) ⊗ ci_is_pow_of upper ⊗ lhs_lsb upper lower ⊗ (lhs_lsb upper lower ⊖ 1)

unfoldable pub if_copy_flag_next_is_0_then_rhs_lsb_is_a_bit : Row → Row → ℕ
if_copy_flag_next_is_0_then_rhs_lsb_is_a_bit upper lower =
    (lower.copy_flag ⊖ 1) ⊗ rhs_lsb upper lower ⊗ (rhs_lsb upper lower ⊖ 1)

-- instruction lt
unfoldable pub if_copy_flag_next_is_0_and_ci_is_lt_and_result_next_is_0_then_result_is_0 : Row → Row → ℕ
if_copy_flag_next_is_0_and_ci_is_lt_and_result_next_is_0_then_result_is_0 upper lower =
    (lower.copy_flag ⊖ 1) ⊗ instruction_deselector op_lt lower.ci ⊗ (lower.result ⊖ 1) ⊗ (lower.result ⊖ 2)
    ⊗ upper.result

unfoldable pub if_copy_flag_next_is_0_and_ci_is_lt_and_result_next_is_1_then_result_is_1 : Row → Row → ℕ
if_copy_flag_next_is_0_and_ci_is_lt_and_result_next_is_1_then_result_is_1 upper lower =
    (lower.copy_flag ⊖ 1) ⊗ instruction_deselector op_lt lower.ci ⊗ lower.result ⊗ (lower.result ⊖ 2)
    ⊗ (upper.result ⊖ 1)

-- the name says the opposite of this polynomial and of the next: here the bits 0 and 1 of LHS and RHS ask for Result 1
unfoldable pub if_copy_flag_next_is_0_and_ci_is_lt_and_result_next_is_2_and_lt_is_0_then_result_is_0 : Row → Row → ℕ
if_copy_flag_next_is_0_and_ci_is_lt_and_result_next_is_2_and_lt_is_0_then_result_is_0 upper lower =
    (lower.copy_flag ⊖ 1) ⊗ instruction_deselector op_lt lower.ci ⊗ lower.result ⊗ (lower.result ⊖ 1)
    ⊗ (lhs_lsb upper lower ⊖ 1) ⊗ rhs_lsb upper lower ⊗ (upper.result ⊖ 1)

unfoldable pub if_copy_flag_next_is_0_and_ci_is_lt_and_result_next_is_2_and_lt_is_1_then_result_is_1 : Row → Row → ℕ
if_copy_flag_next_is_0_and_ci_is_lt_and_result_next_is_2_and_lt_is_1_then_result_is_1 upper lower =
    (lower.copy_flag ⊖ 1) ⊗ instruction_deselector op_lt lower.ci ⊗ lower.result ⊗ (lower.result ⊖ 1)
    ⊗ lhs_lsb upper lower ⊗ (rhs_lsb upper lower ⊖ 1) ⊗ upper.result

unfoldable pub if_copy_flag_next_is_0_and_ci_is_lt_and_result_still_not_known_then_result_is_2 : Row → Row → ℕ
if_copy_flag_next_is_0_and_ci_is_lt_and_result_still_not_known_then_result_is_2 upper lower =
    (lower.copy_flag ⊖ 1) ⊗ instruction_deselector op_lt lower.ci ⊗ lower.result ⊗ (lower.result ⊖ 1)
    ⊗ equal_bits (lhs_lsb upper lower) (rhs_lsb upper lower) ⊗ (upper.copy_flag ⊖ 1) ⊗ (upper.result ⊖ 2)

unfoldable pub if_copy_flag_next_is_0_and_ci_is_lt_and_copy_flag_dictates_result_then_result_is_0 : Row → Row → ℕ
if_copy_flag_next_is_0_and_ci_is_lt_and_copy_flag_dictates_result_then_result_is_0 upper lower =
    (lower.copy_flag ⊖ 1) ⊗ instruction_deselector op_lt lower.ci ⊗ lower.result ⊗ (lower.result ⊖ 1)
    ⊗ equal_bits (lhs_lsb upper lower) (rhs_lsb upper lower) ⊗ upper.copy_flag ⊗ upper.result

-- instruction and
unfoldable pub if_copy_flag_next_is_0_and_ci_is_and_then_results_updates_correctly : Row → Row → ℕ
if_copy_flag_next_is_0_and_ci_is_and_then_results_updates_correctly upper lower =
    (lower.copy_flag ⊖ 1) ⊗ instruction_deselector op_and lower.ci
    ⊗ (upper.result ⊖ 2 ⊗ lower.result ⊖ lhs_lsb upper lower ⊗ rhs_lsb upper lower)

-- instruction log_2_floor
unfoldable pub if_copy_flag_next_is_0_and_ci_is_log_2_floor_lhs_next_0_for_first_time_then_set_result : Row → Row → ℕ
if_copy_flag_next_is_0_and_ci_is_log_2_floor_lhs_next_0_for_first_time_then_set_result upper lower =
    (lower.copy_flag ⊖ 1) ⊗ instruction_deselector op_log2_floor lower.ci ⊗ one_minus_product_of lower.lhs lower.lhs_inv
    ⊗ upper.lhs ⊗ (upper.result ⊖ upper.bits)

unfoldable pub if_copy_flag_next_is_0_and_ci_is_log_2_floor_and_lhs_next_not_0_then_copy_result : Row → Row → ℕ
if_copy_flag_next_is_0_and_ci_is_log_2_floor_and_lhs_next_not_0_then_copy_result upper lower =
    (lower.copy_flag ⊖ 1) ⊗ instruction_deselector op_log2_floor lower.ci ⊗ lower.lhs ⊗ (lower.result ⊖ upper.result)

-- instruction pow
unfoldable pub if_copy_flag_next_is_0_and_ci_is_pow_then_lhs_remains_unchanged : Row → Row → ℕ
if_copy_flag_next_is_0_and_ci_is_pow_then_lhs_remains_unchanged upper lower =
    (lower.copy_flag ⊖ 1) ⊗ instruction_deselector op_pow lower.ci ⊗ (lower.lhs ⊖ upper.lhs)

unfoldable pub if_copy_flag_next_is_0_and_ci_is_pow_and_rhs_lsb_is_0_then_result_squares : Row → Row → ℕ
if_copy_flag_next_is_0_and_ci_is_pow_and_rhs_lsb_is_0_then_result_squares upper lower =
    (lower.copy_flag ⊖ 1) ⊗ instruction_deselector op_pow lower.ci ⊗ (rhs_lsb upper lower ⊖ 1)
    ⊗ (upper.result ⊖ lower.result ⊗ lower.result)

unfoldable pub if_copy_flag_next_is_0_and_ci_is_pow_and_rhs_lsb_is_1_then_result_squares_and_mults : Row → Row → ℕ
if_copy_flag_next_is_0_and_ci_is_pow_and_rhs_lsb_is_1_then_result_squares_and_mults upper lower =
    (lower.copy_flag ⊖ 1) ⊗ instruction_deselector op_pow lower.ci ⊗ rhs_lsb upper lower
    ⊗ (upper.result ⊖ lower.result ⊗ lower.result ⊗ upper.lhs)

-- instruction pop_count
unfoldable pub if_copy_flag_next_is_0_and_ci_is_pop_count_then_result_increases_by_lhs_lsb : Row → Row → ℕ
if_copy_flag_next_is_0_and_ci_is_pop_count_then_result_increases_by_lhs_lsb upper lower =
    (lower.copy_flag ⊖ 1) ⊗ instruction_deselector op_pop_count lower.ci ⊗ (upper.result ⊖ lower.result ⊖ lhs_lsb upper lower)

-- running sum: `sum` of the upper row and `next` of the lower row
unfoldable pub if_copy_flag_next_is_0_then_running_sum_log_derivative_stays : Row → Ext → Ext → Ext
if_copy_flag_next_is_0_then_running_sum_log_derivative_stays lower sum next =
    scale_x (lower.copy_flag ⊖ 1) (sub_x next sum)

unfoldable pub if_copy_flag_next_is_1_then_running_sum_log_derivative_accumulates_next_row : Challenges → Row → Ext → Ext → Ext
if_copy_flag_next_is_1_then_running_sum_log_derivative_accumulates_next_row c lower sum next =
    scale_x lower.copy_flag
    (sub_x (mul_x (sub_x next sum) (row_denominator c lower)) (base_value lower.lookup_multiplicity))

unfoldable pub transition_constraints : Challenges → Row → Row → Ext → Ext → List Ext
transition_constraints c upper lower sum next =
    base_value (if_copy_flag_next_is_1_then_lhs_is_0_or_ci_is_pow upper lower)
    ∷ base_value (if_copy_flag_next_is_1_then_rhs_is_0 upper lower)
    ∷ base_value (if_copy_flag_next_is_0_then_ci_stays upper lower)
    ∷ base_value (if_copy_flag_next_is_0_and_lhs_next_is_nonzero_and_ci_not_pow_then_bits_increases_by_1 upper lower)
    ∷ base_value (if_copy_flag_next_is_0_and_rhs_next_is_nonzero_then_bits_increases_by_1 upper lower)
    ∷ base_value (if_copy_flag_next_is_0_and_ci_not_pow_then_lhs_lsb_is_a_bit upper lower)
    ∷ base_value (if_copy_flag_next_is_0_then_rhs_lsb_is_a_bit upper lower)
    ∷ base_value (if_copy_flag_next_is_0_and_ci_is_lt_and_result_next_is_0_then_result_is_0 upper lower)
    ∷ base_value (if_copy_flag_next_is_0_and_ci_is_lt_and_result_next_is_1_then_result_is_1 upper lower)
    ∷ base_value (if_copy_flag_next_is_0_and_ci_is_lt_and_result_next_is_2_and_lt_is_0_then_result_is_0 upper lower)
    ∷ base_value (if_copy_flag_next_is_0_and_ci_is_lt_and_result_next_is_2_and_lt_is_1_then_result_is_1 upper lower)
    ∷ base_value (if_copy_flag_next_is_0_and_ci_is_lt_and_result_still_not_known_then_result_is_2 upper lower)
    ∷ base_value (if_copy_flag_next_is_0_and_ci_is_lt_and_copy_flag_dictates_result_then_result_is_0 upper lower)
    ∷ base_value (if_copy_flag_next_is_0_and_ci_is_and_then_results_updates_correctly upper lower)
    ∷ base_value (if_copy_flag_next_is_0_and_ci_is_log_2_floor_lhs_next_0_for_first_time_then_set_result upper lower)
    ∷ base_value (if_copy_flag_next_is_0_and_ci_is_log_2_floor_and_lhs_next_not_0_then_copy_result upper lower)
    ∷ base_value (if_copy_flag_next_is_0_and_ci_is_pow_then_lhs_remains_unchanged upper lower)
    ∷ base_value (if_copy_flag_next_is_0_and_ci_is_pow_and_rhs_lsb_is_0_then_result_squares upper lower)
    ∷ base_value (if_copy_flag_next_is_0_and_ci_is_pow_and_rhs_lsb_is_1_then_result_squares_and_mults upper lower)
    ∷ base_value (if_copy_flag_next_is_0_and_ci_is_pop_count_then_result_increases_by_lhs_lsb upper lower)
    ∷ if_copy_flag_next_is_0_then_running_sum_log_derivative_stays lower sum next
    ∷ if_copy_flag_next_is_1_then_running_sum_log_derivative_accumulates_next_row c lower sum next
    ∷ []

-- ---- terminal
unfoldable pub lhs_is_0_or_ci_is_pow : Row → ℕ
lhs_is_0_or_ci_is_pow row = row.lhs ⊗ (row.ci ⊖ op_pow)

unfoldable pub rhs_is_0 : Row → ℕ
rhs_is_0 row = row.rhs

unfoldable pub terminal_constraints : Row → List Ext
terminal_constraints row = base_value (lhs_is_0_or_ci_is_pow row) ∷ base_value (rhs_is_0 row) ∷ []
