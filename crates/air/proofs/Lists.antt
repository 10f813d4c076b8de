-- A list of constraints is all zero exactly where each polynomial, under its name, is zero. And the lists have the lengths 1, 15, 22
-- and 2. Assumes nothing.
use Prim.Native.Nat.{ℕ}
use mathlib.Core.Path.{◌≡◌, refl, ap}
use lib.ListN.{length}
use Rattle.xfield.specs.Extension.{Ext, zero_x}
use Rattle.table.specs.Columns.{Row}
use Rattle.table.specs.Challenges.{Challenges}
use Rattle.air.specs.Constraints as Poly
use Rattle.air.specs.Constraints.{base_value, initial_constraints, consistency_constraints, transition_constraints, terminal_constraints}
use Rattle.air.specs.Check.{AllZero, none, ◌and◌}

-- ---- "Initial (1), consistency (15), transition (22) and terminal (2)"
pub initial_length : (c : Challenges) (row : Row) (sum : Ext) → length (initial_constraints c row sum) ≡ 1
unfolding initial_constraints
initial_length c row sum = refl

pub consistency_length : (row : Row) → length (consistency_constraints row) ≡ 15
unfolding consistency_constraints
consistency_length row = refl

pub transition_length : (c : Challenges) (upper lower : Row) (sum next : Ext) → length (transition_constraints c upper lower sum next) ≡ 22
unfolding transition_constraints
transition_length c upper lower sum next = refl

pub terminal_length : (row : Row) → length (terminal_constraints row) ≡ 2
unfolding terminal_constraints
terminal_length row = refl

-- ---- a base value is zero where its word is 0
base_zero : {v : ℕ} → base_value v ≡ zero_x → v ≡ 0
base_zero e = ap (λ (x : Ext). x.a) e

zero_base : {v : ℕ} → v ≡ 0 → base_value v ≡ zero_x
zero_base e = ap base_value e

-- ---- initial
pub initial_zero : (c : Challenges) (row : Row) (sum : Ext) → AllZero (initial_constraints c row sum)
    → Poly.running_sum_log_derivative_starts_correctly c row sum ≡ zero_x
unfolding initial_constraints
initial_zero c row sum (z and none) = z

pub zero_initial : (c : Challenges) (row : Row) (sum : Ext) → Poly.running_sum_log_derivative_starts_correctly c row sum ≡ zero_x
    → AllZero (initial_constraints c row sum)
unfolding initial_constraints
zero_initial c row sum z = z and none

-- ---- consistency
pub record ConsistencyZero (row : Row) : Type 0 where
  pub copy_flag_is_bit : Poly.copy_flag_is_bit row ≡ 0
  pub copy_flag_is_0_or_bits_is_0 : Poly.copy_flag_is_0_or_bits_is_0 row ≡ 0
  pub bits_minus_33_inv_is_inverse_of_bits_minus_33 : Poly.bits_minus_33_inv_is_inverse_of_bits_minus_33 row ≡ 0
  pub lhs_inv_is_0_or_the_inverse_of_lhs : Poly.lhs_inv_is_0_or_the_inverse_of_lhs row ≡ 0
  pub lhs_is_0_or_lhs_inverse_is_the_inverse_of_lhs : Poly.lhs_is_0_or_lhs_inverse_is_the_inverse_of_lhs row ≡ 0
  pub rhs_inv_is_0_or_the_inverse_of_rhs : Poly.rhs_inv_is_0_or_the_inverse_of_rhs row ≡ 0
  pub rhs_is_0_or_rhs_inverse_is_the_inverse_of_rhs : Poly.rhs_is_0_or_rhs_inverse_is_the_inverse_of_rhs row ≡ 0
  pub result_is_initialized_correctly_for_lt_with_copy_flag_0 : Poly.result_is_initialized_correctly_for_lt_with_copy_flag_0 row ≡ 0
  pub result_is_initialized_correctly_for_lt_with_copy_flag_1 : Poly.result_is_initialized_correctly_for_lt_with_copy_flag_1 row ≡ 0
  pub result_is_initialized_correctly_for_and : Poly.result_is_initialized_correctly_for_and row ≡ 0
  pub result_is_initialized_correctly_for_pow : Poly.result_is_initialized_correctly_for_pow row ≡ 0
  pub result_is_initialized_correctly_for_log_2_floor : Poly.result_is_initialized_correctly_for_log_2_floor row ≡ 0
  pub result_is_initialized_correctly_for_pop_count : Poly.result_is_initialized_correctly_for_pop_count row ≡ 0
  pub if_log_2_floor_on_0_then_vm_crashes : Poly.if_log_2_floor_on_0_then_vm_crashes row ≡ 0
  pub if_copy_flag_is_0_then_lookup_multiplicity_is_0 : Poly.if_copy_flag_is_0_then_lookup_multiplicity_is_0 row ≡ 0

pub consistency_zero : (row : Row) → AllZero (consistency_constraints row) → ConsistencyZero row
unfolding consistency_constraints
consistency_zero row (z0 and z1 and z2 and z3 and z4 and z5 and z6 and z7 and z8 and z9 and z10 and z11 and z12 and z13 and z14 and none) = record {
  copy_flag_is_bit = base_zero z0;
  copy_flag_is_0_or_bits_is_0 = base_zero z1;
  bits_minus_33_inv_is_inverse_of_bits_minus_33 = base_zero z2;
  lhs_inv_is_0_or_the_inverse_of_lhs = base_zero z3;
  lhs_is_0_or_lhs_inverse_is_the_inverse_of_lhs = base_zero z4;
  rhs_inv_is_0_or_the_inverse_of_rhs = base_zero z5;
  rhs_is_0_or_rhs_inverse_is_the_inverse_of_rhs = base_zero z6;
  result_is_initialized_correctly_for_lt_with_copy_flag_0 = base_zero z7;
  result_is_initialized_correctly_for_lt_with_copy_flag_1 = base_zero z8;
  result_is_initialized_correctly_for_and = base_zero z9;
  result_is_initialized_correctly_for_pow = base_zero z10;
  result_is_initialized_correctly_for_log_2_floor = base_zero z11;
  result_is_initialized_correctly_for_pop_count = base_zero z12;
  if_log_2_floor_on_0_then_vm_crashes = base_zero z13;
  if_copy_flag_is_0_then_lookup_multiplicity_is_0 = base_zero z14;
}

pub zero_consistency : (row : Row) → ConsistencyZero row → AllZero (consistency_constraints row)
unfolding consistency_constraints
zero_consistency row z =
    zero_base z.copy_flag_is_bit
    and zero_base z.copy_flag_is_0_or_bits_is_0
    and zero_base z.bits_minus_33_inv_is_inverse_of_bits_minus_33
    and zero_base z.lhs_inv_is_0_or_the_inverse_of_lhs
    and zero_base z.lhs_is_0_or_lhs_inverse_is_the_inverse_of_lhs
    and zero_base z.rhs_inv_is_0_or_the_inverse_of_rhs
    and zero_base z.rhs_is_0_or_rhs_inverse_is_the_inverse_of_rhs
    and zero_base z.result_is_initialized_correctly_for_lt_with_copy_flag_0
    and zero_base z.result_is_initialized_correctly_for_lt_with_copy_flag_1
    and zero_base z.result_is_initialized_correctly_for_and
    and zero_base z.result_is_initialized_correctly_for_pow
    and zero_base z.result_is_initialized_correctly_for_log_2_floor
    and zero_base z.result_is_initialized_correctly_for_pop_count
    and zero_base z.if_log_2_floor_on_0_then_vm_crashes
    and zero_base z.if_copy_flag_is_0_then_lookup_multiplicity_is_0
    and none

-- ---- transition
-- over main columns
pub record TransitionZero (upper lower : Row) : Type 0 where
  pub if_copy_flag_next_is_1_then_lhs_is_0_or_ci_is_pow : Poly.if_copy_flag_next_is_1_then_lhs_is_0_or_ci_is_pow upper lower ≡ 0
  pub if_copy_flag_next_is_1_then_rhs_is_0 : Poly.if_copy_flag_next_is_1_then_rhs_is_0 upper lower ≡ 0
  pub if_copy_flag_next_is_0_then_ci_stays : Poly.if_copy_flag_next_is_0_then_ci_stays upper lower ≡ 0
  pub if_copy_flag_next_is_0_and_lhs_next_is_nonzero_and_ci_not_pow_then_bits_increases_by_1 : Poly.if_copy_flag_next_is_0_and_lhs_next_is_nonzero_and_ci_not_pow_then_bits_increases_by_1 upper lower ≡ 0
  pub if_copy_flag_next_is_0_and_rhs_next_is_nonzero_then_bits_increases_by_1 : Poly.if_copy_flag_next_is_0_and_rhs_next_is_nonzero_then_bits_increases_by_1 upper lower ≡ 0
  pub if_copy_flag_next_is_0_and_ci_not_pow_then_lhs_lsb_is_a_bit : Poly.if_copy_flag_next_is_0_and_ci_not_pow_then_lhs_lsb_is_a_bit upper lower ≡ 0
  pub if_copy_flag_next_is_0_then_rhs_lsb_is_a_bit : Poly.if_copy_flag_next_is_0_then_rhs_lsb_is_a_bit upper lower ≡ 0
  pub if_copy_flag_next_is_0_and_ci_is_lt_and_result_next_is_0_then_result_is_0 : Poly.if_copy_flag_next_is_0_and_ci_is_lt_and_result_next_is_0_then_result_is_0 upper lower ≡ 0
  pub if_copy_flag_next_is_0_and_ci_is_lt_and_result_next_is_1_then_result_is_1 : Poly.if_copy_flag_next_is_0_and_ci_is_lt_and_result_next_is_1_then_result_is_1 upper lower ≡ 0
  pub if_copy_flag_next_is_0_and_ci_is_lt_and_result_next_is_2_and_lt_is_0_then_result_is_0 : Poly.if_copy_flag_next_is_0_and_ci_is_lt_and_result_next_is_2_and_lt_is_0_then_result_is_0 upper lower ≡ 0
  pub if_copy_flag_next_is_0_and_ci_is_lt_and_result_next_is_2_and_lt_is_1_then_result_is_1 : Poly.if_copy_flag_next_is_0_and_ci_is_lt_and_result_next_is_2_and_lt_is_1_then_result_is_1 upper lower ≡ 0
  pub if_copy_flag_next_is_0_and_ci_is_lt_and_result_still_not_known_then_result_is_2 : Poly.if_copy_flag_next_is_0_and_ci_is_lt_and_result_still_not_known_then_result_is_2 upper lower ≡ 0
  pub if_copy_flag_next_is_0_and_ci_is_lt_and_copy_flag_dictates_result_then_result_is_0 : Poly.if_copy_flag_next_is_0_and_ci_is_lt_and_copy_flag_dictates_result_then_result_is_0 upper lower ≡ 0
  pub if_copy_flag_next_is_0_and_ci_is_and_then_results_updates_correctly : Poly.if_copy_flag_next_is_0_and_ci_is_and_then_results_updates_correctly upper lower ≡ 0
  pub if_copy_flag_next_is_0_and_ci_is_log_2_floor_lhs_next_0_for_first_time_then_set_result : Poly.if_copy_flag_next_is_0_and_ci_is_log_2_floor_lhs_next_0_for_first_time_then_set_result upper lower ≡ 0
  pub if_copy_flag_next_is_0_and_ci_is_log_2_floor_and_lhs_next_not_0_then_copy_result : Poly.if_copy_flag_next_is_0_and_ci_is_log_2_floor_and_lhs_next_not_0_then_copy_result upper lower ≡ 0
  pub if_copy_flag_next_is_0_and_ci_is_pow_then_lhs_remains_unchanged : Poly.if_copy_flag_next_is_0_and_ci_is_pow_then_lhs_remains_unchanged upper lower ≡ 0
  pub if_copy_flag_next_is_0_and_ci_is_pow_and_rhs_lsb_is_0_then_result_squares : Poly.if_copy_flag_next_is_0_and_ci_is_pow_and_rhs_lsb_is_0_then_result_squares upper lower ≡ 0
  pub if_copy_flag_next_is_0_and_ci_is_pow_and_rhs_lsb_is_1_then_result_squares_and_mults : Poly.if_copy_flag_next_is_0_and_ci_is_pow_and_rhs_lsb_is_1_then_result_squares_and_mults upper lower ≡ 0
  pub if_copy_flag_next_is_0_and_ci_is_pop_count_then_result_increases_by_lhs_lsb : Poly.if_copy_flag_next_is_0_and_ci_is_pop_count_then_result_increases_by_lhs_lsb upper lower ≡ 0

pub transition_zero : (c : Challenges) (upper lower : Row) (sum next : Ext) → AllZero (transition_constraints c upper lower sum next) → TransitionZero upper lower
unfolding transition_constraints
transition_zero c upper lower sum next (z0 and z1 and z2 and z3 and z4 and z5 and z6 and z7 and z8 and z9 and z10 and z11 and z12 and z13 and z14 and z15 and z16 and z17 and z18 and z19 and z20 and z21 and none) = record {
  if_copy_flag_next_is_1_then_lhs_is_0_or_ci_is_pow = base_zero z0;
  if_copy_flag_next_is_1_then_rhs_is_0 = base_zero z1;
  if_copy_flag_next_is_0_then_ci_stays = base_zero z2;
  if_copy_flag_next_is_0_and_lhs_next_is_nonzero_and_ci_not_pow_then_bits_increases_by_1 = base_zero z3;
  if_copy_flag_next_is_0_and_rhs_next_is_nonzero_then_bits_increases_by_1 = base_zero z4;
  if_copy_flag_next_is_0_and_ci_not_pow_then_lhs_lsb_is_a_bit = base_zero z5;
  if_copy_flag_next_is_0_then_rhs_lsb_is_a_bit = base_zero z6;
  if_copy_flag_next_is_0_and_ci_is_lt_and_result_next_is_0_then_result_is_0 = base_zero z7;
  if_copy_flag_next_is_0_and_ci_is_lt_and_result_next_is_1_then_result_is_1 = base_zero z8;
  if_copy_flag_next_is_0_and_ci_is_lt_and_result_next_is_2_and_lt_is_0_then_result_is_0 = base_zero z9;
  if_copy_flag_next_is_0_and_ci_is_lt_and_result_next_is_2_and_lt_is_1_then_result_is_1 = base_zero z10;
  if_copy_flag_next_is_0_and_ci_is_lt_and_result_still_not_known_then_result_is_2 = base_zero z11;
  if_copy_flag_next_is_0_and_ci_is_lt_and_copy_flag_dictates_result_then_result_is_0 = base_zero z12;
  if_copy_flag_next_is_0_and_ci_is_and_then_results_updates_correctly = base_zero z13;
  if_copy_flag_next_is_0_and_ci_is_log_2_floor_lhs_next_0_for_first_time_then_set_result = base_zero z14;
  if_copy_flag_next_is_0_and_ci_is_log_2_floor_and_lhs_next_not_0_then_copy_result = base_zero z15;
  if_copy_flag_next_is_0_and_ci_is_pow_then_lhs_remains_unchanged = base_zero z16;
  if_copy_flag_next_is_0_and_ci_is_pow_and_rhs_lsb_is_0_then_result_squares = base_zero z17;
  if_copy_flag_next_is_0_and_ci_is_pow_and_rhs_lsb_is_1_then_result_squares_and_mults = base_zero z18;
  if_copy_flag_next_is_0_and_ci_is_pop_count_then_result_increases_by_lhs_lsb = base_zero z19;
}

-- over the aux column
pub record SumZero (c : Challenges) (lower : Row) (sum next : Ext) : Type 0 where
  pub if_copy_flag_next_is_0_then_running_sum_log_derivative_stays : Poly.if_copy_flag_next_is_0_then_running_sum_log_derivative_stays lower sum next ≡ zero_x
  pub if_copy_flag_next_is_1_then_running_sum_log_derivative_accumulates_next_row : Poly.if_copy_flag_next_is_1_then_running_sum_log_derivative_accumulates_next_row c lower sum next ≡ zero_x

pub sum_zero : (c : Challenges) (upper lower : Row) (sum next : Ext) → AllZero (transition_constraints c upper lower sum next) → SumZero c lower sum next
unfolding transition_constraints
sum_zero c upper lower sum next (z0 and z1 and z2 and z3 and z4 and z5 and z6 and z7 and z8 and z9 and z10 and z11 and z12 and z13 and z14 and z15 and z16 and z17 and z18 and z19 and z20 and z21 and none) = record {
  if_copy_flag_next_is_0_then_running_sum_log_derivative_stays = z20;
  if_copy_flag_next_is_1_then_running_sum_log_derivative_accumulates_next_row = z21;
}

pub zero_transition : (c : Challenges) (upper lower : Row) (sum next : Ext) → TransitionZero upper lower → SumZero c lower sum next
    → AllZero (transition_constraints c upper lower sum next)
unfolding transition_constraints
zero_transition c upper lower sum next z s =
    zero_base z.if_copy_flag_next_is_1_then_lhs_is_0_or_ci_is_pow
    and zero_base z.if_copy_flag_next_is_1_then_rhs_is_0
    and zero_base z.if_copy_flag_next_is_0_then_ci_stays
    and zero_base z.if_copy_flag_next_is_0_and_lhs_next_is_nonzero_and_ci_not_pow_then_bits_increases_by_1
    and zero_base z.if_copy_flag_next_is_0_and_rhs_next_is_nonzero_then_bits_increases_by_1
    and zero_base z.if_copy_flag_next_is_0_and_ci_not_pow_then_lhs_lsb_is_a_bit
    and zero_base z.if_copy_flag_next_is_0_then_rhs_lsb_is_a_bit
    and zero_base z.if_copy_flag_next_is_0_and_ci_is_lt_and_result_next_is_0_then_result_is_0
    and zero_base z.if_copy_flag_next_is_0_and_ci_is_lt_and_result_next_is_1_then_result_is_1
    and zero_base z.if_copy_flag_next_is_0_and_ci_is_lt_and_result_next_is_2_and_lt_is_0_then_result_is_0
    and zero_base z.if_copy_flag_next_is_0_and_ci_is_lt_and_result_next_is_2_and_lt_is_1_then_result_is_1
    and zero_base z.if_copy_flag_next_is_0_and_ci_is_lt_and_result_still_not_known_then_result_is_2
    and zero_base z.if_copy_flag_next_is_0_and_ci_is_lt_and_copy_flag_dictates_result_then_result_is_0
    and zero_base z.if_copy_flag_next_is_0_and_ci_is_and_then_results_updates_correctly
    and zero_base z.if_copy_flag_next_is_0_and_ci_is_log_2_floor_lhs_next_0_for_first_time_then_set_result
    and zero_base z.if_copy_flag_next_is_0_and_ci_is_log_2_floor_and_lhs_next_not_0_then_copy_result
    and zero_base z.if_copy_flag_next_is_0_and_ci_is_pow_then_lhs_remains_unchanged
    and zero_base z.if_copy_flag_next_is_0_and_ci_is_pow_and_rhs_lsb_is_0_then_result_squares
    and zero_base z.if_copy_flag_next_is_0_and_ci_is_pow_and_rhs_lsb_is_1_then_result_squares_and_mults
    and zero_base z.if_copy_flag_next_is_0_and_ci_is_pop_count_then_result_increases_by_lhs_lsb
    and s.if_copy_flag_next_is_0_then_running_sum_log_derivative_stays
    and s.if_copy_flag_next_is_1_then_running_sum_log_derivative_accumulates_next_row
    and none

-- ---- terminal
pub record TerminalZero (row : Row) : Type 0 where
  pub lhs_is_0_or_ci_is_pow : Poly.lhs_is_0_or_ci_is_pow row ≡ 0
  pub rhs_is_0 : Poly.rhs_is_0 row ≡ 0

pub terminal_zero : (row : Row) → AllZero (terminal_constraints row) → TerminalZero row
unfolding terminal_constraints
terminal_zero row (z0 and z1 and none) = record {
  lhs_is_0_or_ci_is_pow = base_zero z0;
  rhs_is_0 = base_zero z1;
}

pub zero_terminal : (row : Row) → TerminalZero row → AllZero (terminal_constraints row)
unfolding terminal_constraints
zero_terminal row z = zero_base z.lhs_is_0_or_ci_is_pow and zero_base z.rhs_is_0 and none
