-- Each value of a list of constraints has its words below p: a product or difference of the field always has, and the one constraint that
-- is a word itself, that RHS is 0, has where RHS is below p. Assumes nothing.
use Prim.Native.Nat.{ℕ, ◌<◌}
use mathlib.Core.List.{List, [], ◌∷◌}
use lib.Dec.{lit<}
use Rattle.field.specs.Elements.{p, sub_f, mul_f}
use Rattle.field.proofs.Laws.{mul_f_lt, sub_f_lt}
use Rattle.xfield.specs.Extension.{Ext, Reduced}
use Rattle.xfield.proofs.RingLawsX.{add_x_reduced, scale_x_reduced}
use Rattle.table.specs.Columns.{Row}
use Rattle.table.specs.Challenges.{Challenges}
use Rattle.air.specs.Constraints as Poly
use Rattle.air.specs.Constraints.{base_value, initial_constraints, consistency_constraints, transition_constraints, terminal_constraints}

-- every value has its words below p
infixr 5 ◌and◌
pub data AllReducedX : List Ext → Type 0 where
  none : AllReducedX []
  ◌and◌ : {v : Ext} {vs : List Ext} → Reduced v → AllReducedX vs → AllReducedX (v ∷ vs)

base_reduced : {v : ℕ} → v < p → Reduced (base_value v)
base_reduced l = record { a_below = l; b_below = lit< tt; c_below = lit< tt }

product : (a b : ℕ) → Reduced (base_value (mul_f a b))
product a b = base_reduced (mul_f_lt a b)

difference : (a b : ℕ) → Reduced (base_value (sub_f a b))
difference a b = base_reduced (sub_f_lt a b)

pub initial_reduced : (c : Challenges) (row : Row) (sum : Ext) → AllReducedX (initial_constraints c row sum)
unfolding initial_constraints Poly.running_sum_log_derivative_starts_correctly
initial_reduced c row sum = add_x_reduced _ _ and none

pub consistency_reduced : (row : Row) → AllReducedX (consistency_constraints row)
unfolding
    consistency_constraints
    Poly.copy_flag_is_bit
    Poly.copy_flag_is_0_or_bits_is_0
    Poly.bits_minus_33_inv_is_inverse_of_bits_minus_33
    Poly.lhs_inv_is_0_or_the_inverse_of_lhs
    Poly.lhs_is_0_or_lhs_inverse_is_the_inverse_of_lhs
    Poly.rhs_inv_is_0_or_the_inverse_of_rhs
    Poly.rhs_is_0_or_rhs_inverse_is_the_inverse_of_rhs
    Poly.result_is_initialized_correctly_for_lt_with_copy_flag_0
    Poly.result_is_initialized_correctly_for_lt_with_copy_flag_1
    Poly.result_is_initialized_correctly_for_and
    Poly.result_is_initialized_correctly_for_pow
    Poly.result_is_initialized_correctly_for_log_2_floor
    Poly.result_is_initialized_correctly_for_pop_count
    Poly.if_log_2_floor_on_0_then_vm_crashes
    Poly.if_copy_flag_is_0_then_lookup_multiplicity_is_0
consistency_reduced row =
    product _ _ and product _ _ and difference _ _ and product _ _ and product _ _ and product _ _ and product _ _ and product _ _
    and product _ _ and product _ _ and product _ _ and product _ _ and product _ _ and product _ _ and product _ _ and none

pub transition_reduced : (c : Challenges) (upper lower : Row) (sum next : Ext) → AllReducedX (transition_constraints c upper lower sum next)
unfolding
    transition_constraints
    Poly.if_copy_flag_next_is_1_then_lhs_is_0_or_ci_is_pow
    Poly.if_copy_flag_next_is_1_then_rhs_is_0
    Poly.if_copy_flag_next_is_0_then_ci_stays
    Poly.if_copy_flag_next_is_0_and_lhs_next_is_nonzero_and_ci_not_pow_then_bits_increases_by_1
    Poly.if_copy_flag_next_is_0_and_rhs_next_is_nonzero_then_bits_increases_by_1
    Poly.if_copy_flag_next_is_0_and_ci_not_pow_then_lhs_lsb_is_a_bit
    Poly.if_copy_flag_next_is_0_then_rhs_lsb_is_a_bit
    Poly.if_copy_flag_next_is_0_and_ci_is_lt_and_result_next_is_0_then_result_is_0
    Poly.if_copy_flag_next_is_0_and_ci_is_lt_and_result_next_is_1_then_result_is_1
    Poly.if_copy_flag_next_is_0_and_ci_is_lt_and_result_next_is_2_and_lt_is_0_then_result_is_0
    Poly.if_copy_flag_next_is_0_and_ci_is_lt_and_result_next_is_2_and_lt_is_1_then_result_is_1
    Poly.if_copy_flag_next_is_0_and_ci_is_lt_and_result_still_not_known_then_result_is_2
    Poly.if_copy_flag_next_is_0_and_ci_is_lt_and_copy_flag_dictates_result_then_result_is_0
    Poly.if_copy_flag_next_is_0_and_ci_is_and_then_results_updates_correctly
    Poly.if_copy_flag_next_is_0_and_ci_is_log_2_floor_lhs_next_0_for_first_time_then_set_result
    Poly.if_copy_flag_next_is_0_and_ci_is_log_2_floor_and_lhs_next_not_0_then_copy_result
    Poly.if_copy_flag_next_is_0_and_ci_is_pow_then_lhs_remains_unchanged
    Poly.if_copy_flag_next_is_0_and_ci_is_pow_and_rhs_lsb_is_0_then_result_squares
    Poly.if_copy_flag_next_is_0_and_ci_is_pow_and_rhs_lsb_is_1_then_result_squares_and_mults
    Poly.if_copy_flag_next_is_0_and_ci_is_pop_count_then_result_increases_by_lhs_lsb
    Poly.if_copy_flag_next_is_0_then_running_sum_log_derivative_stays
    Poly.if_copy_flag_next_is_1_then_running_sum_log_derivative_accumulates_next_row
transition_reduced c upper lower sum next =
    product _ _ and product _ _ and product _ _ and product _ _ and product _ _ and product _ _ and product _ _
    and product _ _ and product _ _ and product _ _ and product _ _ and product _ _ and product _ _ and product _ _
    and product _ _ and product _ _ and product _ _ and product _ _ and product _ _ and product _ _ and scale_x_reduced _ _
    and scale_x_reduced _ _ and none

pub terminal_reduced : (row : Row) → row.rhs < p → AllReducedX (terminal_constraints row)
unfolding terminal_constraints Poly.lhs_is_0_or_ci_is_pow Poly.rhs_is_0
terminal_reduced row l = product _ _ and base_reduced l and none
