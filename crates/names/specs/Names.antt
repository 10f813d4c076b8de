-- The names of the forty constraints, those of the source, by group and index: in the order of the lists of air/specs/Constraints.antt
-- (tests/u32check compares).
use Rattle.std.specs.Prelude.{ℕ, zero, suc, List, [], ◌∷◌, ◌++◌}
use Rattle.text.specs.Lines.{ascii}

unfoldable pub initial_names : List (List ℕ)
initial_names =
    ascii "running_sum_log_derivative_starts_correctly"
    ∷ []

unfoldable pub consistency_names : List (List ℕ)
consistency_names =
    ascii "copy_flag_is_bit"
    ∷ ascii "copy_flag_is_0_or_bits_is_0"
    ∷ ascii "bits_minus_33_inv_is_inverse_of_bits_minus_33"
    ∷ ascii "lhs_inv_is_0_or_the_inverse_of_lhs"
    ∷ ascii "lhs_is_0_or_lhs_inverse_is_the_inverse_of_lhs"
    ∷ ascii "rhs_inv_is_0_or_the_inverse_of_rhs"
    ∷ ascii "rhs_is_0_or_rhs_inverse_is_the_inverse_of_rhs"
    ∷ ascii "result_is_initialized_correctly_for_lt_with_copy_flag_0"
    ∷ ascii "result_is_initialized_correctly_for_lt_with_copy_flag_1"
    ∷ ascii "result_is_initialized_correctly_for_and"
    ∷ ascii "result_is_initialized_correctly_for_pow"
    ∷ ascii "result_is_initialized_correctly_for_log_2_floor"
    ∷ ascii "result_is_initialized_correctly_for_pop_count"
    ∷ ascii "if_log_2_floor_on_0_then_vm_crashes"
    ∷ ascii "if_copy_flag_is_0_then_lookup_multiplicity_is_0"
    ∷ []

unfoldable pub transition_names : List (List ℕ)
transition_names =
    ascii "if_copy_flag_next_is_1_then_lhs_is_0_or_ci_is_pow"
    ∷ ascii "if_copy_flag_next_is_1_then_rhs_is_0"
    ∷ ascii "if_copy_flag_next_is_0_then_ci_stays"
    ∷ ascii "if_copy_flag_next_is_0_and_lhs_next_is_nonzero_and_ci_not_pow_then_bits_increases_by_1"
    ∷ ascii "if_copy_flag_next_is_0_and_rhs_next_is_nonzero_then_bits_increases_by_1"
    ∷ ascii "if_copy_flag_next_is_0_and_ci_not_pow_then_lhs_lsb_is_a_bit"
    ∷ ascii "if_copy_flag_next_is_0_then_rhs_lsb_is_a_bit"
    ∷ ascii "if_copy_flag_next_is_0_and_ci_is_lt_and_result_next_is_0_then_result_is_0"
    ∷ ascii "if_copy_flag_next_is_0_and_ci_is_lt_and_result_next_is_1_then_result_is_1"
    ∷ ascii "if_copy_flag_next_is_0_and_ci_is_lt_and_result_next_is_2_and_lt_is_0_then_result_is_0"
    ∷ ascii "if_copy_flag_next_is_0_and_ci_is_lt_and_result_next_is_2_and_lt_is_1_then_result_is_1"
    ∷ ascii "if_copy_flag_next_is_0_and_ci_is_lt_and_result_still_not_known_then_result_is_2"
    ∷ ascii "if_copy_flag_next_is_0_and_ci_is_lt_and_copy_flag_dictates_result_then_result_is_0"
    ∷ ascii "if_copy_flag_next_is_0_and_ci_is_and_then_results_updates_correctly"
    ∷ ascii "if_copy_flag_next_is_0_and_ci_is_log_2_floor_lhs_next_0_for_first_time_then_set_result"
    ∷ ascii "if_copy_flag_next_is_0_and_ci_is_log_2_floor_and_lhs_next_not_0_then_copy_result"
    ∷ ascii "if_copy_flag_next_is_0_and_ci_is_pow_then_lhs_remains_unchanged"
    ∷ ascii "if_copy_flag_next_is_0_and_ci_is_pow_and_rhs_lsb_is_0_then_result_squares"
    ∷ ascii "if_copy_flag_next_is_0_and_ci_is_pow_and_rhs_lsb_is_1_then_result_squares_and_mults"
    ∷ ascii "if_copy_flag_next_is_0_and_ci_is_pop_count_then_result_increases_by_lhs_lsb"
    ∷ ascii "if_copy_flag_next_is_0_then_running_sum_log_derivative_stays"
    ∷ ascii "if_copy_flag_next_is_1_then_running_sum_log_derivative_accumulates_next_row"
    ∷ []

unfoldable pub terminal_names : List (List ℕ)
terminal_names =
    ascii "lhs_is_0_or_ci_is_pow"
    ∷ ascii "rhs_is_0"
    ∷ []

-- the group's names; no other group has any
abbrev pub names_of : (group : ℕ) → List (List ℕ)
names_of zero = initial_names
names_of (suc zero) = consistency_names
names_of (suc (suc zero)) = transition_names
names_of (suc (suc (suc zero))) = terminal_names
names_of (suc (suc (suc (suc group)))) = []

-- nothing past the end
abbrev pub name_at : List (List ℕ) → (index : ℕ) → List ℕ
name_at [] index = []
name_at (name ∷ names) zero = name
name_at (name ∷ names) (suc index) = name_at names index

-- the name of a constraint
unfoldable pub name_of : (group index : ℕ) → List ℕ
name_of group index = name_at (names_of group) index

-- all of them, one group after the other
unfoldable pub all_names : List (List ℕ)
all_names = initial_names ++ (consistency_names ++ (transition_names ++ terminal_names))

-- no name is longer
abbrev pub max_name : ℕ
max_name = 100
