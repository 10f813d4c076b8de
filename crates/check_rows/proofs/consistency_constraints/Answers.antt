-- `check_rows::consistency_constraints` meets its contract: the parts, with the words of the row, are the constraints of the
-- definition, place by place. Assumes nothing.
use Rattle.std.proofs.Common.{◌∙◌, rules, tests}
use Rattle.air.specs.Constraints.{consistency_constraints}
use Rattle.air.specs.Constraints.{lhs_inv_is_0_or_the_inverse_of_lhs}
use Rattle.air.specs.Constraints.{lhs_is_0_or_lhs_inverse_is_the_inverse_of_lhs}
use Rattle.air.specs.Constraints.{rhs_inv_is_0_or_the_inverse_of_rhs}
use Rattle.air.specs.Constraints.{rhs_is_0_or_rhs_inverse_is_the_inverse_of_rhs}
use Rattle.air.specs.Constraints.{result_is_initialized_correctly_for_lt_with_copy_flag_0}
use Rattle.air.specs.Constraints.{result_is_initialized_correctly_for_lt_with_copy_flag_1}
use Rattle.air.specs.Constraints.{result_is_initialized_correctly_for_and}
use Rattle.air.specs.Constraints.{result_is_initialized_correctly_for_pow}
use Rattle.air.specs.Constraints.{result_is_initialized_correctly_for_log_2_floor}
use Rattle.air.specs.Constraints.{result_is_initialized_correctly_for_pop_count}
use Rattle.air.specs.Constraints.{if_log_2_floor_on_0_then_vm_crashes}
use Rattle.table.specs.Layouts.{row_of}
use Rattle.check_rows.proofs.BaseValues.{base_values}
use Rattle.check_rows.proofs.consistency_constraints.Goals as goal

pub returns : goal.returns
unfolding consistency_constraints row_of lhs_inv_is_0_or_the_inverse_of_lhs lhs_is_0_or_lhs_inverse_is_the_inverse_of_lhs rhs_inv_is_0_or_the_inverse_of_rhs rhs_is_0_or_rhs_inverse_is_the_inverse_of_rhs result_is_initialized_correctly_for_lt_with_copy_flag_0 result_is_initialized_correctly_for_lt_with_copy_flag_1 result_is_initialized_correctly_for_and result_is_initialized_correctly_for_pow result_is_initialized_correctly_for_log_2_floor result_is_initialized_correctly_for_pop_count if_log_2_floor_on_0_then_vm_crashes
returns c = base_values _ _ c.map.ensures.items (λ p x y q k. search (rules, tests)) ∙ search rules
