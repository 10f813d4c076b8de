-- `check_pairs::transition_constraints` meets its contract: the parts are the constraints of the definition, place by place.
-- Assumes nothing.
use Rattle.std.proofs.Common.{rules}
use Rattle.air.specs.Constraints.{transition_constraints}
use Rattle.air.specs.Constraints.{if_copy_flag_next_is_0_then_running_sum_log_derivative_stays}
use Rattle.air.specs.Constraints.{if_copy_flag_next_is_1_then_running_sum_log_derivative_accumulates_next_row}
use Rattle.table.specs.Layouts.{row_of}
use Rattle.check_pairs.proofs.transition_constraints.Goals as goal

pub returns : goal.returns
unfolding transition_constraints row_of if_copy_flag_next_is_0_then_running_sum_log_derivative_stays if_copy_flag_next_is_1_then_running_sum_log_derivative_accumulates_next_row
returns c = search rules
