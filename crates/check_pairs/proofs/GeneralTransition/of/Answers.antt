-- `check_pairs::GeneralTransition::of` meets its contract: each answer is made as its definition says. Assumes nothing.
use Rattle.std.proofs.Common.{rules}
use Rattle.air.specs.Constraints.{ci_is_pow_of}
use Rattle.air.specs.Constraints.{if_copy_flag_next_is_1_then_lhs_is_0_or_ci_is_pow}
use Rattle.air.specs.Constraints.{if_copy_flag_next_is_1_then_rhs_is_0}
use Rattle.air.specs.Constraints.{if_copy_flag_next_is_0_then_ci_stays}
use Rattle.air.specs.Constraints.{if_copy_flag_next_is_0_and_lhs_next_is_nonzero_and_ci_not_pow_then_bits_increases_by_1}
use Rattle.air.specs.Constraints.{if_copy_flag_next_is_0_and_rhs_next_is_nonzero_then_bits_increases_by_1}
use Rattle.table.specs.Layouts.{row_of}
use Rattle.check_pairs.proofs.GeneralTransition.of.Goals as goal

pub returns : goal.returns
unfolding row_of ci_is_pow_of if_copy_flag_next_is_1_then_lhs_is_0_or_ci_is_pow if_copy_flag_next_is_1_then_rhs_is_0 if_copy_flag_next_is_0_then_ci_stays if_copy_flag_next_is_0_and_lhs_next_is_nonzero_and_ci_not_pow_then_bits_increases_by_1 if_copy_flag_next_is_0_and_rhs_next_is_nonzero_then_bits_increases_by_1
returns c = search rules
