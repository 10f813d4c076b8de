-- `check_rows::FlagConsistency::of` meets its contract: each value is made as its definition says. Assumes nothing.
use Rattle.std.proofs.Common.{rules}
use Rattle.air.specs.Constraints.{copy_flag_is_bit}
use Rattle.air.specs.Constraints.{copy_flag_is_0_or_bits_is_0}
use Rattle.air.specs.Constraints.{bits_minus_33_inv_is_inverse_of_bits_minus_33}
use Rattle.air.specs.Constraints.{if_copy_flag_is_0_then_lookup_multiplicity_is_0}
use Rattle.table.specs.Layouts.{row_of}
use Rattle.check_rows.proofs.FlagConsistency.of.Goals as goal

pub returns : goal.returns
unfolding row_of copy_flag_is_bit copy_flag_is_0_or_bits_is_0 bits_minus_33_inv_is_inverse_of_bits_minus_33 if_copy_flag_is_0_then_lookup_multiplicity_is_0
returns c = search rules
