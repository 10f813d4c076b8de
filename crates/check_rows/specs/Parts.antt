-- What the parts of an evaluation answer, over the words that they are given. Only the contracts of this crate's parts cite this page:
-- the evaluators' contracts cite the definitions, and their proofs show that with the words of a row these are the
-- polynomials there.
use Rattle.std.specs.Prelude.{ℕ, ◌≡◌}
use Rattle.table.specs.Columns.{Row}
use Rattle.isa.specs.Opcodes.{op_lt, op_and, op_log2_floor, op_pow, op_pop_count}
use Rattle.air.specs.Constraints.{◌⊕◌, ◌⊖◌, ◌⊗◌, instruction_deselector, one_minus_product_of}
use Rattle.air.specs.Constraints.{copy_flag_is_bit}
use Rattle.air.specs.Constraints.{copy_flag_is_0_or_bits_is_0}
use Rattle.air.specs.Constraints.{bits_minus_33_inv_is_inverse_of_bits_minus_33}
use Rattle.air.specs.Constraints.{if_copy_flag_is_0_then_lookup_multiplicity_is_0}
use Rattle.check_rows.specs.declared.FlagConsistency.{FlagConsistency}
use Rattle.check_rows.specs.declared.InverseConsistency.{InverseConsistency}
use Rattle.check_rows.specs.declared.ResultConsistency.{ResultConsistency}

pub record FlagConsistencyOf (row : Row) (r : FlagConsistency) : Type 0 where
  pub copy_flag_minus_1 : r.copy_flag_minus_1.0 ≡ row.copy_flag ⊖ 1
  pub copy_flag_is_bit : r.copy_flag_is_bit.0 ≡ copy_flag_is_bit row
  pub copy_flag_is_0_or_bits_is_0 : r.copy_flag_is_0_or_bits_is_0.0 ≡ copy_flag_is_0_or_bits_is_0 row
  pub bits_minus_33_inv_is_inverse_of_bits_minus_33 : r.bits_minus_33_inv_is_inverse_of_bits_minus_33.0 ≡ bits_minus_33_inv_is_inverse_of_bits_minus_33 row
  pub if_copy_flag_is_0_then_lookup_multiplicity_is_0 : r.if_copy_flag_is_0_then_lookup_multiplicity_is_0.0 ≡ if_copy_flag_is_0_then_lookup_multiplicity_is_0 row

pub record InverseConsistencyOf (value inverse : ℕ) (r : InverseConsistency) : Type 0 where
  pub one_minus_product : r.one_minus_product.0 ≡ one_minus_product_of value inverse
  pub inv_is_0_or_the_inverse : r.inv_is_0_or_the_inverse.0 ≡ inverse ⊗ one_minus_product_of value inverse
  pub value_is_0_or_inverse_is_the_inverse : r.value_is_0_or_inverse_is_the_inverse.0 ≡ value ⊗ one_minus_product_of value inverse

-- lhs and rhs are 1 minus LHS, or RHS, times its inverse
pub record ResultConsistencyOf (row : Row) (copy_flag_minus1 lhs rhs : ℕ) (r : ResultConsistency) : Type 0 where
  pub for_lt_with_copy_flag_0 : r.for_lt_with_copy_flag_0.0 ≡ instruction_deselector op_lt row.ci ⊗ copy_flag_minus1 ⊗ lhs ⊗ rhs ⊗ (row.result ⊖ 2)
  pub for_lt_with_copy_flag_1 : r.for_lt_with_copy_flag_1.0 ≡ instruction_deselector op_lt row.ci ⊗ row.copy_flag ⊗ lhs ⊗ rhs ⊗ row.result
  pub for_and : r.for_and.0 ≡ instruction_deselector op_and row.ci ⊗ lhs ⊗ rhs ⊗ row.result
  pub for_pow : r.for_pow.0 ≡ instruction_deselector op_pow row.ci ⊗ rhs ⊗ (row.result ⊖ 1)
  pub for_log_2_floor : r.for_log_2_floor.0 ≡ instruction_deselector op_log2_floor row.ci ⊗ copy_flag_minus1 ⊗ lhs ⊗ (row.result ⊕ 1)
  pub for_pop_count : r.for_pop_count.0 ≡ instruction_deselector op_pop_count row.ci ⊗ lhs ⊗ row.result
  pub if_log_2_floor_on_0_then_vm_crashes : r.if_log_2_floor_on_0_then_vm_crashes.0 ≡ instruction_deselector op_log2_floor row.ci ⊗ row.copy_flag ⊗ lhs
