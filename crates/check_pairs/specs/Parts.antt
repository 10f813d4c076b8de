-- What the parts of an evaluation answer, over the words that they are given. Only the contracts of this crate's parts cite this page:
-- the evaluators' contracts cite the definitions, and their proofs show that with the words of a pair these are the
-- polynomials there.
use Rattle.std.specs.Prelude.{ℕ, ◌≡◌, List, [], ◌∷◌}
use Rattle.xfield.specs.Extension.{Ext, sub_x, mul_x, scale_x}
use Rattle.xfield.specs.XFieldElements.{ext_of}
use Rattle.table.specs.Columns.{Row}
use Rattle.air.specs.Constraints.{◌⊖◌, ◌⊗◌, one_minus_product_of, ci_is_pow_of, equal_bits, base_value}
use Rattle.air.specs.Constraints.{if_copy_flag_next_is_1_then_lhs_is_0_or_ci_is_pow}
use Rattle.air.specs.Constraints.{if_copy_flag_next_is_1_then_rhs_is_0}
use Rattle.air.specs.Constraints.{if_copy_flag_next_is_0_then_ci_stays}
use Rattle.air.specs.Constraints.{if_copy_flag_next_is_0_and_lhs_next_is_nonzero_and_ci_not_pow_then_bits_increases_by_1}
use Rattle.air.specs.Constraints.{if_copy_flag_next_is_0_and_rhs_next_is_nonzero_then_bits_increases_by_1}
use Rattle.air.specs.Constraints.{if_copy_flag_next_is_0_and_ci_not_pow_then_lhs_lsb_is_a_bit}
use Rattle.air.specs.Constraints.{if_copy_flag_next_is_0_then_rhs_lsb_is_a_bit}
use Rattle.air.specs.Constraints.{if_copy_flag_next_is_0_and_ci_is_lt_and_result_next_is_0_then_result_is_0}
use Rattle.air.specs.Constraints.{if_copy_flag_next_is_0_and_ci_is_lt_and_result_next_is_1_then_result_is_1}
use Rattle.air.specs.Constraints.{if_copy_flag_next_is_0_and_ci_is_lt_and_result_next_is_2_and_lt_is_0_then_result_is_0}
use Rattle.air.specs.Constraints.{if_copy_flag_next_is_0_and_ci_is_lt_and_result_next_is_2_and_lt_is_1_then_result_is_1}
use Rattle.air.specs.Constraints.{if_copy_flag_next_is_0_and_ci_is_lt_and_result_still_not_known_then_result_is_2}
use Rattle.air.specs.Constraints.{if_copy_flag_next_is_0_and_ci_is_lt_and_copy_flag_dictates_result_then_result_is_0}
use Rattle.air.specs.Constraints.{if_copy_flag_next_is_0_and_ci_is_and_then_results_updates_correctly}
use Rattle.air.specs.Constraints.{if_copy_flag_next_is_0_and_ci_is_log_2_floor_lhs_next_0_for_first_time_then_set_result}
use Rattle.air.specs.Constraints.{if_copy_flag_next_is_0_and_ci_is_log_2_floor_and_lhs_next_not_0_then_copy_result}
use Rattle.air.specs.Constraints.{if_copy_flag_next_is_0_and_ci_is_pow_then_lhs_remains_unchanged}
use Rattle.air.specs.Constraints.{if_copy_flag_next_is_0_and_ci_is_pow_and_rhs_lsb_is_0_then_result_squares}
use Rattle.air.specs.Constraints.{if_copy_flag_next_is_0_and_ci_is_pow_and_rhs_lsb_is_1_then_result_squares_and_mults}
use Rattle.air.specs.Constraints.{if_copy_flag_next_is_0_and_ci_is_pop_count_then_result_increases_by_lhs_lsb}
use Rattle.check_pairs.specs.declared.LeastBits.{LeastBits}
use Rattle.check_pairs.specs.declared.GeneralTransition.{GeneralTransition}
use Rattle.check_pairs.specs.declared.BitTransition.{BitTransition}
use Rattle.check_pairs.specs.declared.DecidedLtTransition.{DecidedLtTransition}
use Rattle.check_pairs.specs.declared.UndecidedLtTransition.{UndecidedLtTransition}
use Rattle.check_pairs.specs.declared.AndLog2FloorTransition.{AndLog2FloorTransition}
use Rattle.check_pairs.specs.declared.PowPopCountTransition.{PowPopCountTransition}
use Rattle.check_pairs.specs.declared.BaseTransition.{BaseTransition}
use Rattle.check_pairs.specs.declared.RunningSumTransition.{RunningSumTransition}

pub record LeastBitsOf (lhs lhs_next rhs rhs_next : ℕ) (r : LeastBits) : Type 0 where
  pub lhs_bit : r.lhs.0 ≡ lhs ⊖ 2 ⊗ lhs_next
  pub rhs_bit : r.rhs.0 ≡ rhs ⊖ 2 ⊗ rhs_next
  pub product : r.product.0 ≡ (lhs ⊖ 2 ⊗ lhs_next) ⊗ (rhs ⊖ 2 ⊗ rhs_next)
  pub equal : r.equal.0 ≡ equal_bits (lhs ⊖ 2 ⊗ lhs_next) (rhs ⊖ 2 ⊗ rhs_next)

pub record GeneralTransitionOf (upper lower : Row) (r : GeneralTransition) : Type 0 where
  pub next_minus_1 : r.next_minus_1.0 ≡ lower.copy_flag ⊖ 1
  pub ci_is_pow : r.ci_is_pow.0 ≡ ci_is_pow_of upper
  pub lhs_is_0_or_ci_is_pow : r.lhs_is_0_or_ci_is_pow.0 ≡ if_copy_flag_next_is_1_then_lhs_is_0_or_ci_is_pow upper lower
  pub rhs_is_0 : r.rhs_is_0.0 ≡ if_copy_flag_next_is_1_then_rhs_is_0 upper lower
  pub ci_stays : r.ci_stays.0 ≡ if_copy_flag_next_is_0_then_ci_stays upper lower
  pub bits_increase_for_lhs : r.bits_increase_for_lhs.0 ≡ if_copy_flag_next_is_0_and_lhs_next_is_nonzero_and_ci_not_pow_then_bits_increases_by_1 upper lower
  pub bits_increase_for_rhs : r.bits_increase_for_rhs.0 ≡ if_copy_flag_next_is_0_and_rhs_next_is_nonzero_then_bits_increases_by_1 upper lower

pub record BitTransitionOf (next_minus1 ci_pow lhs_lsb rhs_lsb : ℕ) (r : BitTransition) : Type 0 where
  pub lhs_lsb_is_a_bit : r.lhs_lsb_is_a_bit.0 ≡ next_minus1 ⊗ ci_pow ⊗ lhs_lsb ⊗ (lhs_lsb ⊖ 1)
  pub rhs_lsb_is_a_bit : r.rhs_lsb_is_a_bit.0 ≡ next_minus1 ⊗ rhs_lsb ⊗ (rhs_lsb ⊖ 1)

pub record DecidedLtTransitionOf (lt result next : ℕ) (r : DecidedLtTransition) : Type 0 where
  pub result_is_0 : r.result_is_0.0 ≡ lt ⊗ (next ⊖ 1) ⊗ (next ⊖ 2) ⊗ result
  pub result_is_1 : r.result_is_1.0 ≡ lt ⊗ next ⊗ (next ⊖ 2) ⊗ (result ⊖ 1)

pub record UndecidedLtTransitionOf (lt copy_flag result next : ℕ) (bits : LeastBits) (r : UndecidedLtTransition) : Type 0 where
  pub bits_0_and_1 : r.bits_0_and_1.0 ≡ lt ⊗ next ⊗ (next ⊖ 1) ⊗ (bits.lhs.0 ⊖ 1) ⊗ bits.rhs.0 ⊗ (result ⊖ 1)
  pub bits_1_and_0 : r.bits_1_and_0.0 ≡ lt ⊗ next ⊗ (next ⊖ 1) ⊗ bits.lhs.0 ⊗ (bits.rhs.0 ⊖ 1) ⊗ result
  pub equal_bits_with_copy_flag_0 :
      r.equal_bits_with_copy_flag_0.0 ≡ lt ⊗ next ⊗ (next ⊖ 1) ⊗ bits.equal.0 ⊗ (copy_flag ⊖ 1) ⊗ (result ⊖ 2)
  pub equal_bits_with_copy_flag_1 : r.equal_bits_with_copy_flag_1.0 ≡ lt ⊗ next ⊗ (next ⊖ 1) ⊗ bits.equal.0 ⊗ copy_flag ⊗ result

pub record AndLog2FloorTransitionOf (and log2_floor product : ℕ) (upper lower : Row) (r : AndLog2FloorTransition) : Type 0 where
  pub and_updates : r.and_updates.0 ≡ and ⊗ (upper.result ⊖ 2 ⊗ lower.result ⊖ product)
  pub log_2_floor_is_set :
      r.log_2_floor_is_set.0 ≡ log2_floor ⊗ one_minus_product_of lower.lhs lower.lhs_inv ⊗ upper.lhs ⊗ (upper.result ⊖ upper.bits)
  pub log_2_floor_is_copied : r.log_2_floor_is_copied.0 ≡ log2_floor ⊗ lower.lhs ⊗ (lower.result ⊖ upper.result)

pub record PowPopCountTransitionOf (pow pop_count : ℕ) (bits : LeastBits) (upper lower : Row) (r : PowPopCountTransition) : Type 0 where
  pub pow_lhs_unchanged : r.pow_lhs_unchanged.0 ≡ pow ⊗ (lower.lhs ⊖ upper.lhs)
  pub pow_squares : r.pow_squares.0 ≡ pow ⊗ (bits.rhs.0 ⊖ 1) ⊗ (upper.result ⊖ lower.result ⊗ lower.result)
  pub pow_squares_and_mults :
      r.pow_squares_and_mults.0 ≡ pow ⊗ bits.rhs.0 ⊗ (upper.result ⊖ lower.result ⊗ lower.result ⊗ upper.lhs)
  pub pop_count_increases : r.pop_count_increases.0 ≡ pop_count ⊗ (upper.result ⊖ lower.result ⊖ bits.lhs.0)

pub record BaseTransitionOf (upper lower : Row) (r : BaseTransition) : Type 0 where
  pub lhs_is_0_or_ci_is_pow :
      r.general.lhs_is_0_or_ci_is_pow.0 ≡ if_copy_flag_next_is_1_then_lhs_is_0_or_ci_is_pow upper lower
  pub rhs_is_0 :
      r.general.rhs_is_0.0 ≡ if_copy_flag_next_is_1_then_rhs_is_0 upper lower
  pub ci_stays :
      r.general.ci_stays.0 ≡ if_copy_flag_next_is_0_then_ci_stays upper lower
  pub bits_increase_for_lhs :
      r.general.bits_increase_for_lhs.0 ≡ if_copy_flag_next_is_0_and_lhs_next_is_nonzero_and_ci_not_pow_then_bits_increases_by_1 upper lower
  pub bits_increase_for_rhs :
      r.general.bits_increase_for_rhs.0 ≡ if_copy_flag_next_is_0_and_rhs_next_is_nonzero_then_bits_increases_by_1 upper lower
  pub lhs_lsb_is_a_bit :
      r.bit.lhs_lsb_is_a_bit.0 ≡ if_copy_flag_next_is_0_and_ci_not_pow_then_lhs_lsb_is_a_bit upper lower
  pub rhs_lsb_is_a_bit :
      r.bit.rhs_lsb_is_a_bit.0 ≡ if_copy_flag_next_is_0_then_rhs_lsb_is_a_bit upper lower
  pub result_is_0 :
      r.decided_lt.result_is_0.0 ≡ if_copy_flag_next_is_0_and_ci_is_lt_and_result_next_is_0_then_result_is_0 upper lower
  pub result_is_1 :
      r.decided_lt.result_is_1.0 ≡ if_copy_flag_next_is_0_and_ci_is_lt_and_result_next_is_1_then_result_is_1 upper lower
  pub bits_0_and_1 :
      r.undecided_lt.bits_0_and_1.0 ≡ if_copy_flag_next_is_0_and_ci_is_lt_and_result_next_is_2_and_lt_is_0_then_result_is_0 upper lower
  pub bits_1_and_0 :
      r.undecided_lt.bits_1_and_0.0 ≡ if_copy_flag_next_is_0_and_ci_is_lt_and_result_next_is_2_and_lt_is_1_then_result_is_1 upper lower
  pub equal_bits_with_copy_flag_0 :
      r.undecided_lt.equal_bits_with_copy_flag_0.0 ≡ if_copy_flag_next_is_0_and_ci_is_lt_and_result_still_not_known_then_result_is_2 upper lower
  pub equal_bits_with_copy_flag_1 :
      r.undecided_lt.equal_bits_with_copy_flag_1.0 ≡ if_copy_flag_next_is_0_and_ci_is_lt_and_copy_flag_dictates_result_then_result_is_0 upper lower
  pub and_updates :
      r.and_log_2_floor.and_updates.0 ≡ if_copy_flag_next_is_0_and_ci_is_and_then_results_updates_correctly upper lower
  pub log_2_floor_is_set :
      r.and_log_2_floor.log_2_floor_is_set.0 ≡ if_copy_flag_next_is_0_and_ci_is_log_2_floor_lhs_next_0_for_first_time_then_set_result upper lower
  pub log_2_floor_is_copied :
      r.and_log_2_floor.log_2_floor_is_copied.0 ≡ if_copy_flag_next_is_0_and_ci_is_log_2_floor_and_lhs_next_not_0_then_copy_result upper lower
  pub pow_lhs_unchanged :
      r.pow_pop_count.pow_lhs_unchanged.0 ≡ if_copy_flag_next_is_0_and_ci_is_pow_then_lhs_remains_unchanged upper lower
  pub pow_squares :
      r.pow_pop_count.pow_squares.0 ≡ if_copy_flag_next_is_0_and_ci_is_pow_and_rhs_lsb_is_0_then_result_squares upper lower
  pub pow_squares_and_mults :
      r.pow_pop_count.pow_squares_and_mults.0 ≡ if_copy_flag_next_is_0_and_ci_is_pow_and_rhs_lsb_is_1_then_result_squares_and_mults upper lower
  pub pop_count_increases :
      r.pow_pop_count.pop_count_increases.0 ≡ if_copy_flag_next_is_0_and_ci_is_pop_count_then_result_increases_by_lhs_lsb upper lower

pub record RunningSumTransitionOf (copy_flag multiplicity : ℕ) (sum next denominator : Ext) (r : RunningSumTransition) : Type 0 where
  pub stays : ext_of r.stays ≡ scale_x (copy_flag ⊖ 1) (sub_x next sum)
  pub accumulates : ext_of r.accumulates ≡ scale_x copy_flag (sub_x (mul_x (sub_x next sum) denominator) (base_value multiplicity))

abbrev pub transition_values : BaseTransition → Ext → Ext → List Ext
transition_values b stays accumulates =
    base_value b.general.lhs_is_0_or_ci_is_pow.0
    ∷ base_value b.general.rhs_is_0.0
    ∷ base_value b.general.ci_stays.0
    ∷ base_value b.general.bits_increase_for_lhs.0
    ∷ base_value b.general.bits_increase_for_rhs.0
    ∷ base_value b.bit.lhs_lsb_is_a_bit.0
    ∷ base_value b.bit.rhs_lsb_is_a_bit.0
    ∷ base_value b.decided_lt.result_is_0.0
    ∷ base_value b.decided_lt.result_is_1.0
    ∷ base_value b.undecided_lt.bits_0_and_1.0
    ∷ base_value b.undecided_lt.bits_1_and_0.0
    ∷ base_value b.undecided_lt.equal_bits_with_copy_flag_0.0
    ∷ base_value b.undecided_lt.equal_bits_with_copy_flag_1.0
    ∷ base_value b.and_log_2_floor.and_updates.0
    ∷ base_value b.and_log_2_floor.log_2_floor_is_set.0
    ∷ base_value b.and_log_2_floor.log_2_floor_is_copied.0
    ∷ base_value b.pow_pop_count.pow_lhs_unchanged.0
    ∷ base_value b.pow_pop_count.pow_squares.0
    ∷ base_value b.pow_pop_count.pow_squares_and_mults.0
    ∷ base_value b.pow_pop_count.pop_count_increases.0
    ∷ stays
    ∷ accumulates
    ∷ []
