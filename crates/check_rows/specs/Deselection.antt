-- What the code's deselectors are. No contract of a call cites this page.
use Rattle.std.specs.Prelude.{ℕ, ◌≡◌}
use Rattle.field.specs.Elements.{mul_f}
use Rattle.isa.specs.Opcodes.{op_lt, op_and, op_log2_floor, op_pow, op_pop_count}
use Rattle.air.specs.Constraints.{instruction_deselector}
use Rattle.check_rows.specs.declared.Deselectors.{Deselectors}

-- the source's `instruction_deselector` of each instruction but split, at a CI
pub record DeselectorsOf (ci : ℕ) (d : Deselectors) : Type 0 where
  pub lt : d.lt.0 ≡ instruction_deselector op_lt ci
  pub and : d.and.0 ≡ instruction_deselector op_and ci
  pub log_2_floor : d.log_2_floor.0 ≡ instruction_deselector op_log2_floor ci
  pub pow : d.pow.0 ≡ instruction_deselector op_pow ci
  pub pop_count : d.pop_count.0 ≡ instruction_deselector op_pop_count ci

-- a factor times each
pub record TimesOf (factor : ℕ) (d r : Deselectors) : Type 0 where
  pub lt : r.lt.0 ≡ mul_f factor d.lt.0
  pub and : r.and.0 ≡ mul_f factor d.and.0
  pub log_2_floor : r.log_2_floor.0 ≡ mul_f factor d.log_2_floor.0
  pub pow : r.pow.0 ≡ mul_f factor d.pow.0
  pub pop_count : r.pop_count.0 ≡ mul_f factor d.pop_count.0
