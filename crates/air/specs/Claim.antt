-- What a table tells on which the check answers zero (demand 3, and document 01, "Check").
use Rattle.std.specs.Prelude.{ℕ, ◌-◌, ◌^◌, ◌<◌, ◌≡◌, ◌≢◌, List}
use Rattle.xfield.specs.Extension.{Ext, zero_x}
use Rattle.isa.specs.Opcodes.{op_lt, op_and, op_log2_floor, op_pow, op_pop_count}
use Rattle.isa.specs.PlainFunctions.{plain_lt, plain_and, floor_log2, plain_pow, one_bits}
use Rattle.table.specs.Columns.{Row, row_at, row_count, aux_at}
use Rattle.table.specs.Challenges.{challenges_of, row_denominator}

-- what a row with CopyFlag 1 tells: bounds for the operands, and Result is the plain function of LHS and RHS
pub record RowTells (row : Row) : Type 0 where
  pub rhs_below : row.rhs < 2 ^ 32
  pub lhs_below : row.ci ≢ op_pow → row.lhs < 2 ^ 32
  pub is_lt : row.ci ≡ op_lt → row.result ≡ plain_lt row.lhs row.rhs
  pub is_and : row.ci ≡ op_and → row.result ≡ plain_and row.lhs row.rhs
  pub is_log2floor : row.ci ≡ op_log2_floor → row.result ≡ floor_log2 row.lhs
  pub is_pow : row.ci ≡ op_pow → row.result ≡ plain_pow row.lhs row.rhs
  pub is_popcount : row.ci ≡ op_pop_count → row.result ≡ one_bits row.lhs
  -- "a CopyFlag 1 row with CI log_2_floor also has LHS not 0"
  pub log2floor_lhs : row.ci ≡ op_log2_floor → row.lhs ≢ 0

-- no CopyFlag 1 row's denominator is zero
abbrev pub DenominatorsNotZero : List ℕ → List ℕ → Type 0
DenominatorsNotZero table challenges =
    (i : ℕ) → i < row_count table → (row_at table i).copy_flag ≡ 1 → row_denominator (challenges_of challenges) (row_at table i) ≢ zero_x

-- "Its last running sum is the last aux row's element"
abbrev pub last_sum : List ℕ → List ℕ → Ext
last_sum table aux = aux_at aux (row_count table - 1)
