-- What the words of a row, or of a row and the row below it, are in a table that is made honestly, and in most others: conditions that ask
-- for no polynomial. Only the contracts of this crate's parts cite this page; those of its two tests cite the constraints.
use Rattle.std.specs.Prelude.{ℕ, ◌+◌, ◌*◌, ◌-◌, ◌/◌, ◌%◌, ◌≡◌, ◌⊎◌}
use Rattle.field.specs.Elements.{p, add_f, sub_f, mul_f}
use Rattle.isa.specs.Opcodes.{op_split, op_lt, op_and, op_log2_floor, op_pow, op_pop_count}
use Rattle.table.specs.Columns.{Row}

-- ---- one row
-- CopyFlag 1 only at Bits 0; CopyFlag 0 with multiplicity 0
abbrev pub Flagged : (copy_flag bits multiplicity : ℕ) → Type 0
Flagged copy_flag bits multiplicity = ((copy_flag ≡ 0) × (multiplicity ≡ 0)) ⊎ ((copy_flag ≡ 1) × (bits ≡ 0))

-- a word and its inverse, or twice 0
abbrev pub Inverted : (x inverse : ℕ) → Type 0
Inverted x inverse = ((x ≡ 0) × (inverse ≡ 0)) ⊎ (mul_f x inverse ≡ 1)

-- lt on equal operands: 0 in a first row, not known yet (2) below it
abbrev pub LtEqual : (copy_flag result : ℕ) → Type 0
LtEqual copy_flag result = ((copy_flag ≡ 1) × (result ≡ 0)) ⊎ ((copy_flag ≡ 0) × (result ≡ 2))

-- CI is one of the six, and where an operand is 0, Result is what that opcode asks for
pub data Ended (ci copy_flag lhs rhs result : ℕ) : Type 0 where
  split : ci ≡ op_split → Ended ci copy_flag lhs rhs result
  lt : ci ≡ op_lt → (lhs ≡ 0 → rhs ≡ 0 → LtEqual copy_flag result) → Ended ci copy_flag lhs rhs result
  and : ci ≡ op_and → (lhs ≡ 0 → rhs ≡ 0 → result ≡ 0) → Ended ci copy_flag lhs rhs result
  log : ci ≡ op_log2_floor → (lhs ≡ 0 → (copy_flag ≡ 0) × (result ≡ p - 1)) → Ended ci copy_flag lhs rhs result
  pow : ci ≡ op_pow → (rhs ≡ 0 → result ≡ 1) → Ended ci copy_flag lhs rhs result
  pop_count_lem : ci ≡ op_pop_count → (lhs ≡ 0 → result ≡ 0) → Ended ci copy_flag lhs rhs result

pub record PlainRow (row : Row) : Type 0 where
  pub flagged : Flagged row.copy_flag row.bits row.lookup_multiplicity
  pub bits_inverse : mul_f row.bits_minus33_inv (sub_f row.bits 33) ≡ 1
  pub lhs_inverse_lem : Inverted row.lhs row.lhs_inv
  pub rhs_inverse_lem : Inverted row.rhs row.rhs_inv
  pub ended : Ended row.ci row.copy_flag row.lhs row.rhs row.result

-- ---- two rows
-- "A section ends when RHS is 0 and LHS is 0 or CI is pow."
abbrev pub IsEnd : (ci lhs rhs : ℕ) → Type 0
IsEnd ci lhs rhs = (rhs ≡ 0) × ((lhs ≡ 0) ⊎ (ci ≡ op_pow))

-- lt: what the row below tells, and else the two bits that leave
pub data LtCarried (copy_flag lhs rhs below result : ℕ) : Type 0 where
  known_0 : below ≡ 0 → result ≡ 0 → LtCarried copy_flag lhs rhs below result
  known_1 : below ≡ 1 → result ≡ 1 → LtCarried copy_flag lhs rhs below result
  bits_01 : below ≡ 2 → lhs % 2 ≡ 0 → rhs % 2 ≡ 1 → result ≡ 1 → LtCarried copy_flag lhs rhs below result
  bits_10 : below ≡ 2 → lhs % 2 ≡ 1 → rhs % 2 ≡ 0 → result ≡ 0 → LtCarried copy_flag lhs rhs below result
  bits_same : below ≡ 2 → lhs % 2 ≡ rhs % 2 → LtEqual copy_flag result → LtCarried copy_flag lhs rhs below result

-- and: twice the Result below, and one more where both bits that leave are 1
abbrev pub AndCarried : (lhs rhs below result : ℕ) → Type 0
AndCarried lhs rhs below result = result ≡ 2 * below + (lhs % 2) * (rhs % 2)

-- log_2_floor: LHS is 0; or the last bit leaves it, and Result is Bits; or Result is that of the row below
pub data LogCarried (bits lhs lhs_next lhs_next_inv below result : ℕ) : Type 0 where
  none : lhs ≡ 0 → LogCarried bits lhs lhs_next lhs_next_inv below result
  last : lhs_next ≡ 0 → result ≡ bits → LogCarried bits lhs lhs_next lhs_next_inv below result
  more : mul_f lhs_next lhs_next_inv ≡ 1 → below ≡ result → LogCarried bits lhs lhs_next lhs_next_inv below result

-- pow: the Result below squared, and times LHS where a bit leaves RHS
pub data PowCarried (lhs rhs below result : ℕ) : Type 0 where
  even : rhs % 2 ≡ 0 → result ≡ mul_f below below → PowCarried lhs rhs below result
  odd : rhs % 2 ≡ 1 → result ≡ mul_f (mul_f below below) lhs → PowCarried lhs rhs below result

-- pop_count: one more where a bit leaves LHS
abbrev pub PopCountCarried : (lhs below result : ℕ) → Type 0
PopCountCarried lhs below result = result ≡ add_f below (lhs % 2)

-- CI is one of the six, LHS is halved but for pow, and Result is what that opcode makes of the one below
pub data Carried (upper lower : Row) : Type 0 where
  split : upper.ci ≡ op_split → lower.lhs ≡ upper.lhs / 2 → Carried upper lower
  lt : upper.ci ≡ op_lt → lower.lhs ≡ upper.lhs / 2
      → LtCarried upper.copy_flag upper.lhs upper.rhs lower.result upper.result → Carried upper lower
  and : upper.ci ≡ op_and → lower.lhs ≡ upper.lhs / 2 → AndCarried upper.lhs upper.rhs lower.result upper.result
      → Carried upper lower
  log : upper.ci ≡ op_log2_floor → lower.lhs ≡ upper.lhs / 2
      → LogCarried upper.bits upper.lhs lower.lhs lower.lhs_inv lower.result upper.result → Carried upper lower
  pow : upper.ci ≡ op_pow → lower.lhs ≡ upper.lhs → PowCarried upper.lhs upper.rhs lower.result upper.result
      → Carried upper lower
  pop_count_lem : upper.ci ≡ op_pop_count → lower.lhs ≡ upper.lhs / 2 → PopCountCarried upper.lhs lower.result upper.result
      → Carried upper lower

-- the lower row goes on where the upper one stops
pub record Step (upper lower : Row) : Type 0 where
  pub flag : lower.copy_flag ≡ 0
  pub ci_same : lower.ci ≡ upper.ci
  pub bits_next : (lower.bits ≡ upper.bits + 1) ⊎ IsEnd upper.ci upper.lhs upper.rhs
  pub rhs_half : lower.rhs ≡ upper.rhs / 2
  pub carried : Carried upper lower
