-- Sections (document 01, "Filling"): the rows of an entry's section, and their words.
use Rattle.std.specs.Prelude.{ℕ, zero, suc, ◌+◌, ◌/◌, Bool, cond, List, [], ◌∷◌, eqb, Option, Some, None}
use Rattle.field.specs.Elements.{sub_f, inv_f}
use Rattle.field.specs.Tables.{table_of}
use Rattle.isa.specs.Opcodes.{op_pow}
use Rattle.isa.specs.PlainFunctions.{plain_result}
use Rattle.isa.specs.declared.U32TableEntry.{U32TableEntry}
use Rattle.isa.specs.Entries.{lhs, rhs}
use Rattle.table.specs.Columns.{Row}
use Rattle.table.specs.RowWords.{table_words}
use Rattle.fill_results.specs.Results.{is_end, ending, carry}

-- "BitsMinus33Inv is the inverse of Bits − 33"
unfoldable pub bits_minus33_inverse : ℕ → ℕ
bits_minus33_inverse bits = inv_f (sub_f bits 33)

-- the table of them, for Bits from 0 to 32. The numbers stand in the code and in proofs/BitsMinus33.antt
unfoldable pub bits_minus33_inverses : List ℕ
bits_minus33_inverses = table_of bits_minus33_inverse 0 33

-- a row whose Result is not known yet ("a row's Result is known only after the row below it")
pub record Pending : Type 0 where
  pub copy_flag : ℕ
  pub bits : ℕ
  pub ci : ℕ
  pub lhs : ℕ
  pub rhs : ℕ
  pub multiplicity : ℕ

-- the row, once its Result is known; "LhsInv and RhsInv are inverse or zero"
abbrev pub section_row : Pending → (result : ℕ) → Row
section_row row result = record {
  copy_flag = row.copy_flag;
  bits = row.bits;
  bits_minus33_inv = bits_minus33_inverse row.bits;
  ci = row.ci;
  lhs = row.lhs;
  lhs_inv = inv_f row.lhs;
  rhs = row.rhs;
  rhs_inv = inv_f row.rhs;
  result = result;
  lookup_multiplicity = row.multiplicity;
}

-- "First row: CopyFlag 1, Bits 0, CI the opcode, the operands, the multiplicity."
abbrev pub first_pending : U32TableEntry → ℕ → Pending
first_pending e multiplicity = record {
  copy_flag = 1;
  bits = 0;
  ci = e.opcode;
  lhs = lhs e;
  rhs = rhs e;
  multiplicity = multiplicity;
}

-- "RHS halved downwards, LHS too unless pow"
abbrev pub next_lhs : (ci lhs : ℕ) → ℕ
next_lhs ci lhs = cond (eqb ci op_pow) lhs (lhs / 2)

-- "Each next row: CopyFlag 0, Bits one more, RHS halved downwards, LHS too unless pow, multiplicity 0."
abbrev pub next_pending : Pending → Pending
next_pending row = record {
  copy_flag = 0;
  bits = row.bits + 1;
  ci = row.ci;
  lhs = next_lhs row.ci row.lhs;
  rhs = row.rhs / 2;
  multiplicity = 0;
}

-- a section's rows; none for a number outside the six, nor where more rows than the fuel would be needed
pub data Section : Type 0 where
  rows : Row → List Row → Section
  no_section : Section

-- this row above the rows below it, its Result from a choice
abbrev pub above : Pending → Option ℕ → List Row → Section
above row (Some result) below = rows (section_row row result) below
above row None below = no_section

-- the Result is carried up from the row below
abbrev pub above_section : Pending → Section → Section
above_section row (rows next more) =
    above row (carry row.ci row.copy_flag row.bits row.lhs row.rhs next.result) (next ∷ more)
above_section row no_section = no_section

-- "A section ends when RHS is 0 and LHS is 0 or CI is pow."
abbrev pub is_last : Pending → Bool
is_last row = is_end row.ci row.lhs row.rhs

-- from this row to the section's end
unfoldable pub section_from : (fuel : ℕ) → Pending → Section
section_from zero row = no_section
section_from (suc fuel) row =
    cond (is_last row)
    (above row (ending row.ci row.bits) [])
    (above_section row (section_from fuel (next_pending row)))

-- 34 rows are enough for every admitted entry (proofs/Sections.antt)
unfoldable pub section : U32TableEntry → ℕ → Section
section e multiplicity = section_from 34 (first_pending e multiplicity)

-- the Result of a section's first row
abbrev pub top_result : Section → Option ℕ
top_result (rows first more) = Some first.result
top_result no_section = None

-- its rows, and their words
abbrev pub rows_of : Section → List Row
rows_of (rows first more) = first ∷ more
rows_of no_section = []

abbrev pub section_words : Section → List ℕ
section_words (rows first more) = table_words (first ∷ more)
section_words no_section = []

-- The first row of an entry's section, all ten words, its Result the plain function's
unfoldable pub first_row : U32TableEntry → ℕ → Row
first_row e multiplicity = section_row (first_pending e multiplicity) (plain_result e.opcode (lhs e) (rhs e))
