-- Padding (document 01, under that heading): "Every row from the filled count on becomes: all 0, BitsMinus33Inv for Bits 0, and CI,
-- LHS, LhsInv, Result of the last filled row, but Result 2 if that CI is lt. With none filled, CI is 4."
use Rattle.std.specs.Prelude.{ℕ, zero, suc, ◌-◌, ◌*◌, cond, not, List, [], eqb, ltb, replicate}
use Rattle.std.proofs.lemmas.List.Edits.{sets}
use Rattle.words.specs.Outcomes.{Outcome, outcome}
use Rattle.words.specs.Refusals.{decline_if, or_else, Judgement}
use Rattle.words.specs.declared.Refusal.TheVariants.{Shape, Short, Unreduced}
use Rattle.isa.specs.Opcodes.{op_split, op_lt}
use Rattle.table.specs.Columns.{Row, main_width, row_at, row_count, table_shape, all_reduced}
use Rattle.table.specs.RowWords.{row_words, table_words}
use Rattle.fill_sections.specs.Sections.{bits_minus33_inverse}

-- the padding row after a last filled row
unfoldable pub padding_row : Row → Row
padding_row last = record {
  copy_flag = 0;
  bits = 0;
  bits_minus33_inv = bits_minus33_inverse 0;
  ci = last.ci;
  lhs = last.lhs;
  lhs_inv = last.lhs_inv;
  rhs = 0;
  rhs_inv = 0;
  result = cond (eqb last.ci op_lt) 2 last.result;
  lookup_multiplicity = 0;
}

-- "With none filled, CI is 4": as after a row of zeros with that CI
abbrev pub no_row : Row
no_row = record {
  copy_flag = 0;
  bits = 0;
  bits_minus33_inv = 0;
  ci = op_split;
  lhs = 0;
  lhs_inv = 0;
  rhs = 0;
  rhs_inv = 0;
  result = 0;
  lookup_multiplicity = 0;
}

abbrev pub last_filled : List ℕ → ℕ → Row
last_filled table zero = no_row
last_filled table (suc i) = row_at table i

-- "Pad 1, 7, 8": 7 is "filled count above the rows", 8 "for padding, only in the last filled row", all its ten words
unfoldable pub pad_reason : List ℕ → ℕ → Judgement
pad_reason table filled =
    or_else (decline_if (not (table_shape table)) Shape)
    (or_else (decline_if (ltb (row_count table) filled) Short)
    (decline_if (not (all_reduced (row_words (last_filled table filled)))) Unreduced))

-- rows before the filled count keep their words
abbrev pub padded : List ℕ → ℕ → List ℕ
padded table filled =
    sets table (main_width * filled) (table_words (replicate (row_count table - filled) (padding_row (last_filled table filled))))

-- "The answer is done."
unfoldable pub pad_all : List ℕ → ℕ → Outcome (List ℕ)
pad_all table filled = outcome (pad_reason table filled) [] table (padded table filled)
