-- Rows (document 01, "Filling" and "Extension"): the columns of a table, and its rows on the flat words.
use Rattle.std.specs.Prelude.{ℕ, ◌+◌, ◌*◌, ◌/◌, ◌%◌, Bool, true, not, ◌&&◌, List, [], ◌∷◌, eqb, ltb, length, get_or}
use Rattle.field.specs.Elements.{p}
use Rattle.words.specs.Limits.{max_rows}
use Rattle.xfield.specs.Extension.{Ext, ext}

-- "Ten 64-bit words a row: CopyFlag, Bits, BitsMinus33Inv, CI, LHS, LhsInv, RHS, RhsInv, Result, LookupMultiplicity."
abbrev pub main_width : ℕ
main_width = 10

pub record Row : Type 0 where
  pub copy_flag : ℕ
  pub bits : ℕ
  pub bits_minus33_inv : ℕ
  pub ci : ℕ
  pub lhs : ℕ
  pub lhs_inv : ℕ
  pub rhs : ℕ
  pub rhs_inv : ℕ
  pub result : ℕ
  pub lookup_multiplicity : ℕ

-- row i of the table's words
unfoldable pub row_at : List ℕ → ℕ → Row
row_at table i = record {
  copy_flag = get_or table (main_width * i) 0;
  bits = get_or table (main_width * i + 1) 0;
  bits_minus33_inv = get_or table (main_width * i + 2) 0;
  ci = get_or table (main_width * i + 3) 0;
  lhs = get_or table (main_width * i + 4) 0;
  lhs_inv = get_or table (main_width * i + 5) 0;
  rhs = get_or table (main_width * i + 6) 0;
  rhs_inv = get_or table (main_width * i + 7) 0;
  result = get_or table (main_width * i + 8) 0;
  lookup_multiplicity = get_or table (main_width * i + 9) 0;
}

-- the number of rows of a table's words
abbrev pub row_count : List ℕ → ℕ
row_count table = length table / main_width

-- "Each row stores the sum so far, three words."
abbrev pub aux_width : ℕ
aux_width = 3

-- element i of words that hold extension elements, three words each
unfoldable pub element_at : List ℕ → ℕ → Ext
element_at ws i = ext (get_or ws (3 * i) 0) (get_or ws (3 * i + 1) 0) (get_or ws (3 * i + 2) 0)

-- the element in row i of the aux words
abbrev pub aux_at : List ℕ → ℕ → Ext
aux_at aux i = element_at aux i

-- whole rows and not too many: reason 1 is "table not whole rows or over 131,072 rows"
unfoldable pub table_shape : List ℕ → Bool
table_shape table = eqb (length table % main_width) 0 && not (ltb max_rows (row_count table))

-- reason 1 is "aux not 3 words a table row"
unfoldable pub aux_shape : List ℕ → List ℕ → Bool
aux_shape table aux = eqb (length aux) (aux_width * row_count table)

-- every word is below p: reason 8 is "a word p or more"
unfoldable pub all_reduced : List ℕ → Bool
all_reduced [] = true
all_reduced (w ∷ ws) = ltb w p && all_reduced ws
