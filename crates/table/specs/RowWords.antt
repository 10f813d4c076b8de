-- The words of rows (document 01, "Filling": "Ten 64-bit words a row", in the order of the columns).
use Rattle.std.specs.Prelude.{ℕ, List, [], ◌∷◌, ◌++◌}
use Rattle.table.specs.Columns.{Row}

abbrev pub row_words : Row → List ℕ
row_words r =
    r.copy_flag ∷ r.bits ∷ r.bits_minus33_inv ∷ r.ci ∷ r.lhs ∷ r.lhs_inv ∷ r.rhs ∷ r.rhs_inv ∷ r.result
    ∷ r.lookup_multiplicity ∷ []

-- of rows one after the other
unfoldable pub table_words : List Row → List ℕ
table_words [] = []
table_words (r ∷ rs) = row_words r ++ table_words rs
