-- The printed lines of a table that is the words of rows: a line a row (lines_of_words), those of rows one after the other are joined
-- (lines_join), and n equal rows have n equal lines (lines_same). By induction on the rows. Assumes nothing.
use Prim.Native.Nat.{ℕ, zero, suc}
use mathlib.Core.Path.{◌≡◌, refl, sym, ap, ◌∙◌}
use mathlib.Core.List.{List, [], ◌∷◌, ◌++◌, flat_map, append-nil, append_assoc}
use lib.ListN.{replicate, length}
use Rattle.table.specs.Columns.{Row, row_at, row_count}
use Rattle.table.specs.RowWords.{row_words, table_words}
use Rattle.four_calls.specs.FourCalls.{table_rows_to}
use Rattle.four_calls.proofs.RowLists.{rows_of_words, words_rows}
use Rattle.four_calls.proofs.Tables.{front}
use Rattle.text.specs.Lines.{row_line}
use Rattle.transcript.specs.Transcript.{row_lines}
use Rattle.u32list_example.specs.PrintedExample.{repeated}

abbrev pub line_of : Row → List ℕ
line_of r = row_line (row_words r)

pub lines_join : (xs ys : List Row) → flat_map line_of (xs ++ ys) ≡ flat_map line_of xs ++ flat_map line_of ys
unfolding flat_map
lines_join [] ys = refl
lines_join (x ∷ xs) ys =
    ap (λ (t : List ℕ). line_of x ++ t) (lines_join xs ys) ∙ sym (append_assoc (line_of x) (flat_map line_of xs) (flat_map line_of ys))

one_line : (r : Row) → flat_map line_of (r ∷ []) ≡ line_of r
unfolding flat_map
one_line r = append-nil (line_of r)

lines_of_rows : (table : List ℕ) (n : ℕ) → row_lines table n ≡ flat_map line_of (table_rows_to table n)
unfolding row_lines table_rows_to flat_map
lines_of_rows table zero = refl
lines_of_rows table (suc n) =
    let last = row_at table n in
    ap (λ (text : List ℕ). text ++ line_of last) (lines_of_rows table n)
    ∙ ap (λ (text : List ℕ). flat_map line_of (table_rows_to table n) ++ text) (sym (one_line last))
    ∙ sym (lines_join (table_rows_to table n) (last ∷ []))

pub lines_of_words : (xs : List Row) → row_lines (table_words xs) (length xs) ≡ flat_map line_of xs
lines_of_words xs =
    ap (row_lines (table_words xs)) (sym (words_rows xs)) ∙ lines_of_rows (table_words xs) (row_count (table_words xs))
    ∙ ap (flat_map line_of) (rows_of_words front xs)

pub lines_same : (n : ℕ) (r : Row) → flat_map line_of (replicate n r) ≡ repeated n (line_of r)
unfolding flat_map repeated
lines_same zero r = refl
lines_same (suc n) r = ap (λ (t : List ℕ). line_of r ++ t) (lines_same n r)
