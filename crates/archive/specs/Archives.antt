-- Columns side by side in the archive (change request 10): "Add a lossless rearrangement: the row count, then ten main columns, then the three sum
-- columns, each top to bottom, all in 8-byte little-endian words. The inverse gives back both arrays." The call archive, and its inverse restore.
use Rattle.std.specs.Prelude.{ℕ, ◌+◌, ◌*◌, not, ◌&&◌, ◌||◌, eqb, ltb, length, get_or}
use mathlib.Core.List.{List, [], ◌∷◌, ◌++◌, map, flat_map}
use Rattle.std.proofs.lemmas.List.Edits.{sets}
use Rattle.words.specs.Limits.{max_rows}
use Rattle.words.specs.LittleEndian.{le_at, le}
use Rattle.words.specs.Outcomes.{Outcome, outcome}
use Rattle.words.specs.Places.{places_from, places}
use Rattle.words.specs.Refusals.{decline_if, or_else, Judgement}
use Rattle.words.specs.declared.Refusal.TheVariants.{Shape, Short, Unreduced, Torn}
use Rattle.table.specs.Columns.{main_width, aux_width, row_count, table_shape, aux_shape, all_reduced}

-- ---- the bytes of a table with its sums

-- "8-byte .. words"
abbrev pub word_width : ℕ
word_width = 8

-- the number of bytes of an archive of n rows: 8 + 104·n
abbrev pub archive_length : ℕ → ℕ
archive_length n = word_width * (1 + (main_width + aux_width) * n)

-- column c of n rows of w words each, "top to bottom"
abbrev pub column : (w : ℕ) → List ℕ → (n c : ℕ) → List ℕ
column w ws n c = map (λ i. get_or ws (w * i + c) 0) (places n)

-- the columns, one after the other
unfoldable pub columns : (w : ℕ) → List ℕ → (n : ℕ) → List ℕ
columns w ws n = flat_map (column w ws n) (places w)

-- "the row count, then ten main columns, then the three sum columns"
unfoldable pub archive_words : (table aux : List ℕ) → List ℕ
archive_words table aux = row_count table ∷ (columns main_width table (row_count table) ++ columns aux_width aux (row_count table))

-- "all in 8-byte little-endian words"
unfoldable pub archive_bytes : (table aux : List ℕ) → List ℕ
archive_bytes table aux = flat_map (le word_width) (archive_words table aux)

-- ---- what bytes hold, read at the same places

-- word k of the bytes; bytes that are not there count as 0
unfoldable pub archived_word : List ℕ → ℕ → ℕ
archived_word s k = le_at s (word_width * k) word_width

abbrev pub archived_rows : List ℕ → ℕ
archived_rows s = archived_word s 0

-- n rows of w words each, row by row, whose columns begin at word `from`
unfoldable pub rows_from : List ℕ → (from w n : ℕ) → List ℕ
rows_from s from w n = flat_map (λ i. map (λ c. archived_word s (from + (n * c + i))) (places w)) (places n)

abbrev pub archived_table : List ℕ → List ℕ
archived_table s = rows_from s 1 main_width (archived_rows s)

abbrev pub archived_aux : List ℕ → List ℕ
archived_aux s = rows_from s (1 + archived_rows s * main_width) aux_width (archived_rows s)

-- the words of all columns
abbrev pub archived_words : List ℕ → List ℕ
archived_words s = map (archived_word s) (places_from 1 ((main_width + aux_width) * archived_rows s))

-- ---- refusals

-- 1, in both calls: "table not whole rows or over 131,072 rows; aux not 3 words a table row"
unfoldable pub shapes : (table aux : List ℕ) → Judgement
shapes table aux = decline_if (not (table_shape table && aux_shape table aux)) Shape

-- "Wrong length or a row count above 131,072 is 10". Bytes too few to hold a row count have a wrong length too: none is shorter than 8
unfoldable pub torn : List ℕ → Judgement
torn s = decline_if (ltb max_rows (archived_rows s) || not (eqb (length s) (archive_length (archived_rows s)))) Torn

-- "too short a destination 7, a word of p or more 8, in that order after 1"; nothing is read that could be torn
unfoldable pub archive_reason : (table aux out : List ℕ) → Judgement
archive_reason table aux out =
    or_else (shapes table aux)
    (or_else (decline_if (ltb (length out) (archive_length (row_count table))) Short)
    (decline_if (not (all_reduced table && all_reduced aux)) Unreduced))

-- "Wrong length or a row count above 131,072 is 10, too short a destination 7, a word of p or more 8, in that order after 1."
unfoldable pub restore_reason : (s table aux : List ℕ) → Judgement
restore_reason s table aux =
    or_else (shapes table aux)
    (or_else (torn s)
    (or_else (decline_if (ltb (row_count table) (archived_rows s)) Short)
    (decline_if (not (all_reduced (archived_words s))) Unreduced)))

-- ---- the two calls

-- the answer is done; bytes past the archive keep what they hold
unfoldable pub archive_all : (table aux out : List ℕ) → Outcome (List ℕ)
archive_all table aux out = outcome (archive_reason table aux out) [] out (sets out 0 (archive_bytes table aux))

-- "both arrays"
pub record TableAndAux : Type 0 where
  pub table : List ℕ
  pub aux : List ℕ

abbrev pub table_and_aux : List ℕ → List ℕ → TableAndAux
table_and_aux table aux = record { table = table; aux = aux }

-- rows past those of the archive keep their words
abbrev pub restored : (s table aux : List ℕ) → TableAndAux
restored s table aux = table_and_aux (sets table 0 (archived_table s)) (sets aux 0 (archived_aux s))

unfoldable pub restore_all : (s table aux : List ℕ) → Outcome TableAndAux
restore_all s table aux = outcome (restore_reason s table aux) [] (table_and_aux table aux) (restored s table aux)
