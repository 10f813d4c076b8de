-- `u32archive unpack` "prints the rows as `u32list` does, each followed by its three sum words".
use Rattle.std.specs.Prelude.{ℕ, zero, suc, ◌+◌, ◌≤◌, ◌≡◌, Bool, cond, ◌&&◌, List, [], ◌++◌, ltb, leb, length, Result, Ok, Err}
use Rattle.words.specs.Limits.{max_rows}
use Rattle.table.specs.Columns.{row_at, aux_at}
use Rattle.table.specs.RowWords.{row_words}
use Rattle.sums.specs.RunningSum.{element_words}
use Rattle.archive.specs.Archives.{word_width, archived_rows, restore_all}
use Rattle.text.specs.Lines.{row_line, too_many_line}
use Rattle.text.specs.Put.{Put}
use Rattle.table_text.specs.TableText.{most_rows}
use Rattle.archive_text.specs.declared.Fault.{Fault}
use Rattle.archive_text.specs.Outputs.{Output, written, refused, output_of, fault_line}

-- the words of row i, then those of its sum
abbrev pub printed_row : (table aux : List ℕ) → ℕ → List ℕ
printed_row table aux i = row_words (row_at table i) ++ element_words (aux_at aux i)

-- the lines of n rows from one on
unfoldable pub printed_rows : (table aux : List ℕ) → (from n : ℕ) → List ℕ
printed_rows table aux from zero = []
printed_rows table aux from (suc n) = printed_rows table aux from n ++ row_line (printed_row table aux (from + n))

-- a row count that an archive may have, above the most that is taken: the rest is not judged
unfoldable pub too_many_rows : List ℕ → Bool
too_many_rows archive = leb word_width (length archive) && (ltb most_rows (archived_rows archive) && leb (archived_rows archive) max_rows)

-- for an archive, with words lent for the rows and their sums
unfoldable pub unpack_all : (archive table aux : List ℕ) → Output
unpack_all archive table aux =
    let restored = restore_all archive table aux in
    cond (too_many_rows archive) (refused (too_many_line (archived_rows archive) most_rows))
    (output_of restored.answer
    (written (printed_rows restored.left.table restored.left.aux 0 (archived_rows archive))))

-- no line of a row is longer: thirteen numbers, and what follows each
abbrev pub max_row_line : ℕ
max_row_line = 273

-- rows to print, as many as are taken at most, or why there are none
abbrev pub IsRestored : Output → (table aux : List ℕ) → Result ℕ Fault → Type 0
IsRestored due table aux (Ok n) = (due ≡ written (printed_rows table aux 0 n)) × (n ≤ most_rows)
IsRestored due table aux (Err fault) = due ≡ refused (fault_line fault)

-- what the function that unpacks leaves: rows to print, as many as are taken at most, or a line at the front of `out`
abbrev pub IsUnpacked : Output → (table aux before after : List ℕ) → Result ℕ ℕ → Type 0
IsUnpacked due table aux before after (Ok n) = (due ≡ written (printed_rows table aux 0 n)) × (n ≤ most_rows)
IsUnpacked due table aux before after (Err n) = (due.out ≡ []) × Put before 0 due.error after n
