-- `u32archive pack` "reads what `u32check` reads (its challenges make the sums) and writes the archive".
use Rattle.std.specs.Prelude.{ℕ, ◌*◌, ◌≡◌, List, [], take, drop, Result, Ok, Err}
use Rattle.fill.specs.Extending.{extend_all}
use Rattle.archive.specs.Archives.{archive_bytes, archive_length}
use Rattle.text.specs.Put.{Put}
use Rattle.numbers.specs.declared.Fault.{Fault as TextFault}
use Rattle.table_text.specs.TableText.{Stage, rows_at, head_numbers, most_rows, start_stage, feed_all, end_number, taken_of}
use Rattle.archive_text.specs.declared.Fault.{Fault}
use Rattle.archive_text.specs.declared.Fault.TheVariants.{Taken}
use Rattle.archive_text.specs.Outputs.{Output, written, refused, output_of, fault_line}

-- the archive of a table and of the sums that extension makes, where it is not refused
unfoldable pub pack_table : (challenges table aux : List ℕ) → Output
pack_table challenges table aux =
    let extension = extend_all table aux challenges in
    output_of extension.answer (written (archive_bytes table extension.left))

-- the numbers of a text as for `u32check`, and its lines where a text has no table
abbrev pub pack_taken : Result ℕ TextFault → (words aux : List ℕ) → Output
pack_taken (Ok rows) words aux = pack_table (take rows_at words) (take (10 * rows) (drop head_numbers words)) (take (3 * rows) aux)
pack_taken (Err fault) words aux = refused (fault_line (Taken fault))

-- for a text that ended here
unfoldable pub pack_ended : Stage → (words aux : List ℕ) → Output
pack_ended stage words aux =
    let end = end_number stage words in
    pack_taken (taken_of end.stage) end.words aux

-- for a whole text, with words lent for its numbers and for the sums
unfoldable pub pack_text : (text words aux : List ℕ) → Output
pack_text text words aux =
    let read = feed_all start_stage text words in
    pack_ended read.stage read.words aux

-- no archive is longer
abbrev pub max_archive : ℕ
max_archive = archive_length most_rows

-- the archive at the front of `out`, or why there is none
abbrev pub IsArchived : Output → (before after : List ℕ) → Result ℕ Fault → Type 0
IsArchived due before after (Ok n) = (due.error ≡ []) × Put before 0 due.out after n
IsArchived due before after (Err fault) = (due ≡ refused (fault_line fault)) × (after ≡ before)

-- what the function that packs leaves at the front of `out`, for one of the two streams
abbrev pub IsPacked : Output → (before after : List ℕ) → Result ℕ ℕ → Type 0
IsPacked due before after (Ok n) = (due.error ≡ []) × Put before 0 due.out after n
IsPacked due before after (Err n) = (due.out ≡ []) × Put before 0 due.error after n
