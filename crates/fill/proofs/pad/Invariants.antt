-- What the loop of `pad` keeps.
use Rattle.std.proofs.Common.{◌≡◌, ◌*◌, ◌-◌, length, replicate}
use Rattle.std.proofs.lemmas.List.Edits.{sets}
use Rattle.table.specs.Columns.{main_width}
use Rattle.table.specs.Layouts.{row_of}
use Rattle.table.specs.RowWords.{table_words}
use Rattle.fill.proofs.pad.Given as goal

abbrev pub invariant-loop-row : goal.invariant-loop-row
invariant-loop-row l =
    (length l.table ≡ length l.initial.table)
    × (l.table ≡ sets l.initial.table (main_width * l.fn.filled) (table_words (replicate (l.row - l.fn.filled) (row_of l.padding))))
