-- What the loop of `fill_sections` keeps.
use Rattle.std.proofs.Common.{◌≡◌, length}
use Rattle.std.proofs.lemmas.List.Edits.{sets}
use Rattle.list.specs.Lent.{counts_in}
use Rattle.list.proofs.JudgedLists.{height_to}
use Rattle.table.specs.RowWords.{table_words}
use Rattle.fill.proofs.ListSections.{rows_to}
use Rattle.fill.proofs.fill_sections.Given as goal

abbrev pub invariant-loop-place : goal.invariant-loop-place
invariant-loop-place l =
    (length l.table ≡ length l.initial.table) × (l.row ≡ height_to (counts_in l.fn.places.list) l.place)
    × (l.table ≡ sets l.initial.table 0 (table_words (rows_to (counts_in l.fn.places.list) l.place)))
