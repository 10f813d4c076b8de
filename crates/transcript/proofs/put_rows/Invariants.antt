-- What the loop of `put_rows` keeps: the lines of the rows that came have been put, and the words of the others are left.
use Prim.Native.Nat.{◌-◌, ◌*◌, ◌≤◌}
use mathlib.Core.Path.{◌≡◌}
use lib.ListN.{length, take, drop}
use Rattle.table.specs.Columns.{main_width}
use Rattle.text.specs.Put.{Adds}
use Rattle.transcript.specs.Transcript.{row_lines}
use Rattle.transcript.proofs.put_rows.Given as goal

abbrev pub invariant-loop-row : goal.invariant-loop-row
invariant-loop-row l =
    let row = length l.yielded in
    (row ≤ l.n) × (l.row-iterator.size ≡ main_width)
    × (l.row-iterator.rest.now ≡ take (main_width * l.n - main_width * row) (drop (main_width * row) l.table))
    × Adds l.initial.text (row_lines l.table row) l.text
