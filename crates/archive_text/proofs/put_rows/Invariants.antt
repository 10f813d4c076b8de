-- What the loop of `put_rows` keeps: the lines of the rows that came have been put, and the words of the others are left.
use Prim.Native.Nat.{◌*◌, ◌≤◌}
use mathlib.Core.Path.{◌≡◌}
use lib.ListN.{length, drop}
use Rattle.table.specs.Columns.{main_width, aux_width, row_count}
use Rattle.text.specs.Put.{Adds}
use Rattle.archive_text.specs.Unpacking.{printed_rows}
use Rattle.archive_text.proofs.put_rows.Given as goal

abbrev pub invariant-loop-row : goal.invariant-loop-row
invariant-loop-row l =
    let i = length l.yielded in
    let words = l.row-iterator.a in
    let sums = l.row-iterator.b in
    record {
      count : i ≤ row_count l.table;
      row_size : words.size ≡ main_width;
      sum_size : sums.size ≡ aux_width;
      rows_left : words.rest.now ≡ drop (main_width * i) l.table;
      sums_left : sums.rest.now ≡ drop (aux_width * i) l.aux;
      put : Adds l.initial.text (printed_rows l.table l.aux 0 i) l.text;
    }
