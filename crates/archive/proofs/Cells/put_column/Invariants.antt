-- What the loop of `put_column` keeps.
use Prim.Native.Nat.{◌-◌, ◌+◌, ◌*◌}
use mathlib.Core.Path.{◌≡◌}
use mathlib.Core.List.{flat_map}
use lib.Seq.{sets}
use Rattle.words.specs.Places.{places_from}
use Rattle.archive.specs.Archives.{word_width}
use Rattle.archive.proofs.Columns.{column_bytes, cell_bytes}
use Rattle.archive.proofs.Cells.put_column.Given as goal

abbrev pub invariant-loop-i : goal.invariant-loop-i
invariant-loop-i l =
    sets l.initial.out 0 (column_bytes l.self.width l.self.words.now l.self.rows l.c)
    ≡ sets l.out (0 + word_width * l.i) (flat_map (cell_bytes l.self.width l.self.words.now l.self.rows l.c) (places_from l.i (l.self.rows - l.i)))
