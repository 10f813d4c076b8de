-- What the loop of `put_columns` keeps.
use Prim.Native.Nat.{◌-◌, ◌+◌, ◌*◌}
use mathlib.Core.Path.{◌≡◌}
use mathlib.Core.List.{flat_map}
use lib.Seq.{sets}
use Rattle.words.specs.LittleEndian.{le}
use Rattle.words.specs.Places.{places_from}
use Rattle.archive.specs.Archives.{word_width, columns}
use Rattle.archive.proofs.Columns.{column_bytes}
use Rattle.archive.proofs.Cells.put_columns.Given as goal

abbrev pub invariant-loop-c : goal.invariant-loop-c
invariant-loop-c l =
    sets l.initial.out 0 (flat_map (le word_width) (columns l.self.width l.self.words.now l.self.rows))
    ≡ sets l.out (0 + word_width * l.self.rows * l.c) (flat_map (column_bytes l.self.width l.self.words.now l.self.rows) (places_from l.c (l.self.width - l.c)))
