-- What the loop of `put_rows` keeps.
use Prim.Native.Nat.{ℕ, ◌-◌, ◌+◌, ◌*◌}
use mathlib.Core.Path.{◌≡◌}
use mathlib.Core.List.{List, map, flat_map}
use lib.Seq.{sets}
use Rattle.words.specs.Places.{places_from, places}
use Rattle.archive.specs.Archives.{archived_word, rows_from}
use Rattle.archive.proofs.StoredColumns.put_rows.Given as goal

-- the words of row i
abbrev pub row : List ℕ → (width rows i : ℕ) → List ℕ
row bytes width rows i = map (λ c. archived_word bytes (rows * c + i)) (places width)

abbrev pub invariant-loop-i : goal.invariant-loop-i
invariant-loop-i l =
    sets l.initial.to 0 (rows_from l.self.bytes.now 0 l.self.width l.self.rows) ≡ sets l.to (0 + l.self.width * l.i) (flat_map (row l.self.bytes.now l.self.width l.self.rows) (places_from l.i (l.self.rows - l.i)))
