-- What the loop of `put_row` keeps.
use Prim.Native.Nat.{ℕ, ◌-◌, ◌+◌, ◌*◌}
use mathlib.Core.Path.{◌≡◌}
use mathlib.Core.List.{List, map}
use lib.Seq.{sets}
use Rattle.words.specs.Places.{places_from, places}
use Rattle.archive.specs.Archives.{archived_word}
use Rattle.archive.proofs.StoredColumns.put_row.Given as goal

-- the word of column c
abbrev pub cell : List ℕ → (rows i c : ℕ) → ℕ
cell bytes rows i c = archived_word bytes (rows * c + i)

abbrev pub invariant-loop-c : goal.invariant-loop-c
invariant-loop-c l =
    sets l.initial.to 0 (map (cell l.self.bytes.now l.self.rows l.i) (places l.self.width))
    ≡ sets l.to l.c (map (cell l.self.bytes.now l.self.rows l.i) (places_from l.c (l.self.width - l.c)))
