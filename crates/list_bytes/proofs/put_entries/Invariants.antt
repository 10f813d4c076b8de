-- What the loop of `put_entries` keeps.
use Prim.Native.Nat.{ℕ, ◌-◌, ◌+◌, ◌*◌}
use mathlib.Core.Path.{◌≡◌}
use mathlib.Core.List.{List, flat_map}
use lib.Seq.{sets}
use Rattle.words.specs.Places.{places_from, places}
use Rattle.list.specs.Lists.{U32List, used, entry_at}
use Rattle.list.specs.Lent.{counts_in}
use Rattle.list_bytes.specs.Packed.{key_width, key_bytes}
use Rattle.list_bytes.proofs.put_entries.Given as goal

-- the bytes of the entry at place i
abbrev pub block : U32List → ℕ → List ℕ
block l i = key_bytes (entry_at l i)

abbrev pub invariant-loop-i : goal.invariant-loop-i
invariant-loop-i l =
    let list = counts_in l.fn.used.list in
    flat_map (block list) (places (used list))
    ≡ sets l.out (0 + key_width * l.i) (flat_map (block list) (places_from l.i (used list - l.i)))
