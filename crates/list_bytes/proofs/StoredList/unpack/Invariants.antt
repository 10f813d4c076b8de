-- What the loop of `unpack` keeps.
use Prim.Native.Nat.{◌-◌, ◌+◌, ◌*◌}
use mathlib.Core.Path.{◌≡◌}
use mathlib.Core.List.{map, flat_map}
use lib.Seq.{sets}
use Rattle.words.specs.Places.{places_from, places}
use Rattle.isa.specs.Entries.{entry_words, entry_width}
use Rattle.list_bytes.specs.Packed.{stored_entry, stored_multiplicity}
use Rattle.list_bytes.proofs.StoredList.unpack.Given as goal

abbrev pub invariant-loop-i : goal.invariant-loop-i
invariant-loop-i l =
    (sets l.initial.keys 0 (flat_map (λ i. entry_words (stored_entry l.self.bytes.now i)) (places l.self.n))
    ≡ sets l.keys (0 + entry_width * l.i) (flat_map (λ i. entry_words (stored_entry l.self.bytes.now i)) (places_from l.i (l.self.n - l.i))))
    × (sets l.initial.multiplicities 0 (map (stored_multiplicity l.self.bytes.now) (places l.self.n))
    ≡ sets l.multiplicities l.i (map (stored_multiplicity l.self.bytes.now) (places_from l.i (l.self.n - l.i))))
