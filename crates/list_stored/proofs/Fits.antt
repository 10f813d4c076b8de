-- What reading and writing store fits: no word and no byte falls past the end of what is lent.
use mathlib.Core.Path.{◌≡◌}
use mathlib.Core.List.{List, map}
use Prim.Native.Nat.{ℕ, ◌≤◌}
use native.Mathlib.Omega.{arith}
use lib.ListN.{length, replicate, length-replicate}
use Rattle.words.specs.Refusals.{Fine}
use Rattle.words.specs.Places.{places}
use Rattle.words.proofs.Places.{length-map}
use Rattle.list.specs.Lists.{U32List, used, entry_at, multiplicity_at}
use Rattle.list.specs.Heights.{list_height}
use Rattle.list.specs.Holds.{HeldList, section_list}
use Rattle.list_bytes.specs.Packed.{multiplicity_width, stored_length, stored_bytes, stored_n, stored_entry, stored_multiplicity}
use Rattle.list_stored.specs.Stored.{read_reason, write_reason}
use Rattle.list_stored.proofs.Reasons.{readable, writable}
use Rattle.list_bytes.proofs.Replaced.{keys_of, length_keys_of}
use Rattle.list_bytes.proofs.Format.{stored_formed, length_formed}

pub length_stored : (l : U32List) → length (stored_bytes l) ≡ stored_length (used l)
length_stored l = rw (stored_formed l) (length_formed multiplicity_width (entry_at l) (multiplicity_at l) (used l) (list_height l))

pub read_fits : (h : HeldList) (s : List ℕ) → read_reason h s ≡ Fine
    → (length (keys_of (stored_entry s) (stored_n s)) ≤ length h.list.keys)
    × (length (map (stored_multiplicity s) (places (stored_n s))) ≤ length h.list.multiplicities)
    × (length {A = ℕ} (replicate (stored_n s) 0) ≤ length h.holds)
read_fits h s e =
    let w = readable h s e in
    let f = w.shape in (
      omega (arith, length_keys_of (stored_entry s) (stored_n s), w.room),
      omega (arith, length-map (stored_multiplicity s) 0 (stored_n s), w.room),
      omega (arith, length-replicate {A = ℕ} (stored_n s) 0, w.room),
    )

pub write_fits : (h : HeldList) (out : List ℕ) → write_reason h out ≡ Fine → length (stored_bytes (section_list h)) ≤ length out
write_fits h out e = omega (arith, length_stored (section_list h), (writable h out e).room)
