-- Lists that hold the same admitted entries with the same holds are written alike: the same answer, and the same bytes. So what is written, and 11,
-- go by the reduced entries. Assumes nothing.
use Prim.Native.Nat.{ℕ}
use mathlib.Core.Path.{◌≡◌, refl, sym, ap, ◌∙◌}
use mathlib.Core.List.{List, map}
use native.Mathlib.Omega.{arith}
use lib.ListN.{length}
use Rattle.words.specs.LittleEndian.{le}
use Rattle.words.specs.Places.{places}
use Rattle.words.proofs.Places.{map_cong, flat_cong}
use Rattle.list.specs.Lists.{U32List, used, multiplicity_at, entry_at}
use Rattle.list.specs.Heights.{entries_at, list_height}
use Rattle.list.specs.Holds.{HeldList, section_list}
use Rattle.list.proofs.Alike.{Alike, alike_used, alike_count, alike_height}
use Rattle.list.proofs.HeldAlike.{alike_sections, alike_held}
use Rattle.list_bytes.specs.Packed.{multiplicity_width, key_bytes, stored_places, stored_bytes}
use Rattle.list_bytes.proofs.StoredPlaces.{length_stored_places, stored_entries_lem}
use Rattle.list_bytes.proofs.Format.{keys_form, counts_form, formed, stored_formed}
use Rattle.list_stored.specs.Stored.{storing_reason, write_reason, write_all}

module _ (l m : U32List) (a : Alike l m) where
  entries_alike : entries_at l (stored_places l) ≡ entries_at m (stored_places m)
  entries_alike =
      stored_entries_lem l
      ∙ map_cong (entry_at l) (entry_at m) 0 (used l) (λ i p q. a.entries i (omega arith))
      ∙ ap (λ (n : ℕ). map (entry_at m) (places n)) (alike_used l m a)
      ∙ sym (stored_entries_lem m)

  places_alike : length (stored_places l) ≡ length (stored_places m)
  places_alike = length_stored_places l ∙ alike_used l m a ∙ sym (length_stored_places m)

  bytes_alike : stored_bytes l ≡ stored_bytes m
  bytes_alike =
      let K : keys_form (entry_at l) (used l) ≡ keys_form (entry_at m) (used l)
      = flat_cong _ _ 0 (used l) (λ i p q. ap key_bytes (a.entries i (omega arith))) in
      let C : counts_form multiplicity_width (multiplicity_at l) (used l) ≡ counts_form multiplicity_width (multiplicity_at m) (used l)
      = flat_cong _ _ 0 (used l) (λ i p q. ap (le multiplicity_width) (alike_count l m a i)) in
      stored_formed l
      ∙ rw (K, C, alike_height l m a) (ap (λ (n : ℕ). formed multiplicity_width (entry_at m) (multiplicity_at m) n (list_height m)) (alike_used l m a))
      ∙ sym (stored_formed m)

  storing_alike : (out : List ℕ) → storing_reason l out ≡ storing_reason m out
  unfolding storing_reason
  storing_alike out = rw (entries_alike, places_alike) refl

pub write_alike : (g h : HeldList) → Alike g.list h.list → g.holds ≡ h.holds → (out : List ℕ) → write_all g out ≡ write_all h out
unfolding write_all write_reason
write_alike g h a same out =
    let b = alike_sections g h a same in
    rw (
      alike_held g h a same,
      storing_alike (section_list g) (section_list h) b out,
      places_alike (section_list g) (section_list h) b,
      bytes_alike (section_list g) (section_list h) b,
    )
    refl
