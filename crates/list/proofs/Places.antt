-- The entry at a place is its key as admission hands it back (entry_at_key). The entries at runs of places. Every used place gets a section, so the entries of a list are those at its first places.
-- The keys of the used places alone have as many entries, and the same ones (many_used, same_entry, used_entries).
use mathlib.Core.Path.{◌≡◌, refl, ap, ◌∙◌}
use mathlib.Core.List.{List, [], ◌∷◌, map}
use Prim.Native.Nat.{ℕ, ◌+◌, ◌*◌, ◌/◌, ◌≤◌, ◌<◌}
use native.Mathlib.Omega.{arith}
use lib.ListN.{length, take}
use Rattle.std.proofs.lemmas.List.{get_or-take, length-take-le}
use Rattle.words.specs.Places.{places}
use Rattle.words.proofs.Places.{map_cong}
use Rattle.isa.specs.Entries.{entry_width, admitted}
use Rattle.isa.proofs.Comparing.{entries_same}
use Rattle.list.specs.declared.Sizes.{Sizes}
use Rattle.list.specs.Lists.{U32List, u32_list, used, key_at, entry_at}
use Rattle.list.specs.Heights.{section_entries, entries_at}

pub entry_at_key : (l : U32List) (i : ℕ) → entry_at l i ≡ admitted (key_at l i)
unfolding entry_at
entry_at_key l i = refl

pub entries_map : (l : U32List) (is : List ℕ) → entries_at l is ≡ map (entry_at l) is
unfolding entries_at
entries_map l [] = refl
entries_map l (i ∷ is) = rw (entries_map l is)

pub section_entries_map : (l : U32List) → section_entries l ≡ map (entry_at l) (places (used l))
section_entries_map l = entries_map l (places (used l))

-- the keys of the used places alone
module _ (l : U32List) (b : entry_width * used l ≤ length l.keys) {ks : List ℕ} (part : ks ≡ take (entry_width * used l) l.keys) where
  pub many_used : length ks / entry_width ≡ used l
  many_used = let long = length-take-le (entry_width * used l) l.keys b in rw part (omega arith)

  pub same_entry : (s : Sizes) (ms : List ℕ) (j : ℕ) → j < used l → entry_at (u32_list s ks ms) j ≡ entry_at l j
  unfolding entry_at key_at
  same_entry s ms j h =
      rw part
      (ap admitted
      (entries_same (get_or-take (entry_width * used l) l.keys (entry_width * j) 0 (omega arith))
      (get_or-take (entry_width * used l) l.keys (entry_width * j + 1) 0 (omega arith))
      (get_or-take (entry_width * used l) l.keys (entry_width * j + 2) 0 (omega arith))))

  pub used_entries : (s : Sizes) (ms : List ℕ) → map (entry_at (u32_list s ks ms)) (places (length ks / entry_width)) ≡ map (entry_at l) (places (used l))
  used_entries s ms =
      ap (λ (n : ℕ). map (entry_at (u32_list s ks ms)) (places n)) many_used
      ∙ map_cong (entry_at (u32_list s ks ms)) (entry_at l) 0 (used l) (λ j p q. same_entry s ms j (omega arith))
