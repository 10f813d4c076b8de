-- What the two stores do to the places of a list and to a search. A place that is settled, that is, gets a count and holds: all entries stay, and so do
-- the multiplicities and holds of the other places (settled_find, settled_count, settled_hold). A key that is appended: the used places stay, it stands
-- at the first unused one (appended_entry, new_entry), and a search for another key finds what it found, or ends one place later (appended_known,
-- appended_unknown). Both keep the shape (settled_shaped, appended_shaped). Assumes nothing.
use Prim.Native.Nat.{ℕ, ◌+◌, ◌*◌, ◌<◌}
use mathlib.Core.Path.{◌≡◌, sym, ap, ◌∙◌}
use mathlib.Core.Bool.{false}
use mathlib.Core.List.{List}
use mathlib.Core.Logic.{◌≢◌}
use native.Mathlib.Nat.{add-zero, zero-add}
use native.Mathlib.Omega.{arith}
use native.Mathlib.Numerals.{add-one}
use lib.ListN.{get_or, length-set}
use lib.Seq.{sets, get_or-set_other, length-sets}
use borrow.Author.Tests.{lt-ltb, le-ltb}
use Rattle.words.proofs.Sets.{get_d_sets_below, get_d_sets_in}
use Rattle.isa.specs.declared.U32TableEntry.{U32TableEntry}
use Rattle.isa.specs.Entries.{entry_words, entry_width, admitted}
use Rattle.isa.proofs.Comparing.{entries_same}
use Rattle.list.specs.Lists.{U32List, capacity, used, key_at, multiplicity_at, entry_at}
use Rattle.list.specs.Keys.{same_key, find_from, find_key}
use Rattle.list.specs.Holds.{HeldList, hold_at}
use Rattle.list.proofs.Places.{entry_at_key}
use Rattle.list.proofs.Finding.{find_cong, find_more}
use Rattle.list.proofs.JudgedLists.{Shaped}
use Rattle.list.proofs.HeldLists.{HeldShaped}
use Rattle.list_record.specs.Recording.{settled, appended}

-- ---- place i gets a count and holds

module _ (h : HeldList) (i count hold : ℕ) where
  pub settled_entry : (j : ℕ) → entry_at (settled h i count hold).list j ≡ entry_at h.list j
  unfolding key_at
  settled_entry j = entry_at_key (settled h i count hold).list j ∙ sym (entry_at_key h.list j)

  pub settled_find : (e : U32TableEntry) → find_key (settled h i count hold).list e ≡ find_key h.list e
  unfolding find_key
  settled_find e = find_cong (settled h i count hold).list h.list e 0 (used h.list) (λ j a b. settled_entry j)

  pub settled_count : (j : ℕ) → j ≢ i → multiplicity_at (settled h i count hold).list j ≡ multiplicity_at h.list j
  unfolding multiplicity_at
  settled_count j n = get_or-set_other h.list.multiplicities i j count 0 n

  pub settled_hold : (j : ℕ) → j ≢ i → hold_at (settled h i count hold) j ≡ hold_at h j
  unfolding hold_at
  settled_hold j n = get_or-set_other h.holds i j hold 0 n

  pub settled_shaped : HeldShaped h → HeldShaped (settled h i count hold)
  settled_shaped s = record {
    list = record {
      small = s.list.small;
      within = s.list.within;
      keys = s.list.keys;
      multiplicities = length-set h.list.multiplicities i count ∙ s.list.multiplicities;
    };
    holds = length-set h.holds i hold ∙ s.holds;
  }

-- ---- a key is appended

module _ (count hold : ℕ) (h : HeldList) (e : U32TableEntry) where
  abbrev l : U32List
  l = h.list

  abbrev longer : U32List
  longer = (appended count hold h e).list

  old_word : (j k : ℕ) → j < used l → k < 3
      → get_or (sets l.keys (entry_width * used l) (entry_words e)) (entry_width * j + k) 0 ≡ get_or l.keys (entry_width * j + k) 0
  old_word j k b t = get_d_sets_below (entry_words e) l.keys (entry_width * used l) (entry_width * j + k) 0 (omega arith)

  first_word : (ws : List ℕ) (j : ℕ) → get_or ws (entry_width * j) 0 ≡ get_or ws (entry_width * j + 0) 0
  first_word ws j = rw add-zero

  pub appended_entry : (j : ℕ) → j < used l → entry_at longer j ≡ entry_at l j
  unfolding key_at
  appended_entry j b = entry_at_key longer j ∙ ap admitted old_key ∙ sym (entry_at_key l j) where
    old_key : key_at longer j ≡ key_at l j
    old_key =
        entries_same (first_word longer.keys j ∙ old_word j 0 b (omega arith) ∙ sym (first_word l.keys j))
        (old_word j 1 b (omega arith)) (old_word j 2 b (omega arith))

  pub appended_count : (j : ℕ) → j < used l → multiplicity_at longer j ≡ multiplicity_at l j
  unfolding multiplicity_at
  appended_count j b = get_or-set_other l.multiplicities (used l) j count 0 (λ q. omega arith)

  pub appended_hold : (j : ℕ) → j < used l → hold_at (appended count hold h e) j ≡ hold_at h j
  unfolding hold_at
  appended_hold j b = get_or-set_other h.holds (used l) j hold 0 (λ q. omega arith)

  pub new_entry : Shaped l → used l < capacity l → entry_at longer (used l) ≡ admitted e
  unfolding key_at
  new_entry s b = entry_at_key longer (used l) ∙ ap admitted new_key where
    word : (k : ℕ) → k < 3 → get_or (sets l.keys (entry_width * used l) (entry_words e)) (entry_width * used l + k) 0 ≡ get_or (entry_words e) k 0
    word k t = get_d_sets_in (entry_words e) l.keys (entry_width * used l) k 0 t (omega (arith, s.keys))

    new_key : key_at longer (used l) ≡ e
    new_key = entries_same (first_word longer.keys (used l) ∙ word 0 (omega arith)) (word 1 (omega arith)) (word 2 (omega arith))

  -- a search among the places that were used before
  old_search : (g : U32TableEntry) → find_from longer g 0 (used l) ≡ find_key l g
  unfolding find_key
  old_search g = find_cong longer l g 0 (used l) (λ j a b. appended_entry j (omega arith))

  pub appended_known : (g : U32TableEntry) → find_key l g < used l → find_key longer g ≡ find_key l g
  unfolding find_key
  appended_known g b =
      ap (λ (n : ℕ). find_from longer g 0 n) (add-one (used l)) ∙ find_more longer g 0 (used l)
      ∙ rw (old_search g, zero-add (used l), lt-ltb (find_key l g) (used l) b)

  pub appended_unknown : (g : U32TableEntry) → find_key l g ≡ used l → same_key (entry_at longer (used l)) g ≡ false
      → find_key longer g ≡ used l + 1
  unfolding find_key
  appended_unknown g b s =
      ap (λ (n : ℕ). find_from longer g 0 n) (add-one (used l)) ∙ find_more longer g 0 (used l)
      ∙ rw (old_search g, b, zero-add (used l), le-ltb (used l) (used l) (omega arith), s, add-one (used l))

  pub appended_shaped : HeldShaped h → used l < capacity l → HeldShaped (appended count hold h e)
  appended_shaped s room = record {
    list = record {
      small = s.list.small;
      within = omega arith;
      keys = length-sets l.keys (entry_width * used l) (entry_words e) ∙ s.list.keys;
      multiplicities = length-set l.multiplicities (used l) count ∙ s.list.multiplicities;
    };
    holds = length-set h.holds (used l) hold ∙ s.holds;
  }
