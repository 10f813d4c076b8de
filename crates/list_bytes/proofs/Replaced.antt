-- A list whose first n places were replaced holds there what was put there.
use mathlib.Core.Path.{◌≡◌, refl, sym, ap, ◌∙◌}
use mathlib.Core.List.{List, map, flat_map}
use Prim.Native.Nat.{ℕ, ◌+◌, ◌*◌, ◌≤◌, ◌<◌}
use native.Mathlib.Nat.{zero-add, add-zero}
use native.Mathlib.Omega.{arith}
use lib.ListN.{length, get_or}
use lib.Seq.{sets}
use Rattle.words.specs.Places.{places}
use Rattle.words.proofs.Sets.{get_d_sets_in}
use Rattle.words.proofs.Places.{length-map, get_d_map, length_flat, get_d_flat}
use Rattle.isa.specs.declared.U32TableEntry.{U32TableEntry}
use Rattle.isa.specs.Entries.{entry_words, entry_width}
use Rattle.isa.proofs.Comparing.{entries_same}
use Rattle.list.specs.declared.Sizes.{Sizes}
use Rattle.list.specs.Lists.{u32_list, key_at, multiplicity_at}

abbrev pub keys_of : (ℕ → U32TableEntry) → ℕ → List ℕ
keys_of f n = flat_map (λ i. entry_words (f i)) (places n)

pub length_keys_of : (f : ℕ → U32TableEntry) (n : ℕ) → length (keys_of f n) ≡ entry_width * n
length_keys_of f n = length_flat (λ i. entry_words (f i)) entry_width (λ i. refl) 0 n

module _ (f : ℕ → U32TableEntry) (n : ℕ) (old : List ℕ) (room : entry_width * n ≤ length old) where
  word_put : (i k : ℕ) → i < n → k < entry_width → get_or (sets old 0 (keys_of f n)) (entry_width * i + k) 0 ≡ get_or (entry_words (f i)) k 0
  word_put i k p q =
      let e = length_keys_of f n in
      ap (λ (a : ℕ). get_or (sets old 0 (keys_of f n)) a 0) (sym (zero-add (entry_width * i + k)))
      ∙ get_d_sets_in (keys_of f n) old 0 (entry_width * i + k) 0 (omega arith) (omega arith)
      ∙ get_d_flat (λ i. entry_words (f i)) entry_width (λ i. refl) 0 n i k p q
      ∙ ap (λ (a : ℕ). get_or (entry_words (f a)) k 0) (zero-add i)

  pub key_put : (z : Sizes) (ms : List ℕ) (i : ℕ) → i < n → key_at (u32_list z (sets old 0 (keys_of f n)) ms) i ≡ f i
  unfolding key_at
  key_put z ms i p =
      entries_same
      (ap (λ (a : ℕ). get_or (sets old 0 (keys_of f n)) a 0) (sym (add-zero (entry_width * i))) ∙ word_put i 0 p (omega arith))
      (word_put i 1 p (omega arith))
      (word_put i 2 p (omega arith))

module _ (m : ℕ → ℕ) (n : ℕ) (old : List ℕ) (room : n ≤ length old) where
  pub multiplicity_put : (z : Sizes) (ks : List ℕ) (i : ℕ) → i < n → multiplicity_at (u32_list z ks (sets old 0 (map m (places n)))) i ≡ m i
  unfolding multiplicity_at
  multiplicity_put z ks i p =
      let e = length-map m 0 n in
      ap (λ (a : ℕ). get_or (sets old 0 (map m (places n))) a 0) (sym (zero-add i))
      ∙ get_d_sets_in (map m (places n)) old 0 i 0 (omega arith) (omega arith)
      ∙ get_d_map m 0 n i p
      ∙ ap m (zero-add i)
