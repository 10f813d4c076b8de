-- The stored form of n entries with their multiplicities: what its bytes hold is what was put there, and bytes of the right length are the
-- form of what they hold. Each number is read from its own bytes alone, so the first goes by where a part stands, the second by taking the
-- bytes apart.
use mathlib.Core.Path.{◌≡◌, refl, sym, ap, ◌∙◌}
use mathlib.Core.List.{List, ◌++◌, flat_map, append-nil}
use Prim.Native.Nat.{ℕ, ◌+◌, ◌-◌, ◌*◌, ◌^◌, ◌≤◌, ◌<◌}
use native.Mathlib.Nat.{zero-add, add-zero, add_assoc, mul-zero}
use borrow.Author.Tests.{eq-eqb, ne_eqb}
use native.Mathlib.Omega.{arith}
use lib.ListN.{length, get_or, take, drop, length-append}
use lib.Seq.{sets, length-sets, take_all, take-add, drop-drop}
use borrow.Rule.Slice.PartMut.{put_mid}
use Rattle.std.proofs.lemmas.List.{drop_all}
use Rattle.words.specs.LittleEndian.{le_at, le}
use Rattle.words.specs.Places.{places}
use Rattle.words.proofs.LittleEndian.{length_le, le_at_same, le_at_left, le_at_right, le_at_le, le_le_at}
use Rattle.words.proofs.Sets.{sets_then, sets_front, part_sets}
use Rattle.words.proofs.Places.{block_end, length_places, length_flat, get_d_flat, flat_parts}
use Rattle.isa.specs.declared.U32TableEntry.{U32TableEntry}
use Rattle.isa.specs.Entries.{lhs, rhs}
use Rattle.isa.proofs.Comparing.{entries_same}
use Rattle.isa.proofs.Entries.{Admissible, opcode_byte, lhs_below}
use Rattle.list.specs.Lists.{U32List, used, entry_at, multiplicity_at}
use Rattle.list.specs.Heights.{list_height}
use Rattle.list_bytes.specs.Packed.{n_width, height_width, head_width, opcode_width, operand_width, key_width, keys_end, multiplicity_width, old_multiplicity_width}
use Rattle.list_bytes.specs.Packed.{length_with, stored_length, old_length, width_of, stored_places, key_bytes, bytes_with, stored_bytes}
use Rattle.list_bytes.specs.Packed.{stored_n, stored_height, stored_entry, stored_multiplicity}

-- ---- the form

abbrev pub keys_form : (ℕ → U32TableEntry) → ℕ → List ℕ
keys_form f n = flat_map (λ i. key_bytes (f i)) (places n)

-- multiplicities of w bytes
abbrev pub counts_form : ℕ → (ℕ → ℕ) → ℕ → List ℕ
counts_form w m n = flat_map (λ i. le w (m i)) (places n)

abbrev pub formed : ℕ → (ℕ → U32TableEntry) → (ℕ → ℕ) → ℕ → ℕ → List ℕ
formed w f m n h = le n_width n ++ (le height_width h ++ (keys_form f n ++ counts_form w m n))

pub bytes_formed : (h : ℕ) (l : U32List) → bytes_with h l ≡ formed multiplicity_width (entry_at l) (multiplicity_at l) (used l) h
unfolding bytes_with stored_places
bytes_formed h l = rw (length_places 0 (used l))

pub stored_formed : (l : U32List) → stored_bytes l ≡ formed multiplicity_width (entry_at l) (multiplicity_at l) (used l) (list_height l)
unfolding stored_bytes
stored_formed l = bytes_formed (list_height l) l

pub length_key : (e : U32TableEntry) → length (key_bytes e) ≡ key_width
unfolding key_bytes le
length_key e = refl

pub length_keys : (f : ℕ → U32TableEntry) (n : ℕ) → length (keys_form f n) ≡ key_width * n
length_keys f n = length_flat (λ i. key_bytes (f i)) key_width (λ i. length_key (f i)) 0 n

pub length_counts : (w : ℕ) (m : ℕ → ℕ) (n : ℕ) → length (counts_form w m n) ≡ w * n
length_counts w m n = length_flat (λ i. le w (m i)) w (λ i. length_le w (m i)) 0 n

pub length_formed : (w : ℕ) (f : ℕ → U32TableEntry) (m : ℕ → ℕ) (n h : ℕ) → length (formed w f m n h) ≡ length_with w n
length_formed w f m n h = simp (length-append, length_le, length_keys f n, length_counts w m n) (omega arith)

-- a run as long as the list replaces it
pub sets_whole : (vs l : List ℕ) → length vs ≡ length l → sets l 0 vs ≡ vs
sets_whole vs l e =
    sets_front vs l (omega arith) ∙ ap (λ (rest : List ℕ). vs ++ rest) (drop_all (length vs) l (omega arith)) ∙ append-nil vs

-- the form, stored part by part: the number of entries and the height; then the keys and the multiplicities, each in a part of the bytes
module _ (f : ℕ → U32TableEntry) (m : ℕ → ℕ) (n h : ℕ) (d d1 d2 keys counts : List ℕ) where
  -- the bytes with the keys
  abbrev keys_put : List ℕ
  keys_put = put_mid head_width (keys_end n - head_width) d2 keys

  pub put_form : d1 ≡ sets d 0 (le n_width n) → d2 ≡ sets d1 n_width (le height_width h) → keys ≡ keys_form f n → counts ≡ counts_form multiplicity_width m n
      → stored_length n ≤ length d
      → put_mid (keys_end n) (keys_end n + multiplicity_width * n - keys_end n) keys_put counts ≡ sets d 0 (formed multiplicity_width f m n h)
  put_form e1 e2 ek ec room =
      let ks = keys_form f n in
      let ms = counts_form multiplicity_width m n in
      let lk = length_keys f n in
      let lm = length_counts multiplicity_width m n in
      let l2 : length d2 ≡ length d
      = ap length e2 ∙ length-sets d1 n_width (le height_width h) ∙ ap length e1 ∙ length-sets d 0 (le n_width n) in
      let put : keys_put ≡ sets d2 head_width ks = part_sets d2 keys ks head_width _ ek (omega arith) (omega arith) in
      let l3 : length keys_put ≡ length d2 = ap length put ∙ length-sets d2 head_width ks in
      part_sets keys_put counts ms (keys_end n) _ ec (omega arith) (omega arith)
      ∙ sym
      (sets_then (le n_width n) (le height_width h ++ (ks ++ ms)) d d1 0 n_width e1 (omega (arith, length_le n_width n))
      ∙ sets_then (le height_width h) (ks ++ ms) d1 d2 n_width head_width e2 (omega (arith, length_le height_width h))
      ∙ sets_then ks ms d2 keys_put head_width (keys_end n) put (omega arith))

-- ---- where a number stands

after : (xs ys : List ℕ) (n at k : ℕ) → length xs ≡ n → le_at (xs ++ ys) (n + at) k ≡ le_at ys at k
after xs ys n at k e = ap (λ (a : ℕ). le_at (xs ++ ys) (a + at) k) (sym e) ∙ le_at_right xs ys at k

module _ (g : ℕ → List ℕ) (w : ℕ) (l : (j : ℕ) → length (g j) ≡ w) where
  in_block : (n i a k : ℕ) → i < n → a + k ≤ w → le_at (flat_map g (places n)) (w * i + a) k ≡ le_at (g i) a k
  in_block n i a k p r =
      le_at_same (flat_map g (places n)) (g i) (w * i + a) a k
      (λ j q. rw add_assoc (get_d_flat g w l 0 n i (a + j) p (omega arith) ∙ ap (λ (b : ℕ). get_or (g b) (a + j) 0) (zero-add i)))

module _ (e : U32TableEntry) (a : Admissible e) where
  key_opcode : le_at (key_bytes e) 0 opcode_width ≡ e.opcode
  unfolding key_bytes
  key_opcode =
      le_at_left (le opcode_width e.opcode) _ 0 opcode_width (omega (arith, length_le opcode_width e.opcode))
      ∙ le_at_le opcode_width e.opcode (opcode_byte e.opcode a.known)

  key_lhs : le_at (key_bytes e) opcode_width operand_width ≡ lhs e
  unfolding key_bytes
  key_lhs =
      after (le opcode_width e.opcode) (le operand_width (lhs e) ++ le operand_width (rhs e)) opcode_width 0 operand_width (length_le opcode_width e.opcode)
      ∙ le_at_left (le operand_width (lhs e)) (le operand_width (rhs e)) 0 operand_width (omega (arith, length_le operand_width (lhs e)))
      ∙ le_at_le operand_width (lhs e) (let h = lhs_below e a in omega arith)

  key_rhs : le_at (key_bytes e) (opcode_width + operand_width) operand_width ≡ rhs e
  unfolding key_bytes
  key_rhs =
      let h = a.right in
      after (le opcode_width e.opcode) (le operand_width (lhs e) ++ le operand_width (rhs e)) opcode_width operand_width operand_width (length_le opcode_width e.opcode)
      ∙ after (le operand_width (lhs e)) (le operand_width (rhs e)) operand_width 0 operand_width (length_le operand_width (lhs e))
      ∙ le_at_le operand_width (rhs e) (omega arith)

-- ---- what the form holds

module _ (w : ℕ) (f : ℕ → U32TableEntry) (m : ℕ → ℕ) (n h : ℕ) where
  past_head : (at k : ℕ) → le_at (formed w f m n h) (head_width + at) k ≡ le_at (keys_form f n ++ counts_form w m n) at k
  past_head at k =
      let e : head_width + at ≡ n_width + (height_width + at) = omega arith in
      ap (λ (a : ℕ). le_at (formed w f m n h) a k) e
      ∙ after (le n_width n) (le height_width h ++ (keys_form f n ++ counts_form w m n)) n_width (height_width + at) k (length_le n_width n)
      ∙ after (le height_width h) (keys_form f n ++ counts_form w m n) height_width at k (length_le height_width h)

  pub holds_n : n < 256 ^ n_width → stored_n (formed w f m n h) ≡ n
  unfolding stored_n
  holds_n p = le_at_left (le n_width n) _ 0 n_width (omega (arith, length_le n_width n)) ∙ le_at_le n_width n p

  pub holds_height : h < 256 ^ height_width → stored_height (formed w f m n h) ≡ h
  unfolding stored_height
  holds_height p =
      after (le n_width n) (le height_width h ++ (keys_form f n ++ counts_form w m n)) n_width 0 height_width (length_le n_width n)
      ∙ le_at_left (le height_width h) (keys_form f n ++ counts_form w m n) 0 height_width (omega (arith, length_le height_width h))
      ∙ le_at_le height_width h p

  -- at place `at`, which is a bytes into the key at place i
  in_key : (i at a k : ℕ) → at ≡ keys_end i + a → i < n → a + k ≤ key_width → le_at (formed w f m n h) at k ≡ le_at (key_bytes (f i)) a k
  in_key i at a k is p r =
      let e : at ≡ head_width + (key_width * i + a) = omega arith in
      ap (λ (b : ℕ). le_at (formed w f m n h) b k) e
      ∙ past_head (key_width * i + a) k
      ∙ le_at_left (keys_form f n) (counts_form w m n) (key_width * i + a) k (omega (arith, length_keys f n))
      ∙ in_block (λ i. key_bytes (f i)) key_width (λ i. length_key (f i)) n i a k p r

  pub holds_entry : (i : ℕ) → i < n → Admissible (f i) → stored_entry (formed w f m n h) i ≡ f i
  unfolding stored_entry
  holds_entry i p b =
      entries_same
      (in_key i _ 0 opcode_width (omega arith) p (omega arith) ∙ key_opcode (f i) b)
      (in_key i _ opcode_width operand_width refl p (omega arith) ∙ key_lhs (f i) b)
      (in_key i _ (opcode_width + operand_width) operand_width (omega arith) p (omega arith) ∙ key_rhs (f i) b)

  in_counts : (i : ℕ) → i < n → m i < 256 ^ w → le_at (formed w f m n h) (keys_end n + w * i) w ≡ m i
  in_counts i q r =
      let e : keys_end n + w * i ≡ head_width + (key_width * n + (w * i + 0)) = omega arith in
      ap (λ (b : ℕ). le_at (formed w f m n h) b w) e
      ∙ past_head (key_width * n + (w * i + 0)) w
      ∙ after (keys_form f n) (counts_form w m n) (key_width * n) (w * i + 0) w (length_keys f n)
      ∙ in_block (λ i. le w (m i)) w (λ i. length_le w (m i)) n i 0 w q (omega arith)
      ∙ le_at_le w (m i) r

-- the length tells the width
pub width_old : (s : List ℕ) → length s ≡ old_length (stored_n s) → width_of s ≡ old_multiplicity_width
unfolding width_of
width_old s e = rw (eq-eqb (length s) (old_length (stored_n s)) e)

pub width_other : (s : List ℕ) → (length s ≡ old_length (stored_n s) → ⊥) → width_of s ≡ multiplicity_width
unfolding width_of
width_other s f = rw (ne_eqb (length s) (old_length (stored_n s)) f)

pub width_not_old : (s : List ℕ) → (width_of s ≡ old_multiplicity_width → ⊥) → width_of s ≡ multiplicity_width
width_not_old s f = width_other s (λ e. f (width_old s e))

pub width_new : (s : List ℕ) → length s ≡ stored_length (stored_n s) → 0 < stored_n s → width_of s ≡ multiplicity_width
width_new s e p = width_other s (λ f. omega arith)

-- what was written in the new form
pub holds_multiplicity : (f : ℕ → U32TableEntry) (m : ℕ → ℕ) (n h i : ℕ) → n < 256 ^ n_width → i < n → m i < 256 ^ multiplicity_width
    → stored_multiplicity (formed multiplicity_width f m n h) i ≡ m i
unfolding stored_multiplicity
holds_multiplicity f m n h i p q r =
    let s = formed multiplicity_width f m n h in
    let k = holds_n multiplicity_width f m n h p in
    let v : width_of s ≡ multiplicity_width = width_new s (length_formed multiplicity_width f m n h ∙ ap stored_length (sym k)) (omega arith) in
    ap (λ (w : ℕ). le_at s (keys_end (stored_n s) + w * i) w) v
    ∙ ap (λ (c : ℕ). le_at s (keys_end c + multiplicity_width * i) multiplicity_width) k
    ∙ in_counts multiplicity_width f m n h i q r

-- ---- bytes are the form of what they hold

module _ (s : List ℕ) (b : (j : ℕ) → get_or s j 0 < 256) where
  key_part : (j : ℕ) → keys_end j + key_width ≤ length s → key_bytes (stored_entry s j) ≡ take key_width (drop (keys_end j) s)
  unfolding key_bytes stored_entry
  key_part j h =
      let a = keys_end j in
      let b₁ = a + opcode_width in
      let b₂ = b₁ + operand_width in
      rw (le_le_at s b opcode_width a (omega arith), le_le_at s b operand_width b₁ (omega arith), le_le_at s b operand_width b₂ (omega arith))
      (rw (← drop-drop operand_width b₁ s, ← drop-drop opcode_width a s, ← take-add operand_width operand_width (drop opcode_width (drop a s)))
      (sym (take-add opcode_width (operand_width + operand_width) (drop a s))))

  parts : (w n : ℕ) → length s ≡ length_with w n → (a h k c : List ℕ)
      → a ≡ take n_width s → h ≡ take height_width (drop n_width s)
      → k ≡ take (key_width * n) (drop head_width s) → c ≡ take (w * n) (drop (keys_end n) s)
      → a ++ (h ++ (k ++ c)) ≡ s
  parts w n l a h k c ea eh ek ec =
      rw (
        ea,
        eh,
        ek,
        ec,
        ← drop-drop (key_width * n) head_width s,
        ← take-add (key_width * n) (w * n) (drop head_width s),
        ← drop-drop height_width n_width s,
        ← take-add height_width (key_width * n + w * n) (drop n_width s),
        ← take-add n_width (height_width + (key_width * n + w * n)) s,
      )
      (take_all (n_width + (height_width + (key_width * n + w * n))) s (omega arith))

  pub formed_again : (n h : ℕ) → length s ≡ length_with (width_of s) n → n ≡ stored_n s → h ≡ stored_height s
      → formed (width_of s) (stored_entry s) (stored_multiplicity s) n h ≡ s
  unfolding stored_n stored_height stored_multiplicity
  formed_again n h l en eh =
      let w = width_of s in
      let K : keys_form (stored_entry s) n ≡ take (key_width * n) (drop head_width s)
      = flat_parts s head_width key_width (λ i. key_bytes (stored_entry s i)) 0 n (λ j p q. key_part j (omega arith)) in
      let C : counts_form w (stored_multiplicity s) n ≡ take (w * n) (drop (keys_end n) s)
      = flat_parts s (keys_end n) w (λ i. le w (stored_multiplicity s i)) 0 n
      (λ j p q. rw (← en) (le_le_at s b w (keys_end n + w * j) (omega (arith, block_end w j n (omega arith)))))
      ∙ rw (mul-zero, add-zero) in
      let A : le n_width n ≡ take n_width s = ap (le n_width) en ∙ le_le_at s b n_width 0 (omega arith) in
      let H : le height_width h ≡ take height_width (drop n_width s) = ap (le height_width) eh ∙ le_le_at s b height_width n_width (omega arith) in
      parts w n l (le n_width n) (le height_width h) (keys_form (stored_entry s) n) (counts_form w (stored_multiplicity s) n) A H K C
