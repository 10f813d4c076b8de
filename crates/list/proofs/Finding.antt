-- What a search finds. find_eights passes the first eights that are told apart from the key, and find_at ends at the first place that holds it. find_within,
-- find_holds and find_first say what the place is: the first used one whose entry is the key's, or `used` where none is. find_cong: a search asks the entries at
-- its places alone. find_more: one place more is found before, or tested last. Assumes nothing.
use Prim.Native.Nat.{ℕ, zero, suc, ◌+◌, ◌*◌, ◌-◌, ◌≤◌, ◌<◌}
use mathlib.Core.Path.{◌≡◌, refl, sym, ap, ◌∙◌, subst}
use mathlib.Core.Bool.{Bool, true, false, cond, ◌&&◌}
use mathlib.Core.Logic.{◌≢◌, ◌⊎◌, inl, inr, ⊎_elim}
use mathlib.Core.List.{List}
use native.Mathlib.Nat.{eq-or-lt_of_le, add-zero, sub-zero}
use native.Mathlib.Omega.{arith}
use native.Mathlib.Numerals.{add-one}
use lib.Dec.{eqb, ltb}
use lib.ListN.{get_or}
use borrow.Author.Tests.{eqb-true, eq-eqb, lt-ltb, le-ltb}
use Rattle.std.specs.Prelude.{Option, Some, None, IfSome, IsSomeAnd}
use Rattle.std.specs.Option.{option_map}
use Rattle.std.specs.List.{IsSubsliceAt}
use Rattle.std.proofs.lemmas.Bool.{and_parts}
use Rattle.std.proofs.lemmas.Option.{none-some}
use Rattle.isa.specs.declared.U32TableEntry.{U32TableEntry}
use Rattle.field.specs.Elements.{p}
use Rattle.isa.specs.Opcodes.{op_pow}
use Rattle.isa.specs.Entries.{lhs, rhs, entry, entry_width, admitted}
use Rattle.isa.proofs.Entries.{opcode_admitted, rhs_admitted, lhs_words}
use Rattle.list.specs.Lists.{U32List, used, key_at, entry_at}
use Rattle.list.specs.Keys.{same_key, find_from, find_key}
use Rattle.list.specs.Eights.{EightDiffer, other_word}

-- ---- equal keys

-- `==` of entries is `same_key`: it compares their words
pub equal_is_same : (a b : U32TableEntry) {equal : Bool}
    → equal ≡ (eqb a.opcode b.opcode && (eqb (lhs a) (lhs b) && eqb (rhs a) (rhs b))) → equal ≡ same_key a b
unfolding same_key
equal_is_same a b e = e

pub same_key_equal : (a b : U32TableEntry) → same_key a b ≡ true → a ≡ b
unfolding same_key
same_key_equal a b h =
    let o = and_parts (eqb a.opcode b.opcode) _ h in
    let q = and_parts (eqb (lhs a) (lhs b)) _ o.1 in
    let e = eqb-true a.opcode b.opcode o.0 in
    let f = eqb-true (lhs a) (lhs b) q.0 in
    let g = eqb-true (rhs a) (rhs b) q.1 in
    let r : entry a.opcode (lhs a) (rhs a) ≡ entry b.opcode (lhs b) (rhs b) = cc in
    r

pub same_key_self : (a : U32TableEntry) → same_key a a ≡ true
unfolding same_key
same_key_self a = simp (eq-eqb a.opcode a.opcode refl, eq-eqb (lhs a) (lhs a) refl, eq-eqb (rhs a) (rhs a) refl)

-- ---- a search

module _ (l : U32List) (e : U32TableEntry) where
  find_hit : (i n : ℕ) → i < n → same_key (entry_at l i) e ≡ true → find_from l e i (n - i) ≡ i
  unfolding find_from
  find_hit i n h s = let d : n - i ≡ suc (n - (i + 1)) = omega arith in rw d (simp s)

  find_miss : (i n : ℕ) → i < n → same_key (entry_at l i) e ≡ false → find_from l e i (n - i) ≡ find_from l e (i + 1) (n - (i + 1))
  unfolding find_from
  find_miss i n h s = let d : n - i ≡ suc (n - (i + 1)) = omega arith in rw d (simp (s, add-one i))

  find_none : (i n : ℕ) → n ≤ i → find_from l e i (n - i) ≡ i
  unfolding find_from
  find_none i n h = let d : n - i ≡ 0 = omega arith in rw d

  find_from_within : (i n : ℕ) → find_from l e i n ≤ i + n
  unfolding find_from
  find_from_within i zero = omega arith
  find_from_within i (suc n) = go (find_from_within (suc i) n) (same_key (entry_at l i) e) refl where
    go : find_from l e (suc i) n ≤ suc i + n → (t : Bool) → same_key (entry_at l i) e ≡ t → find_from l e i (suc n) ≤ i + suc n
    go rest true s = rw s (omega arith)
    go rest false s = rw s (omega arith)

  find_from_holds : (i n : ℕ) → find_from l e i n < i + n → same_key (entry_at l (find_from l e i n)) e ≡ true
  unfolding find_from
  find_from_holds i zero h = absurd (omega arith)
  find_from_holds i (suc n) h = go (find_from_holds (suc i) n) (same_key (entry_at l i) e) refl h where
    go : (find_from l e (suc i) n < suc i + n → same_key (entry_at l (find_from l e (suc i) n)) e ≡ true)
        → (t : Bool) → same_key (entry_at l i) e ≡ t → find_from l e i (suc n) < i + suc n → same_key (entry_at l (find_from l e i (suc n))) e ≡ true
    go rest true s h = rw s s
    go rest false s h = rw s (rest (let g = rw s at h in omega arith))

  find_from_first : (i n j : ℕ) → i ≤ j → j < find_from l e i n → same_key (entry_at l j) e ≡ false
  unfolding find_from
  find_from_first i zero j a b = absurd (omega arith)
  find_from_first i (suc n) j a b = go (find_from_first (suc i) n j) (same_key (entry_at l i) e) refl where
    go : (suc i ≤ j → j < find_from l e (suc i) n → same_key (entry_at l j) e ≡ false)
        → (t : Bool) → same_key (entry_at l i) e ≡ t → same_key (entry_at l j) e ≡ false
    go rest true s = absurd (let g = rw s at b in omega arith)
    go rest false s =
        ⊎_elim
        (λ (q : i ≡ j). subst (λ (x : ℕ). same_key (entry_at l x) e ≡ false) q s)
        (λ (q : i < j). rest q (rw s at b))
        (eq-or-lt_of_le a)

-- ---- two lists with the same entries at the places of a search

pub find_cong : (l m : U32List) (e : U32TableEntry) (i n : ℕ)
    → ((j : ℕ) → i ≤ j → j < i + n → entry_at l j ≡ entry_at m j) → find_from l e i n ≡ find_from m e i n
unfolding find_from
find_cong l m e i zero f = refl
find_cong l m e i (suc n) f =
    rw (f i (omega arith) (omega arith), find_cong l m e (suc i) n (λ j a b. f j (omega arith) (omega arith)))

-- ---- one place more: what was found before, or the last place, or past it

pub find_more : (l : U32List) (e : U32TableEntry) (i n : ℕ)
    → find_from l e i (suc n) ≡ cond (ltb (find_from l e i n) (i + n)) (find_from l e i n) (cond (same_key (entry_at l (i + n)) e) (i + n) (suc (i + n)))
unfolding find_from
find_more l e i zero = rw (add-zero i, le-ltb i i (omega arith))
find_more l e i (suc n) = go (find_more l e (suc i) n) (same_key (entry_at l i) e) where
  go : find_from l e (suc i) (suc n)
      ≡ cond (ltb (find_from l e (suc i) n) (suc i + n)) (find_from l e (suc i) n) (cond (same_key (entry_at l (suc i + n)) e) (suc i + n) (suc (suc i + n)))
      → (t : Bool)
      → cond t i (find_from l e (suc i) (suc n))
      ≡ cond (ltb (cond t i (find_from l e (suc i) n)) (i + suc n)) (cond t i (find_from l e (suc i) n))
      (cond (same_key (entry_at l (i + suc n)) e) (i + suc n) (suc (i + suc n)))
  go rest true = rw (lt-ltb i (i + suc n) (omega arith))
  go rest false = let next : i + suc n ≡ suc i + n = omega arith in rw next rest

-- ---- eight places with another LHS are passed at once

-- the other word, where there is one
pub other_word_fits : (e : U32TableEntry) → e.opcode ≡ op_pow → lhs e < 4294967295 → other_word e ≡ lhs e + p
unfolding other_word
other_word_fits e k h = rw (eq-eqb e.opcode op_pow k, lt-ltb (lhs e) 4294967295 h)

-- where there is none
pub other_word_past : (e : U32TableEntry) → e.opcode ≡ op_pow → 4294967295 ≤ lhs e → other_word e ≡ lhs e
unfolding other_word
other_word_past e k h = rw (eq-eqb e.opcode op_pow k, le-ltb (lhs e) 4294967295 h)

-- which words stand for LHS of the key e, at a place whose entry it is
word_of : (x e : U32TableEntry) → lhs x < 18446744073709551616 → admitted x ≡ e → (lhs x ≡ lhs e) ⊎ (lhs x ≡ other_word e)
word_of x e h q =
    ⊎_elim
    (λ (k : lhs x ≡ lhs (admitted x)). inl (k ∙ ap (λ (y : U32TableEntry). lhs y) q))
    (λ (k : (x.opcode ≡ op_pow) × (lhs x ≡ lhs (admitted x) + p)).
    let l : lhs x ≡ lhs e + p = k.1 ∙ ap (λ (y : U32TableEntry). lhs y + p) q in
    let o : e.opcode ≡ op_pow = ap (λ (y : U32TableEntry). y.opcode) (sym q) ∙ opcode_admitted x ∙ k.0 in
    inr (l ∙ sym (other_word_fits e o (omega arith))))
    (lhs_words x h)

-- an item of a run is what holds of it
pub present : {X : Type 0} (o : Option X) (P : X → Type 0) {y : X} → option_map (λ x. x) o ≡ Some y → IfSome o P → IsSomeAnd o P
present None P e h = absurd (none-some _ e)
present (Some x) P e h = h

-- the eight places with this number are told apart from the key
abbrev pub Apart : List ℕ → U32TableEntry → ℕ → Type 0
Apart keys e eight = (EightDiffer keys (8 * eight) (lhs e)) × (EightDiffer keys (8 * eight) (other_word e))

abbrev Words : List ℕ → Type 0
Words keys = (j : ℕ) → get_or keys j 0 < 18446744073709551616

-- eight keys of a list differ where the eight places do
pub eight_at : (keys : List ℕ) (k lhs : ℕ) {eight : List ℕ} → IsSubsliceAt 24 keys (k * 24) eight → EightDiffer eight 0 lhs → EightDiffer keys (8 * k) lhs
unfolding EightDiffer
eight_at keys k lhs c d = λ j b.
    let place : k * 24 + (entry_width * (0 + j) + 1) ≡ entry_width * (8 * k + j) + 1 = omega arith in
    subst (λ (w : ℕ). w ≢ lhs) (c.2 (entry_width * (0 + j) + 1) 0 (omega arith) ∙ ap (λ (i : ℕ). get_or keys i 0) place) (d j b)

module _ (l : U32List) (e : U32TableEntry) where
  find_misses : (k i n : ℕ) → i + k ≤ n → ((j : ℕ) → j < k → same_key (entry_at l (i + j)) e ≡ false)
      → find_from l e i (n - i) ≡ find_from l e (i + k) (n - (i + k))
  find_misses zero i n h f = ap (λ (j : ℕ). find_from l e j (n - j)) (omega arith)
  find_misses (suc k) i n h f =
      find_misses k i n (omega arith) (λ j b. f j (omega arith))
      ∙ find_miss l e (i + k) n (omega arith) (f k (omega arith))
      ∙ ap (λ (j : ℕ). find_from l e j (n - j)) (omega arith)

  -- neither word stands where LHS does: another entry
  differ_by_lhs : Words l.keys → (i : ℕ)
      → get_or l.keys (entry_width * i + 1) 0 ≢ lhs e → get_or l.keys (entry_width * i + 1) 0 ≢ other_word e → same_key (entry_at l i) e ≡ false
  unfolding entry_at key_at
  differ_by_lhs w i f g = go (same_key (entry_at l i) e) refl where
    go : (t : Bool) → same_key (entry_at l i) e ≡ t → same_key (entry_at l i) e ≡ false
    go true s = absurd (⊎_elim f g (word_of (key_at l i) e (w (entry_width * i + 1)) (same_key_equal (entry_at l i) e s)))
    go false s = s

  -- nor with another RHS, which admission leaves as it is
  pub differ_by_rhs : (i : ℕ) → get_or l.keys (entry_width * i + 2) 0 ≢ rhs e → same_key (entry_at l i) e ≡ false
  unfolding entry_at key_at
  differ_by_rhs i f = go (same_key (entry_at l i) e) refl where
    go : (t : Bool) → same_key (entry_at l i) e ≡ t → same_key (entry_at l i) e ≡ false
    go true s = absurd (f (sym (rhs_admitted (key_at l i)) ∙ ap (λ (x : U32TableEntry). rhs x) (same_key_equal (entry_at l i) e s)))
    go false s = s

  pub find_eight : Words l.keys → (i next n : ℕ) → i + 8 ≡ next → next ≤ n
      → (EightDiffer l.keys i (lhs e)) × (EightDiffer l.keys i (other_word e))
      → find_from l e i (n - i) ≡ find_from l e next (n - next)
  unfolding EightDiffer
  find_eight w i next n q h d =
      find_misses 8 i n (omega arith) (λ j b. differ_by_lhs w (i + j) (d.0 j b) (d.1 j b)) ∙ ap (λ (j : ℕ). find_from l e j (n - j)) q

  -- the first eights, told apart one by one
  pub find_eights : Words l.keys → (m n : ℕ) → 8 * m ≤ n
      → ((k : ℕ) → k < m → Apart l.keys e k)
      → find_from l e 0 n ≡ find_from l e (8 * m) (n - 8 * m)
  find_eights w zero n h d = ap (find_from l e 0) (sym (sub-zero n))
  find_eights w (suc m) n h d =
      find_eights w m n (omega arith) (λ k b. d k (omega arith)) ∙ find_eight w (8 * m) (8 * suc m) n (omega arith) h (d m (omega arith))

  -- the first of the places from i on that holds the key, or n
  pub find_at : (i m n : ℕ) → i ≤ m → m ≤ n → ((k : ℕ) → i ≤ k → k < m → same_key (entry_at l k) e ≡ false)
      → (m < n → same_key (entry_at l m) e ≡ true) → find_from l e i (n - i) ≡ m
  find_at i m n a b none hit =
      find_misses (m - i) i n (omega arith) (λ j c. none (i + j) (omega arith) (omega arith))
      ∙ ap (λ (j : ℕ). find_from l e j (n - j)) (omega arith)
      ∙ ⊎_elim (λ (q : m ≡ n). find_none l e m n (omega arith)) (λ (q : m < n). find_hit l e m n q (hit q)) (eq-or-lt_of_le b)

-- ---- the first used place

pub find_within : (l : U32List) (e : U32TableEntry) → find_key l e ≤ used l
unfolding find_key
find_within l e = omega (arith, find_from_within l e 0 (used l))

pub find_holds : (l : U32List) (e : U32TableEntry) → find_key l e < used l → same_key (entry_at l (find_key l e)) e ≡ true
unfolding find_key
find_holds l e h = find_from_holds l e 0 (used l) (omega arith)

pub find_first : (l : U32List) (e : U32TableEntry) (j : ℕ) → j < find_key l e → same_key (entry_at l j) e ≡ false
unfolding find_key
find_first l e j h = find_from_first l e 0 (used l) j (omega arith) h
