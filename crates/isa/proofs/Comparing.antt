-- `compare` is a total order: an entry compares equal with itself (compare_same) and with no other (compare_equal), exchanging the two
-- exchanges less and greater (compare_reversed), and less than less is less (compare_transitive). Shown for one word and carried through the
-- three.
use mathlib.Core.Path.{◌≡◌, refl, sym, ap, ◌∙◌}
use mathlib.Core.Bool.{Bool, true, false, cond}
use mathlib.Core.Logic.{◌⊎◌, inl, inr}
use Prim.Native.Nat.{ℕ, ◌<◌}
use native.Mathlib.Omega.{arith}
use borrow.Author.Tests.{lt-ltb, le-ltb, ltb-true, ltb-false}
use lib.Dec.{ltb}
use Rattle.isa.specs.declared.U32TableEntry.{U32TableEntry}
use Rattle.std.specs.declared.cmp.Ordering.{Ordering}
use Rattle.std.specs.Ordering.{nat_cmp, ordering_then}
use Rattle.std.specs.Cmp.{nat_cmp_is}
use Rattle.std.specs.declared.cmp.Ordering.TheVariants.{Less, Equal, Greater}
use Rattle.isa.specs.Entries.{lhs, rhs, entry, compare_words, compare_entries}

abbrev pub reversed : Ordering → Ordering
reversed Less = Greater
reversed Equal = Equal
reversed Greater = Less

-- ---- one word

words_same : (a : ℕ) (next : Ordering) → compare_words a a next ≡ next
words_same a next = rw (le-ltb a a (omega arith))

words_equal : (a b : ℕ) (next : Ordering) → compare_words a b next ≡ Equal → (a ≡ b) × (next ≡ Equal)
words_equal a b next e = go (ltb a b) (ltb b a) refl refl e where
  go : (s t : Bool) → ltb a b ≡ s → ltb b a ≡ t → cond s Less (cond t Greater next) ≡ Equal → (a ≡ b) × (next ≡ Equal)
  go true t p q z = absurd (let w : ◌≡◌ {A = ℕ} 0 1 = cc in omega arith)
  go false true p q z = absurd (let w : ◌≡◌ {A = ℕ} 0 1 = cc in omega arith)
  go false false p q z = (omega (arith, ltb-false a b p, ltb-false b a q), z)

words_reversed : (a b : ℕ) (next : Ordering) → compare_words b a (reversed next) ≡ reversed (compare_words a b next)
words_reversed a b next = go (ltb a b) (ltb b a) refl refl where
  go : (s t : Bool) → ltb a b ≡ s → ltb b a ≡ t → compare_words b a (reversed next) ≡ reversed (compare_words a b next)
  go true true p q = absurd (omega (arith, ltb-true a b p, ltb-true b a q))
  go true false p q = rw (p, q)
  go false true p q = rw (p, q)
  go false false p q = rw (p, q)

words_less : (a b : ℕ) (next : Ordering) → compare_words a b next ≡ Less → (a < b) ⊎ ((a ≡ b) × (next ≡ Less))
words_less a b next e = go (ltb a b) (ltb b a) refl refl e where
  go : (s t : Bool) → ltb a b ≡ s → ltb b a ≡ t → cond s Less (cond t Greater next) ≡ Less → (a < b) ⊎ ((a ≡ b) × (next ≡ Less))
  go true t p q z = inl (ltb-true a b p)
  go false true p q z = absurd (let w : ◌≡◌ {A = ℕ} 0 1 = cc in omega arith)
  go false false p q z = inr (omega (arith, ltb-false a b p, ltb-false b a q), z)

below_less : (a b : ℕ) (next : Ordering) → a < b → compare_words a b next ≡ Less
below_less a b next l = rw (lt-ltb a b l)

-- words_less of a and b, of b and c; where all three are equal, the words after them decide
words_transitive : (a b c : ℕ) (m n o : Ordering) → (m ≡ Less → n ≡ Less → o ≡ Less)
    → compare_words a b m ≡ Less → compare_words b c n ≡ Less → compare_words a c o ≡ Less
words_transitive a b c m n o next e f = go (words_less a b m e) (words_less b c n f) where
  go : (a < b) ⊎ ((a ≡ b) × (m ≡ Less)) → (b < c) ⊎ ((b ≡ c) × (n ≡ Less)) → compare_words a c o ≡ Less
  go (inl p) (inl q) = below_less a c o (omega arith)
  go (inl p) (inr q) = below_less a c o (omega (arith, q.0))
  go (inr p) (inl q) = below_less a c o (omega (arith, p.0))
  go (inr p) (inr q) = rw (p.0, q.0) (words_same c o ∙ next p.1 q.1)

-- ---- entries

pub entries_same : {x y : U32TableEntry} → x.opcode ≡ y.opcode → lhs x ≡ lhs y → rhs x ≡ rhs y → x ≡ y
entries_same {x} {y} a b c = words_entry a b c where
  words_entry : {o l r o' l' r' : ℕ} → o ≡ o' → l ≡ l' → r ≡ r' → entry o l r ≡ entry o' l' r'
  words_entry a b c = rw (a, b, c)

pub compare_same : (x : U32TableEntry) → compare_entries x x ≡ Equal
unfolding compare_entries
compare_same x = words_same x.opcode _ ∙ words_same (lhs x) _ ∙ words_same (rhs x) Equal

pub compare_equal : (x y : U32TableEntry) → compare_entries x y ≡ Equal → x ≡ y
unfolding compare_entries
compare_equal x y e =
    let a = words_equal x.opcode y.opcode _ e in
    let b = words_equal (lhs x) (lhs y) _ a.1 in
    let c = words_equal (rhs x) (rhs y) Equal b.1 in
    entries_same a.0 b.0 c.0

pub compare_reversed : (x y : U32TableEntry) → compare_entries y x ≡ reversed (compare_entries x y)
unfolding compare_entries
compare_reversed x y =
    ap (λ (o : Ordering). compare_words y.opcode x.opcode (compare_words (lhs y) (lhs x) o)) (words_reversed (rhs x) (rhs y) Equal)
    ∙ ap (λ (o : Ordering). compare_words y.opcode x.opcode o) (words_reversed (lhs x) (lhs y) _)
    ∙ words_reversed x.opcode y.opcode _

pub compare_transitive : (x y z : U32TableEntry) → compare_entries x y ≡ Less → compare_entries y z ≡ Less → compare_entries x z ≡ Less
unfolding compare_entries
compare_transitive x y z =
    words_transitive x.opcode y.opcode z.opcode _ _ _
    (words_transitive (lhs x) (lhs y) (lhs z) _ _ _
    (words_transitive (rhs x) (rhs y) (rhs z) Equal Equal Equal (λ e f. e)))

-- ---- the order that is derived from the words
word_in_turn : (a b : ℕ) (next : Ordering) → ordering_then (nat_cmp a b) next ≡ compare_words a b next
word_in_turn a b next = go (ltb a b) (ltb b a) refl refl where
  go : (s t : Bool) → ltb a b ≡ s → ltb b a ≡ t → ordering_then (nat_cmp a b) next ≡ compare_words a b next
  go true t p q = rw (sym (nat_cmp_is a b Less (ltb-true a b p)), p)
  go false true p q = rw (sym (nat_cmp_is a b Greater (ltb-true b a q)), p, q)
  go false false p q = rw (sym (nat_cmp_is a b Equal (omega (arith, ltb-false a b p, ltb-false b a q))), p, q)

pub in_turn : (x y : U32TableEntry) → ordering_then (nat_cmp x.opcode y.opcode) (ordering_then (nat_cmp (lhs x) (lhs y)) (nat_cmp (rhs x) (rhs y))) ≡ compare_entries x y
unfolding compare_entries
in_turn x y = rw (word_in_turn x.opcode y.opcode, word_in_turn (lhs x) (lhs y), sym (last (rhs x) (rhs y))) refl where
  last : (a b : ℕ) → compare_words a b Equal ≡ nat_cmp a b
  last a b = sym (word_in_turn a b Equal) ∙ then_equal (nat_cmp a b) where
    then_equal : (o : Ordering) → ordering_then o Equal ≡ o
    then_equal Less = refl
    then_equal Equal = refl
    then_equal Greater = refl
