-- A place's count is the number of times that its key was counted, and a key at no used place was not counted (Tallied). Each kind of change keeps this:
-- a count more and the key counted once more (tally_counted, tally_new), or neither (tally_kept, tally_none). Assumes nothing.
use Prim.Native.Nat.{ℕ, ◌+◌, ◌<◌}
use mathlib.Core.Path.{◌≡◌, refl, sym, ◌∙◌}
use mathlib.Core.Bool.{Bool, true, false, cond}
use mathlib.Core.Logic.{◌⊎◌, inl, inr}
use mathlib.Core.List.{List, [], ◌∷◌, ◌++◌}
use native.Mathlib.Decide.{ℕ_discrete}
use native.Mathlib.Omega.{arith}
use Rattle.isa.specs.declared.U32TableEntry.{U32TableEntry}
use Rattle.list.specs.Keys.{same_key}
use Rattle.list.proofs.Finding.{same_key_equal, same_key_self}
use Rattle.list_record.proofs.Views.{View, Unknown, Changed, Appended, old_or_new}
use Rattle.list_laws.specs.Calls.{occurrences}
use Rattle.list_laws.proofs.Distinct.{Distinct}

-- ---- occurrences

abbrev bit : Bool → ℕ
bit t = cond t 1 0

pub one_more : (k e : U32TableEntry) (es : List U32TableEntry) → occurrences k (es ++ (e ∷ [])) ≡ occurrences k es + bit (same_key e k)
unfolding occurrences
one_more k e [] = omega arith
one_more k e (f ∷ es) = omega (arith, one_more k e es)

pub same_bit : (k : U32TableEntry) → bit (same_key k k) ≡ 1
same_bit k = rw same_key_self

other_bit : (e k : U32TableEntry) → (e ≡ k → ⊥) → bit (same_key e k) ≡ 0
other_bit e k n = go (same_key e k) refl where
  go : (t : Bool) → same_key e k ≡ t → bit t ≡ 0
  go true s = absurd (n (same_key_equal e k s))
  go false s = refl

-- ---- the invariant

pub record Tallied (v : View) (es : List U32TableEntry) : Type 0 where
  pub placed : (i : ℕ) → i < v.used → v.count i ≡ occurrences (v.key i) es
  pub absent : (k : U32TableEntry) → Unknown v k → occurrences k es ≡ 0

-- a recording or a confirm of a known key
pub tally_counted : {a b : View} {i g : ℕ} {es : List U32TableEntry} → Distinct a → Tallied a es → Changed a b i (a.count i + 1) g
    → Tallied b (es ++ (a.key i ∷ []))
tally_counted {a} {b} {i} {g} {es} d t r =
    let u = r.same_used in
    record {
      placed = λ j h. at j (omega arith) (ℕ_discrete j i);
      absent = λ k n.
          let m : Unknown a k = λ j h q. n j (omega arith) (r.keys j h ∙ q) in
          omega (arith, one_more k (a.key i) es, t.absent k m, other_bit (a.key i) k (m i r.inside));
    }
  where
    at : (j : ℕ) → j < a.used → Dec (j ≡ i) → b.count j ≡ occurrences (b.key j) (es ++ (a.key i ∷ []))
    at j h (yes q) =
        rw (q, r.keys i r.inside)
        (omega (arith, r.count_here, t.placed i r.inside, one_more (a.key i) (a.key i) es, same_bit (a.key i)))
    at j h (no q) =
        rw (r.keys j h)
        (omega (
          arith,
          r.count_there j h q,
          t.placed j h,
          one_more (a.key j) (a.key i) es,
          other_bit (a.key i) (a.key j) (λ e. q (d j i h r.inside (sym e))),
        ))

-- a hold or a drop of a known key
pub tally_kept : {a b : View} {i g : ℕ} {es : List U32TableEntry} → Tallied a es → Changed a b i (a.count i) g → Tallied b es
tally_kept {a} {b} {i} {g} {es} t r =
    let u = r.same_used in
    record {
      placed = λ j h. at j (omega arith) (ℕ_discrete j i);
      absent = λ k n. t.absent k (λ j h q. n j (omega arith) (r.keys j h ∙ q));
    }
  where
    at : (j : ℕ) → j < a.used → Dec (j ≡ i) → b.count j ≡ occurrences (b.key j) es
    at j h (yes q) = rw (q, r.keys i r.inside) (r.count_here ∙ t.placed i r.inside)
    at j h (no q) = rw (r.keys j h) (r.count_there j h q ∙ t.placed j h)

-- a recording of a new key
pub tally_new : {a b : View} {g : ℕ} {k : U32TableEntry} {es : List U32TableEntry} → Tallied a es → Appended a b k 1 g → Unknown a k
    → Tallied b (es ++ (k ∷ []))
tally_new {a} {b} {g} {k} {es} t r n =
    let u = r.more_used in
    record {
      placed = λ j h. at j (old_or_new a.used j (omega arith));
      absent = λ e m.
          let old : Unknown a e = λ j h q. m j (omega arith) (r.keys j h ∙ q) in
          omega (arith, one_more e k es, t.absent e old, other_bit k e (λ q. m a.used (omega arith) (r.key_new ∙ q)));
    }
  where
    at : (j : ℕ) → (j < a.used) ⊎ (j ≡ a.used) → b.count j ≡ occurrences (b.key j) (es ++ (k ∷ []))
    at j (inl h) =
        rw (r.keys j h)
        (omega (arith, r.count_old j h, t.placed j h, one_more (a.key j) k es, other_bit k (a.key j) (λ e. n j h (sym e))))
    at j (inr q) = rw (q, r.key_new) (omega (arith, r.count_new, t.absent k n, one_more k k es, same_bit k))

-- a hold of a new key
pub tally_none : {a b : View} {g : ℕ} {k : U32TableEntry} {es : List U32TableEntry} → Tallied a es → Appended a b k 0 g → Unknown a k
    → Tallied b es
tally_none {a} {b} {g} {k} {es} t r n =
    let u = r.more_used in
    record {
      placed = λ j h. at j (old_or_new a.used j (omega arith));
      absent = λ e m. t.absent e (λ j h q. m j (omega arith) (r.keys j h ∙ q));
    }
  where
    at : (j : ℕ) → (j < a.used) ⊎ (j ≡ a.used) → b.count j ≡ occurrences (b.key j) es
    at j (inl h) = rw (r.keys j h) (r.count_old j h ∙ t.placed j h)
    at j (inr q) = rw (q, r.key_new) (r.count_new ∙ sym (t.absent k n))
