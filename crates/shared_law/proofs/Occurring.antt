-- Whether a key stands at a used place of a list (occurs), and when it does after a change or an append. Assumes nothing.
use Prim.Native.Nat.{ℕ, zero, suc, ◌≤◌, ◌<◌}
use mathlib.Core.Path.{◌≡◌, refl, sym, ap, ◌∙◌}
use mathlib.Core.Bool.{Bool, true, false, ◌||◌}
use mathlib.Core.Logic.{⊎_elim}
use native.Mathlib.Decide.{ℕ_discrete}
use native.Mathlib.Omega.{arith}
use Rattle.isa.specs.declared.U32TableEntry.{U32TableEntry}
use Rattle.list.specs.Keys.{same_key}
use Rattle.list.proofs.Finding.{same_key_equal, same_key_self}
use Rattle.list_record.proofs.Views.{View, Changed, Appended, old_or_new}

-- some used place has the key
abbrev pub Known : View → U32TableEntry → Type 0
Known v k = (i : ℕ) × ((i < v.used) × (v.key i ≡ k))

unfoldable pub occurs_to : (ℕ → U32TableEntry) → U32TableEntry → ℕ → Bool
occurs_to key k zero = false
occurs_to key k (suc n) = same_key (key n) k || occurs_to key k n

module _ (key : ℕ → U32TableEntry) (k : U32TableEntry) where
  pub occurs_known : (n : ℕ) → occurs_to key k n ≡ true → (i : ℕ) × ((i < n) × (key i ≡ k))
  unfolding occurs_to
  occurs_known zero e = absurd (let z : ◌≡◌ {A = ℕ} 0 1 = cc in omega arith)
  occurs_known (suc n) e = go (occurs_known n) (same_key (key n) k) refl e where
    go : (occurs_to key k n ≡ true → (i : ℕ) × ((i < n) × (key i ≡ k))) → (t : Bool) → same_key (key n) k ≡ t → (t || occurs_to key k n) ≡ true
        → (i : ℕ) × ((i < suc n) × (key i ≡ k))
    go before true s f = (n, (omega arith, same_key_equal (key n) k s))
    go before false s f = let b = before f in (b.0, (omega (arith, b.1.0), b.1.1))

  pub known_occurs : (n i : ℕ) → i < n → key i ≡ k → occurs_to key k n ≡ true
  unfolding occurs_to
  known_occurs zero i h e = absurd (omega arith)
  known_occurs (suc n) i h e = go (λ m. known_occurs n i m e) (same_key (key n) k) refl (ℕ_discrete i n) where
    go : (i < n → occurs_to key k n ≡ true) → (t : Bool) → same_key (key n) k ≡ t → Dec (i ≡ n) → (t || occurs_to key k n) ≡ true
    go before true s d = refl
    go before false s (yes q) =
        absurd (let a : same_key (key n) k ≡ true = rw (← q, e) (same_key_self k) in let z : ◌≡◌ {A = ℕ} 0 1 = cc in omega arith)
    go before false s (no q) = before (omega arith)

  pub occurs_unknown : (n : ℕ) → occurs_to key k n ≡ false → (i : ℕ) → i < n → key i ≡ k → ⊥
  occurs_unknown n e i h q = let a = known_occurs n i h q in let z : ◌≡◌ {A = ℕ} 0 1 = cc in omega arith

  pub unknown_occurs : (n : ℕ) → ((i : ℕ) → i < n → key i ≡ k → ⊥) → occurs_to key k n ≡ false
  unknown_occurs n u = go (occurs_to key k n) refl where
    go : (t : Bool) → occurs_to key k n ≡ t → t ≡ false
    go true e = absurd (let w = occurs_known n e in u w.0 w.1.0 w.1.1)
    go false e = refl

abbrev pub occurs : View → U32TableEntry → Bool
occurs v k = occurs_to v.key k v.used

abbrev pub bit : Bool → ℕ
bit true = 1
bit false = 0

pub bit_below : (t : Bool) → bit t ≤ 1
bit_below true = omega arith
bit_below false = omega arith

-- ---- afterwards

pub appended_occurs : {a b : View} {k : U32TableEntry} {c g : ℕ} → Appended a b k c g → (e : U32TableEntry) → (e ≡ k → ⊥) → occurs b e ≡ occurs a e
appended_occurs {a} {b} {k} r e n = go (occurs a e) refl where
  m : b.used ≡ suc a.used
  m = r.more_used

  go : (t : Bool) → occurs a e ≡ t → occurs b e ≡ t
  go true s =
      let w = occurs_known a.key e a.used s in
      known_occurs b.key e b.used w.0 (omega (arith, w.1.0)) (r.keys w.0 w.1.0 ∙ w.1.1)
  go false s =
      unknown_occurs b.key e b.used
      (λ i h q.
      ⊎_elim (λ (o : i < a.used). occurs_unknown a.key e a.used s i o (sym (r.keys i o) ∙ q))
      (λ (o : i ≡ a.used). n (sym q ∙ ap b.key o ∙ r.key_new)) (old_or_new a.used i (omega arith)))

pub changed_occurs : {a b : View} {i c g : ℕ} → Changed a b i c g → (e : U32TableEntry) → occurs b e ≡ occurs a e
changed_occurs {a} {b} r e = go (occurs a e) refl where
  m : b.used ≡ a.used
  m = r.same_used

  go : (t : Bool) → occurs a e ≡ t → occurs b e ≡ t
  go true s =
      let w = occurs_known a.key e a.used s in
      known_occurs b.key e b.used w.0 (omega (arith, w.1.0)) (r.keys w.0 w.1.0 ∙ w.1.1)
  go false s =
      unknown_occurs b.key e b.used
      (λ i h q. occurs_unknown a.key e a.used s i (omega arith) (sym (r.keys i (omega arith)) ∙ q))
