-- A list by its places, for laws over many calls: how many places are used, and the key, the multiplicity and the holds at each. A key is the entry as
-- admission hands it back. What a call does to the places is one of two things: the count and the holds of one place are changed (Changed), or a key is
-- appended (Appended). What holds of the key, the count and the holds at every place goes on to hold where it holds at the place that is new
-- (changed_each, appended_each, recorded_each). Nothing here speaks of the arrays; view_of and record_view (RecordViews.antt) say how a list and a
-- recording are such. Assumes nothing.
use Prim.Native.Nat.{ℕ, suc, ◌+◌, ◌≤◌, ◌<◌}
use mathlib.Core.Path.{◌≡◌}
use mathlib.Core.Logic.{◌⊎◌, inl, inr, ⊎_elim, ◌≢◌}
use native.Mathlib.Nat.{eq-or-lt_of_le}
use native.Mathlib.Decide.{ℕ_discrete}
use native.Mathlib.Omega.{arith}
use Rattle.words.specs.Limits.{multiplicity_limit}
use Rattle.isa.specs.declared.U32TableEntry.{U32TableEntry}

pub record View : Type 0 where
  pub used : ℕ
  pub key : ℕ → U32TableEntry
  pub count : ℕ → ℕ
  pub hold : ℕ → ℕ

-- no used place has the key
abbrev pub Unknown : View → U32TableEntry → Type 0
Unknown v k = (i : ℕ) → i < v.used → v.key i ≡ k → ⊥

-- ---- what a call does to the places

-- the count at place i becomes c and its holds g, and nothing else changes
pub record Changed (a b : View) (i c g : ℕ) : Type 0 where
  pub same_used : b.used ≡ a.used
  pub keys : (j : ℕ) → j < a.used → b.key j ≡ a.key j
  pub inside : i < a.used
  pub count_here : b.count i ≡ c
  pub hold_here : b.hold i ≡ g
  pub count_there : (j : ℕ) → j < a.used → j ≢ i → b.count j ≡ a.count j
  pub hold_there : (j : ℕ) → j < a.used → j ≢ i → b.hold j ≡ a.hold j

-- the key k is appended with the count c and g holds
pub record Appended (a b : View) (k : U32TableEntry) (c g : ℕ) : Type 0 where
  pub more_used : b.used ≡ suc a.used
  pub keys : (j : ℕ) → j < a.used → b.key j ≡ a.key j
  pub key_new : b.key a.used ≡ k
  pub count_new : b.count a.used ≡ c
  pub hold_new : b.hold a.used ≡ g
  pub count_old : (j : ℕ) → j < a.used → b.count j ≡ a.count j
  pub hold_old : (j : ℕ) → j < a.used → b.hold j ≡ a.hold j

-- "The first equal key gains one; else the key is appended with 1": so many counts and holds
pub data Recorded (count hold : ℕ) (a b : View) (k : U32TableEntry) : Type 0 where
  gains : (i : ℕ) → a.key i ≡ k → a.count i + a.hold i + 1 ≤ multiplicity_limit → Changed a b i (a.count i + count) (a.hold i + hold)
      → Recorded count hold a b k
  appends : Unknown a k → Appended a b k count hold → Recorded count hold a b k

-- ---- what holds at every place

abbrev pub EachPlace : (U32TableEntry → ℕ → ℕ → Type 0) → View → Type 0
EachPlace P v = (i : ℕ) → i < v.used → P (v.key i) (v.count i) (v.hold i)

pub old_or_new : (n i : ℕ) → i < suc n → (i < n) ⊎ (i ≡ n)
old_or_new n i h = ⊎_elim (λ (e : suc i ≡ suc n). inr (omega arith)) (λ (l : suc i < suc n). inl (omega arith)) (eq-or-lt_of_le h)

module _ (P : U32TableEntry → ℕ → ℕ → Type 0) {a b : View} where
  pub changed_each : {i c g : ℕ} → Changed a b i c g → EachPlace P a → P (a.key i) c g → EachPlace P b
  changed_each {i} {c} {g} r each here j h = go (ℕ_discrete j i) where
    inside : j < a.used
    inside = omega (arith, r.same_used)

    go : Dec (j ≡ i) → P (b.key j) (b.count j) (b.hold j)
    go (yes q) = rw (r.keys j inside, q, r.count_here, r.hold_here) here
    go (no q) = rw (r.keys j inside, r.count_there j inside q, r.hold_there j inside q) (each j inside)

  pub appended_each : {k : U32TableEntry} {c g : ℕ} → Appended a b k c g → EachPlace P a → P k c g → EachPlace P b
  appended_each {k} {c} {g} r each new j h =
      ⊎_elim
      (λ (o : j < a.used). rw (r.keys j o, r.count_old j o, r.hold_old j o) (each j o))
      (λ (o : j ≡ a.used). rw (o, r.key_new, r.count_new, r.hold_new) new)
      (old_or_new a.used j (omega (arith, r.more_used)))

  pub recorded_each : {count hold : ℕ} {k : U32TableEntry} → Recorded count hold a b k → EachPlace P a
      → ((c g : ℕ) → P k c g → c + g + 1 ≤ multiplicity_limit → P k (c + count) (g + hold)) → P k count hold → EachPlace P b
  recorded_each (gains i q m r) each more new =
      changed_each r each (rw q (more (a.count i) (a.hold i) (rw q at (each i r.inside)) m))
  recorded_each (appends u r) each more new = appended_each r each new
