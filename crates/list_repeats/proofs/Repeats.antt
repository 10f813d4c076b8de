-- Equal keys: `repeats` finds two of them exactly where there are two, at an earlier and at a later place.
use mathlib.Core.Path.{◌≡◌, refl, sym, ap, ◌∙◌}
use mathlib.Core.Bool.{Bool, true, false, or-true}
use mathlib.Core.List.{List, map}
use mathlib.Core.Logic.{⊎_elim}
use Prim.Native.Nat.{ℕ, zero, suc, ◌+◌, ◌*◌, ◌/◌, ◌≤◌, ◌<◌}
use native.Mathlib.Nat.{eq-or-lt_of_le}
use native.Mathlib.Omega.{arith}
use lib.ListN.{length, take}
use Rattle.std.proofs.lemmas.Bool.{or_from}
use Rattle.words.specs.Places.{places_from, places}
use Rattle.isa.specs.declared.U32TableEntry.{U32TableEntry}
use Rattle.isa.specs.Entries.{entry_width}
use Rattle.list.specs.declared.Sizes.{Sizes}
use Rattle.list.specs.Lists.{U32List, u32_list, used, entry_at}
use Rattle.list.specs.Keys.{same_key}
use Rattle.list.proofs.Places.{used_entries}
use Rattle.list_repeats.specs.Repeats.{occurs, repeats}

module _ (f : ℕ → U32TableEntry) where
  occurs_hit : (e : U32TableEntry) (i n j : ℕ) → i ≤ j → j < i + n → same_key e (f j) ≡ true → occurs e (map f (places_from i n)) ≡ true
  unfolding occurs places_from
  occurs_hit e i zero j p q h = absurd (omega arith)
  occurs_hit e i (suc n) j p q h =
      ⊎_elim (λ (d : i ≡ j). rw (d, h))
      (λ d. rw (occurs_hit e (suc i) n j d (omega arith) h) (or-true (same_key e (f i))))
      (eq-or-lt_of_le p)

  occurs_miss : (e : U32TableEntry) (i n : ℕ) → ((j : ℕ) → i ≤ j → j < i + n → same_key e (f j) ≡ false) → occurs e (map f (places_from i n)) ≡ false
  unfolding occurs places_from
  occurs_miss e i zero h = refl
  occurs_miss e i (suc n) h =
      or_from _ _ (h i (omega arith) (omega arith)) (occurs_miss e (suc i) n (λ j p q. h j (omega arith) (omega arith)))

  repeats_hit : (k n i j : ℕ) → k ≤ i → i < j → j < k + n → same_key (f i) (f j) ≡ true → repeats (map f (places_from k n)) ≡ true
  unfolding repeats places_from
  repeats_hit k zero i j p q r h = absurd (omega arith)
  repeats_hit k (suc n) i j p q r h =
      ⊎_elim (λ (d : k ≡ i). rw (d, occurs_hit (f i) (suc i) n j q (omega arith) h))
      (λ d. rw (repeats_hit (suc k) n i j d q (omega arith) h) (or-true (occurs (f k) (map f (places_from (suc k) n)))))
      (eq-or-lt_of_le p)

  repeats_miss : (k n : ℕ) → ((i j : ℕ) → k ≤ i → i < j → j < k + n → same_key (f i) (f j) ≡ false) → repeats (map f (places_from k n)) ≡ false
  unfolding repeats places_from
  repeats_miss k zero h = refl
  repeats_miss k (suc n) h =
      or_from _ _ (occurs_miss (f k) (suc k) n (λ j p q. h k j (omega arith) (omega arith) (omega arith)))
      (repeats_miss (suc k) n (λ i j p q r. h i j (omega arith) q (omega arith)))

  -- an equal key at an earlier place
  pub repeat_at : (n i j : ℕ) → i < j → j < n → same_key (f i) (f j) ≡ true → repeats (map f (places n)) ≡ true
  repeat_at n i j p q h = repeats_hit 0 n i j (omega arith) p (omega arith) h

  -- no two of the first n keys are equal
  abbrev pub Distinct : ℕ → Type 0
  Distinct n = (i j : ℕ) → i < j → j < n → same_key (f i) (f j) ≡ false

  pub distinct_none : Distinct 0
  distinct_none i j p q = absurd (omega arith)

  pub distinct_more : (n : ℕ) → Distinct n → ((i : ℕ) → i < n → same_key (f i) (f n) ≡ false) → Distinct (n + 1)
  distinct_more n d h i j p q =
      let le : j ≤ n = omega arith in
      ⊎_elim (λ (e : j ≡ n). rw e (h i (omega arith))) (λ r. d i j p r) (eq-or-lt_of_le le)

  pub no_repeat : (n : ℕ) → Distinct n → repeats (map f (places n)) ≡ false
  no_repeat n d = repeats_miss 0 n (λ i j p q r. d i j q (omega arith))

  pub distinct : (n : ℕ) → repeats (map f (places n)) ≡ false → Distinct n
  distinct n e i j p q = go (same_key (f i) (f j)) refl where
    go : (t : Bool) → same_key (f i) (f j) ≡ t → same_key (f i) (f j) ≡ false
    go false h = h
    go true h = absurd (let z : ◌≡◌ {A = Bool} true false = sym (repeat_at n i j p q h) ∙ e in let y : ◌≡◌ {A = ℕ} 0 1 = cc in omega arith)

-- what is told of the keys of the used places alone is told of the list
pub used_repeats : (l : U32List) → entry_width * used l ≤ length l.keys → {ks : List ℕ} → ks ≡ take (entry_width * used l) l.keys → {t : Bool}
    → ((s : Sizes) (ms : List ℕ) → t ≡ repeats (map (entry_at (u32_list s ks ms)) (places (length ks / entry_width)))) → t ≡ repeats (map (entry_at l) (places (used l)))
used_repeats l b part told = told l.sizes l.multiplicities ∙ ap repeats (used_entries l b part l.sizes l.multiplicities)
