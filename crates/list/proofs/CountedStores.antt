-- The list of the counted places, stored place by place at the front of two arrays (Stored): before the first turn of the loop (stored_none), a turn at a place
-- without count (stored_passed) and at one with a count (stored_more); what stands there after the last turn (stored_sizes, stored_keys, stored_counts);
-- and the fronts of the arrays are the list (counted_front). Assumes nothing.
use Prim.Native.Nat.{ℕ, ◌+◌, ◌*◌, ◌≤◌}
use mathlib.Core.Path.{◌≡◌, refl, sym, ap, ◌∙◌}
use mathlib.Core.Logic.{◌≢◌}
use mathlib.Core.List.{List, [], ◌∷◌, ◌++◌, map, flat_map, append-nil, append_assoc}
use native.Mathlib.Numerals.{add-one}
use native.Mathlib.Omega.{arith}
use lib.ListN.{length, set, take, length-append, length-map}
use lib.Seq.{sets, length-sets}
use Rattle.std.proofs.lemmas.List.{map_push}
use Rattle.words.specs.Limits.{max_places}
use Rattle.words.proofs.Sets.{sets_append, take_sets_front}
use Rattle.isa.specs.Entries.{entry_words, entry_width}
use Rattle.list.specs.declared.Sizes.{Sizes}
use Rattle.list.specs.Lists.{U32List, u32_list, used, key_at, multiplicity_at}
use Rattle.list.specs.Counted.{counted_to, counted_places, counted}
use Rattle.list.proofs.CountedLists.{counted_at_most, counted_more, counted_same, counted_few, words_length}

-- what is stored of the counted places among the first n
abbrev pub keys_to : U32List → ℕ → List ℕ
keys_to l n = flat_map (λ i. entry_words (key_at l i)) (counted_to l n)

abbrev pub counts_to : U32List → ℕ → List ℕ
counts_to l n = map (multiplicity_at l) (counted_to l n)

flat_last : (f : ℕ → List ℕ) (ps : List ℕ) (i : ℕ) → flat_map f (ps ++ (i ∷ [])) ≡ flat_map f ps ++ f i
unfolding flat_map
flat_last f [] i = append-nil (f i)
flat_last f (k ∷ ps) i = ap (λ (xs : List ℕ). f k ++ xs) (flat_last f ps i) ∙ sym (append_assoc (f k) (flat_map f ps) (f i))

list_of : {z : Sizes} {ks ms : List ℕ} (m : U32List) → z ≡ m.sizes → ks ≡ m.keys → ms ≡ m.multiplicities → u32_list z ks ms ≡ m
list_of m a b c = rw (a, b, c) refl

-- Of the first i places n are counted, and they stand at the front of the arrays; ks₀ and ms₀ are the arrays as they were
pub record Stored (l : U32List) (ks₀ ms₀ ks ms : List ℕ) (n i : ℕ) : Type 0 where
  pub count : n ≡ length (counted_to l i)
  pub keys : ks ≡ sets ks₀ 0 (keys_to l i)
  pub counts : ms ≡ sets ms₀ 0 (counts_to l i)

pub stored_none : (l : U32List) (ks₀ ms₀ : List ℕ) → Stored l ks₀ ms₀ ks₀ ms₀ 0 0
unfolding counted_to flat_map
stored_none l ks₀ ms₀ = record { count = refl; keys = refl; counts = refl }

module _ {l : U32List} {ks₀ ms₀ ks ms : List ℕ} {n i : ℕ} (s : Stored l ks₀ ms₀ ks ms n i) where
  pub stored_few : n ≤ i
  stored_few = let e = s.count in omega (arith, e, counted_at_most l i)

  pub stored_long_keys : length ks ≡ length ks₀
  stored_long_keys = ap (λ (ws : List ℕ). length ws) s.keys ∙ length-sets ks₀ 0 (keys_to l i)

  pub stored_long_counts : length ms ≡ length ms₀
  stored_long_counts = ap (λ (ws : List ℕ). length ws) s.counts ∙ length-sets ms₀ 0 (counts_to l i)

  -- a place without count
  pub stored_passed : multiplicity_at l i ≡ 0 → Stored l ks₀ ms₀ ks ms n (i + 1)
  stored_passed z =
      let same : counted_to l i ≡ counted_to l (i + 1) = sym (ap (counted_to l) (add-one i) ∙ counted_same l i z) in
      record {
        count = s.count ∙ ap (λ (ps : List ℕ). length ps) same;
        keys = s.keys ∙ ap (λ (ps : List ℕ). sets ks₀ 0 (flat_map (λ (j : ℕ). entry_words (key_at l j)) ps)) same;
        counts = s.counts ∙ ap (λ (ps : List ℕ). sets ms₀ 0 (map (multiplicity_at l) ps)) same;
      }

  -- one with a count
  pub stored_more : {ks' : List ℕ} {m : ℕ} → multiplicity_at l i ≢ 0 → ks' ≡ sets ks (entry_width * n) (entry_words (key_at l i)) → m ≡ multiplicity_at l i
      → Stored l ks₀ ms₀ ks' (set ms n m) (n + 1) (i + 1)
  stored_more {ks'} {m} f put is =
      let more : counted_to l (i + 1) ≡ counted_to l i ++ (i ∷ []) = ap (counted_to l) (add-one i) ∙ counted_more l i f in
      let one = ap (λ (ps : List ℕ). length ps) more ∙ length-append (counted_to l i) (i ∷ []) in
      let e = s.count in
      let k = words_length (key_at l) (counted_to l i) in
      let c = length-map (counted_to l i) (multiplicity_at l) in
      let atk : entry_width * n ≡ 0 + length (keys_to l i) = omega (arith, e, k) in
      let atc : n ≡ 0 + length (counts_to l i) = omega (arith, e, c) in
      record {
        count = omega (arith, e, one);
        keys =
            put
            ∙ ap (λ (xs : List ℕ). sets xs (entry_width * n) (entry_words (key_at l i))) s.keys
            ∙ ap (λ (j : ℕ). sets (sets ks₀ 0 (keys_to l i)) j (entry_words (key_at l i))) atk
            ∙ sym (sets_append (keys_to l i) (entry_words (key_at l i)) ks₀ 0)
            ∙ ap (λ (ws : List ℕ). sets ks₀ 0 ws)
            (sym
            (ap (λ (ps : List ℕ). flat_map (λ (j : ℕ). entry_words (key_at l j)) ps) more
            ∙ flat_last (λ (j : ℕ). entry_words (key_at l j)) (counted_to l i) i));
        counts =
            ap (λ (v : ℕ). set ms n v) is
            ∙ ap (λ (xs : List ℕ). sets xs n (multiplicity_at l i ∷ [])) s.counts
            ∙ ap (λ (j : ℕ). sets (sets ms₀ 0 (counts_to l i)) j (multiplicity_at l i ∷ [])) atc
            ∙ sym (sets_append (counts_to l i) (multiplicity_at l i ∷ []) ms₀ 0)
            ∙ ap (λ (ws : List ℕ). sets ms₀ 0 ws)
            (sym (ap (λ (ps : List ℕ). map (multiplicity_at l) ps) more ∙ map_push (multiplicity_at l) (counted_to l i) i));
      }

  -- after the last turn
  module _ (all : i ≡ used l) where
    pub stored_sizes : ◌≡◌ {A = Sizes} (record { capacity = n; used = n }) (counted l).sizes
    unfolding counted
    stored_sizes = let e : n ≡ length (counted_places l) = s.count ∙ ap (λ (j : ℕ). length (counted_to l j)) all in rw e

    pub stored_keys : ks ≡ sets ks₀ 0 (counted l).keys
    unfolding counted
    stored_keys = s.keys ∙ ap (λ (j : ℕ). sets ks₀ 0 (keys_to l j)) all

    pub stored_counts : ms ≡ sets ms₀ 0 (counted l).multiplicities
    unfolding counted
    stored_counts = s.counts ∙ ap (λ (j : ℕ). sets ms₀ 0 (counts_to l j)) all

-- the fronts of arrays that had room for all places are the list of the counted places
pub counted_front : (l : U32List) {z : Sizes} (ks₀ ms₀ : List ℕ) {ks ms : List ℕ} → z ≡ (counted l).sizes → ks ≡ sets ks₀ 0 (counted l).keys → ms ≡ sets ms₀ 0 (counted l).multiplicities
    → length ks₀ ≡ entry_width * max_places → length ms₀ ≡ max_places → used l ≤ max_places
    → u32_list (record { capacity = z.used; used = z.used }) (take (entry_width * z.used) ks) (take z.used ms) ≡ counted l
unfolding counted
counted_front l {z} ks₀ ms₀ ez ek em lk lm room =
    let many : z.used ≡ length (counted_places l) = ap (λ (x : Sizes). x.used) ez in
    list_of (counted l) (rw many refl)
    (ap (λ (ws : List ℕ). take (entry_width * z.used) ws) ek
    ∙ take_sets_front (counted l).keys ks₀ (entry_width * z.used) (omega (arith, many, words_length (key_at l) (counted_places l))) (omega (arith, many, lk, room, counted_few l)))
    (ap (λ (ws : List ℕ). take z.used ws) em
    ∙ take_sets_front (counted l).multiplicities ms₀ z.used (omega (arith, many, length-map (counted_places l) (multiplicity_at l))) (omega (arith, many, lm, room, counted_few l)))
