-- What a search for a value finds: find_runs passes the first runs, none of which holds it, and find_at ends at the first place that does;
-- find_part is about a search of the first keys. Assumes nothing.
use Prim.Native.Nat.{ℕ, zero, suc, ◌+◌, ◌*◌, ◌-◌, ◌≤◌, ◌<◌}
use mathlib.Core.Path.{◌≡◌, refl, sym, ap, ◌∙◌, subst}
use mathlib.Core.Bool.{false}
use mathlib.Core.Logic.{◌≢◌, ⊎_elim}
use mathlib.Core.List.{List, [], ◌∷◌}
use native.Mathlib.Nat.{eq-or-lt_of_le, sub-zero}
use native.Mathlib.Omega.{arith}
use native.Mathlib.Numerals.{add-one}
use lib.Dec.{eqb}
use lib.ListN.{length, get_or, take, drop}
use borrow.Author.Tests.{eq-eqb, ne_eqb, eqb-false}
use Rattle.std.proofs.lemmas.Bool.{or_parts}
use Rattle.std.proofs.lemmas.List.{get_or-take, get_or-drop, length-take-le}
use Rattle.std.proofs.Common.{length-drop}
use Rattle.lookup.specs.Cascades.{find_from}
use Rattle.lookup.specs.Recordings.{occurs}

-- ---- the steps of a search

module _ (keys : List ℕ) (v : ℕ) where
  find_hit : (i n : ℕ) → i < n → get_or keys i 0 ≡ v → find_from keys v i (n - i) ≡ i
  unfolding find_from
  find_hit i n h s = let d : n - i ≡ suc (n - (i + 1)) = omega arith in rw d (simp (eq-eqb _ _ s))

  find_miss : (i n : ℕ) → i < n → get_or keys i 0 ≢ v → find_from keys v i (n - i) ≡ find_from keys v (i + 1) (n - (i + 1))
  unfolding find_from
  find_miss i n h s = let d : n - i ≡ suc (n - (i + 1)) = omega arith in rw d (simp (ne_eqb _ _ s, add-one i))

  find_none : (i n : ℕ) → n ≤ i → find_from keys v i (n - i) ≡ i
  unfolding find_from
  find_none i n h = let d : n - i ≡ 0 = omega arith in rw d

  find_misses : (k i n : ℕ) → i + k ≤ n → ((j : ℕ) → j < k → get_or keys (i + j) 0 ≢ v)
      → find_from keys v i (n - i) ≡ find_from keys v (i + k) (n - (i + k))
  find_misses zero i n h f = ap (λ (j : ℕ). find_from keys v j (n - j)) (omega arith)
  find_misses (suc k) i n h f =
      find_misses k i n (omega arith) (λ j b. f j (omega arith))
      ∙ find_miss (i + k) n (omega arith) (f k (omega arith))
      ∙ ap (λ (j : ℕ). find_from keys v j (n - j)) (omega arith)

  -- the first of the places from i on that holds the value, or n
  pub find_at : (i m n : ℕ) → i ≤ m → m ≤ n → ((k : ℕ) → i ≤ k → k < m → get_or keys k 0 ≢ v)
      → (m < n → get_or keys m 0 ≡ v) → find_from keys v i (n - i) ≡ m
  find_at i m n a b none hit =
      find_misses (m - i) i n (omega arith) (λ j c. none (i + j) (omega arith) (omega arith))
      ∙ ap (λ (j : ℕ). find_from keys v j (n - j)) (omega arith)
      ∙ ⊎_elim (λ (q : m ≡ n). find_none m n (omega arith)) (λ (q : m < n). find_hit m n q (hit q)) (eq-or-lt_of_le b)

-- ---- runs of places

occurs_not : (v : ℕ) (ws : List ℕ) → occurs v ws ≡ false → (j : ℕ) → j < length ws → get_or ws j 0 ≢ v
unfolding occurs
occurs_not v [] e j h = absurd (omega arith)
occurs_not v (w ∷ ws) e zero h = eqb-false w v (or_parts (eqb w v) (occurs v ws) e).0
occurs_not v (w ∷ ws) e (suc j) h = occurs_not v ws (or_parts (eqb w v) (occurs v ws) e).1 j (omega arith)

-- the 256 keys of a run
abbrev pub run_of : (keys : List ℕ) (run : ℕ) → List ℕ
run_of keys run = take 256 (drop (run * 256) keys)

module _ (keys : List ℕ) (v : ℕ) where
  not_in_run : (run j : ℕ) → run * 256 + 256 ≤ length keys → occurs v (run_of keys run) ≡ false → j < 256 → get_or keys (256 * run + j) 0 ≢ v
  not_in_run run j h e b =
      let place : run * 256 + j ≡ 256 * run + j = omega arith in
      subst (λ (w : ℕ). w ≢ v)
      (get_or-take 256 (drop (run * 256) keys) j 0 (omega arith)
      ∙ get_or-drop (run * 256) keys j 0
      ∙ ap (λ (i : ℕ). get_or keys i 0) place)
      (occurs_not v _ e j
      (let d = length-drop (run * 256) keys in
      let t = length-take-le 256 (drop (run * 256) keys) (omega arith) in
      omega arith))

  -- the first m runs, none of which holds the value
  pub find_runs : (m : ℕ) → 256 * m ≤ length keys → ((k : ℕ) → k < m → occurs v (run_of keys k) ≡ false)
      → find_from keys v 0 (length keys) ≡ find_from keys v (256 * m) (length keys - 256 * m)
  find_runs zero h none = ap (find_from keys v 0) (sym (sub-zero (length keys)))
  find_runs (suc m) h none =
      find_runs m (omega arith) (λ k b. none k (omega arith))
      ∙ find_misses keys v 256 (256 * m) (length keys) (omega arith) (λ j b. not_in_run m j (omega arith) (none m (omega arith)) b)
      ∙ ap (λ (j : ℕ). find_from keys v j (length keys - j)) (omega arith)

-- ---- a part of the keys

-- a search that ends within the first n keys is one of these
find_in_part : (keys : List ℕ) (v n i m : ℕ) → i + m ≤ n → find_from (take n keys) v i m ≡ find_from keys v i m
unfolding find_from
find_in_part keys v n i zero h = refl
find_in_part keys v n i (suc m) h = rw (get_or-take n keys i 0 (omega arith), find_in_part keys v n (suc i) m (omega arith))

-- a search of the first n keys is one of these to its end
pub find_part : (keys : List ℕ) (v n : ℕ) → n ≤ length keys → find_from (take n keys) v 0 (length (take n keys)) ≡ find_from keys v 0 n
find_part keys v n h = rw (length-take-le n keys h) (find_in_part keys v n 0 n (omega arith))
