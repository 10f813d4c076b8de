-- Laws of runs of places: how a run begins and ends, what depends on its places alone, and blocks of one width that stand in a row.
use mathlib.Core.Path.{◌≡◌, refl, sym, ap, ◌∙◌}
use mathlib.Core.List.{List, [], ◌∷◌, ◌++◌, map, flat_map}
use Prim.Native.Nat.{ℕ, zero, suc, ◌+◌, ◌*◌, ◌-◌, ◌≤◌, ◌<◌}
use native.Mathlib.Nat.{zero-add, add-zero, mul-suc, mul-zero, mul-le-mul_left}
use native.Mathlib.Numerals.{add-one}
use native.Mathlib.Omega.{arith}
use lib.ListN.{length, get_or, set, take, drop, length-append, get_or-append}
use lib.Seq.{sets, get_or-append-add, take-add, drop-drop}
use Rattle.words.specs.Places.{places_from, places}
use Rattle.words.proofs.Sets.{sets_then}

-- ---- how a run begins and ends

module _ (i n : ℕ) where
  pub places_step : i < n → places_from i (n - i) ≡ i ∷ places_from (i + 1) (n - (i + 1))
  unfolding places_from
  places_step h = let d : n - i ≡ suc (n - (i + 1)) = omega arith in rw (d, add-one i)

  pub places_done : n ≤ i → places_from i (n - i) ≡ []
  unfolding places_from
  places_done h = let d : n - i ≡ 0 = omega arith in rw d

pub length_places : (i n : ℕ) → length (places_from i n) ≡ n
unfolding places_from
length_places i zero = refl
length_places i (suc n) = ap suc (length_places (suc i) n)

pub places_last : (i n : ℕ) → places_from i n ++ ((i + n) ∷ []) ≡ places_from i (suc n)
unfolding places_from
places_last i zero = rw add-zero
places_last i (suc n) =
    let e : i + suc n ≡ suc i + n = omega arith in
    rw (e, places_last (suc i) n)

-- one place more at the end of the first n
pub places_more : (n : ℕ) → places n ++ (n ∷ []) ≡ places (suc n)
places_more n = ap (λ (k : ℕ). places n ++ (k ∷ [])) (sym (zero-add n)) ∙ places_last 0 n

-- ---- a value for each place

pub length-map : {A : Type 0} (m : ℕ → A) (i n : ℕ) → length (map m (places_from i n)) ≡ n
unfolding places_from
length-map m i zero = refl
length-map m i (suc n) = ap suc (length-map m (suc i) n)

pub get_d_map : (m : ℕ → ℕ) (i n j : ℕ) → j < n → get_or (map m (places_from i n)) j 0 ≡ m (i + j)
unfolding places_from
get_d_map m i zero j p = absurd (omega arith)
get_d_map m i (suc n) zero p = rw add-zero
get_d_map m i (suc n) (suc j) p = let e : i + suc j ≡ suc i + j = omega arith in rw e (get_d_map m (suc i) n j (omega arith))

-- ---- what depends on the places alone

module _ {A : Type 0} where
  pub map_cong : (f g : ℕ → A) (i n : ℕ) → ((j : ℕ) → i ≤ j → j < i + n → f j ≡ g j) → map f (places_from i n) ≡ map g (places_from i n)
  unfolding places_from
  map_cong f g i zero e = refl
  map_cong f g i (suc n) e = rw (e i (omega arith) (omega arith), map_cong f g (suc i) n (λ j p q. e j (omega arith) (omega arith)))

pub flat_cong : (f g : ℕ → List ℕ) (i n : ℕ) → ((j : ℕ) → i ≤ j → j < i + n → f j ≡ g j)
    → flat_map f (places_from i n) ≡ flat_map g (places_from i n)
unfolding places_from flat_map
flat_cong f g i zero e = refl
flat_cong f g i (suc n) e = rw (e i (omega arith) (omega arith), flat_cong f g (suc i) n (λ j p q. e j (omega arith) (omega arith)))

-- ---- blocks of one width

module _ (g : ℕ → List ℕ) (i n : ℕ) where
  pub flat_step : i < n → flat_map g (places_from i (n - i)) ≡ g i ++ flat_map g (places_from (i + 1) (n - (i + 1)))
  unfolding flat_map
  flat_step h = rw (places_step i n h)

  pub flat_done : n ≤ i → flat_map g (places_from i (n - i)) ≡ []
  unfolding flat_map
  flat_done h = rw (places_done i n h)

-- a turn of a loop that stores block after block from place `at` on
pub flat_turn : (g : ℕ → List ℕ) (w at i n : ℕ) (d d' : List ℕ) → i < n → length (g i) ≡ w → d' ≡ sets d (at + w * i) (g i)
    → sets d (at + w * i) (flat_map g (places_from i (n - i))) ≡ sets d' (at + w * (i + 1)) (flat_map g (places_from (i + 1) (n - (i + 1))))
flat_turn g w at i n d d' h l e =
    ap (sets d (at + w * i)) (flat_step g i n h)
    ∙ sets_then (g i) (flat_map g (places_from (i + 1) (n - (i + 1)))) d d' (at + w * i) (at + w * (i + 1)) e
    (rw (l, add-one i, mul-suc) (omega arith))

pub map_turn : (m : ℕ → ℕ) (i n v : ℕ) (d : List ℕ) → i < n → v ≡ m i
    → sets d i (map m (places_from i (n - i))) ≡ sets (set d i v) (i + 1) (map m (places_from (i + 1) (n - (i + 1))))
map_turn m i n v d h e = rw (places_step i n h, e, add-one i)

module _ (g : ℕ → List ℕ) (w : ℕ) (l : (j : ℕ) → length (g j) ≡ w) where
  pub length_flat : (i n : ℕ) → length (flat_map g (places_from i n)) ≡ w * n
  unfolding places_from flat_map
  length_flat i zero = sym (mul-zero w)
  length_flat i (suc n) =
      length-append (g i) (flat_map g (places_from (suc i) n)) ∙ rw (l i, length_flat (suc i) n, mul-suc) (omega arith)

  pub get_d_flat : (i n j k : ℕ) → j < n → k < w → get_or (flat_map g (places_from i n)) (w * j + k) 0 ≡ get_or (g (i + j)) k 0
  unfolding places_from flat_map
  get_d_flat i zero j k p q = absurd (let z = p in omega arith)
  get_d_flat i (suc n) zero k p q =
      rw (mul-zero, zero-add, add-zero) (get_or-append (g i) (flat_map g (places_from (suc i) n)) 0 k (omega (arith, l i)))
  get_d_flat i (suc n) (suc j) k p q =
      let e : w * suc j + k ≡ length (g i) + (w * j + k) = rw (l i, mul-suc) (omega arith) in
      let m : i + suc j ≡ suc i + j = omega arith in
      rw (e, m) (get_or-append-add (g i) (flat_map g (places_from (suc i) n)) (w * j + k) 0 ∙ get_d_flat (suc i) n j k (omega arith) q)

-- blocks that are consecutive parts of a list are one part of it
pub flat_parts : (s : List ℕ) (a w : ℕ) (g : ℕ → List ℕ) (i n : ℕ)
    → ((j : ℕ) → i ≤ j → j < i + n → g j ≡ take w (drop (a + w * j) s))
    → flat_map g (places_from i n) ≡ take (w * n) (drop (a + w * i) s)
unfolding places_from flat_map
flat_parts s a w g i zero e = rw mul-zero
flat_parts s a w g i (suc n) e =
    let p : w * suc n ≡ w + w * n = rw mul-suc (omega arith) in
    let q : a + w * suc i ≡ a + w * i + w = rw mul-suc (omega arith) in
    rw (e i (omega arith) (omega arith), flat_parts s a w g (suc i) n (λ j u v. e j (omega arith) (omega arith)), p, q, take-add, drop-drop)

-- block j of n blocks ends within them
pub block_end : (w j n : ℕ) → j < n → w * j + w ≤ w * n
block_end w j n h =
    let l : suc j ≤ n = omega arith in
    let m : w * suc j ≤ w * n = mul-le-mul_left w l in
    omega (arith, mul-suc w j)
