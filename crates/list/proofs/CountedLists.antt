-- The list of the counted places of a list (specs/Counted.antt). It has the right shape where that has (counted_shaped); its places are used places with a
-- count (counted_each), with their keys and counts (counted_key, counted_entry, counted_count), so it is admitted where the list is (counted_admitted,
-- fine_counted). What goes along the counted places goes along all places, those without count left out (counted_fold). Its entries are those at the counted
-- places (counted_entries, counted_height). Where no multiplicity is 0 every used place is counted (counted_to_all, all_entries, ..), so counting twice is
-- counting once (counted_counted). Assumes nothing.
use Prim.Native.Nat.{ℕ, zero, suc, ◌+◌, ◌*◌, ◌≤◌, ◌<◌}
use mathlib.Core.Path.{◌≡◌, refl, sym, ap, ap₂, ◌∙◌}
use mathlib.Core.Bool.{Bool, true, false, cond}
use mathlib.Core.List.{List, [], ◌∷◌, ◌++◌, map, flat_map, append-nil}
use mathlib.Core.Logic.{◌≢◌}
use native.Mathlib.Nat.{add-zero, zero-add}
use native.Mathlib.Decide.{dec_lt}
use native.Mathlib.Omega.{arith}
use lib.Dec.{eqb}
use lib.ListN.{length, get_or, length-append, length-map, get_or-append}
use lib.Seq.{get_or-append_seam}
use borrow.Author.Tests.{eqb-true, eqb-false, eq-eqb, ne_eqb}
use Rattle.words.specs.Places.{places_from, places}
use Rattle.words.specs.Refusals.{Fine}
use Rattle.words.proofs.Places.{places_more, length_places}
use Rattle.isa.specs.declared.U32TableEntry.{U32TableEntry}
use Rattle.isa.specs.Entries.{entry_words, entry_width, admitted}
use Rattle.list.specs.declared.Sizes.{Sizes}
use Rattle.list.specs.Lists.{U32List, u32_list, used, key_at, multiplicity_at, entry_at, judge_list}
use Rattle.list.specs.Heights.{section_entries, sum_heights, list_height}
use Rattle.list.specs.Counted.{counted_to, counted_places, counted}
use Rattle.list.proofs.Places.{entry_at_key, section_entries_map}
use Rattle.list.proofs.JudgedLists.{Shaped, ListAdmitted, list_admitted, admitted_fine}

-- one place more
pub counted_none : (l : U32List) → counted_to l 0 ≡ []
unfolding counted_to
counted_none l = refl

module _ (l : U32List) (n : ℕ) where
  pub counted_more : multiplicity_at l n ≢ 0 → counted_to l (suc n) ≡ counted_to l n ++ (n ∷ [])
  unfolding counted_to
  counted_more h = rw (ne_eqb (multiplicity_at l n) 0 h)

  pub counted_same : multiplicity_at l n ≡ 0 → counted_to l (suc n) ≡ counted_to l n
  unfolding counted_to
  counted_same h = rw (eq-eqb (multiplicity_at l n) 0 h) (append-nil (counted_to l n))

-- ---- the counted places

pub counted_at_most : (l : U32List) (n : ℕ) → length (counted_to l n) ≤ n
unfolding counted_to
counted_at_most l zero = omega arith
counted_at_most l (suc n) = go (counted_at_most l n) (eqb (multiplicity_at l n) 0) where
  go : length (counted_to l n) ≤ n → (t : Bool) → length (counted_to l n ++ cond t [] (n ∷ [])) ≤ suc n
  go rest true = rw (append-nil (counted_to l n)) (omega arith)
  go rest false = omega (arith, rest, length-append (counted_to l n) (n ∷ []))

-- each is one of the first n and has a count
abbrev pub HasCount : U32List → ℕ → ℕ → Type 0
HasCount l n i = (i < n) × (multiplicity_at l i ≢ 0)

pub counted_each : (l : U32List) (n j : ℕ) → j < length (counted_to l n) → HasCount l n (get_or (counted_to l n) j 0)
unfolding counted_to
counted_each l zero j h = absurd (omega arith)
counted_each l (suc n) j h = go (λ k. counted_each l n j k) (eqb (multiplicity_at l n) 0) refl h where
  old : HasCount l n (get_or (counted_to l n) j 0) → HasCount l (suc n) (get_or (counted_to l n) j 0)
  old r = (omega (arith, r.0), r.1)

  last : (j < length (counted_to l n) → HasCount l n (get_or (counted_to l n) j 0)) → eqb (multiplicity_at l n) 0 ≡ false
      → j < length (counted_to l n ++ (n ∷ [])) → Dec (j < length (counted_to l n)) → HasCount l (suc n) (get_or (counted_to l n ++ (n ∷ [])) j 0)
  last rest q b (yes k) = rw (get_or-append (counted_to l n) (n ∷ []) 0 j k) (old (rest k))
  last rest q b (no k) =
      let at : j ≡ length (counted_to l n) = omega (arith, length-append (counted_to l n) (n ∷ [])) in
      rw (at, get_or-append_seam (counted_to l n) n [] 0) (omega arith, eqb-false (multiplicity_at l n) 0 q)

  go : (j < length (counted_to l n) → HasCount l n (get_or (counted_to l n) j 0)) → (t : Bool) → eqb (multiplicity_at l n) 0 ≡ t
      → j < length (counted_to l n ++ cond t [] (n ∷ [])) → HasCount l (suc n) (get_or (counted_to l n ++ cond t [] (n ∷ [])) j 0)
  go rest true q b = rw (append-nil (counted_to l n)) (old (rest (rw (append-nil (counted_to l n)) at b)))
  go rest false q b = last rest q b (dec_lt j (length (counted_to l n)))

-- What goes along the counted places, one after the other, goes along all places, where a place without count changes nothing
pub counted_fold : {B : Type 0} (l : U32List) (F : List ℕ → B) (G : ℕ → B) (step : B → ℕ → B)
    → ((is : List ℕ) (i : ℕ) → F (is ++ (i ∷ [])) ≡ step (F is) i) → F [] ≡ G 0
    → ((n : ℕ) → multiplicity_at l n ≡ 0 → G (suc n) ≡ G n) → ((n : ℕ) → multiplicity_at l n ≢ 0 → G (suc n) ≡ step (G n) n)
    → (n : ℕ) → F (counted_to l n) ≡ G n
unfolding counted_to
counted_fold l F G step more none skip take zero = none
counted_fold {B} l F G step more none skip take (suc n) = go (counted_fold l F G step more none skip take n) (eqb (multiplicity_at l n) 0) refl where
  go : F (counted_to l n) ≡ G n → (t : Bool) → eqb (multiplicity_at l n) 0 ≡ t → F (counted_to l n ++ cond t [] (n ∷ [])) ≡ G (suc n)
  go rest true q = ap F (append-nil (counted_to l n)) ∙ rest ∙ sym (skip n (eqb-true (multiplicity_at l n) 0 q))
  go rest false q = more (counted_to l n) n ∙ ap (λ (b : B). step b n) rest ∙ sym (take n (eqb-false (multiplicity_at l n) 0 q))

-- ---- the words of some places in a row

pub words_length : (f : ℕ → U32TableEntry) (is : List ℕ) → length (flat_map (λ i. entry_words (f i)) is) ≡ entry_width * length is
unfolding flat_map
words_length f [] = refl
words_length f (i ∷ is) = length-append (entry_words (f i)) (flat_map (λ j. entry_words (f j)) is) ∙ omega (arith, words_length f is)

pub key_of_words : (f : ℕ → U32TableEntry) (is : List ℕ) (z : Sizes) (ms : List ℕ) (j : ℕ) → j < length is
    → key_at (u32_list z (flat_map (λ i. entry_words (f i)) is) ms) j ≡ f (get_or is j 0)
unfolding key_at flat_map
key_of_words f [] z ms j h = absurd (omega arith)
key_of_words f (i ∷ is) z ms zero h = refl
key_of_words f (i ∷ is) z ms (suc j) h =
    let a : 3 * suc j ≡ suc (suc (suc (3 * j))) = omega arith in
    let b : 3 * suc j + 1 ≡ suc (suc (suc (3 * j + 1))) = omega arith in
    let c : 3 * suc j + 2 ≡ suc (suc (suc (3 * j + 2))) = omega arith in
    rw (b, c, a) (key_of_words f is z ms j (omega arith))

pub map_at : (f : ℕ → ℕ) (is : List ℕ) (j : ℕ) → j < length is → get_or (map f is) j 0 ≡ f (get_or is j 0)
map_at f [] j h = absurd (omega arith)
map_at f (i ∷ is) zero h = refl
map_at f (i ∷ is) (suc j) h = map_at f is j (omega arith)

-- a run of places, as many as a list has, with what stands in the list
pub places_map : {A : Type 0} (g f : ℕ → A) (is : List ℕ) (i : ℕ) → ((j : ℕ) → j < length is → g (i + j) ≡ f (get_or is j 0))
    → map g (places_from i (length is)) ≡ map f is
unfolding places_from
places_map g f [] i e = refl
places_map {A} g f (x ∷ is) i e =
    ap₂ (λ (y : A) (ys : List A). y ∷ ys) (ap g (sym (add-zero i)) ∙ e 0 (omega arith))
    (places_map g f is (suc i) (λ j h. let n : suc i + j ≡ i + suc j = omega arith in ap g n ∙ e (suc j) (omega arith)))

-- ---- the list of the counted places

module _ (l : U32List) where
  pub counted_used : used (counted l) ≡ length (counted_places l)
  unfolding counted
  counted_used = refl

  pub counted_key : (j : ℕ) → j < length (counted_places l) → key_at (counted l) j ≡ key_at l (get_or (counted_places l) j 0)
  unfolding counted
  counted_key j h =
      key_of_words (key_at l) (counted_places l) (record { capacity = length (counted_places l); used = length (counted_places l) })
      (map (multiplicity_at l) (counted_places l)) j h

  pub counted_entry : (j : ℕ) → j < length (counted_places l) → entry_at (counted l) j ≡ entry_at l (get_or (counted_places l) j 0)
  counted_entry j h = entry_at_key (counted l) j ∙ ap admitted (counted_key j h) ∙ sym (entry_at_key l (get_or (counted_places l) j 0))

  pub counted_count : (j : ℕ) → j < length (counted_places l) → multiplicity_at (counted l) j ≡ multiplicity_at l (get_or (counted_places l) j 0)
  unfolding counted multiplicity_at
  counted_count j h = map_at (multiplicity_at l) (counted_places l) j h

  pub counted_shaped : Shaped l → Shaped (counted l)
  unfolding counted
  counted_shaped s = record {
    small = omega (arith, counted_at_most l (used l), s.within, s.small);
    within = omega arith;
    keys = words_length (key_at l) (counted_places l);
    multiplicities = length-map (counted_places l) (multiplicity_at l);
  }

  pub counted_admitted : ListAdmitted l → ListAdmitted (counted l)
  counted_admitted a = record {
    shape = counted_shaped a.shape;
    entry = λ i h.
        let b : i < length (counted_places l) = rw counted_used at h in
        rw (counted_key i b) (a.entry (get_or (counted_places l) i 0) (counted_each l (used l) i b).0);
    multiplicity = λ i h.
        let b : i < length (counted_places l) = rw counted_used at h in
        rw (counted_count i b) (a.multiplicity (get_or (counted_places l) i 0) (counted_each l (used l) i b).0);
  }

  -- ---- its entries and its height

  pub counted_entries : section_entries (counted l) ≡ map (entry_at l) (counted_places l)
  counted_entries =
      section_entries_map (counted l)
      ∙ ap (λ (n : ℕ). map (entry_at (counted l)) (places n)) counted_used
      ∙ places_map (entry_at (counted l)) (entry_at l) (counted_places l) 0 (λ j h. ap (entry_at (counted l)) (zero-add j) ∙ counted_entry j h)

  pub counted_height : list_height (counted l) ≡ sum_heights (map (entry_at l) (counted_places l))
  unfolding list_height
  counted_height = ap sum_heights counted_entries

  pub counted_few : used (counted l) ≤ used l
  counted_few = omega (arith, counted_used, counted_at_most l (used l))

  pub fine_counted : judge_list l ≡ Fine → judge_list (counted l) ≡ Fine
  fine_counted e = admitted_fine (counted l) (counted_admitted (list_admitted l e))

  -- none of its multiplicities is 0
  pub counted_not_zero : (j : ℕ) → j < used (counted l) → multiplicity_at (counted l) j ≢ 0
  counted_not_zero j h e =
      let b : j < length (counted_places l) = rw counted_used at h in
      (counted_each l (used l) j b).1 (sym (counted_count j b) ∙ e)

-- ---- no multiplicity is 0: every used place is counted

pub counted_to_all : (l : U32List) (n : ℕ) → ((i : ℕ) → i < n → multiplicity_at l i ≢ 0) → counted_to l n ≡ places n
unfolding places_from
counted_to_all l zero f = counted_none l
counted_to_all l (suc n) f =
    counted_more l n (f n (omega arith)) ∙ ap (λ (ps : List ℕ). ps ++ (n ∷ [])) (counted_to_all l n (λ i h. f i (omega arith))) ∙ places_more n

get_d_places : (i n j : ℕ) → j < n → get_or (places_from i n) j 0 ≡ i + j
unfolding places_from
get_d_places i zero j h = absurd (omega arith)
get_d_places i (suc n) zero h = sym (add-zero i)
get_d_places i (suc n) (suc j) h = let d : suc i + j ≡ i + suc j = omega arith in get_d_places (suc i) n j (omega arith) ∙ d

module _ (l : U32List) (f : (i : ℕ) → i < used l → multiplicity_at l i ≢ 0) where
  all_places : counted_places l ≡ places (used l)
  all_places = counted_to_all l (used l) f

  place_is : (j : ℕ) → j < used l → get_or (counted_places l) j 0 ≡ j
  place_is j h = ap (λ (ps : List ℕ). get_or ps j 0) all_places ∙ get_d_places 0 (used l) j h ∙ zero-add j

  all_length : length (counted_places l) ≡ used l
  all_length = ap (λ (ps : List ℕ). length ps) all_places ∙ length_places 0 (used l)

  pub all_used : used (counted l) ≡ used l
  all_used = counted_used l ∙ all_length

  pub all_entry : (j : ℕ) → j < used l → entry_at (counted l) j ≡ entry_at l j
  all_entry j h = counted_entry l j (omega (arith, all_length)) ∙ ap (entry_at l) (place_is j h)

  pub all_count : (j : ℕ) → j < used l → multiplicity_at (counted l) j ≡ multiplicity_at l j
  all_count j h = counted_count l j (omega (arith, all_length)) ∙ ap (multiplicity_at l) (place_is j h)

  pub all_entries : section_entries (counted l) ≡ section_entries l
  all_entries = counted_entries l ∙ ap (map (entry_at l)) all_places ∙ sym (section_entries_map l)

  pub all_height : list_height (counted l) ≡ list_height l
  unfolding list_height
  all_height = ap sum_heights all_entries

-- ---- counting twice

flat_of : (f : ℕ → U32TableEntry) (is : List ℕ) → flat_map (λ i. entry_words (f i)) is ≡ flat_map entry_words (map f is)
unfolding flat_map
flat_of f [] = refl
flat_of f (i ∷ is) = ap (λ (ws : List ℕ). entry_words (f i) ++ ws) (flat_of f is)

counted_is : (l : U32List)
    → counted l
    ≡ u32_list (record { capacity = length (counted_places l); used = length (counted_places l) })
    (flat_map (λ i. entry_words (key_at l i)) (counted_places l))
    (map (multiplicity_at l) (counted_places l))
unfolding counted
counted_is l = refl

same_list : {m n : ℕ} {ks js ms ns : List ℕ} → m ≡ n → ks ≡ js → ms ≡ ns
    → u32_list (record { capacity = m; used = m }) ks ms ≡ u32_list (record { capacity = n; used = n }) js ns
same_list a b c = rw (a, b, c) refl

module _ (l : U32List) where
  again_places : counted_places (counted l) ≡ places (length (counted_places l))
  again_places = counted_to_all (counted l) (used (counted l)) (counted_not_zero l) ∙ ap (λ (n : ℕ). places n) (counted_used l)

  again_count : length (counted_places (counted l)) ≡ length (counted_places l)
  again_count = ap (λ (ps : List ℕ). length ps) again_places ∙ length_places 0 (length (counted_places l))

  again_keys : flat_map (λ i. entry_words (key_at (counted l) i)) (counted_places (counted l)) ≡ flat_map (λ i. entry_words (key_at l i)) (counted_places l)
  again_keys =
      flat_of (key_at (counted l)) (counted_places (counted l))
      ∙ ap (λ (ps : List ℕ). flat_map entry_words (map (key_at (counted l)) ps)) again_places
      ∙ ap (λ (es : List U32TableEntry). flat_map entry_words es)
      (places_map (key_at (counted l)) (key_at l) (counted_places l) 0 (λ j h. ap (key_at (counted l)) (zero-add j) ∙ counted_key l j h))
      ∙ sym (flat_of (key_at l) (counted_places l))

  again_counts : map (multiplicity_at (counted l)) (counted_places (counted l)) ≡ map (multiplicity_at l) (counted_places l)
  again_counts =
      ap (λ (ps : List ℕ). map (multiplicity_at (counted l)) ps) again_places
      ∙ places_map (multiplicity_at (counted l)) (multiplicity_at l) (counted_places l) 0
      (λ j h. ap (multiplicity_at (counted l)) (zero-add j) ∙ counted_count l j h)

  -- the list of the counted places leaves nothing out
  pub counted_counted : counted (counted l) ≡ counted l
  counted_counted = counted_is (counted l) ∙ same_list again_count again_keys again_counts ∙ sym (counted_is l)
