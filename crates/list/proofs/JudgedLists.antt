-- What it tells that a list is judged fine, and its height place by place.
--   shaped, shape_fine: the shape test finds nothing exactly where sizes and lengths fit together.
--   list_admitted, admitted_fine: the judge finds nothing exactly where the shape is right and the entry and the multiplicity at every
--   used place are.
--   height_more: one place more adds its entry's height; so a list that is judged fine has at most 33 rows for
--   each used place (list_height_bound).
--   limit_is: the limit of multiplicities is p − 1.
-- Assumes nothing.
use Prim.Native.Nat.{ℕ, zero, suc, ◌+◌, ◌*◌, ◌-◌, ◌≤◌, ◌<◌}
use mathlib.Core.Path.{◌≡◌, refl, sym, ap, ◌∙◌}
use mathlib.Core.Bool.{Bool, true, false, not}
use mathlib.Core.List.{List, [], ◌∷◌, ◌++◌}
use mathlib.Core.Logic.{⊎_elim}
use native.Mathlib.Nat.{add_assoc, add-zero, zero-add, le_refl, eq-or-lt_of_le}
use native.Mathlib.Omega.{arith}
use lib.Dec.{eqb, ltb}
use lib.ListN.{length}
use borrow.Author.Tests.{ltb-true, ltb-false, eqb-true, not-false, lt-ltb, le-ltb, eq-eqb}
use Rattle.std.proofs.lemmas.Bool.{or_parts}
use Rattle.field.specs.Elements.{p}
use Rattle.words.specs.Limits.{max_places, multiplicity_limit}
use Rattle.words.specs.Refusals.{first_reason, Judgement, Fine, Declined}
use Rattle.words.specs.declared.Refusal.{Refusal}
use Rattle.words.specs.declared.Refusal.TheVariants.{Shape, CountFull}
use Rattle.words.specs.Places.{places_from, places}
use Rattle.words.proofs.Places.{places_more}
use Rattle.words.proofs.Judgements.{decline_true, decline_false, decline_fine, or_next, or_first, or_both, first_fine, first_none}
use Rattle.isa.specs.declared.U32TableEntry.{U32TableEntry}
use Rattle.std.specs.Prelude.{Ok, Err}
use Rattle.isa.specs.Entries.{Admission, entry_width, judge_entry, admitted, admission, admit, height}
use Rattle.isa.proofs.Entries.{Admissible, fine_admissible, admission_admitted, admission_refused, admit_admitted, admit_refused, height_admitted}
use Rattle.list.specs.Lists.{U32List, capacity, used, key_at, multiplicity_at, entry_at, list_shape, count_full, judge_entry_by, judge_place_by, judge_place, judge_list}
use Rattle.list.specs.Heights.{entries_at, section_entries, sum_heights, list_height}
use Rattle.list.specs.Heights.{judged_as, judged_places, judged_list}

-- ---- the shape

pub record Shaped (l : U32List) : Type 0 where
  pub small : capacity l ≤ max_places
  pub within : used l ≤ capacity l
  pub keys : length l.keys ≡ entry_width * capacity l
  pub multiplicities : length l.multiplicities ≡ capacity l

pub shaped : (l : U32List) → list_shape l ≡ Fine → Shaped l
unfolding list_shape
shaped l e =
    let a = or_parts (ltb max_places (capacity l)) _ (decline_fine _ Shape e) in
    let b = or_parts (ltb (capacity l) (used l)) _ a.1 in
    let d = or_parts (not (eqb (length l.keys) (entry_width * capacity l))) _ b.1 in
    record {
      small = ltb-false max_places (capacity l) a.0;
      within = ltb-false (capacity l) (used l) b.0;
      keys = eqb-true _ _ (not-false _ d.0);
      multiplicities = eqb-true _ _ (not-false _ d.1);
    }

pub shape_fine : (l : U32List) → Shaped l → list_shape l ≡ Fine
unfolding list_shape
shape_fine l h =
    simp (
      le-ltb max_places (capacity l) h.small,
      le-ltb (capacity l) (used l) h.within,
      eq-eqb _ _ h.keys,
      eq-eqb _ _ h.multiplicities,
    )

-- ---- what an answer of `admit` tells of the entry e that it was asked of

pub admitted_told : {e asked x : U32TableEntry} {answer : Admission}
    → asked ≡ e → answer ≡ admit asked → answer ≡ Ok x → (judge_entry e ≡ Fine) × (x ≡ admitted e)
admitted_told {e} {asked} at told is = rw (← at) (admit_admitted asked (sym told ∙ is))

pub refused_told : {e asked : U32TableEntry} {k : Refusal} {answer : Admission}
    → asked ≡ e → answer ≡ admit asked → answer ≡ Err k → judge_entry e ≡ Declined k
refused_told {e} {asked} at told is = rw (← at) (admit_refused asked (sym told ∙ is))

-- the same by either rule
pub admitted_told_by : (stored : Bool) {e asked x : U32TableEntry} {answer : Admission} → asked ≡ e
    → answer ≡ admission (judge_entry_by stored asked) asked → answer ≡ Ok x → (judge_entry_by stored e ≡ Fine) × (x ≡ admitted e)
admitted_told_by stored {e} {asked} at told is = rw (← at) (admission_admitted asked (judge_entry_by stored asked) (sym told ∙ is))

pub refused_told_by : (stored : Bool) {e asked : U32TableEntry} {k : Refusal} {answer : Admission} → asked ≡ e
    → answer ≡ admission (judge_entry_by stored asked) asked → answer ≡ Err k → judge_entry_by stored e ≡ Declined k
refused_told_by stored {e} {asked} at told is = rw (← at) (admission_refused asked (judge_entry_by stored asked) (sym told ∙ is))

-- ---- one place

-- "The limit becomes p − 1"
pub limit_is : multiplicity_limit ≡ p - 1
limit_is = refl

pub not_full : (m : ℕ) → m ≤ multiplicity_limit → count_full m ≡ false
unfolding count_full
not_full m h = le-ltb multiplicity_limit m h

pub count_within : (m : ℕ) → count_full m ≡ false → m ≤ multiplicity_limit
unfolding count_full
count_within m e = ltb-false multiplicity_limit m e

pub full_more : (m : ℕ) → count_full m ≡ true → count_full (m + 1) ≡ true
unfolding count_full
full_more m e = let h = ltb-true multiplicity_limit m e in lt-ltb multiplicity_limit (m + 1) (omega arith)

module _ (stored : Bool) (l : U32List) (i : ℕ) where
  pub place_refused : {k : Refusal} → judge_entry_by stored (key_at l i) ≡ Declined k → judge_place_by stored l i ≡ Declined k
  unfolding judge_place_by
  place_refused e = or_first _ e

  module _ (fine : judge_entry_by stored (key_at l i) ≡ Fine) where
    pub place_full : count_full (multiplicity_at l i) ≡ true → judge_place_by stored l i ≡ Declined CountFull
    unfolding judge_place_by
    place_full m = or_next _ fine ∙ decline_true CountFull m

    pub place_fine : count_full (multiplicity_at l i) ≡ false → judge_place_by stored l i ≡ Fine
    unfolding judge_place_by
    place_fine m = or_next _ fine ∙ decline_false CountFull m

  pub place_told : judge_place_by stored l i ≡ Fine → (judge_entry_by stored (key_at l i) ≡ Fine) × (multiplicity_at l i ≤ multiplicity_limit)
  unfolding judge_place_by
  place_told e =
      let a = or_both (judge_entry_by stored (key_at l i)) _ e in
      (a.0, count_within _ (decline_fine _ CountFull a.1))

-- ---- the list

-- "A list is admitted when its entries are and no multiplicity is above" the limit, and its shape is right
pub record ListAdmitted (l : U32List) : Type 0 where
  pub shape : Shaped l
  pub entry : (i : ℕ) → i < used l → judge_entry (key_at l i) ≡ Fine
  pub multiplicity : (i : ℕ) → i < used l → multiplicity_at l i ≤ multiplicity_limit

pub list_admitted : (l : U32List) → judge_list l ≡ Fine → ListAdmitted l
unfolding judge_list judge_entry_by
list_admitted l e =
    let a = or_both (list_shape l) _ e in
    record { shape = shaped l a.0; entry = λ i h. (place a.1 i h).0; multiplicity = λ i h. (place a.1 i h).1 }
  where
    place : first_reason (judge_place l) 0 (used l) ≡ Fine → (i : ℕ) → i < used l
        → (judge_entry (key_at l i) ≡ Fine) × (multiplicity_at l i ≤ multiplicity_limit)
    place f i h = place_told false l i (first_fine (judge_place l) 0 (used l) f i (omega arith) (omega arith))

pub admitted_fine : (l : U32List) → ListAdmitted l → judge_list l ≡ Fine
unfolding judge_list judge_entry_by
admitted_fine l h =
    or_next _ (shape_fine l h.shape)
    ∙ first_none (judge_place l) 0 (used l) (λ i a b. place_fine false l i (h.entry i (omega arith)) (not_full _ (h.multiplicity i (omega arith))))

-- ---- the list judged

pub judged_shape : (l : U32List) {k : Refusal} → list_shape l ≡ Declined k → judged_list l ≡ Err k
unfolding judged_list judge_list
judged_shape l e = rw e

-- the shape is right: what is left is its used places
pub judged_places_lem : (l : U32List) → list_shape l ≡ Fine → judged_list l ≡ judged_places false l
unfolding judged_list judge_list judged_places
judged_places_lem l e = rw e

module _ (stored : Bool) (l : U32List) where
  pub places_declined : {k : Refusal} → first_reason (judge_place_by stored l) 0 (used l) ≡ Declined k → judged_places stored l ≡ Err k
  unfolding judged_places
  places_declined e = rw e

  pub places_fine : first_reason (judge_place_by stored l) 0 (used l) ≡ Fine → judged_places stored l ≡ Ok (list_height l)
  unfolding judged_places
  places_fine e = rw e

-- ---- what an answer of `judge_list` or `judge_places` tells

pub judged_as_height : (j : Judgement) (n h : ℕ) → Ok h ≡ judged_as j n → (j ≡ Fine) × (h ≡ n)
judged_as_height Fine n h e = (refl, cc)
judged_as_height (Declined k) n h e = absurd (let z : ◌≡◌ {A = ℕ} 0 1 = cc in omega arith)

pub judged_as_refused : (j : Judgement) (n : ℕ) (k : Refusal) → Err k ≡ judged_as j n → j ≡ Declined k
judged_as_refused Fine n k e = absurd (let z : ◌≡◌ {A = ℕ} 0 1 = cc in omega arith)
judged_as_refused (Declined r) n k e = cc

pub places_height : (stored : Bool) (l : U32List) (h : ℕ)
    → Ok h ≡ judged_places stored l → (first_reason (judge_place_by stored l) 0 (used l) ≡ Fine) × (h ≡ list_height l)
unfolding judged_places
places_height stored l h e = judged_as_height (first_reason (judge_place_by stored l) 0 (used l)) (list_height l) h e

pub places_refused : (stored : Bool) (l : U32List) (k : Refusal)
    → Err k ≡ judged_places stored l → first_reason (judge_place_by stored l) 0 (used l) ≡ Declined k
unfolding judged_places
places_refused stored l k e = judged_as_refused (first_reason (judge_place_by stored l) 0 (used l)) (list_height l) k e

pub judged_height : (l : U32List) (h : ℕ) → Ok h ≡ judged_list l → (judge_list l ≡ Fine) × (h ≡ list_height l)
unfolding judged_list
judged_height l h e = judged_as_height (judge_list l) (list_height l) h e

pub judged_refused : (l : U32List) (k : Refusal) → Err k ≡ judged_list l → judge_list l ≡ Declined k
unfolding judged_list
judged_refused l k e = judged_as_refused (judge_list l) (list_height l) k e

-- ---- the height, place by place

-- the entries at the first n places, and the sum of their heights
unfoldable pub entries_to : U32List → ℕ → List U32TableEntry
entries_to l n = entries_at l (places n)

unfoldable pub height_to : U32List → ℕ → ℕ
height_to l n = sum_heights (entries_to l n)

entries_append : (l : U32List) (is js : List ℕ) → entries_at l (is ++ js) ≡ entries_at l is ++ entries_at l js
unfolding entries_at
entries_append l [] js = refl
entries_append l (i ∷ is) js = ap (λ (es : List U32TableEntry). entry_at l i ∷ es) (entries_append l is js)

pub sum_append : (es fs : List U32TableEntry) → sum_heights (es ++ fs) ≡ sum_heights es + sum_heights fs
unfolding sum_heights
sum_append [] fs = sym (zero-add _)
sum_append (e ∷ es) fs = ap (λ (n : ℕ). height e + n) (sum_append es fs) ∙ sym (add_assoc (height e) _ _)

pub entries_more : (l : U32List) (n : ℕ) → entries_to l (suc n) ≡ entries_to l n ++ (entry_at l n ∷ [])
unfolding entries_to entries_at
entries_more l n = ap (entries_at l) (sym (places_more n)) ∙ entries_append l (places n) (n ∷ [])

pub height_more : (l : U32List) (n : ℕ) → height_to l (suc n) ≡ height_to l n + height (entry_at l n)
unfolding height_to sum_heights
height_more l n =
    ap sum_heights (entries_more l n) ∙ sum_append (entries_to l n) (entry_at l n ∷ []) ∙ ap (λ (m : ℕ). height_to l n + m) (add-zero _)

pub height_none : (l : U32List) → height_to l 0 ≡ 0
unfolding height_to entries_to places_from entries_at sum_heights
height_none l = refl

pub section_entries_lem : (l : U32List) → section_entries l ≡ entries_to l (used l)
unfolding entries_to
section_entries_lem l = refl

pub list_height_lem : (l : U32List) → list_height l ≡ height_to l (used l)
unfolding list_height height_to entries_to
list_height_lem l = refl

height_step : (l : U32List) (n : ℕ) → height_to l n ≤ height_to l (suc n)
height_step l n = omega (arith, height_more l n)

-- the rows of the first m places are among those of the first n
pub height_to_mono : (l : U32List) (m n : ℕ) → m ≤ n → height_to l m ≤ height_to l n
height_to_mono l m zero h = let e : m ≡ 0 = omega arith in rw e (le_refl _)
height_to_mono l m (suc n) h =
    ⊎_elim
    (λ (e : m ≡ suc n). rw e (le_refl _))
    (λ (k : m < suc n). omega (arith, height_to_mono l m n (omega arith), height_step l n))
    (eq-or-lt_of_le h)

-- ---- how high a list can be

pub entry_admissible : (l : U32List) → judge_list l ≡ Fine → (i : ℕ) → i < used l → Admissible (entry_at l i)
unfolding entry_at
entry_admissible l e i h = fine_admissible (key_at l i) ((list_admitted l e).entry i h)

height_to_bound : (l : U32List) (n : ℕ) → ((i : ℕ) → i < n → judge_entry (key_at l i) ≡ Fine) → height_to l n ≤ 33 * n
unfolding entry_at
height_to_bound l zero f = omega (arith, height_none l)
height_to_bound l (suc n) f =
    omega (
      arith,
      height_more l n,
      height_admitted (key_at l n) (f n (omega arith)),
      height_to_bound l n (λ i h. f i (omega arith)),
    )

pub list_height_bound : (l : U32List) → judge_list l ≡ Fine → list_height l ≤ 33 * used l
list_height_bound l e = omega (arith, list_height_lem l, height_to_bound l (used l) (list_admitted l e).entry)

-- 33 rows for each of 2,048 places
pub list_height_small : (l : U32List) → judge_list l ≡ Fine → list_height l ≤ 67584
list_height_small l e = let s = (list_admitted l e).shape in omega (arith, list_height_bound l e)
