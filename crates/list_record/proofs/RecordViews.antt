-- A recording or a hold by what it does to the places of a list: an accepted one raises the count or the holds of the place that has the key, or appends
-- the key (record_view). So an accepted run of recordings keeps a list admitted (each_keeps_admitted) and leaves no hold open where none was
-- (each_keeps_closed), all its entries are admitted (each_entry), and what holds of them and of the keys before holds of the keys afterwards
-- (each_key). Assumes nothing.
use Prim.Native.Nat.{ℕ, ◌+◌, ◌≤◌, ◌<◌}
use mathlib.Core.Path.{◌≡◌, refl, sym, ap, ◌∙◌, subst}
use mathlib.Core.Bool.{Bool, true, false}
use mathlib.Core.List.{List, [], ◌∷◌}
use native.Mathlib.Omega.{arith}
use native.Mathlib.Numerals.{add-one}
use lib.Seq.{get_or-set_same}
use borrow.Author.Tests.{ltb-true}
use Rattle.words.specs.Limits.{multiplicity_limit}
use Rattle.words.specs.Outcomes.{Outcome}
use Rattle.words.specs.Refusals.{Fine}
use Rattle.words.specs.declared.Refusal.TheVariants.{CountFull, ListFull}
use Rattle.words.proofs.Judgements.{decline_fine, decline_not_fine, or_both}
use Rattle.words.proofs.Outcomes.{outcome_done}
use Rattle.isa.specs.declared.U32TableEntry.{U32TableEntry}
use Rattle.isa.specs.Entries.{judge_as_it_is, judge_entry, admitted}
use Rattle.isa.proofs.Entries.{admitted_again}
use Rattle.list.specs.Lists.{capacity, used, multiplicity_at, entry_at}
use Rattle.list.specs.Holds.{HeldList, hold_at, held_shape, open_hold}
use Rattle.list.proofs.Finding.{same_key_equal, find_holds}
use Rattle.list.proofs.JudgedLists.{Shaped, ListAdmitted, count_within}
use Rattle.list.proofs.HeldLists.{HeldShaped, held_shaped, no_hold, closed}
use Rattle.list_record.specs.Recording.{place_in, known, place_reason, record_reason, settled, appended, recorded_into, record_with}
use Rattle.list_record.specs.Recording.{record_all, record_each}
use Rattle.list_record.proofs.RecordEach.{number_of, each_first}
use Rattle.list_record.proofs.OneKey.{found_known, recorded_left}
use Rattle.list_record.proofs.Stores.{settled_entry, settled_count, settled_hold, settled_shaped}
use Rattle.list_record.proofs.Stores.{appended_entry, appended_count, appended_hold, appended_shaped, new_entry}
use Rattle.list_record.proofs.Views.{View, Changed, Appended, Recorded, EachPlace, recorded_each}

unfoldable pub view_of : HeldList → View
view_of h = record { used = used h.list; key = entry_at h.list; count = multiplicity_at h.list; hold = hold_at h }

-- ---- the two stores

pub settled_view : (h : HeldList) (i c g : ℕ) → HeldShaped h → i < used h.list → Changed (view_of h) (view_of (settled h i c g)) i c g
unfolding view_of multiplicity_at hold_at
settled_view h i c g s b = record {
  same_used = refl;
  keys = λ j k. settled_entry h i c g j;
  inside = b;
  count_here = get_or-set_same h.list.multiplicities i c 0 (omega (arith, s.list.within, s.list.multiplicities));
  hold_here = get_or-set_same h.holds i g 0 (omega (arith, s.list.within, s.holds));
  count_there = λ j k n. settled_count h i c g j n;
  hold_there = λ j k n. settled_hold h i c g j n;
}

pub appended_view : (c g : ℕ) (h : HeldList) (e : U32TableEntry) → HeldShaped h → used h.list < capacity h.list
    → Appended (view_of h) (view_of (appended c g h e)) (admitted e) c g
unfolding view_of multiplicity_at hold_at
appended_view c g h e s room = record {
  more_used = add-one (used h.list);
  keys = λ j b. appended_entry c g h e j b;
  key_new = new_entry c g h e s.list room;
  count_new = get_or-set_same h.list.multiplicities (used h.list) c 0 (omega (arith, s.list.multiplicities));
  hold_new = get_or-set_same h.holds (used h.list) g 0 (omega (arith, s.holds));
  count_old = λ j b. appended_count c g h e j b;
  hold_old = λ j b. appended_hold c g h e j b;
}

-- ---- an accepted recording or hold

-- nothing speaks against it
pub record Accepted (h : HeldList) (e : U32TableEntry) : Type 0 where
  pub reason : record_reason h e ≡ Fine
  pub shape : held_shape h ≡ Fine
  pub entry : judge_entry e ≡ Fine
  pub place : place_reason h (admitted e) ≡ Fine

module _ (count hold : ℕ) (h : HeldList) (e : U32TableEntry) (z : number_of (record_with count hold h e) ≡ 0) where
  pub accepted : Accepted h e
  unfolding record_with record_reason
  accepted =
      let q = outcome_done (record_reason h e) (place_in h (admitted e) ∷ []) h (recorded_into count hold h (admitted e)) z in
      let a = or_both (held_shape h) _ q in
      let b = or_both (judge_entry e) _ a.1 in
      record { reason = q; shape = a.0; entry = b.0; place = b.1 }

  has_room : known h (admitted e) ≡ false → used h.list < capacity h.list
  unfolding place_reason
  has_room k = ltb-true (used h.list) (capacity h.list) (decline_not_fine _ ListFull (rw k at accepted.place))

  pub record_view : Recorded count hold (view_of h) (view_of (record_with count hold h e).left) (admitted e)
  unfolding view_of place_reason
  record_view = subst (λ (m : HeldList). Recorded count hold (view_of h) (view_of m) (admitted e)) (sym (recorded_left count hold h e accepted.reason)) (go (known h (admitted e)) refl) where
    s : HeldShaped h
    s = held_shaped h accepted.shape

    go : (t : Bool) → known h (admitted e) ≡ t → Recorded count hold (view_of h) (view_of (recorded_into count hold h (admitted e))) (admitted e)
    go true k =
        let at = place_in h (admitted e) in
        let b = ltb-true (place_in h (admitted e)) (used h.list) k in
        rw k (Recorded.gains at
        (same_key_equal (entry_at h.list at) (admitted e) (find_holds h.list (admitted e) b))
        (count_within _ (decline_fine _ CountFull (rw k at accepted.place)))
        (settled_view h at (multiplicity_at h.list at + count) (hold_at h at + hold) s b))
    go false k =
        rw k (Recorded.appends
        (λ i b q. let t = found_known h (admitted e) i b q in absurd (let z : ◌≡◌ {A = ℕ} 0 1 = cc in omega arith))
        (subst (λ (x : U32TableEntry). Appended (view_of h) (view_of (appended count hold h (admitted e))) x count hold)
        (admitted_again e accepted.entry)
        (appended_view count hold h (admitted e) s (has_room k))))

  pub record_shaped : HeldShaped (record_with count hold h e).left
  record_shaped = subst HeldShaped (sym (recorded_left count hold h e accepted.reason)) (go (known h (admitted e)) refl) where
    s : HeldShaped h
    s = held_shaped h accepted.shape

    go : (t : Bool) → known h (admitted e) ≡ t → HeldShaped (recorded_into count hold h (admitted e))
    go true k = rw k (settled_shaped h (place_in h (admitted e)) _ _ s)
    go false k = rw k (appended_shaped count hold h (admitted e) s (has_room k))

-- ---- what is admitted stays so

-- a key as admission hands it back is judged as it is, and its count is within the limit
abbrev pub PlaceAdmitted : U32TableEntry → ℕ → ℕ → Type 0
PlaceAdmitted k c g = (judge_as_it_is k ≡ Fine) × (c ≤ multiplicity_limit)

pub admitted_places : (h : HeldList) → ListAdmitted h.list → EachPlace PlaceAdmitted (view_of h)
unfolding view_of judge_entry entry_at
admitted_places h a i b = (a.entry i b, a.multiplicity i b)

pub places_admitted : (h : HeldList) → Shaped h.list → EachPlace PlaceAdmitted (view_of h) → ListAdmitted h.list
unfolding view_of judge_entry entry_at
places_admitted h s each = record { shape = s; entry = λ i b. (each i b).0; multiplicity = λ i b. (each i b).1 }

pub record_keeps_admitted : (count hold : ℕ) (h : HeldList) (e : U32TableEntry) → count ≤ 1 → number_of (record_with count hold h e) ≡ 0
    → ListAdmitted h.list → ListAdmitted (record_with count hold h e).left.list
unfolding judge_entry
record_keeps_admitted count hold h e one z a =
    let fine = (accepted count hold h e z).entry in
    places_admitted (record_with count hold h e).left (record_shaped count hold h e z).list
    (recorded_each PlaceAdmitted (record_view count hold h e z) (admitted_places h a) (λ c g p m. (fine, omega arith)) (fine, omega arith))

-- no used place has a hold
abbrev pub PlaceClosed : U32TableEntry → ℕ → ℕ → Type 0
PlaceClosed k c g = g ≡ 0

pub closed_places : (h : HeldList) → open_hold h ≡ Fine → EachPlace PlaceClosed (view_of h)
unfolding view_of
closed_places h q i b = no_hold h q i b

pub places_closed : (h : HeldList) → EachPlace PlaceClosed (view_of h) → open_hold h ≡ Fine
unfolding view_of
places_closed h each = closed h each

-- ---- recordings one after the other, all accepted

-- what holds of every entry
abbrev pub EachEntry : (U32TableEntry → Type 0) → List U32TableEntry → Type 0
EachEntry P [] = Unit {0}
EachEntry P (e ∷ es) = P e × EachEntry P es

abbrev left_of : Outcome HeldList → HeldList
left_of o = o.left

pub each_shaped : (h : HeldList) (es : List U32TableEntry) → number_of (record_each h es) ≡ 0 → HeldShaped h → HeldShaped (record_each h es).left
unfolding record_each
each_shaped h [] z s = s
each_shaped h (e ∷ es) z s =
    let first = each_first h e es z in
    rw (ap left_of first.1) (each_shaped (record_all h e).left es (sym (ap number_of first.1) ∙ z) (record_shaped 1 0 h e first.0))

pub each_keeps_admitted : (h : HeldList) (es : List U32TableEntry) → number_of (record_each h es) ≡ 0 → ListAdmitted h.list
    → ListAdmitted (record_each h es).left.list
unfolding record_each
each_keeps_admitted h [] z a = a
each_keeps_admitted h (e ∷ es) z a =
    let first = each_first h e es z in
    rw (ap left_of first.1)
    (each_keeps_admitted (record_all h e).left es (sym (ap number_of first.1) ∙ z) (record_keeps_admitted 1 0 h e (omega arith) first.0 a))

pub each_entry : (h : HeldList) (es : List U32TableEntry) → number_of (record_each h es) ≡ 0 → EachEntry (λ e. judge_entry e ≡ Fine) es
each_entry h [] z = tt
each_entry h (e ∷ es) z =
    let first = each_first h e es z in
    ((accepted 1 0 h e first.0).entry, each_entry (record_all h e).left es (sym (ap number_of first.1) ∙ z))

pub each_key : (P : U32TableEntry → Type 0) (h : HeldList) (es : List U32TableEntry) → number_of (record_each h es) ≡ 0
    → EachPlace (λ k c g. P k) (view_of h) → EachEntry (λ e. P (admitted e)) es → EachPlace (λ k c g. P k) (view_of (record_each h es).left)
unfolding record_each
each_key P h [] z each new = each
each_key P h (e ∷ es) z each new =
    let first = each_first h e es z in
    rw (ap left_of first.1)
    (each_key P (record_all h e).left es (sym (ap number_of first.1) ∙ z)
    (recorded_each (λ k c g. P k) (record_view 1 0 h e first.0) each (λ c g p m. p) new.0) new.1)

pub each_keeps_closed : (h : HeldList) (es : List U32TableEntry) → number_of (record_each h es) ≡ 0 → EachPlace PlaceClosed (view_of h)
    → EachPlace PlaceClosed (view_of (record_each h es).left)
unfolding record_each
each_keeps_closed h [] z each = each
each_keeps_closed h (e ∷ es) z each =
    let first = each_first h e es z in
    rw (ap left_of first.1)
    (each_keeps_closed (record_all h e).left es (sym (ap number_of first.1) ∙ z)
    (recorded_each PlaceClosed (record_view 1 0 h e first.0) each (λ c g p m. omega arith) refl))
