-- Two entries of different opcodes, one recorded after the other. Storing the first changes neither the second's key nor its multiplicity; only where
-- both keys are new does the second find one unused place fewer. So its place is known before the first is stored (both_places), and from that the
-- three ways of recording both: the first refused, the second refused, both stored. Assumes nothing.
use Prim.Native.Nat.{ℕ, ◌+◌, ◌≤◌, ◌<◌}
use mathlib.Core.Path.{◌≡◌, refl, sym, ap, ◌∙◌}
use mathlib.Core.Bool.{Bool, true, false}
use mathlib.Core.List.{[], ◌∷◌}
use mathlib.Core.Logic.{◌≢◌}
use native.Mathlib.Omega.{arith}
use lib.Dec.{ltb}
use borrow.Author.Tests.{ltb-true, ltb-false, ne_eqb}
use Rattle.std.specs.Prelude.{Ok, Err}
use Rattle.words.specs.Answers.{Answer, done, declined}
use Rattle.words.specs.Outcomes.{Outcome, Leaves}
use Rattle.words.specs.Refusals.{Judgement, Fine, Declined}
use Rattle.words.specs.declared.Refusal.{Refusal}
use Rattle.words.specs.declared.Refusal.TheVariants.{ListFull}
use Rattle.words.proofs.Answers.{declined_not_done}
use Rattle.isa.specs.declared.U32TableEntry.{U32TableEntry}
use Rattle.isa.specs.Entries.{judge_entry, admitted}
use Rattle.isa.proofs.Entries.{opcode_admitted}
use Rattle.list.specs.declared.Sizes.{Sizes}
use Rattle.list.specs.Lists.{capacity, used, multiplicity_at, entry_at, count_full}
use Rattle.list.specs.Keys.{same_key}
use Rattle.list.specs.Holds.{HeldList, hold_at, held_shape}
use Rattle.list.proofs.Finding.{same_key_equal, find_within, find_holds}
use Rattle.list.proofs.HeldLists.{HeldShaped, held_shaped}
use Rattle.list_record.specs.declared.Place.{Place}
use Rattle.list_record.specs.declared.Place.TheVariants.{Known, New}
use Rattle.list_record.specs.Recording.{place_in, known, place_reason, record_reason, raised, appended, record_all}
use Rattle.list_record.specs.Placing.{Placed, place_as, place_of, stored_at, Fits}
use Rattle.list_record.proofs.RecordingCases.{place_known, place_full, place_new, no_place, shape_declined, entry_declined, place_admitted}
use Rattle.list_record.proofs.RecordingCases.{recorded_at, place_fits, record_keeps_shape}
use Rattle.list_record.proofs.RecordEach.{number_of, each_accepted, each_refused}
use Rattle.list_record.proofs.Stores.{settled_find, settled_count, settled_hold, appended_count, appended_hold, new_entry, appended_known, appended_unknown}
use Rattle.list_replay.specs.Together.{second_place}
use Rattle.list_replay.specs.Replay.{record_together}
use Rattle.list_replay.proofs.Walks.{together_done, together_refused, declined_positive}

other_key : (x y : U32TableEntry) → x.opcode ≢ y.opcode → same_key x y ≡ false
unfolding same_key
other_key x y d = rw (ne_eqb x.opcode y.opcode d)

-- ---- the place of an admitted entry, once the key of another opcode gained one, or was appended

abbrev full : HeldList → ℕ → Bool
full h i = count_full (multiplicity_at h.list i + hold_at h i + 1)

same_full : (h m : HeldList) (i : ℕ) → multiplicity_at m.list i ≡ multiplicity_at h.list i → hold_at m i ≡ hold_at h i → full m i ≡ full h i
same_full h m i c d =
    ap (λ (n : ℕ). count_full (n + hold_at m i + 1)) c ∙ ap (λ (n : ℕ). count_full (multiplicity_at h.list i + n + 1)) d

raised_place : (h : HeldList) (a g : U32TableEntry) → a.opcode ≢ g.opcode → place_in h a < used h.list
    → place_as (place_reason (raised 1 0 h (place_in h a)) g) (raised 1 0 h (place_in h a)) g ≡ place_as (place_reason h g) h g
raised_place h a g d at =
    go (ltb (place_in h g) (used h.list)) refl (full h (place_in h g)) refl (ltb (used h.list) (capacity h.list)) refl
  where
    found : place_in h g ≡ place_in (raised 1 0 h (place_in h a)) g
    found = sym (settled_find h (place_in h a) (multiplicity_at h.list (place_in h a) + 1) (hold_at h (place_in h a) + 0) g)

    apart : place_in h g < used h.list → place_in h g ≢ place_in h a
    apart k q =
        d (ap (λ (x : U32TableEntry). x.opcode)
        (sym (same_key_equal (entry_at h.list (place_in h a)) a (find_holds h.list a at)) ∙ ap (entry_at h.list) (sym q)
        ∙ same_key_equal (entry_at h.list (place_in h g)) g (find_holds h.list g k)))

    same : place_in h g < used h.list → full (raised 1 0 h (place_in h a)) (place_in h g) ≡ full h (place_in h g)
    same k =
        same_full h (raised 1 0 h (place_in h a)) (place_in h g)
        (settled_count h (place_in h a) (multiplicity_at h.list (place_in h a) + 1) (hold_at h (place_in h a) + 0) (place_in h g) (apart k))
        (settled_hold h (place_in h a) (multiplicity_at h.list (place_in h a) + 1) (hold_at h (place_in h a) + 0) (place_in h g) (apart k))

    go : (t : Bool) → ltb (place_in h g) (used h.list) ≡ t → (c : Bool) → full h (place_in h g) ≡ c
        → (u : Bool) → ltb (used h.list) (capacity h.list) ≡ u
        → place_as (place_reason (raised 1 0 h (place_in h a)) g) (raised 1 0 h (place_in h a)) g ≡ place_as (place_reason h g) h g
    go true k false c u r =
        let b = ltb-true (place_in h g) (used h.list) k in
        place_known (raised 1 0 h (place_in h a)) g (place_in h g) found b (same b ∙ c) ∙ sym (place_known h g (place_in h g) refl b c)
    go true k true c u r =
        let b = ltb-true (place_in h g) (used h.list) k in
        place_full (raised 1 0 h (place_in h a)) g (place_in h g) found b (same b ∙ c) ∙ sym (place_full h g (place_in h g) refl b c)
    go false k t c true r =
        let b = ltb-false (place_in h g) (used h.list) k in
        let v = ltb-true (used h.list) (capacity h.list) r in
        place_new (raised 1 0 h (place_in h a)) g (place_in h g) found b v ∙ sym (place_new h g (place_in h g) refl b v)
    go false k t c false r =
        let b = ltb-false (place_in h g) (used h.list) k in
        let v = ltb-false (used h.list) (capacity h.list) r in
        no_place (raised 1 0 h (place_in h a)) g (place_in h g) found b v ∙ sym (no_place h g (place_in h g) refl b v)

appended_place : (h : HeldList) (a g : U32TableEntry) → HeldShaped h → used h.list < capacity h.list → (admitted a).opcode ≢ g.opcode
    → place_as (place_reason (appended 1 0 h a) g) (appended 1 0 h a) g ≡ second_place h.list.sizes (Ok (New a)) (place_as (place_reason h g) h g)
appended_place h a g s room d =
    go (ltb (place_in h g) (used h.list)) refl (full h (place_in h g)) refl (ltb (used h.list + 1) (capacity h.list)) refl
  where
    same : place_in h g < used h.list → full (appended 1 0 h a) (place_in h g) ≡ full h (place_in h g)
    same k = same_full h (appended 1 0 h a) (place_in h g) (appended_count 1 0 h a (place_in h g) k) (appended_hold 1 0 h a (place_in h g) k)

    ends : used h.list ≤ place_in h g → place_in (appended 1 0 h a) g ≡ used h.list + 1
    ends k =
        appended_unknown 1 0 h a g (omega (arith, find_within h.list g))
        (other_key (entry_at (appended 1 0 h a).list (used h.list)) g
        (λ q. d (sym (ap (λ (x : U32TableEntry). x.opcode) (new_entry 1 0 h a s.list room)) ∙ q)))

    go : (t : Bool) → ltb (place_in h g) (used h.list) ≡ t → (c : Bool) → full h (place_in h g) ≡ c
        → (u : Bool) → ltb (used h.list + 1) (capacity h.list) ≡ u
        → place_as (place_reason (appended 1 0 h a) g) (appended 1 0 h a) g ≡ second_place h.list.sizes (Ok (New a)) (place_as (place_reason h g) h g)
    go true k false c u r =
        let b = ltb-true (place_in h g) (used h.list) k in
        place_known (appended 1 0 h a) g (place_in h g) (sym (appended_known 1 0 h a g b)) (omega arith) (same b ∙ c)
        ∙ ap (second_place h.list.sizes (Ok (New a))) (sym (place_known h g (place_in h g) refl b c))
    go true k true c u r =
        let b = ltb-true (place_in h g) (used h.list) k in
        place_full (appended 1 0 h a) g (place_in h g) (sym (appended_known 1 0 h a g b)) (omega arith) (same b ∙ c)
        ∙ ap (second_place h.list.sizes (Ok (New a))) (sym (place_full h g (place_in h g) refl b c))
    go false k t c true r =
        let b = ltb-false (place_in h g) (used h.list) k in
        let two : second_place h.list.sizes (Ok (New a)) (Ok (New g)) ≡ Ok (New g) = rw r in
        place_new (appended 1 0 h a) g (used h.list + 1) (sym (ends b)) (omega arith) (ltb-true (used h.list + 1) (capacity h.list) r)
        ∙ sym two ∙ ap (second_place h.list.sizes (Ok (New a))) (sym (place_new h g (place_in h g) refl b room))
    go false k t c false r =
        let b = ltb-false (place_in h g) (used h.list) k in
        let one : second_place h.list.sizes (Ok (New a)) (Ok (New g)) ≡ Err ListFull = rw r in
        no_place (appended 1 0 h a) g (used h.list + 1) (sym (ends b)) (omega arith) (ltb-false (used h.list + 1) (capacity h.list) r)
        ∙ sym one ∙ ap (second_place h.list.sizes (Ok (New a))) (sym (place_new h g (place_in h g) refl b room))

-- ---- the place of any entry

second_refused_stays : (s : Sizes) (first : Placed) (k : Refusal) → second_place s first (Err k) ≡ Err k
second_refused_stays s (Ok (Known i)) k = refl
second_refused_stays s (Ok (New e)) k = refl
second_refused_stays s (Err r) k = refl

-- a reason of the shape or of the entry stays; else the place of the admitted entry decides
after_first : (l m : HeldList) (first : Placed) (f : U32TableEntry) → held_shape m ≡ held_shape l
    → (held_shape l ≡ Fine
    → place_as (place_reason m (admitted f)) m (admitted f) ≡ second_place l.list.sizes first (place_as (place_reason l (admitted f)) l (admitted f)))
    → place_of m f ≡ second_place l.list.sizes first (place_of l f)
after_first l m first f same rest = go (held_shape l) refl (judge_entry f) refl where
  go : (j : Judgement) → held_shape l ≡ j → (i : Judgement) → judge_entry f ≡ i → place_of m f ≡ second_place l.list.sizes first (place_of l f)
  go (Declined k) q i r =
      shape_declined m f (same ∙ q) ∙ sym (second_refused_stays l.list.sizes first k) ∙ ap (second_place l.list.sizes first) (sym (shape_declined l f q))
  go Fine q (Declined k) r =
      entry_declined m f (same ∙ q) r ∙ sym (second_refused_stays l.list.sizes first k)
      ∙ ap (second_place l.list.sizes first) (sym (entry_declined l f q r))
  go Fine q Fine r =
      place_admitted m f (same ∙ q) r ∙ rest q ∙ ap (second_place l.list.sizes first) (sym (place_admitted l f q r))

pub both_places : (l : HeldList) (e f : U32TableEntry) → e.opcode ≢ f.opcode
    → place_of (record_all l e).left f ≡ second_place l.list.sizes (place_of l e) (place_of l f)
unfolding place_of
both_places l e f d = go (record_reason l e) refl where
  apart : (admitted e).opcode ≢ (admitted f).opcode
  apart q = d (sym (opcode_admitted e) ∙ q ∙ opcode_admitted f)

  apart_again : (admitted (admitted e)).opcode ≢ (admitted f).opcode
  apart_again q = apart (sym (opcode_admitted (admitted e)) ∙ q)

  Says : Placed → Type 0
  Says p = place_of (record_all l e).left f ≡ second_place l.list.sizes p (place_of l f)

  leaves : {p : Placed} → place_of l e ≡ p → (record_all l e).left ≡ (stored_at 1 0 l p).left
  leaves q = ap (λ (o : Outcome HeldList). o.left) (recorded_at 1 0 l e) ∙ ap (λ (p : Placed). (stored_at 1 0 l p).left) q

  stored : (p : Placed) → place_of l e ≡ p
      → (held_shape l ≡ Fine → place_as (place_reason (stored_at 1 0 l p).left (admitted f)) (stored_at 1 0 l p).left (admitted f)
      ≡ second_place l.list.sizes p (place_as (place_reason l (admitted f)) l (admitted f)))
      → Says p
  stored p q h =
      ap (λ (m : HeldList). place_of m f) (leaves q)
      ∙ after_first l (stored_at 1 0 l p).left p f (ap held_shape (sym (leaves q)) ∙ record_keeps_shape 1 0 l e) h

  room : HeldShaped l → Fits l (Ok (New (admitted e))) → used l.list < capacity l.list
  room s fits = omega (arith, s.list.multiplicities, fits.1)

  either : (t : Bool) → known l (admitted e) ≡ t → place_of l e ≡ place_as Fine l (admitted e) → Says (place_as Fine l (admitted e))
  either true k q =
      let p : place_as Fine l (admitted e) ≡ Ok (Known (place_in l (admitted e))) = rw k in
      rw p (stored (Ok (Known (place_in l (admitted e)))) (q ∙ p)
      (λ s. raised_place l (admitted e) (admitted f) apart (ltb-true (place_in l (admitted e)) (used l.list) k)))
  either false k q =
      let p : place_as Fine l (admitted e) ≡ Ok (New (admitted e)) = rw k in
      let fits : Fits l (Ok (New (admitted e))) = rw (q ∙ p) at (place_fits l e) in
      rw p (stored (Ok (New (admitted e))) (q ∙ p)
      (λ s. appended_place l (admitted e) (admitted f) (held_shaped l s) (room (held_shaped l s) fits) apart_again))

  go : (j : Judgement) → record_reason l e ≡ j → Says (place_as (record_reason l e) l (admitted e))
  go Fine q = rw q (either (known l (admitted e)) refl (rw q))
  go (Declined k) q =
      let p : place_of l e ≡ Err k = rw q in
      rw q (ap (λ (m : HeldList). place_of m f) (leaves p))

-- ---- both recorded, by the two places

stored_number : (l : HeldList) (p : Place) → number_of (stored_at 1 0 l (Ok p)) ≡ 0
stored_number l (Known i) = refl
stored_number l (New e) = refl

-- a place that is no refusal answers no reason
pub stored_refuses_not : (l : HeldList) (p : Place) (k : Refusal) → declined k ≡ (stored_at 1 0 l (Ok p)).answer → ⊥
stored_refuses_not l (Known i) k e = declined_not_done k e
stored_refuses_not l (New e) k q = declined_not_done k q

fits_as : {h m : HeldList} {p q : Placed} → h ≡ m → p ≡ q → Fits m q → Fits h p
fits_as a b fits = rw (a, b) fits

module _ (l : HeldList) (e f : U32TableEntry) where
  pub first_refused : {k : Refusal} → Err k ≡ place_of l e → Leaves (record_together l (e ∷ f ∷ [])) (declined k) l
  first_refused {k} at =
      let answer : (record_all l e).answer ≡ declined k = ap (λ (o : Outcome HeldList). o.answer) (recorded_at 1 0 l e ∙ ap (stored_at 1 0 l) (sym at)) in
      let not_done : number_of (record_all l e) ≢ 0 = λ z. declined_positive k (sym (ap (λ (a : Answer). a.number) answer) ∙ z) in
      together_refused l (e ∷ f ∷ []) k (ap (λ (o : Outcome HeldList). o.answer) (each_refused l e (f ∷ []) not_done) ∙ answer)

  module _ (differ : e.opcode ≢ f.opcode) (first : Place) (at : Ok first ≡ place_of l e) where
    first_stored : record_all l e ≡ stored_at 1 0 l (Ok first)
    first_stored = recorded_at 1 0 l e ∙ ap (stored_at 1 0 l) (sym at)

    first_done : number_of (record_all l e) ≡ 0
    first_done = ap number_of first_stored ∙ stored_number l first

    -- what is found for the second: a place, or a reason against it
    module _ (second : Placed) (is : second ≡ second_place l.list.sizes (Ok first) (place_of l f)) where
      second_place_lem : second ≡ place_of (record_all l e).left f
      second_place_lem = is ∙ ap (λ (p : Placed). second_place l.list.sizes p (place_of l f)) at ∙ sym (both_places l e f differ)

      second_stored : record_all (record_all l e).left f ≡ stored_at 1 0 (record_all l e).left second
      second_stored = recorded_at 1 0 (record_all l e).left f ∙ ap (stored_at 1 0 (record_all l e).left) (sym second_place_lem)

    pub second_refused : {k : Refusal} → Err k ≡ second_place l.list.sizes (Ok first) (place_of l f) → Leaves (record_together l (e ∷ f ∷ [])) (declined k) l
    second_refused {k} is =
        let answer : (record_all (record_all l e).left f).answer ≡ declined k = ap (λ (o : Outcome HeldList). o.answer) (second_stored (Err k) is) in
        let not_done : number_of (record_all (record_all l e).left f) ≢ 0 = λ z. declined_positive k (sym (ap (λ (a : Answer). a.number) answer) ∙ z) in
        together_refused l (e ∷ f ∷ []) k
        (ap (λ (o : Outcome HeldList). o.answer)
        (each_accepted l e (f ∷ []) first_done ∙ each_refused (record_all l e).left f [] not_done)
        ∙ answer)

    pub ahead_refused : {k : Refusal} → Err k ≡ place_of l f → Leaves (record_together l (e ∷ f ∷ [])) (declined k) l
    ahead_refused {k} q = second_refused (sym (second_refused_stays l.list.sizes (Ok first) k) ∙ ap (second_place l.list.sizes (Ok first)) q)

    module _ (second : Place) (is : Ok second ≡ second_place l.list.sizes (Ok first) (place_of l f)) (half : HeldList)
        (kept : half ≡ (stored_at 1 0 l (Ok first)).left) where
      half_is : half ≡ (record_all l e).left
      half_is = kept ∙ ap (λ (o : Outcome HeldList). o.left) (sym first_stored)

      pub second_fits : Fits half (Ok second)
      second_fits = fits_as half_is (second_place_lem (Ok second) is) (place_fits (record_all l e).left f)

      pub both_stored : {answer : Answer} {after : HeldList} → Leaves (stored_at 1 0 half (Ok second)) answer after
          → Leaves (record_together l (e ∷ f ∷ [])) (done []) after
      both_stored {answer} {after} h =
          let stored = second_stored (Ok second) is in
          let second_done : number_of (record_all (record_all l e).left f) ≡ 0 = ap number_of stored ∙ stored_number (record_all l e).left second in
          let whole : after ≡ (record_all (record_all l e).left f).left =
          h.left ∙ ap (λ (m : HeldList). (stored_at 1 0 m (Ok second)).left) half_is ∙ ap (λ (o : Outcome HeldList). o.left) (sym stored) in
          together_done l (e ∷ f ∷ []) (record_all (record_all l e).left f).left
          (each_accepted l e (f ∷ []) first_done ∙ each_accepted (record_all l e).left f [] second_done) whole
