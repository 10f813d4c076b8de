-- A recording or a hold in its two parts. `place_of` in each of its cases: declined for the shape, for the entry, for a full count or a full list;
-- the first equal key; a new key. What is found there fits (place_fits), and storing at it is the recording (recorded_at). From these: the
-- position of a new key is the first unused place (new_position), and a recording keeps the list's shape (record_keeps_shape). Assumes nothing.
use Prim.Native.Nat.{ℕ, ◌+◌, ◌≤◌, ◌<◌}
use mathlib.Core.Path.{◌≡◌, refl, sym, ap, ◌∙◌}
use mathlib.Core.Bool.{Bool, true, false, cond}
use mathlib.Core.List.{[], ◌∷◌}
use native.Mathlib.Omega.{arith}
use borrow.Author.Tests.{lt-ltb, le-ltb, ltb-true, ltb-false}
use Rattle.std.specs.Prelude.{Ok, Err}
use Rattle.words.specs.Answers.{done}
use Rattle.words.specs.Outcomes.{Outcome, outcome}
use Rattle.words.specs.Refusals.{Judgement, Fine, Declined}
use Rattle.words.specs.declared.Refusal.{Refusal}
use Rattle.words.specs.declared.Refusal.TheVariants.{CountFull, ListFull}
use Rattle.words.proofs.Judgements.{decline_fine, decline_not_fine, or_both}
use Rattle.isa.specs.declared.U32TableEntry.{U32TableEntry}
use Rattle.isa.specs.Entries.{judge_entry, admitted}
use Rattle.list.specs.Lists.{capacity, used, multiplicity_at, count_full}
use Rattle.list.specs.Keys.{find_key}
use Rattle.list.specs.Holds.{HeldList, hold_at, held_shape}
use Rattle.list.proofs.Finding.{find_within}
use Rattle.list.proofs.HeldLists.{HeldShaped, held_shaped, held_shape_fine}
use Rattle.list_record.specs.declared.Place.TheVariants.{Known, New}
use Rattle.list_record.specs.Recording.{place_in, known, place_reason, record_reason, raised, appended, recorded_into, record_with}
use Rattle.list_record.specs.Placing.{Placed, place_as, place_of, stored_at, Fits}
use Rattle.list_record.proofs.Stores.{settled_shaped, appended_shaped}

-- ---- an entry that is admitted, in a list of the right shape, at the place that a search answers

module _ (h : HeldList) (e : U32TableEntry) (at : ℕ) (found : at ≡ find_key h.list e) where
  pub place_known : at < used h.list → count_full (multiplicity_at h.list at + hold_at h at + 1) ≡ false → place_as (place_reason h e) h e ≡ Ok (Known at)
  unfolding place_reason
  place_known i m = rw found (let k = rw found at i in let n = rw found at m in simp (lt-ltb (find_key h.list e) (used h.list) k, n))

  pub place_full : at < used h.list → count_full (multiplicity_at h.list at + hold_at h at + 1) ≡ true
      → place_as (place_reason h e) h e ≡ Err CountFull
  unfolding place_reason
  place_full i m = let k = rw found at i in let n = rw found at m in simp (lt-ltb (find_key h.list e) (used h.list) k, n)

  pub place_new : used h.list ≤ at → used h.list < capacity h.list → place_as (place_reason h e) h e ≡ Ok (New e)
  unfolding place_reason
  place_new i m =
      let k = rw found at i in simp (le-ltb (find_key h.list e) (used h.list) k, lt-ltb (used h.list) (capacity h.list) m)

  pub no_place : used h.list ≤ at → capacity h.list ≤ used h.list → place_as (place_reason h e) h e ≡ Err ListFull
  unfolding place_reason
  no_place i m =
      let k = rw found at i in simp (le-ltb (find_key h.list e) (used h.list) k, le-ltb (used h.list) (capacity h.list) m)

-- ---- any entry, in any list

module _ (h : HeldList) (e : U32TableEntry) where
  pub shape_declined : {k : Refusal} → held_shape h ≡ Declined k → place_of h e ≡ Err k
  unfolding place_of record_reason
  shape_declined s = rw s

  pub entry_declined : {k : Refusal} → held_shape h ≡ Fine → judge_entry e ≡ Declined k → place_of h e ≡ Err k
  unfolding place_of record_reason
  entry_declined s j = rw (s, j)

  pub place_admitted : held_shape h ≡ Fine → judge_entry e ≡ Fine → place_of h e ≡ place_as (place_reason h (admitted e)) h (admitted e)
  unfolding place_of record_reason
  place_admitted s j = rw (s, j)

-- where no key is equal, the search ends at the first unused place
pub new_position : (h : HeldList) (e : U32TableEntry) → known h e ≡ false → find_key h.list e ≡ used h.list
new_position h e k = omega (arith, ltb-false (find_key h.list e) (used h.list) k, find_within h.list e)

-- ---- the two parts are the recording, or the hold

pub recorded_at : (count hold : ℕ) (h : HeldList) (e : U32TableEntry) → record_with count hold h e ≡ stored_at count hold h (place_of h e)
unfolding record_with place_of
recorded_at count hold h e = go (record_reason h e) where
  either : (t : Bool) → known h (admitted e) ≡ t
      → ◌≡◌ {A = Outcome HeldList}
      (record {
        answer = done (place_in h (admitted e) ∷ []);
        left = cond t (raised count hold h (place_in h (admitted e))) (appended count hold h (admitted e));
      })
      (stored_at count hold h (Ok (cond t (Known (place_in h (admitted e))) (New (admitted e)))))
  either true k = refl
  either false k = rw (new_position h (admitted e) k)

  go : (j : Judgement)
      → outcome j (place_in h (admitted e) ∷ []) h (recorded_into count hold h (admitted e)) ≡ stored_at count hold h (place_as j h (admitted e))
  go Fine = either (known h (admitted e)) refl
  go (Declined k) = refl

-- what is found has room
pub place_fits : (h : HeldList) (e : U32TableEntry) → Fits h (place_of h e)
unfolding place_of record_reason place_reason
place_fits h e = go (record_reason h e) refl where
  room : HeldShaped h → (t : Bool) → known h (admitted e) ≡ t → place_reason h (admitted e) ≡ Fine
      → Fits h (Ok (cond t (Known (place_in h (admitted e))) (New (admitted e))))
  room s true k f =
      let i = ltb-true (find_key h.list (admitted e)) (used h.list) k in (
        omega (arith, s.list.within, s.list.multiplicities),
        omega (arith, s.list.within, s.holds),
        decline_fine _ CountFull (rw k at f),
      )
  room s false k f =
      let i = ltb-true (used h.list) (capacity h.list) (decline_not_fine _ ListFull (rw k at f)) in (
        omega (arith, s.list.keys),
        omega (arith, s.list.multiplicities),
        omega (arith, s.holds),
      )

  go : (j : Judgement) → record_reason h e ≡ j → Fits h (place_as j h (admitted e))
  go (Declined k) q = tt
  go Fine q =
      let a = or_both (held_shape h) _ q in
      let b = or_both (judge_entry e) _ a.1 in
      room (held_shaped h a.0) (known h (admitted e)) refl b.1

pub has_room : (h : HeldList) (e : U32TableEntry) {p : Placed} → p ≡ place_of h e → Fits h p
has_room h e q = rw q (place_fits h e)

-- ---- a recording keeps the shape

stored_shaped : (count hold : ℕ) (h : HeldList) (p : Placed) → HeldShaped h → Fits h p → HeldShaped (stored_at count hold h p).left
stored_shaped count hold h (Ok (Known i)) s f = settled_shaped h i (multiplicity_at h.list i + count) (hold_at h i + hold) s
stored_shaped count hold h (Ok (New e)) s f = appended_shaped count hold h e s (omega (arith, s.list.multiplicities, f.1))
stored_shaped count hold h (Err k) s f = s

pub record_keeps_shape : (count hold : ℕ) (h : HeldList) (e : U32TableEntry) → held_shape (record_with count hold h e).left ≡ held_shape h
record_keeps_shape count hold h e = go (held_shape h) refl where
  left_is : (record_with count hold h e).left ≡ (stored_at count hold h (place_of h e)).left
  left_is = ap (λ (o : Outcome HeldList). o.left) (recorded_at count hold h e)

  go : (j : Judgement) → held_shape h ≡ j → held_shape (record_with count hold h e).left ≡ held_shape h
  go Fine q = ap held_shape left_is ∙ held_shape_fine _ (stored_shaped count hold h (place_of h e) (held_shaped h q) (place_fits h e)) ∙ sym q
  go (Declined k) q = ap held_shape (left_is ∙ ap (λ (p : Placed). (stored_at count hold h p).left) (shape_declined h e q))
