-- The four ways that a recording or a hold of an admitted entry goes, on a list of the right shape (way): the key stands at a used place and its count is
-- full, or gains; or it does not, and the list is full, or the key is appended. Assumes nothing.
use Prim.Native.Nat.{ℕ, ◌+◌, ◌≤◌, ◌<◌}
use mathlib.Core.Path.{◌≡◌, refl, sym, ap, ◌∙◌, subst}
use mathlib.Core.Bool.{Bool, true, false, not}
use mathlib.Core.List.{[], ◌∷◌}
use native.Mathlib.Omega.{arith}
use lib.Dec.{ltb}
use borrow.Author.Tests.{ltb-true, ltb-false}
use Rattle.words.specs.Limits.{multiplicity_limit}
use Rattle.words.specs.Answers.{done, declined}
use Rattle.words.specs.Outcomes.{Outcome, outcome}
use Rattle.words.specs.Refusals.{decline_if, Judgement, Fine, Declined}
use Rattle.words.specs.declared.Refusal.TheVariants.{CountFull, ListFull}
use Rattle.isa.specs.declared.U32TableEntry.{U32TableEntry}
use Rattle.isa.specs.Entries.{judge_entry, admitted}
use Rattle.isa.proofs.Entries.{admitted_again}
use Rattle.list.specs.Lists.{capacity, used, multiplicity_at, entry_at, count_full}
use Rattle.list.specs.Holds.{HeldList, hold_at, held_shape}
use Rattle.list.proofs.Finding.{same_key_equal, find_holds, find_within}
use Rattle.list.proofs.JudgedLists.{count_within}
use Rattle.list.proofs.HeldLists.{HeldShaped, held_shaped}
use Rattle.list_record.specs.Recording.{place_in, known, place_reason, record_reason, raised, appended, recorded_into, record_with}
use Rattle.list_record.proofs.OneKey.{found_known}
use Rattle.list_record.proofs.Views.{Unknown, Changed, Appended}
use Rattle.list_record.proofs.RecordViews.{view_of, settled_view, appended_view}

pub data Way (h : HeldList) (k : U32TableEntry) (count hold : ℕ) (a : Outcome HeldList) : Type 0 where
  full_count : (i : ℕ) → i < (view_of h).used → (view_of h).key i ≡ k → multiplicity_limit < (view_of h).count i + (view_of h).hold i + 1
      → a ≡ record { answer = declined CountFull; left = h } → Way h k count hold a
  changes : (i : ℕ) → i < (view_of h).used → (view_of h).key i ≡ k → (view_of h).count i + (view_of h).hold i + 1 ≤ multiplicity_limit
      → a.answer ≡ done (i ∷ []) → Changed (view_of h) (view_of a.left) i ((view_of h).count i + count) ((view_of h).hold i + hold)
      → Way h k count hold a
  full_list : Unknown (view_of h) k → capacity h.list ≤ (view_of h).used → a ≡ record { answer = declined ListFull; left = h } → Way h k count hold a
  appends : Unknown (view_of h) k → (view_of h).used < capacity h.list → a.answer ≡ done ((view_of h).used ∷ [])
      → Appended (view_of h) (view_of a.left) k count hold → Way h k count hold a

module _ (count hold : ℕ) (h : HeldList) (e : U32TableEntry) (shape : held_shape h ≡ Fine) (fine : judge_entry e ≡ Fine) where
  abbrev k : U32TableEntry
  k = admitted e

  abbrev at : ℕ
  at = place_in h (admitted e)

  -- what is left to ask is the place
  made_as : (j : Judgement) → place_reason h k ≡ j → record_with count hold h e ≡ outcome j (at ∷ []) h (recorded_into count hold h k)
  unfolding record_with record_reason
  made_as j q = rw (shape, fine, q)

  place_known : known h k ≡ true → place_reason h k ≡ decline_if (count_full (multiplicity_at h.list at + hold_at h at + 1)) CountFull
  unfolding place_reason
  place_known s = rw s

  place_new : known h k ≡ false → place_reason h k ≡ decline_if (not (ltb (used h.list) (capacity h.list))) ListFull
  unfolding place_reason
  place_new s = rw s

  made_known : known h k ≡ true → place_reason h k ≡ Fine → record_with count hold h e ≡ record { answer = done (at ∷ []); left = raised count hold h at }
  made_known s q = made_as Fine q ∙ rw s

  made_new : known h k ≡ false → place_reason h k ≡ Fine
      → record_with count hold h e ≡ record { answer = done (used h.list ∷ []); left = appended count hold h k }
  made_new s q =
      let last : at ≡ used h.list = omega (arith, ltb-false at (used h.list) s, find_within h.list k) in
      made_as Fine q ∙ rw s (ap (λ (i : ℕ). record { answer = done (i ∷ []); left = appended count hold h k }) last)

  full : (n : ℕ) → count_full n ≡ true → multiplicity_limit < n
  unfolding count_full
  full n q = ltb-true multiplicity_limit n q

  pub way : Way h k count hold (record_with count hold h e)
  unfolding view_of
  way = go (known h k) refl where
    s : HeldShaped h
    s = held_shaped h shape

    gained : known h k ≡ true → (u : Bool) → count_full (multiplicity_at h.list at + hold_at h at + 1) ≡ u → Way h k count hold (record_with count hold h e)
    gained q true u =
        let inside = ltb-true at (used h.list) q in
        Way.full_count at inside (same_key_equal (entry_at h.list at) k (find_holds h.list k inside)) (full _ u)
        (made_as (Declined CountFull) (place_known q ∙ rw u))
    gained q false u =
        let inside = ltb-true at (used h.list) q in
        let m = made_known q (place_known q ∙ rw u) in
        Way.changes at inside (same_key_equal (entry_at h.list at) k (find_holds h.list k inside)) (count_within _ u)
        (ap (λ (o : Outcome HeldList). o.answer) m)
        (subst (λ (o : Outcome HeldList). Changed (view_of h) (view_of o.left) at (multiplicity_at h.list at + count) (hold_at h at + hold)) (sym m)
        (settled_view h at (multiplicity_at h.list at + count) (hold_at h at + hold) s inside))

    strange : known h k ≡ false → Unknown (view_of h) k
    strange q i b f = let t = found_known h k i b f in let z : ◌≡◌ {A = ℕ} 0 1 = cc in omega arith

    placed : known h k ≡ false → (u : Bool) → ltb (used h.list) (capacity h.list) ≡ u → Way h k count hold (record_with count hold h e)
    placed q true u =
        let room = ltb-true (used h.list) (capacity h.list) u in
        let m = made_new q (place_new q ∙ rw u) in
        Way.appends (strange q) room (ap (λ (o : Outcome HeldList). o.answer) m)
        (subst (λ (o : Outcome HeldList). Appended (view_of h) (view_of o.left) k count hold) (sym m)
        (subst (λ (x : U32TableEntry). Appended (view_of h) (view_of (appended count hold h k)) x count hold) (admitted_again e fine)
        (appended_view count hold h k s room)))
    placed q false u =
        Way.full_list (strange q) (ltb-false (used h.list) (capacity h.list) u) (made_as (Declined ListFull) (place_new q ∙ rw u))

    go : (t : Bool) → known h k ≡ t → Way h k count hold (record_with count hold h e)
    go true q = gained q (count_full (multiplicity_at h.list at + hold_at h at + 1)) refl
    go false q = placed q (ltb (used h.list) (capacity h.list)) refl
