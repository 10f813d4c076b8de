-- A shared list as a recorder has it (S) and the list of its own calls alone (O), both at the end: the counts of every key are the same (counts_same); one has an
-- open hold exactly where the other has (open_same); the list alone is admitted as the shared one is (alone_admitted). Assumes nothing.
use Prim.Native.Nat.{ℕ, zero, suc, ◌<◌}
use mathlib.Core.Path.{◌≡◌, refl, sym, ◌∙◌, subst}
use mathlib.Core.Bool.{Bool, true, false, cond, not}
use mathlib.Core.Logic.{◌⊎◌, inl, inr}
use native.Mathlib.Omega.{arith}
use lib.Dec.{eqb}
use borrow.Author.Tests.{ltb-true}
use Rattle.words.specs.Refusals.{decline_if, first_reason, Judgement, Fine, Declined}
use Rattle.words.specs.declared.Refusal.{Refusal}
use Rattle.words.specs.declared.Refusal.TheVariants.{OpenHold}
use Rattle.words.proofs.Judgements.{fine_not_declined, or_next, or_first}
use Rattle.isa.specs.declared.U32TableEntry.{U32TableEntry}
use Rattle.isa.specs.Entries.{judge_as_it_is}
use Rattle.list.specs.Lists.{used, multiplicity_at, entry_at}
use Rattle.list.specs.Holds.{HeldList, hold_at, judge_hold, open_hold}
use Rattle.list.proofs.Finding.{same_key_equal, find_holds}
use Rattle.list.proofs.HeldLists.{no_hold, closed}
use Rattle.list_record.specs.Recording.{place_in, known}
use Rattle.list_record.proofs.OneKey.{found_known}
use Rattle.list_record.proofs.Views.{Unknown, EachPlace}
use Rattle.list_record.proofs.RecordViews.{view_of, PlaceAdmitted}
use Rattle.shared_law.specs.NotNoticed.{count_of}
use Rattle.shared_law.proofs.Sums.{sum_none, sum_zero}
use Rattle.shared_law.proofs.Weighed.{Weight, weigh}
use Rattle.shared_law.proofs.Together.{Matched}

-- ---- 15

-- a hold's only reason
first_either : (g : ℕ → Judgement) (k : Refusal) → ((i : ℕ) → (g i ≡ Fine) ⊎ (g i ≡ Declined k)) → (i n : ℕ)
    → (first_reason g i n ≡ Fine) ⊎ (first_reason g i n ≡ Declined k)
unfolding first_reason
first_either g k each i zero = inl refl
first_either g k each i (suc n) = go (first_either g k each (suc i) n) (each i) where
  go : (first_reason g (suc i) n ≡ Fine) ⊎ (first_reason g (suc i) n ≡ Declined k) → (g i ≡ Fine) ⊎ (g i ≡ Declined k)
      → (first_reason g i (suc n) ≡ Fine) ⊎ (first_reason g i (suc n) ≡ Declined k)
  go (inl rest) (inl q) = inl (or_next _ q ∙ rest)
  go (inr rest) (inl q) = inr (or_next _ q ∙ rest)
  go rest (inr q) = inr (or_first _ q)

one_test : (t : Bool) (k : Refusal) → (decline_if t k ≡ Fine) ⊎ (decline_if t k ≡ Declined k)
one_test true k = inr refl
one_test false k = inl refl

open_or_not : (h : HeldList) → (open_hold h ≡ Fine) ⊎ (open_hold h ≡ Declined OpenHold)
unfolding open_hold judge_hold
open_or_not h = first_either (judge_hold h) OpenHold (λ i. one_test (not (eqb (hold_at h i) 0)) OpenHold) 0 (used h.list)

-- all open holds
abbrev hold_weight : Weight
hold_weight c g k = g

closed_none : (h : HeldList) → open_hold h ≡ Fine → weigh hold_weight (view_of h) ≡ 0
unfolding weigh view_of
closed_none h q = sum_none (hold_at h) (used h.list) (no_hold h q)

none_closed : (h : HeldList) → weigh hold_weight (view_of h) ≡ 0 → open_hold h ≡ Fine
unfolding weigh view_of
none_closed h z = closed h (sum_zero (hold_at h) (used h.list) z)

module _ (S O : HeldList) (m : Matched S O) where
  same_holds : weigh hold_weight (view_of S) ≡ weigh hold_weight (view_of O)
  same_holds = m.covers.sums hold_weight (λ k. refl)

  pub open_same : open_hold S ≡ open_hold O
  open_same = go (open_or_not S) (open_or_not O) where
    go : (open_hold S ≡ Fine) ⊎ (open_hold S ≡ Declined OpenHold) → (open_hold O ≡ Fine) ⊎ (open_hold O ≡ Declined OpenHold) → open_hold S ≡ open_hold O
    go (inl p) q = p ∙ sym (none_closed O (sym same_holds ∙ closed_none S p))
    go (inr p) (inl q) = absurd (fine_not_declined (sym (none_closed S (same_holds ∙ closed_none O q)) ∙ p))
    go (inr p) (inr q) = p ∙ sym q

  -- ---- the counts

  -- the place of a known key
  place_inside : (h : HeldList) (k : U32TableEntry) → known h k ≡ true → (place_in h k < used h.list) × (entry_at h.list (place_in h k) ≡ k)
  place_inside h k q =
      let b = ltb-true (place_in h k) (used h.list) q in
      (b, same_key_equal (entry_at h.list (place_in h k)) k (find_holds h.list k b))

  stranger : (h : HeldList) (k : U32TableEntry) → known h k ≡ false → Unknown (view_of h) k
  unfolding view_of
  stranger h k q i b f = let t = found_known h k i b f in let z : ◌≡◌ {A = ℕ} 0 1 = cc in omega arith

  pub counts_same : (k : U32TableEntry) → count_of S k ≡ count_of O k
  unfolding count_of view_of
  counts_same k = go (known S k) refl (known O k) refl where
    go : (s : Bool) → known S k ≡ s → (o : Bool) → known O k ≡ o
        → cond s (multiplicity_at S.list (place_in S k)) 0 ≡ cond o (multiplicity_at O.list (place_in O k)) 0
    go true p true q =
        let a = place_inside S k p in
        let b = place_inside O k q in
        (m.covers.agree (place_in S k) (place_in O k) a.0 b.0 (a.1 ∙ sym b.1)).0
    go true p false q =
        let a = place_inside S k p in
        (m.covers.rest (place_in S k) a.0 (λ j l f. stranger O k q j l (f ∙ a.1))).0
    go false p true q =
        let b = place_inside O k q in
        let w = m.covers.into (place_in O k) b.0 in
        absurd (stranger S k p w.0 w.1.0 (w.1.1 ∙ b.1))
    go false p false q = refl

  -- ---- admitted

  pub alone_admitted : EachPlace PlaceAdmitted (view_of S) → EachPlace PlaceAdmitted (view_of O)
  alone_admitted each j h =
      let w = m.covers.into j h in
      let q = m.covers.agree w.0 j w.1.0 h w.1.1 in
      let a = each w.0 w.1.0 in
      (subst (λ (k : U32TableEntry). judge_as_it_is k ≡ Fine) w.1.1 a.0, rw (← q.0) a.1)
