-- What it tells that a list with its holds is judged fine.
--   held_shaped, held_shape_fine: the shape test finds nothing exactly where the list's does and there is a hold a place.
--   no_hold, closed: 15 finds nothing exactly where no used place has a hold.
--   closed_told, closed_refused: 1 and 15 find nothing where neither does; what one of them finds is what the judge finds.
--   judged_held_list: past shape and holds, what is judged is the list that gets sections; judged_held_places: its places alone, since its shape is right.
--   held_told, held_fine: the judge finds nothing exactly where the shape is right, no hold is open and the list that gets sections is judged fine.
-- Assumes nothing.
use Prim.Native.Nat.{ℕ, zero, suc, ◌+◌, ◌≤◌, ◌<◌}
use mathlib.Core.Path.{◌≡◌, refl, sym, ap, ◌∙◌}
use mathlib.Core.Bool.{Bool, true, false}
use mathlib.Core.Logic.{◌≢◌, ⊎_elim}
use native.Mathlib.Nat.{eq-or-lt_of_le}
use lib.Dec.{eqb}
use native.Mathlib.Omega.{arith}
use lib.ListN.{length}
use borrow.Author.Tests.{eqb-true, eqb-false, eq-eqb, ne_eqb}
use Rattle.std.specs.Prelude.{Ok, Err}
use Rattle.words.specs.Refusals.{Judgement, Fine, Declined, or_else, first_reason}
use Rattle.words.specs.declared.Refusal.{Refusal}
use Rattle.words.specs.declared.Refusal.TheVariants.{Shape, OpenHold}
use Rattle.words.proofs.Judgements.{decline_not_true, decline_not_fine, or_next, or_first, or_both, first_fine, first_none}
use Rattle.list.specs.Lists.{capacity, used, list_shape, judge_list}
use Rattle.list.specs.Heights.{list_height, judged_list, judged_places}
use Rattle.list.specs.Holds.{HeldList, hold_at, held_shape, judge_hold, open_hold, judge_closed, section_list, judge_held, judged_held}
use Rattle.list.specs.Counted.{counted}
use Rattle.list.proofs.CountedLists.{counted_shaped}
use Rattle.list.proofs.JudgedLists.{Shaped, shaped, shape_fine, judged_as_height, judged_as_refused}

-- ---- the shape

pub record HeldShaped (h : HeldList) : Type 0 where
  pub list : Shaped h.list
  pub holds : length h.holds ≡ capacity h.list

module _ (h : HeldList) where
  pub held_shaped : held_shape h ≡ Fine → HeldShaped h
  unfolding held_shape
  held_shaped e =
      let a = or_both (list_shape h.list) _ e in
      record { list = shaped h.list a.0; holds = eqb-true _ _ (decline_not_fine _ Shape a.1) }

  pub held_shape_fine : HeldShaped h → held_shape h ≡ Fine
  unfolding held_shape
  held_shape_fine s = or_next _ (shape_fine h.list s.list) ∙ decline_not_true Shape (eq-eqb _ _ s.holds)

  -- ---- 15

  pub no_hold : open_hold h ≡ Fine → (i : ℕ) → i < used h.list → hold_at h i ≡ 0
  unfolding open_hold judge_hold
  no_hold e i k = eqb-true _ _ (decline_not_fine _ OpenHold (first_fine (judge_hold h) 0 (used h.list) e i (omega arith) (omega arith)))

  pub closed : ((i : ℕ) → i < used h.list → hold_at h i ≡ 0) → open_hold h ≡ Fine
  unfolding open_hold judge_hold
  closed each = first_none (judge_hold h) 0 (used h.list) (λ i a b. decline_not_true OpenHold (eq-eqb _ _ (each i (omega arith))))

  hold_open : (i : ℕ) → (hold_at h i ≡ 0 → ⊥) → judge_hold h i ≡ Declined OpenHold
  unfolding judge_hold
  hold_open i n = rw (ne_eqb (hold_at h i) 0 n)

  hold_closed : (i : ℕ) → hold_at h i ≡ 0 → judge_hold h i ≡ Fine
  unfolding judge_hold
  hold_closed i e = decline_not_true OpenHold (eq-eqb _ _ e)

  -- 15 is found where some place has a hold
  open_among : (i n k : ℕ) → i ≤ k → k < i + n → hold_at h k ≢ 0 → first_reason (judge_hold h) i n ≡ Declined OpenHold
  unfolding first_reason
  open_among i zero k p q f = absurd (omega arith)
  open_among i (suc n) k p q f = go (λ b. open_among (suc i) n k b (omega arith) f) (eqb (hold_at h i) 0) refl where
    go : (i < k → first_reason (judge_hold h) (suc i) n ≡ Declined OpenHold) → (t : Bool) → eqb (hold_at h i) 0 ≡ t
        → or_else (judge_hold h i) (first_reason (judge_hold h) (suc i) n) ≡ Declined OpenHold
    go rest true e =
        let z = eqb-true (hold_at h i) 0 e in
        or_next _ (hold_closed i z)
        ∙ rest (⊎_elim (λ (d : i ≡ k). absurd (f (ap (hold_at h) (sym d) ∙ z))) (λ (d : i < k). d) (eq-or-lt_of_le p))
    go rest false e = or_first _ (hold_open i (eqb-false (hold_at h i) 0 e))

  pub not_closed : (i : ℕ) → i < used h.list → hold_at h i ≢ 0 → open_hold h ≡ Declined OpenHold
  unfolding open_hold
  not_closed i b f = open_among 0 (used h.list) i (omega arith) (omega arith) f

  -- ---- 1 and 15

  pub closed_told : judge_closed h ≡ Fine → (held_shape h ≡ Fine) × (open_hold h ≡ Fine)
  unfolding judge_closed
  closed_told e = or_both (held_shape h) (open_hold h) e

  pub closed_shape : {k : Refusal} → held_shape h ≡ Declined k → judge_closed h ≡ Declined k
  unfolding judge_closed
  closed_shape e = or_first _ e

  pub closed_next : held_shape h ≡ Fine → judge_closed h ≡ open_hold h
  unfolding judge_closed
  closed_next e = or_next _ e

  -- the judge asks for them first
  pub closed_refused : {k : Refusal} → judge_closed h ≡ Declined k → judge_held h ≡ Declined k
  unfolding judge_closed judge_held
  closed_refused {k} e = go (held_shape h) e where
    go : (s : Judgement) → or_else s (open_hold h) ≡ Declined k → or_else s (or_else (open_hold h) (judge_list (section_list h))) ≡ Declined k
    go Fine e = or_first _ e
    go (Declined _) e = e

  -- ---- the judge

  pub held_told : judge_held h ≡ Fine → (held_shape h ≡ Fine) × (open_hold h ≡ Fine) × (judge_list (section_list h) ≡ Fine)
  unfolding judge_held
  held_told e =
      let a = or_both (held_shape h) _ e in
      let b = or_both (open_hold h) _ a.1 in
      (a.0, b.0, b.1)

  pub held_fine : held_shape h ≡ Fine → open_hold h ≡ Fine → judge_list (section_list h) ≡ Fine → judge_held h ≡ Fine
  unfolding judge_held
  held_fine a b c = or_next _ a ∙ or_next _ b ∙ c

  -- the list that gets sections is judged fine
  pub held_judged : judge_held h ≡ Fine → judge_list (section_list h) ≡ Fine
  held_judged e = (held_told e).2

  -- ---- the list judged, with its height

  pub judged_held_shape : {k : Refusal} → held_shape h ≡ Declined k → judged_held h ≡ Err k
  unfolding judged_held judge_held
  judged_held_shape e = rw e

  module _ (shape : held_shape h ≡ Fine) where
    pub judged_held_open : {k : Refusal} → open_hold h ≡ Declined k → judged_held h ≡ Err k
    unfolding judged_held judge_held
    judged_held_open e = rw (shape, e)

    pub judged_held_list : open_hold h ≡ Fine → judged_held h ≡ judged_list (section_list h)
    unfolding judged_held judge_held judged_list
    judged_held_list e = rw (shape, e)

    pub judged_held_places : open_hold h ≡ Fine → judged_held h ≡ judged_places false (section_list h)
    unfolding judged_held judge_held section_list judge_list judged_places
    judged_held_places e = rw (shape, e, shape_fine (counted h.list) (counted_shaped h.list (held_shaped shape).list))

  -- by 1 and 15 in one
  pub judged_held_refused : {k : Refusal} → judge_closed h ≡ Declined k → judged_held h ≡ Err k
  unfolding judged_held
  judged_held_refused e = rw (closed_refused e)

  pub judged_held_closed : judge_closed h ≡ Fine → judged_held h ≡ judged_places false (section_list h)
  judged_held_closed e = let a = closed_told e in judged_held_places a.0 a.1

  -- ---- what an answer of `judge_held` tells

  pub held_height : (n : ℕ) → Ok n ≡ judged_held h → (judge_held h ≡ Fine) × (n ≡ list_height (section_list h))
  unfolding judged_held
  held_height n e = judged_as_height (judge_held h) (list_height (section_list h)) n e

  pub held_refused : (k : Refusal) → Err k ≡ judged_held h → judge_held h ≡ Declined k
  unfolding judged_held
  held_refused k e = judged_as_refused (judge_held h) (list_height (section_list h)) k e
