-- A hold's end: `drop_reason` and `confirm_reason` in each of their cases, and what it tells that nothing speaks against a drop (drop_told,
-- drop_room). Neither call changes the sizes (confirm_sizes, drop_sizes). Assumes nothing.
use Prim.Native.Nat.{ℕ, ◌+◌, ◌<◌}
use mathlib.Core.Path.{◌≡◌, refl, ◌∙◌}
use mathlib.Core.Bool.{true, false, not, and-eq-true_iff}
use mathlib.Core.Logic.{◌≢◌}
use native.Mathlib.Omega.{arith}
use lib.Dec.{eqb, ltb}
use lib.ListN.{length}
use borrow.Author.Tests.{ltb-true, eqb-false, not-true}
use Rattle.words.specs.Refusals.{Fine, Declined}
use Rattle.words.specs.declared.Refusal.{Refusal}
use Rattle.words.specs.declared.Refusal.TheVariants.{CountFull, NoHold}
use Rattle.words.proofs.Outcomes.{outcome_keeps}
use Rattle.words.proofs.Judgements.{decline_true, decline_false, decline_not_fine, or_next, or_first, or_both}
use Rattle.list.specs.Lists.{used, multiplicity_at, count_full}
use Rattle.list.specs.Holds.{HeldList, hold_at, held_shape}
use Rattle.list.proofs.HeldLists.{held_shaped}
use Rattle.list_record.specs.Holding.{drop_reason, drop_all, confirm_reason, confirm_all}

-- ---- the cases

module _ (h : HeldList) (i : ℕ) where
  pub confirm_without : {k : Refusal} → drop_reason h i ≡ Declined k → confirm_reason h i ≡ Declined k
  unfolding confirm_reason
  confirm_without e = or_first _ e

  module _ (fine : drop_reason h i ≡ Fine) where
    pub confirm_full : count_full (multiplicity_at h.list i + 1) ≡ true → confirm_reason h i ≡ Declined CountFull
    unfolding confirm_reason
    confirm_full m = or_next _ fine ∙ decline_true CountFull m

    pub confirm_fine : count_full (multiplicity_at h.list i + 1) ≡ false → confirm_reason h i ≡ Fine
    unfolding confirm_reason
    confirm_fine m = or_next _ fine ∙ decline_false CountFull m

-- ---- nothing speaks against it

pub record Droppable (h : HeldList) (i : ℕ) : Type 0 where
  pub shape : held_shape h ≡ Fine
  pub placed : i < used h.list
  pub held : hold_at h i ≢ 0

module _ (h : HeldList) (i : ℕ) where
  pub drop_told : drop_reason h i ≡ Fine → Droppable h i
  unfolding drop_reason
  drop_told e =
      let a = or_both (held_shape h) _ e in
      let b = (and-eq-true_iff (ltb i (used h.list)) (not (eqb (hold_at h i) 0))).0 (decline_not_fine _ NoHold a.1) in
      record { shape = a.0; placed = ltb-true _ _ b.0; held = eqb-false _ _ (not-true _ b.1) }

  -- so the place is within both arrays
  pub drop_room : drop_reason h i ≡ Fine → (i < length h.list.multiplicities) × (i < length h.holds) × (0 < hold_at h i)
  drop_room e =
      let d = drop_told e in
      let s = held_shaped h d.shape in (
        omega (arith, s.list.within, s.list.multiplicities),
        omega (arith, s.list.within, s.holds),
        omega arith,
      )

-- ---- the sizes afterwards

pub confirm_sizes : (h : HeldList) (i : ℕ) → (confirm_all h i).left.list.sizes ≡ h.list.sizes
unfolding confirm_all
confirm_sizes h i = outcome_keeps (λ (l : HeldList). l.list.sizes) (confirm_reason h i) _ h _ refl

pub drop_sizes : (h : HeldList) (i : ℕ) → (drop_all h i).left.list.sizes ≡ h.list.sizes
unfolding drop_all
drop_sizes h i = outcome_keeps (λ (l : HeldList). l.list.sizes) (drop_reason h i) _ h _ refl
