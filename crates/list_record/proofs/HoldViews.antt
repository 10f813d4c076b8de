-- A confirm and a drop by what they do to the places of a list: an accepted confirm takes one hold at its place and adds one count (confirm_view), an
-- accepted drop takes one hold (drop_view); neither changes the shape (confirm_shaped, drop_shaped). Any call that is refused leaves the list as it
-- was (call_refused). Assumes nothing.
use Prim.Native.Nat.{ℕ, ◌+◌, ◌-◌, ◌≤◌}
use mathlib.Core.Path.{◌≡◌, refl, sym, ap, subst}
use mathlib.Core.List.{List, []}
use mathlib.Core.Logic.{◌≢◌}
use Rattle.words.specs.Limits.{multiplicity_limit}
use Rattle.words.specs.Outcomes.{Outcome, outcome}
use Rattle.words.specs.Refusals.{Judgement, Fine, Declined}
use Rattle.words.specs.declared.Refusal.TheVariants.{CountFull}
use Rattle.words.proofs.Judgements.{decline_fine, or_both}
use Rattle.words.proofs.Outcomes.{outcome_fine, outcome_done}
use Rattle.list.specs.Lists.{multiplicity_at, count_full}
use Rattle.list.specs.Holds.{HeldList, hold_at}
use Rattle.list.proofs.JudgedLists.{count_within}
use Rattle.list.proofs.HeldLists.{HeldShaped, held_shaped}
use Rattle.list_record.specs.Recording.{settled}
use Rattle.list_record.specs.Holding.{drop_reason, confirm_reason, confirm_all, drop_all}
use Rattle.list_record.proofs.HoldingCases.{drop_told}
use Rattle.list_record.proofs.RecordEach.{number_of}
use Rattle.list_record.proofs.Stores.{settled_shaped}
use Rattle.list_record.proofs.Views.{Changed}
use Rattle.list_record.proofs.RecordViews.{view_of, settled_view}

pub call_refused : (j : Judgement) (values : List ℕ) (before after : HeldList) → number_of (outcome j values before after) ≢ 0
    → (outcome j values before after).left ≡ before
call_refused Fine values before after n = absurd (n refl)
call_refused (Declined k) values before after n = refl

module _ (h : HeldList) (i : ℕ) where
  abbrev dropped : HeldList
  dropped = settled h i (multiplicity_at h.list i) (hold_at h i - 1)

  abbrev confirmed : HeldList
  confirmed = settled h i (multiplicity_at h.list i + 1) (hold_at h i - 1)

  pub drop_view : number_of (drop_all h i) ≡ 0 → Changed (view_of h) (view_of (drop_all h i).left) i (multiplicity_at h.list i) (hold_at h i - 1)
  unfolding drop_all
  drop_view z =
      let q = outcome_done (drop_reason h i) [] h dropped z in
      let a = drop_told h i q in
      subst (λ (m : HeldList). Changed (view_of h) (view_of m) i (multiplicity_at h.list i) (hold_at h i - 1))
      (sym (ap (λ (o : Outcome HeldList). o.left) (outcome_fine [] h dropped q)))
      (settled_view h i (multiplicity_at h.list i) (hold_at h i - 1) (held_shaped h a.shape) a.placed)

  pub drop_shaped : HeldShaped h → HeldShaped (drop_all h i).left
  unfolding drop_all
  drop_shaped s = go (drop_reason h i) where
    go : (j : Judgement) → HeldShaped (outcome j [] h dropped).left
    go Fine = settled_shaped h i (multiplicity_at h.list i) (hold_at h i - 1) s
    go (Declined k) = s

  pub confirm_told : confirm_reason h i ≡ Fine → (drop_reason h i ≡ Fine) × (multiplicity_at h.list i + 1 ≤ multiplicity_limit)
  unfolding confirm_reason
  confirm_told q =
      let a = or_both (drop_reason h i) _ q in
      (a.0, count_within _ (decline_fine (count_full (multiplicity_at h.list i + 1)) CountFull a.1))

  module _ (z : number_of (confirm_all h i) ≡ 0) where
    confirm_fine : confirm_reason h i ≡ Fine
    unfolding confirm_all
    confirm_fine = outcome_done (confirm_reason h i) [] h confirmed z

    pub confirm_within : multiplicity_at h.list i + 1 ≤ multiplicity_limit
    confirm_within = (confirm_told confirm_fine).1

    pub confirm_view : Changed (view_of h) (view_of (confirm_all h i).left) i (multiplicity_at h.list i + 1) (hold_at h i - 1)
    unfolding confirm_all
    confirm_view =
        let a = drop_told h i (confirm_told confirm_fine).0 in
        subst (λ (m : HeldList). Changed (view_of h) (view_of m) i (multiplicity_at h.list i + 1) (hold_at h i - 1))
        (sym (ap (λ (o : Outcome HeldList). o.left) (outcome_fine [] h confirmed confirm_fine)))
        (settled_view h i (multiplicity_at h.list i + 1) (hold_at h i - 1) (held_shaped h a.shape) a.placed)

  pub confirm_shaped : HeldShaped h → HeldShaped (confirm_all h i).left
  unfolding confirm_all
  confirm_shaped s = go (confirm_reason h i) where
    go : (j : Judgement) → HeldShaped (outcome j [] h confirmed).left
    go Fine = settled_shaped h i (multiplicity_at h.list i + 1) (hold_at h i - 1) s
    go (Declined k) = s
