-- `list_record::confirm_hold` meets its contract: each way out is one of the cases of a hold's end (proofs/HoldingCases.antt). Assumes nothing.
use Prim.Native.Nat.{ℕ, ◌+◌, ◌-◌, ◌≤◌}
use mathlib.Core.Path.{◌≡◌, refl, sym, ap, ◌∙◌}
use mathlib.Core.Bool.{Bool, false}
use mathlib.Core.List.{[]}
use native.Mathlib.Nat.{add-zero}
use borrow.Author.Rules.{rules}
use Rattle.words.specs.Answers.{done, declined}
use Rattle.words.specs.Limits.{multiplicity_limit}
use Rattle.words.specs.Outcomes.{Leaves, completed_answer}
use Rattle.words.specs.Refusals.{Fine, Declined}
use Rattle.words.specs.declared.Refusal.{Refusal}
use Rattle.words.proofs.Judgements.{handed_on}
use Rattle.words.proofs.Outcomes.{leaves_done, leaves_declined, leaves_said}
use Rattle.list.specs.Lists.{multiplicity_at, count_full}
use Rattle.list.specs.Holds.{HeldList, hold_at}
use Rattle.list.proofs.JudgedLists.{count_within}
use Rattle.list_record.specs.Recording.{settled}
use Rattle.list_record.specs.Holding.{confirm_reason, confirm_all}
use Rattle.list_record.proofs.HoldingCases.{confirm_without, confirm_full, confirm_fine}
use Rattle.list_record.proofs.confirm_hold.Goals as goal

refused : (h : HeldList) (i : ℕ) {k : Refusal} → confirm_reason h i ≡ Declined k → Leaves (confirm_all h i) (declined k) h
unfolding confirm_all
refused h i e = leaves_declined [] h _ e

confirmed : (h : HeldList) (i : ℕ) {left : HeldList} → confirm_reason h i ≡ Fine
    → left ≡ settled h i (multiplicity_at h.list i + 1) (hold_at h i - 1) → Leaves (confirm_all h i) (done []) left
unfolding confirm_all
confirmed h i e q = leaves_done [] h _ e refl q

-- the count was asked with no holds beside it
one_more : (m : ℕ) {t : Bool} → count_full (m + 0 + 1) ≡ t → count_full (m + 1) ≡ t
one_more m e = ap (λ (n : ℕ). count_full (n + 1)) (sym (add-zero m)) ∙ e

rises : (m : ℕ) → count_full (m + 0 + 1) ≡ false → m + 1 ≤ multiplicity_limit
rises m e = count_within _ (one_more m e)

pub returns-in_err-judge_drop : goal.returns-in_err-judge_drop
returns-in_err-judge_drop c =
    leaves_said (ap completed_answer (handed_on _ c.from_residual.ensures.1)) (refused _ _ (confirm_without _ _ (sym (rw c.new.ensures at c.in_err-judge_drop.ensures.reason))))

pub returns-then-one_more_is_full : goal.returns-then-one_more_is_full
unfolding multiplicity_at
returns-then-one_more_is_full c =
    refused _ _
    (confirm_full _ _ (sym (rw c.new.ensures at c.in_ok-judge_drop.ensures.reason))
    (one_more _ (sym c.one_more_is_full.ensures ∙ c.if-one_more_is_full.true)))

pub overflow_add-multiplicities : goal.overflow_add-multiplicities
unfolding multiplicity_at hold_at
overflow_add-multiplicities c =
    let below = rises _ (sym c.one_more_is_full.ensures ∙ c.if-one_more_is_full.false) in
    search rules

pub returns : goal.returns
unfolding multiplicity_at hold_at
returns c =
    confirmed _ _
    (confirm_fine _ _ (sym (rw c.new.ensures at c.in_ok-judge_drop.ensures.reason))
    (one_more _ (sym c.one_more_is_full.ensures ∙ c.if-one_more_is_full.false)))
    refl
