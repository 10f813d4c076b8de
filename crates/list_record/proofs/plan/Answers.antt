-- `list_record::plan` meets its contract: the height is that of what gets sections, far below 2^63, so its padded height is the one that is due.
-- Assumes nothing.
use Prim.Native.Nat.{ℕ, ◌^◌, ◌≤◌}
use mathlib.Core.Path.{◌≡◌, sym, ap, ◌∙◌}
use mathlib.Core.List.{[], ◌∷◌}
use native.Mathlib.Omega.{arith}
use Rattle.std.specs.Prelude.{Ok, Err}
use Rattle.words.specs.Answers.{done, declined}
use Rattle.words.specs.declared.Refusal.{Refusal}
use Rattle.words.proofs.Judgements.{handed_on}
use Rattle.words.proofs.Outcomes.{answered_fine, answered_declined}
use Rattle.list.specs.Heights.{list_height}
use Rattle.list.specs.Holds.{HeldList, section_list, judged_held}
use Rattle.list_record.specs.Plan.{padded_height, plan_all, planned_answer}
use Rattle.list.proofs.JudgedLists.{list_height_small}
use Rattle.list.proofs.HeldLists.{held_judged, held_height, held_refused}
use Rattle.list_record.proofs.plan.Goals as goal

planned : (h : HeldList) {height padded : ℕ}
    → Ok height ≡ judged_held h → (height ≤ 2 ^ 63 → padded ≡ padded_height height) → done (height ∷ padded ∷ []) ≡ plan_all h
unfolding plan_all
planned h {height} {padded} e f =
    let j = held_height h height e in
    let p = f (omega (arith, j.1, list_height_small (section_list h) (held_judged h j.0))) in
    let q : done (height ∷ padded ∷ []) ≡ done (list_height (section_list h) ∷ padded_height (list_height (section_list h)) ∷ []) = cc in
    q ∙ sym (answered_fine _ j.0)

refused : (h : HeldList) {k : Refusal} → Err k ≡ judged_held h → declined k ≡ plan_all h
unfolding plan_all
refused h {k} e = sym (answered_declined _ (held_refused h k e))

pub returns-in_err-height : goal.returns-in_err-height
returns-in_err-height c =
    ap planned_answer (handed_on _ c.from_residual.ensures.1) ∙ refused _ c.in_err-height.ensures

pub returns : goal.returns
returns c = planned _ c.in_ok-height.ensures c.padded_height.ensures.exact
