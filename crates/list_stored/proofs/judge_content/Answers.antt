-- `list_stored::judge_content` meets its contract: the copy is what the bytes hold, so the judge of lists, the test for equal keys and the
-- comparison of heights find what the definition finds. Assumes nothing.
use mathlib.Core.Path.{sym, ◌∙◌}
use Rattle.list.proofs.JudgedLists.{places_height, places_refused}
use Rattle.list_repeats.proofs.Repeats.{used_repeats}
use Rattle.list_stored.proofs.Copies.{copy_repeats, content_declined, content_repeat, content_other, content_fine}
use Rattle.words.proofs.Judgements.{handed_on}
use Rattle.list_stored.proofs.judge_content.Goals as goal

pub returns-then-has_repeats : goal.returns-then-has_repeats
returns-then-has_repeats c =
    let content = c.lent-content.result in
    let copy = c.lent-content.ensures ∙ c.copy_entries.ensures in
    sym
    (content_repeat _ (places_height _ _ _ (rw copy at c.in_ok-height.ensures)).0
    (sym (used_repeats _ content.in_bounds.1 c.used_keys.ensures c.has_repeats.ensures ∙ copy_repeats _ copy) ∙ c.if-has_repeats.true))

pub returns-else-stored_height-height : goal.returns-else-stored_height-height
returns-else-stored_height-height c =
    let content = c.lent-content.result in
    let copy = c.lent-content.ensures ∙ c.copy_entries.ensures in
    let j = places_height _ _ _ (rw copy at c.in_ok-height.ensures) in
    sym
    (content_other _ j.0 (sym (used_repeats _ content.in_bounds.1 c.used_keys.ensures c.has_repeats.ensures ∙ copy_repeats _ copy) ∙ c.if-has_repeats.false)
    (λ e. c.if-stored_height-height.false (c.stored_height.ensures ∙ e ∙ sym j.1)))

pub returns-in_err-height : goal.returns-in_err-height
returns-in_err-height c =
    let copy = c.lent-content.ensures ∙ c.copy_entries.ensures in
    handed_on _ c.from_residual.ensures.1 ∙ sym (content_declined _ (places_refused _ _ _ (rw copy at c.in_err-height.ensures)))

pub returns-then-stored_height-height : goal.returns-then-stored_height-height
returns-then-stored_height-height c =
    let content = c.lent-content.result in
    let copy = c.lent-content.ensures ∙ c.copy_entries.ensures in
    let j = places_height _ _ _ (rw copy at c.in_ok-height.ensures) in
    sym
    (content_fine _ j.0 (sym (used_repeats _ content.in_bounds.1 c.used_keys.ensures c.has_repeats.ensures ∙ copy_repeats _ copy) ∙ c.if-has_repeats.false)
    (sym c.stored_height.ensures ∙ c.if-stored_height-height.true ∙ j.1))
