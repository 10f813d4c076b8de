-- `list_stored::write_list` meets its contract: where `closed` or `judge_and_gather` gives a reason it is the answer; else its copy is the list that is stored, so `store`
-- does what is due for it. Assumes nothing.
use mathlib.Core.Path.{sym, ap, ◌∙◌}
use Rattle.list.specs.Heights.{list_height}
use Rattle.list.proofs.HeldLists.{closed_refused, held_height, held_refused}
use Rattle.list_stored.proofs.Reasons.{write_refused, write_stores}
use Rattle.words.proofs.Judgements.{handed_on}
use Rattle.words.proofs.Outcomes.{leaves_said}
use Rattle.list_stored.specs.Stored.{written_answer}
use Rattle.list_stored.proofs.write_list.Goals as goal

pub store-requires : goal.store-requires
store-requires c =
    let told = c.in_ok-height.ensures in
    (held_height _ _ told.height).1 ∙ ap list_height (sym (c.lent.ensures ∙ told.gathered))

pub returns-in_err-closed : goal.returns-in_err-closed
returns-in_err-closed c =
    leaves_said (ap written_answer (handed_on _ c.from_residual.ensures.1)) (write_refused _ _ (closed_refused _ c.in_err-closed.ensures))

pub returns-in_err-height : goal.returns-in_err-height
returns-in_err-height c =
    leaves_said (ap written_answer (handed_on _ c.from_residual-in_err-height.ensures.1)) (write_refused _ _ (held_refused _ _ c.in_err-height.ensures.height))

pub returns : goal.returns
returns c =
    let told = c.in_ok-height.ensures in
    write_stores _ _ (held_height _ _ told.height).0 _ (c.lent.ensures ∙ told.gathered) c.store.ensures
