-- `list::LentList::judge_and_gather` meets its contract: reason 1 or 15, then what `judge_counted` answers of the copy, which is the list that gets sections.
-- Assumes nothing.
use mathlib.Core.Path.{sym, ap, ◌∙◌}
use mathlib.Core.Bool.{false}
use Rattle.std.specs.Prelude.{OnOk, Ok, Err}
use Rattle.words.proofs.Judgements.{handed_on}
use Rattle.list.specs.Counted.{counted}
use Rattle.list.specs.Heights.{Judged, judged_places}
use Rattle.list.specs.Holds.{section_list}
use Rattle.list.specs.Lists.{U32List}
use Rattle.list.proofs.HeldLists.{judged_held_refused, judged_held_closed}
use Rattle.list.proofs.LentList.judge_and_gather.Goals as goal

on_ok : {P : Type 0} (r : Judged) → P → OnOk r P
on_ok (Ok h) p = p
on_ok (Err k) p = tt

pub returns-in_err-places-clause-height : goal.returns-in_err-places-clause-height
returns-in_err-places-clause-height c = handed_on _ c.from_residual.ensures.1 ∙ sym (judged_held_refused _ c.in_err-places.ensures)

pub returns-clause-height : goal.returns-clause-height
unfolding section_list
returns-clause-height c =
    c.judge_counted.ensures.height
    ∙ ap (λ (l : U32List). judged_places false (counted l)) c.in_ok-places.ensures.0
    ∙ sym (judged_held_closed _ c.in_ok-places.ensures.1)

pub returns-clause-gathered : goal.returns-clause-gathered
unfolding section_list
returns-clause-gathered c = on_ok _ (c.judge_counted.ensures.gathered ∙ ap counted c.in_ok-places.ensures.0)
