-- `list::LentList::judge_held` meets its contract: reason 1 or 15, then what `judge_counted` answers of a copy. Assumes nothing.
use mathlib.Core.Path.{sym, ap, ◌∙◌}
use mathlib.Core.Bool.{false}
use Rattle.words.proofs.Judgements.{handed_on}
use Rattle.list.specs.Counted.{counted}
use Rattle.list.specs.Heights.{judged_places}
use Rattle.list.specs.Holds.{section_list}
use Rattle.list.specs.Lists.{U32List}
use Rattle.list.proofs.HeldLists.{judged_held_refused, judged_held_closed}
use Rattle.list.proofs.LentList.judge_held.Goals as goal

pub returns-in_err-places : goal.returns-in_err-places
returns-in_err-places c = handed_on _ c.from_residual.ensures.1 ∙ sym (judged_held_refused _ c.in_err-places.ensures)

pub returns : goal.returns
unfolding section_list
returns c =
    c.judge_counted.ensures.height
    ∙ ap (λ (l : U32List). judged_places false (counted l)) c.in_ok-places.ensures.0
    ∙ sym (judged_held_closed _ c.in_ok-places.ensures.1)
