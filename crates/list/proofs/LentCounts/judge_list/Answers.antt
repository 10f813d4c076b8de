-- `list::LentCounts::judge_list` meets its contract: reason 1, or what `judge_places` answers, for which the shape leaves room. Assumes nothing.
use mathlib.Core.Path.{sym, ◌∙◌}
use native.Mathlib.Omega.{arith}
use Rattle.words.proofs.Judgements.{handed_on}
use Rattle.list.proofs.JudgedLists.{shaped, judged_shape, judged_places_lem}
use Rattle.list.proofs.LentCounts.judge_list.Goals as goal

pub returns-in_err-list_shape : goal.returns-in_err-list_shape
returns-in_err-list_shape c = handed_on _ c.from_residual.ensures.1 ∙ sym (judged_shape _ (sym c.in_err-list_shape.ensures))

pub invariant_of-judge_places : goal.invariant_of-judge_places
invariant_of-judge_places c =
    let fits = shaped _ (sym c.in_ok-list_shape.ensures) in
    record { in_bounds = (omega arith, omega arith, omega arith) }

pub returns : goal.returns
returns c = c.judge_places.ensures ∙ sym (judged_places_lem _ (sym c.in_ok-list_shape.ensures))
