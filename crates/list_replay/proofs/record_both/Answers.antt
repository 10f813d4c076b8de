-- `list_replay::record_both` meets its contract: both places are found ahead (both_places), so that nothing is stored before both are accepted.
-- Assumes nothing.
use mathlib.Core.Path.{◌≡◌, ap, ◌∙◌}
use borrow.Author.Rules.{rules}
use Rattle.std.specs.Prelude.{Ok}
use Rattle.words.specs.Outcomes.{completed_answer}
use Rattle.words.proofs.Judgements.{handed_on}
use Rattle.words.proofs.Outcomes.{leaves_said}
use Rattle.isa.specs.declared.U32TableEntry.{U32TableEntry}
use Rattle.list.specs.Holds.{HeldList}
use Rattle.list.specs.Lent.{held_in_mut}
use Rattle.list_record.specs.Placing.{Placed, place_of}
use Rattle.list_record.proofs.RecordingCases.{has_room}
use Rattle.list_replay.specs.Together.{second_place}
use Rattle.list_replay.proofs.BothPlaces.{first_refused, ahead_refused, second_refused, second_fits, stored_refuses_not, both_stored}
use Rattle.list_replay.proofs.record_both.Goals as goal

-- what is found in a list that is looked at is found in the list that was lent
found_in : {view h : HeldList} (e : U32TableEntry) {p : Placed} → view ≡ h → p ≡ place_of view e → p ≡ place_of h e
found_in e q f = f ∙ ap (λ (l : HeldList). place_of l e) q

pub returns-in_err-first-clause-outcome : goal.returns-in_err-first-clause-outcome
returns-in_err-first-clause-outcome c =
    leaves_said (ap completed_answer (handed_on _ c.from_residual.ensures.1))
    (first_refused _ _ _ (found_in _ c.view.ensures c.in_err-first.ensures))

pub returns-in_err-ahead-clause-outcome : goal.returns-in_err-ahead-clause-outcome
returns-in_err-ahead-clause-outcome c =
    leaves_said (ap completed_answer (handed_on _ c.from_residual-in_err-ahead.ensures.1))
    (ahead_refused _ _ _ c.requires _ (found_in _ c.view.ensures c.in_ok-first.ensures) (found_in _ c.view-2.ensures c.in_err-ahead.ensures))

pub returns-in_err-second-clause-outcome : goal.returns-in_err-second-clause-outcome
returns-in_err-second-clause-outcome c =
    leaves_said (ap completed_answer (handed_on _ c.from_residual-in_err-second.ensures.1))
    (second_refused _ _ _ c.requires _ (found_in _ c.view.ensures c.in_ok-first.ensures)
    (c.in_err-second.ensures ∙ ap (second_place _ (Ok c.in_ok-first.first)) (found_in _ c.view-2.ensures c.in_ok-ahead.ensures)))

pub store-requires : goal.store-requires
store-requires c = (search rules, search rules, has_room _ _ (found_in _ c.view.ensures c.in_ok-first.ensures))

pub returns-in_err-store : goal.returns-in_err-store
returns-in_err-store c = absurd (stored_refuses_not _ _ _ c.in_err-store.ensures.outcome.answer)

pub store-requires-2 : goal.store-requires-2
store-requires-2 c = (
  search rules,
  search rules,
  second_fits (held_in_mut c.args.list.now) _ _ c.requires _ (found_in _ c.view.ensures c.in_ok-first.ensures) _
      (c.in_ok-second.ensures ∙ ap (second_place _ (Ok c.in_ok-first.first)) (found_in _ c.view-2.ensures c.in_ok-ahead.ensures)) _
      c.in_ok-store.ensures.outcome.left,
)

pub returns-in_err-store-2 : goal.returns-in_err-store-2
returns-in_err-store-2 c = absurd (stored_refuses_not _ _ _ c.in_err-store-2.ensures.outcome.answer)

pub returns-clause-outcome : goal.returns-clause-outcome
returns-clause-outcome c =
    both_stored _ _ _ c.requires _ (found_in _ c.view.ensures c.in_ok-first.ensures) _
    (c.in_ok-second.ensures ∙ ap (second_place _ (Ok c.in_ok-first.first)) (found_in _ c.view-2.ensures c.in_ok-ahead.ensures)) _
    c.in_ok-store.ensures.outcome.left c.in_ok-store-2.ensures.outcome
