-- `list_replay::replay_step` meets its contract: the step has one entry, or two of different opcodes, or is refused. Assumes nothing.
use mathlib.Core.Path.{◌≡◌, refl, sym, ap, ◌∙◌}
use Rattle.std.specs.Prelude.{Ok}
use Rattle.words.specs.Answers.{Answer}
use Rattle.words.specs.Outcomes.{Leaves, completed_answer}
use Rattle.words.proofs.Judgements.{handed_on}
use Rattle.words.proofs.Outcomes.{leaves_said}
use Rattle.list.specs.Holds.{HeldList}
use Rattle.list_replay.specs.declared.Step.{Step}
use Rattle.list_replay.specs.Steps.{Entries, step_entries}
use Rattle.list_replay.specs.Replay.{step_as, step_all}
use Rattle.list_replay.proofs.Walks.{one_done, one_refused, step_as_lem, two_differ}
use Rattle.list_replay.proofs.replay_step.Goals as goal

as_step : (h : HeldList) (s : Step) {es told : Entries} {a : Answer} {after : HeldList}
    → told ≡ step_entries s → told ≡ es → Leaves (step_as h es) a after → Leaves (step_all h s) a after
as_step h s t q made = rw (step_as_lem h s (sym t ∙ q)) made

pub returns-in_err-entry-clause-outcome : goal.returns-in_err-entry-clause-outcome
returns-in_err-entry-clause-outcome c =
    as_step _ _ c.in_err-entry.ensures refl
    (record { answer = ap completed_answer (handed_on _ c.from_residual.ensures.1); left = refl })

pub record_both-requires : goal.record_both-requires
record_both-requires c = two_differ _ (sym c.in_ok-entry.ensures ∙ ap Ok c.in-Two.is)

pub returns-in_err-record_u32_table_entry-in-One-clause-outcome : goal.returns-in_err-record_u32_table_entry-in-One-clause-outcome
returns-in_err-record_u32_table_entry-in-One-clause-outcome c =
    as_step _ _ c.in_ok-entry.ensures (ap Ok c.in-One.is)
    (leaves_said (ap completed_answer (handed_on _ c.from_residual-in_err-record_u32_table_entry-in-One.ensures.1))
    (one_refused _ _ c.in_err-record_u32_table_entry-in-One.ensures.outcome refl))

pub returns-in_ok-record_u32_table_entry-in-One-clause-outcome : goal.returns-in_ok-record_u32_table_entry-in-One-clause-outcome
returns-in_ok-record_u32_table_entry-in-One-clause-outcome c =
    as_step _ _ c.in_ok-entry.ensures (ap Ok c.in-One.is)
    (one_done _ _ c.in_ok-record_u32_table_entry-in-One.ensures.outcome refl)

pub returns-in-Two-clause-outcome : goal.returns-in-Two-clause-outcome
returns-in-Two-clause-outcome c = as_step _ _ c.in_ok-entry.ensures (ap Ok c.in-Two.is) c.record_both.ensures.outcome
