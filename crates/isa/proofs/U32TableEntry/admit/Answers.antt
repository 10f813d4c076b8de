-- `isa::U32TableEntry::admit` meets its contract: what is handed back goes by what `judge` finds of the reduced entry.
use Rattle.std.proofs.Common.{Ok, ap, ◌∙◌}
use Rattle.words.specs.Refusals.{Judgement}
use Rattle.words.proofs.Judgements.{handed_on}
use Rattle.isa.specs.Entries.{judge_as_it_is, judge_entry, admission, admit}
use Rattle.isa.proofs.U32TableEntry.admit.Goals as goal

pub returns-in_err-judge : goal.returns-in_err-judge
unfolding admit judge_entry
returns-in_err-judge c =
    handed_on _ c.from_residual.ensures.1
    ∙ ap (λ (j : Judgement). admission j c.args.self) (c.in_err-judge.ensures ∙ ap judge_as_it_is c.reduced-entry.ensures)

pub returns : goal.returns
unfolding admit judge_entry
returns c =
    ap Ok c.reduced-entry.ensures
    ∙ ap (λ (j : Judgement). admission j c.args.self) (c.in_ok-judge.ensures ∙ ap judge_as_it_is c.reduced-entry.ensures)
