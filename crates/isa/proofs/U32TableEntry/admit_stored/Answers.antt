-- `isa::U32TableEntry::admit_stored` meets its contract: what is handed back goes by what `judge` finds.
use Rattle.std.proofs.Common.{Ok, ap, ◌∙◌}
use Rattle.words.specs.Refusals.{Judgement}
use Rattle.words.proofs.Judgements.{handed_on}
use Rattle.isa.specs.Entries.{admission, admit_stored}
use Rattle.isa.proofs.U32TableEntry.admit_stored.Goals as goal

pub returns-in_err-judge : goal.returns-in_err-judge
unfolding admit_stored
returns-in_err-judge c =
    handed_on _ c.from_residual.ensures.1
    ∙ ap (λ (j : Judgement). admission j c.args.self) (c.in_err-judge.ensures)

pub returns : goal.returns
unfolding admit_stored
returns c =
    ap Ok c.reduced.ensures
    ∙ ap (λ (j : Judgement). admission j c.args.self) (c.in_ok-judge.ensures)
