-- `isa::U32TableEntry::judge` meets its contract: the three tests one after the other are the definition's, once the opcode is known.
use Rattle.std.proofs.Common.{sym, ap, ◌∙◌}
use Rattle.words.specs.Refusals.{Declined}
use Rattle.words.proofs.Judgements.{handed_on}
use Rattle.isa.proofs.Opcodes.{judged_stranger, judged_wide, judged_last}
use Rattle.isa.proofs.U32TableEntry.judge.Goals as goal

pub returns-in_err-opcode : goal.returns-in_err-opcode
returns-in_err-opcode c =
    let none = c.in_err-opcode.ensures in
    handed_on _ c.from_residual.ensures.1 ∙ ap Declined none.1 ∙ sym (judged_stranger c.args.self none.0)

pub returns-in_err-judge_operands : goal.returns-in_err-judge_operands
returns-in_err-judge_operands c =
    handed_on _ c.from_residual-in_err-judge_operands.ensures.1
    ∙ sym (judged_wide c.args.self _ (c.in_ok-opcode.ensures) c.left_limit.ensures (c.in_err-judge_operands.ensures))

pub returns : goal.returns
returns c =
    c.judge_logarithm.ensures
    ∙ sym (judged_last c.args.self _ (c.in_ok-opcode.ensures) c.left_limit.ensures (c.in_ok-judge_operands.ensures))
