-- `isa::U32TableEntry::reduced` meets its contract: the two cases of the definition.
use Rattle.std.proofs.Common.{ℕ, sym, ap, ◌∙◌}
use Rattle.isa.specs.Entries.{rhs, entry}
use Rattle.isa.proofs.Entries.{admitted_pow, admitted_other}
use Rattle.isa.proofs.U32TableEntry.reduced.Goals as goal

pub returns-then-self : goal.returns-then-self
returns-then-self c =
    let e = c.args.self in
    ap (λ (n : ℕ). entry e.opcode n (rhs e)) c.new.ensures ∙ sym (admitted_pow e c.if-self.true)

pub returns-else-self : goal.returns-else-self
returns-else-self c = sym (admitted_other c.args.self c.if-self.false)
