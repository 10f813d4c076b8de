-- `isa::U32TableEntry::dominant_operand` meets its contract: the two cases of the definition.
use Rattle.std.proofs.lemmas.Bool.{eq-eqb, ne_eqb}
use Rattle.isa.specs.Entries.{dominant}
use Rattle.isa.proofs.U32TableEntry.dominant_operand.Goals as goal

pub returns-then-self : goal.returns-then-self
unfolding dominant
returns-then-self c = simp (ne_eqb _ _ c.if-self.true) c.max.ensures

pub returns-else-self : goal.returns-else-self
unfolding dominant
returns-else-self c = simp (eq-eqb _ _ c.if-self.false)
