-- `isa::U32TableEntry::compare` meets its contract: the derived order compares the words one after the other, as the definition does.
use Rattle.std.proofs.Common.{◌∙◌}
use Rattle.isa.proofs.Comparing.{in_turn}
use Rattle.isa.proofs.U32TableEntry.compare.Goals as goal

pub returns : goal.returns
returns c = c.cmp.ensures ∙ in_turn _ _
