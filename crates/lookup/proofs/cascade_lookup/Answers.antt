-- `lookup::cascade_lookup` meets its contract: the table that is lent is the byte lookup's. Assumes nothing.
use mathlib.Core.Path.{◌∙◌}
use borrow.Author.Rules.{rules}
use Rattle.lookup.proofs.ByteLookup.{stored, stored_is, both_looked_up}
use Rattle.lookup.proofs.cascade_lookup.Goals as goal

pub returns : goal.returns
unfolding stored
returns c = c.cascade_lookup_in.ensures ∙ both_looked_up stored stored_is _ (search rules)
