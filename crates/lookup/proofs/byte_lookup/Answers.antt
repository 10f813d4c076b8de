-- `lookup::byte_lookup` meets its contract: the table has the stored numbers, which follow the rule, and no two of which are equal. Assumes nothing.
use Prim.Native.Nat.{ℕ}
use mathlib.Core.Path.{ap, subst, ◌∙◌}
use mathlib.Core.List.{List}
use borrow.Author.Rules.{rules}
use lib.ListN.{get_or}
use Rattle.lookup.specs.ByteLookup.{NoneShared}
use Rattle.lookup.proofs.ByteLookup.{stored, stored_is, stored_distinct, stored_output}
use Rattle.lookup.proofs.byte_lookup.Goals as goal

pub returns : goal.returns
unfolding stored
returns c = record {
  rule = ap (λ (i : ℕ). get_or stored i 0) c.from.ensures ∙ stored_output _ (search rules);
  distinct = subst (λ (outputs : List ℕ). NoneShared outputs) stored_is stored_distinct;
}
