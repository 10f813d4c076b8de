-- `names::names_of` meets its contract: the texts are those of the definitions.
use mathlib.Core.Path.{refl}
use Rattle.names.specs.Names.{initial_names, consistency_names, transition_names, terminal_names}
use Rattle.names.proofs.names_of.Goals as goal

pub returns-in-0 : goal.returns-in-0
unfolding initial_names
returns-in-0 c = rw c.in-0.is refl

pub returns-in-1 : goal.returns-in-1
unfolding consistency_names
returns-in-1 c = rw c.in-1.is refl

pub returns-in-2 : goal.returns-in-2
unfolding transition_names
returns-in-2 c = rw c.in-2.is refl

pub returns-in-3 : goal.returns-in-3
unfolding terminal_names
returns-in-3 c = rw c.in-3.is refl
