-- `probes::put_all` meets its contract: what the four stores leave is the words of all forty values (`all_stored`). Assumes nothing.
use Rattle.probes.proofs.Elements.{all_stored}
use Rattle.probes.proofs.put_all.Goals as goal

pub returns : goal.returns
returns c =
    all_stored _ _ _ _ _ _ _ _ _ _ _ _ _ _ c.requires
    c.initial_constraints-initial.ensures c.consistency_constraints-consistency.ensures
    c.transition_constraints-transition.ensures c.terminal_constraints-terminal.ensures c.put_elements.ensures
    c.put_elements-2.ensures c.put_elements-3.ensures c.put_elements-4.ensures
