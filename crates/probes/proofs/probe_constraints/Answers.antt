-- `probes::probe_constraints` meets its contract: `put_all` stores the values of the constraints on the rows that the words hold. Assumes
-- nothing.
use Rattle.std.proofs.Common.{rules}
use Rattle.probes.specs.Probes.{written, constraints_fit}
use Rattle.probes.proofs.Elements.{words_held}
use Rattle.probes.proofs.probe_constraints.Goals as goal

pub returns-clause-constraints : goal.returns-clause-constraints
unfolding written constraints_fit
returns-clause-constraints c =
    let e = words_held _ _ _ _ c.from_words.ensures c.at-pair.ensures.upper c.at-pair.ensures.lower c.at-pair.ensures.sum c.at-pair.ensures.sum_next c.put_all.ensures in
    search rules
