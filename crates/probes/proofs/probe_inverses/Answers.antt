-- `probes::probe_inverses` meets its contract: each place holds its inverse. Assumes nothing.
use Rattle.std.proofs.Common.{rules, arith}
use Rattle.probes.specs.Probes.{written, inverses_fit}
use Rattle.probes.proofs.Places.{are_inverses}
use Rattle.probes.proofs.probe_inverses.Goals as goal

pub returns-clause-inverses : goal.returns-clause-inverses
unfolding written inverses_fit
returns-clause-inverses c =
    let e = are_inverses c.args.words.now c.loop-i.out (omega arith) (λ k h. c.loop-i.invariant k (omega arith)) in
    search rules
