-- What the loop of `probe_chain` keeps: x is the chain of the products so far.
use Rattle.std.proofs.Common.{◌≡◌}
use Rattle.probes.specs.Probes.{chain_of}
use Rattle.probes.proofs.probe_chain.Given as goal

abbrev pub invariant-loop-i : goal.invariant-loop-i
invariant-loop-i l = l.x.0 ≡ chain_of l.start l.factor l._i
