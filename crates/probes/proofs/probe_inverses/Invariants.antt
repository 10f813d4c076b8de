-- What the loop of `probe_inverses` keeps: the places passed hold the inverses.
use Rattle.std.proofs.Common.{◌≡◌, ℕ, ◌<◌, get_or}
use Rattle.field.specs.Elements.{inv_f}
use Rattle.probes.proofs.probe_inverses.Given as goal

abbrev pub invariant-loop-i : goal.invariant-loop-i
invariant-loop-i l = (k : ℕ) → k < l.i → get_or l.out k 0 ≡ inv_f (get_or l.words k 0)
