-- What the loop of `probe_products` keeps: the places passed hold the products.
use Rattle.std.proofs.Common.{◌≡◌, ℕ, ◌<◌, get_or}
use Rattle.field.specs.Elements.{mul_f}
use Rattle.probes.proofs.probe_products.Given as goal

abbrev pub invariant-loop-i : goal.invariant-loop-i
invariant-loop-i l = (k : ℕ) → k < l.i → get_or l.out k 0 ≡ mul_f (get_or l.left k 0) (get_or l.right k 0)
