-- `BFieldElement::pow` meets its contract. The loop's invariant: the power that is asked for is `power` times `square` to the power `rest`. A turn
-- halves `rest` and squares `square`; an odd `rest` gives one factor to `power`. At the end `rest` is 0. Assumes nothing.
use Rattle.std.proofs.Common.{◌≡◌, ◌<◌}
use Rattle.field.specs.Elements.{p, mul_f, pow_f}
use Rattle.field.proofs.BFieldElement.pow.Given as goal

abbrev pub invariant-loop-rest : goal.invariant-loop-rest
invariant-loop-rest l = (l.power.0 < p) × (mul_f l.power.0 (pow_f l.square.0 l.rest) ≡ pow_f l.initial.square.0 l.initial.rest)

abbrev pub decreases-loop-rest : goal.decreases-loop-rest
decreases-loop-rest l = l.rest
