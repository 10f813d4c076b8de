-- `list::Copied::gather` meets its contract: the fronts of the arrays are the list of the counted places, which `counted` stored there. Assumes nothing.
use mathlib.Core.Path.{ap}
use native.Mathlib.Omega.{arith}
use Rattle.list.specs.declared.Sizes.{Sizes}
use Rattle.list.specs.Lent.{counts_in}
use Rattle.list.proofs.CountedLists.{counted_few}
use Rattle.list.proofs.CountedStores.{counted_front}
use Rattle.list.proofs.Copied.gather.Goals as goal

pub invariant_of-self : goal.invariant_of-self
invariant_of-self c = record { fits = omega (arith, ap (λ (z : Sizes). z.used) c.counted-copied.ensures.value, counted_few (counts_in c.args.places.now.list)) }

pub returns : goal.returns
returns c = record {
  list = counted_front _ _ _ c.counted-copied.ensures.value c.counted-copied.ensures.to_keys_after c.counted-copied.ensures.to_multiplicities_after (omega arith) (omega arith) (omega arith);
}
