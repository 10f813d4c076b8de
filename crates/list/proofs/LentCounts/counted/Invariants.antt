-- What the loop of `counted` keeps.
use Rattle.list.specs.Lent.{counts_in}
use Rattle.list.proofs.CountedStores.{Stored}
use Rattle.list.proofs.LentCounts.counted.Given as goal

abbrev pub invariant-loop-place : goal.invariant-loop-place
invariant-loop-place l = Stored (counts_in l.self) l.initial.to_keys l.initial.to_multiplicities l.to_keys l.to_multiplicities l.n l.place
