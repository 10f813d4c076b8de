-- The denominator of a row's summand has words below p. Assumes nothing.
use Prim.Native.Nat.{ℕ}
use mathlib.Core.List.{List}
use Rattle.xfield.specs.Extension.{Reduced}
use Rattle.xfield.proofs.Laws.{sub_x_reduced}
use Rattle.table.specs.Challenges.{denominator}
use Rattle.sums.specs.LookupSum.{summand_at}

pub summand_reduced : (table challenges : List ℕ) (i : ℕ) → Reduced (summand_at table challenges i).denominator
unfolding summand_at denominator
summand_reduced table challenges i = sub_x_reduced _ _
