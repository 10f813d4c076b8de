-- `lookup_sums::cascade_sum` meets its contract: where the shapes are right, the sum over the used places' summands is what is due. Assumes nothing.
use mathlib.Core.Path.{sym}
use native.Mathlib.Omega.{arith}
use Rattle.lookup_sums.proofs.Sums.{sum_shaped, cascade_shaped, cascade_summed_right}
use Rattle.lookup_sums.proofs.cascade_sum.Goals as goal

pub has_sum_shape-requires : goal.has_sum_shape-requires
has_sum_shape-requires c = (cascade_shaped c.in_ok-judge_shape.ensures).small

pub invariant_of-places : goal.invariant_of-places
invariant_of-places c =
    let s = cascade_shaped c.in_ok-judge_shape.ensures in
    record { within_keys = omega (arith, s.within, s.keys); within_multiplicities = omega (arith, s.within, s.multiplicities) }

pub sum_over-requires : goal.sum_over-requires
sum_over-requires c =
    let s = cascade_shaped c.in_ok-judge_shape.ensures in
    let lengths = sum_shaped _ _ _ (sym c.if-not-has_sum_shape.ensures) in
    (omega (arith, s.within, s.multiplicities), omega (arith, s.within, lengths.1))

pub returns : goal.returns
returns c = cascade_summed_right _ _ _ c.in_ok-judge_shape.ensures (sym c.if-not-has_sum_shape.ensures) c.from_words.ensures c.sum_over.ensures
