use Rattle.std.proofs.Common.{arith}
use Rattle.field.proofs.Euclid.{halfway, again, second_fits, none, table_low, table_high}
use Rattle.field.proofs.BFieldElement.inverse_or_zero.Goals as goal

pub returns-then-a-eq0 : goal.returns-then-a-eq0
returns-then-a-eq0 c = none _ _ c.value-a.ensures c.if-a-eq0.true

pub returns-then-r0-lt256 : goal.returns-then-r0-lt256
returns-then-r0-lt256 c =
    table_high _ _ _ _ _ _ _ _ _ c.value-a.ensures (halfway _ _ _ _ _ c.loop-r1.invariant (omega arith))
    c.small_inverse.ensures c.mul.ensures c.neg.ensures

pub overflow_mul-t1 : goal.overflow_mul-t1
overflow_mul-t1 c = omega (arith, second_fits _ _ _ _ _ (halfway _ _ _ _ _ c.loop-r1.invariant (omega arith)))

pub overflow_add-t1 : goal.overflow_add-t1
overflow_add-t1 c = omega (arith, second_fits _ _ _ _ _ (halfway _ _ _ _ _ c.loop-r1.invariant (omega arith)))

pub loop-r1-preserved : goal.loop-r1-preserved
loop-r1-preserved c = again _ _ _ _ _ (halfway _ _ _ _ _ c.loop-r1.invariant (omega arith)) (omega arith)

pub returns : goal.returns
returns c =
    table_low _ _ _ _ _ _ _ _ c.value-a.ensures c.loop-r1.invariant c.small_inverse-2.ensures c.mul-2.ensures
