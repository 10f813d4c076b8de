-- `XFieldElement::inverse_or_zero` meets its contract: the result is the adjugate times the inverse of the norm, which is the
-- inverse, or zero where the norm is 0 (proofs/Inverses.antt). Assumes nothing.
use Rattle.xfield.specs.Inverses.{adjugate_x}
use Rattle.xfield.proofs.RingLawsX.{ext_path}
use Rattle.xfield.proofs.Inverses.{inverse_by_adjugate}
use Rattle.xfield.proofs.XFieldElement.inverse_or_zero.Goals as goal

pub returns : goal.returns
unfolding adjugate_x
returns c =
    let adjugate = c.adjugate-adjugate.ensures in
    inverse_by_adjugate _ _ _ _ _
    (ext_path adjugate.first adjugate.second adjugate.third)
    c.first_of_product-norm.ensures
    c.inverse_or_zero.ensures
    c.mul.ensures
