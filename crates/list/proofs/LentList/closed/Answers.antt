-- `list::LentList::closed` meets its contract: reason 1, then 15; past both the used places are within the arrays. Assumes nothing.
use mathlib.Core.Path.{refl, sym, ◌∙◌}
use native.Mathlib.Omega.{arith}
use Rattle.words.proofs.Judgements.{handed_on}
use Rattle.list.proofs.HeldLists.{held_shaped, closed_shape, closed_next}
use Rattle.list.proofs.LentList.closed.Goals as goal

pub returns-in_err-held_shape : goal.returns-in_err-held_shape
returns-in_err-held_shape c = rw (handed_on _ c.from_residual.ensures.1) (closed_shape _ (sym c.in_err-held_shape.ensures))

pub returns-in_err-open_hold : goal.returns-in_err-open_hold
returns-in_err-open_hold c =
    rw (handed_on _ c.from_residual-in_err-open_hold.ensures.1)
    (closed_next _ (sym c.in_ok-held_shape.ensures) ∙ sym c.in_err-open_hold.ensures)

pub invariant_of-result : goal.invariant_of-result
invariant_of-result c =
    let fits = (held_shaped _ (sym c.in_ok-held_shape.ensures)).list in
    record { in_bounds = (omega (arith, fits.small, fits.within), omega (arith, fits.within, fits.keys), omega (arith, fits.within, fits.multiplicities)) }

pub returns : goal.returns
returns c = (refl, closed_next _ (sym c.in_ok-held_shape.ensures) ∙ sym c.in_ok-open_hold.ensures)
