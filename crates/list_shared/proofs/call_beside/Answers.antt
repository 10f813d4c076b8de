-- `list_shared::call_beside` meets its contract: where the other's arrays are of the wrong shape nothing is changed; else the call has returned, and what came into
-- use is cleared. Assumes nothing.
use Rattle.std.proofs.Common.{refl, sym}
use Rattle.list_shared.proofs.call_beside.Goals as goal

pub returns-in_err-other_shape-clause-refused : goal.returns-in_err-other_shape-clause-refused
returns-in_err-other_shape-clause-refused g c = rw (sym c.in_err-other_shape.ensures) (c.from_residual.ensures.1, refl, refl)

pub returns-in_err-other_shape-clause-called : goal.returns-in_err-other_shape-clause-called
returns-in_err-other_shape-clause-called g c = rw (sym c.in_err-other_shape.ensures) tt

pub returns-clause-refused : goal.returns-clause-refused
returns-clause-refused g c = rw (sym c.in_ok-other_shape.ensures) tt

pub returns-clause-called : goal.returns-clause-called
returns-clause-called g c =
    rw (sym c.in_ok-other_shape.ensures)
    (record { shown = _; shows = refl; left = _; met = c.call-answer.ensures; leaves = refl }, c.clear.ensures.counts)
