-- `u32list::run` meets its contract: what is read is within the input, and the text is within the output.
use Rattle.std.proofs.Common.{sym, length-take-le}
use Rattle.transcript.proofs.Steps.{text_within}
use Rattle.u32list.proofs.run.Goals as goal

pub slice_bounds-out-end : goal.slice_bounds-out-end
slice_bounds-out-end g c = text_within _ _ _ _ (c.in-Ok.ensures.due, c.in-Ok.ensures.fits)

pub slice_bounds-write_all-end : goal.slice_bounds-write_all-end
slice_bounds-write_all-end g c =
    sym (length-take-le _ _ (text_within _ _ _ _ (c.in-Ok.ensures.due, c.in-Ok.ensures.fits)))
