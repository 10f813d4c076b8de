-- `transcript::put_result` meets its contract: the line of the verdict fits after the lines before it.
use Rattle.std.proofs.Common.{arith}
use Rattle.text.proofs.Adding.{adds_then}
use Rattle.transcript.proofs.Fits.{verdict_fits}
use Rattle.transcript.proofs.Steps.{result_zero, result_nonzero}
use Rattle.transcript.proofs.put_result.Goals as goal

pub put_zero-requires : goal.put_zero-requires
put_zero-requires c =
    verdict_fits _ _ _ _ _ (omega arith) c.requires.1 c.requires.0 c.put_opening.ensures _ (omega arith)

pub put_nonzero-requires : goal.put_nonzero-requires
put_nonzero-requires c =
    verdict_fits _ _ _ _ _ (omega arith) c.requires.1 c.requires.0 c.put_opening.ensures _ (omega arith)

pub returns-in-None : goal.returns-in-None
returns-in-None c = rw (result_zero _ _ _ _ _ c.in-None.is) (adds_then c.put_opening.ensures c.put_zero.ensures)

pub returns-in-Some : goal.returns-in-Some
returns-in-Some c = rw (result_nonzero _ _ _ _ _ _ c.in-Some.is) (adds_then c.put_opening.ensures c.put_nonzero.ensures)
