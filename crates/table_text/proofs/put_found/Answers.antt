-- `table_text::put_found` meets its contract: a case for each finding.
use native.Mathlib.Omega.{arith}
use mathlib.Core.List.{[]}
use Rattle.text.proofs.Lengths.{verdict_bound}
use Rattle.table_text.proofs.Answering.{found_none, found_some, nonzero_fits}
use Rattle.table_text.proofs.put_found.Goals as goal

pub put_name-requires : goal.put_name-requires
put_name-requires c = omega (arith, c.requires)

pub put_zero-requires : goal.put_zero-requires
put_zero-requires c = omega (arith, c.requires, verdict_bound [])

pub put_nonzero-requires : goal.put_nonzero-requires
put_nonzero-requires c = nonzero_fits _ _ c.requires c.put_name.ensures

pub returns-in-None : goal.returns-in-None
returns-in-None c = found_none c.in-None.is c.put_zero.ensures

pub returns-in-Some : goal.returns-in-Some
returns-in-Some c = found_some _ c.in-Some.is (rw c.from.ensures at c.put_name.ensures) c.put_nonzero.ensures
