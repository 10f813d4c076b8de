-- `batch_text::put_fault` meets its contract: a case for either fault.
use native.Mathlib.Omega.{arith}
use Rattle.text.proofs.Lengths.{malformed_bound}
use Rattle.batch_text.proofs.put_fault.Goals as goal

pub put_malformed-requires : goal.put_malformed-requires
put_malformed-requires c = omega (arith, c.requires, malformed_bound c.in-Malformed.line)

pub returns-in-Malformed : goal.returns-in-Malformed
returns-in-Malformed c = rw c.in-Malformed.is c.put_malformed.ensures

pub returns-in-TooMany : goal.returns-in-TooMany
returns-in-TooMany c = rw c.in-TooMany.is c.put_too_many.ensures
