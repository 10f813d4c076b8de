-- `table_text::put_fault` meets its contract: either line fits.
use native.Mathlib.Omega.{arith}
use Rattle.text.proofs.Lengths.{malformed_bound, too_many_bound}
use Rattle.table_text.proofs.put_fault.Goals as goal

pub put_malformed-requires : goal.put_malformed-requires
put_malformed-requires c = omega (arith, c.requires, malformed_bound c.in-Malformed.line)

pub put_too_many-requires : goal.put_too_many-requires
put_too_many-requires c = omega (arith, c.requires, too_many_bound c.in-TooMany.rows 16384)
