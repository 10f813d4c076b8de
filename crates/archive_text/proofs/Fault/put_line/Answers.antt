-- `Fault::put_line` meets its contract: the line of a refusal is short.
use native.Mathlib.Omega.{arith}
use Rattle.words.specs.Refusals.{refusal_number}
use Rattle.text.proofs.Lengths.{refused_bound}
use Rattle.archive_text.proofs.Fault.put_line.Goals as goal

pub put_refused-requires : goal.put_refused-requires
put_refused-requires c = omega (arith, c.requires, refused_bound (refusal_number c.in-Refused.reason))

pub returns-in-Taken : goal.returns-in-Taken
returns-in-Taken c = rw c.in-Taken.is c.put_fault.ensures

pub returns-in-Refused : goal.returns-in-Refused
returns-in-Refused c = rw c.in-Refused.is c.put_refused.ensures
