-- `table_text::put_verdict` meets its contract: a refusal is a line; else what was found.
use native.Mathlib.Omega.{arith}
use Rattle.text.proofs.Lengths.{refused_bound}
use Rattle.words.specs.Refusals.{refusal_number}
use Rattle.table_text.proofs.Answering.{verdict_refused}
use Rattle.table_text.proofs.put_verdict.Goals as goal

pub put_refused-requires : goal.put_refused-requires
put_refused-requires c = omega (arith, c.requires, refused_bound (refusal_number c.in-Err.reason))

pub returns-in-Err : goal.returns-in-Err
returns-in-Err c = verdict_refused _ c.in-Err.is c.put_refused.ensures

pub returns-in-Ok : goal.returns-in-Ok
returns-in-Ok c = rw c.in-Ok.is c.put_found.ensures
