-- `batch_text::put_head` meets its contract: the number of jobs, and the names of the columns.
use native.Mathlib.Omega.{arith}
use Rattle.text.proofs.Adding.{adds_then, reached}
use Rattle.batch_text.specs.Table.{head_text}
use Rattle.batch_text.proofs.Tables.{column_bound}
use Rattle.batch_text.proofs.put_head.Goals as goal

pub put_str-requires : goal.put_str-requires
put_str-requires c = omega (arith, c.requires)

pub put_column-requires : goal.put_column-requires
put_column-requires c =
    let r1 = reached c.put_str.ensures in
    omega (arith, c.requires, column_bound 1 c.args.jobs, r1.len, r1.size)

pub put_str-requires-2 : goal.put_str-requires-2
put_str-requires-2 c =
    let r1 = reached c.put_str.ensures in
    let r2 = reached c.put_column.ensures in
    omega (arith, c.requires, column_bound 1 c.args.jobs, r1.len, r1.size, r2.len, r2.size)

pub returns : goal.returns
unfolding head_text
returns c = adds_then c.put_str.ensures (adds_then c.put_column.ensures c.put_str-2.ensures)
