-- `batch_text::put_share` meets its contract: the whole percents, the tenths, and the end of the line.
use native.Mathlib.Omega.{arith}
use Prim.Native.Nat.{◌/◌, ◌%◌}
use Rattle.text.proofs.Adding.{adds_then, reached}
use Rattle.batch_text.specs.Table.{share_text}
use Rattle.batch_text.proofs.Tables.{column_bound}
use Rattle.batch_text.proofs.put_share.Goals as goal

pub put_column-requires : goal.put_column-requires
put_column-requires c = omega (arith, c.requires, column_bound 5 (c.args.thousandths / 10))

pub put_str-requires : goal.put_str-requires
put_str-requires c =
    let r1 = reached c.put_column.ensures in
    omega (arith, c.requires, column_bound 5 (c.args.thousandths / 10), r1.len, r1.size)

pub put_column-requires-2 : goal.put_column-requires-2
put_column-requires-2 c =
    let r1 = reached c.put_column.ensures in
    let r2 = reached c.put_str.ensures in
    omega (arith, c.requires, column_bound 5 (c.args.thousandths / 10), column_bound 1 (c.args.thousandths % 10), r1.len, r1.size, r2.len, r2.size)

pub put_str-requires-2 : goal.put_str-requires-2
put_str-requires-2 c =
    let r1 = reached c.put_column.ensures in
    let r2 = reached c.put_str.ensures in
    let r3 = reached c.put_column-2.ensures in
    omega (arith, c.requires, column_bound 5 (c.args.thousandths / 10), column_bound 1 (c.args.thousandths % 10), r1.len, r1.size, r2.len, r2.size, r3.len, r3.size)

pub returns : goal.returns
unfolding share_text
returns c =
    adds_then c.put_column.ensures (adds_then c.put_str.ensures (adds_then c.put_column-2.ensures c.put_str-2.ensures))
