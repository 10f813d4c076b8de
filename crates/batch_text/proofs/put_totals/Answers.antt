-- `batch_text::put_totals` meets its contract: four columns and the share.
use native.Mathlib.Omega.{arith}
use Rattle.text.proofs.Adding.{adds_then, reached}
use Rattle.batch_text.specs.Table.{totals_line}
use Rattle.batch_text.proofs.Tables.{column_bound}
use Rattle.batch_text.proofs.put_totals.Goals as goal

pub put_column-requires : goal.put_column-requires
put_column-requires c = omega (arith, c.requires.0, column_bound 11 c.args.setting)

pub put_column-requires-2 : goal.put_column-requires-2
put_column-requires-2 c =
    let r1 = reached c.put_column.ensures in
    omega (arith, c.requires.0, column_bound 11 c.args.setting, column_bound 11 c.args.totals.count, r1.len, r1.size)

pub put_column-requires-3 : goal.put_column-requires-3
put_column-requires-3 c =
    let r1 = reached c.put_column.ensures in
    let r2 = reached c.put_column-2.ensures in
    omega (arith, c.requires.0, column_bound 11 c.args.setting, column_bound 11 c.args.totals.count, column_bound 11 c.args.totals.rows, r1.len, r1.size, r2.len, r2.size)

pub put_column-requires-4 : goal.put_column-requires-4
put_column-requires-4 c =
    let r1 = reached c.put_column.ensures in
    let r2 = reached c.put_column-2.ensures in
    let r3 = reached c.put_column-3.ensures in
    omega (arith, c.requires.0, column_bound 11 c.args.setting, column_bound 11 c.args.totals.count, column_bound 11 c.args.totals.rows, column_bound 11 c.args.totals.padding, r1.len, r1.size, r2.len, r2.size, r3.len, r3.size)

pub put_share-requires : goal.put_share-requires
put_share-requires c =
    let r1 = reached c.put_column.ensures in
    let r2 = reached c.put_column-2.ensures in
    let r3 = reached c.put_column-3.ensures in
    let r4 = reached c.put_column-4.ensures in
    omega (arith, c.requires.0, column_bound 11 c.args.setting, column_bound 11 c.args.totals.count, column_bound 11 c.args.totals.rows, column_bound 11 c.args.totals.padding, r1.len, r1.size, r2.len, r2.size, r3.len, r3.size, r4.len, r4.size)

pub returns : goal.returns
unfolding totals_line
returns c =
    adds_then c.put_column.ensures
    (adds_then c.put_column-2.ensures (adds_then c.put_column-3.ensures (adds_then c.put_column-4.ensures (rw c.share.ensures at c.put_share.ensures))))
