-- `batch_text::put_refusal` meets its contract: the setting, the number, and the words of either reason.
use mathlib.Core.Path.{ap}
use native.Mathlib.Omega.{arith}
use Rattle.words.specs.Refusals.{refusal_number}
use Rattle.text.proofs.Adding.{adds_then, adds_same, reached}
use Rattle.batch_text.specs.Table.{refusal_line}
use Rattle.batch_text.proofs.Tables.{column_bound, reason_setting, reason_job, other_number}
use Rattle.batch_text.proofs.put_refusal.Goals as goal

pub put_column-requires : goal.put_column-requires
put_column-requires c = omega (arith, c.requires, column_bound 11 c.args.setting)

pub put_str-requires : goal.put_str-requires
put_str-requires c =
    let r1 = reached c.put_column.ensures in
    omega (arith, c.requires, column_bound 11 c.args.setting, r1.len, r1.size)

pub put_column-requires-2 : goal.put_column-requires-2
put_column-requires-2 c =
    let r1 = reached c.put_column.ensures in
    let r2 = reached c.put_str.ensures in
    omega (arith, c.requires, column_bound 11 c.args.setting, column_bound 1 c.from.result, r1.len, r1.size, r2.len, r2.size)

pub put_str-requires-in-Shape : goal.put_str-requires-in-Shape
put_str-requires-in-Shape c =
    let r1 = reached c.put_column.ensures in
    let r2 = reached c.put_str.ensures in
    let r3 = reached c.put_column-2.ensures in
    omega (arith, c.requires, column_bound 11 c.args.setting, column_bound 1 c.from.result, r1.len, r1.size, r2.len, r2.size, r3.len, r3.size)

pub returns-in-Shape : goal.returns-in-Shape
unfolding refusal_line
returns-in-Shape c =
    let last = adds_same (reason_setting _ (ap refusal_number c.in-Shape.is)) c.put_str-in-Shape.ensures in
    adds_then c.put_column.ensures (adds_then c.put_str.ensures (adds_then (rw c.from.ensures at c.put_column-2.ensures) last))

pub put_str-requires-in_default : goal.put_str-requires-in_default
put_str-requires-in_default c =
    let r1 = reached c.put_column.ensures in
    let r2 = reached c.put_str.ensures in
    let r3 = reached c.put_column-2.ensures in
    omega (arith, c.requires, column_bound 11 c.args.setting, column_bound 1 c.from.result, r1.len, r1.size, r2.len, r2.size, r3.len, r3.size)

pub returns-in_default : goal.returns-in_default
unfolding refusal_line
returns-in_default c =
    let last = adds_same (reason_job _ (other_number _ c.in_default.not-Shape)) c.put_str-in_default.ensures in
    adds_then c.put_column.ensures (adds_then c.put_str.ensures (adds_then (rw c.from.ensures at c.put_column-2.ensures) last))
