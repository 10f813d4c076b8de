-- `archive::StoredColumns::put_rows` meets its contract. The loop's invariant: what is to be stored in all is what is left to be stored, from row i on, in the words as
-- they are. Assumes nothing.
use Rattle.std.proofs.Common.{arith, ◌+◌, ◌*◌, sym, ap, ◌∙◌}
use Rattle.std.proofs.lemmas.List.Edits.{sets}
use native.Mathlib.Nat.{sub-zero, zero-add, mul-zero}
use Rattle.words.proofs.Places.{flat_turn, flat_done, length-map}
use Rattle.archive.proofs.Columns.{rows_in_front, row_put}
use Rattle.archive.proofs.StoredColumns.put_rows.Invariants.{row}
use Rattle.archive.proofs.StoredColumns.put_rows.Goals as goal

pub loop-i-init : goal.loop-i-init
loop-i-init c = rw (sub-zero, mul-zero, rows_in_front c.args.self.now.bytes.now c.args.self.now.width c.args.self.now.rows)

pub loop-i-preserved : goal.loop-i-preserved
loop-i-preserved c =
    c.loop-i.invariant
    ∙ flat_turn (row c.args.self.now.bytes.now c.args.self.now.width c.args.self.now.rows) c.args.self.now.width 0 _ _ _ _ c.loop-i-test.true (length-map _ 0 _)
    (rw zero-add (row_put _ _ _ _ _ _ c.put_row.ensures (length-map _ 0 _) c.loop-i-test.true (omega (arith, c.requires, c.loop-i.auto.to))))

pub returns : goal.returns
returns c =
    sym (c.loop-i.invariant
    ∙ ap (sets c.loop-i.to (0 + c.args.self.now.width * c.loop-i.i))
    (flat_done (row c.args.self.now.bytes.now c.args.self.now.width c.args.self.now.rows) _ _ c.loop-i-test.false))
