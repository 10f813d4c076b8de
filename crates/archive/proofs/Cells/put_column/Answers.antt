-- `archive::Cells::put_column` meets its contract. The loop's invariant: what is to be stored in all is what is left to be stored, from row i on, in the bytes as
-- they are. Assumes nothing.
use Rattle.std.proofs.Common.{◌+◌, ◌*◌, sym, ap, ◌∙◌}
use Rattle.std.proofs.lemmas.List.Edits.{sets}
use native.Mathlib.Nat.{sub-zero, zero-add}
use Rattle.words.proofs.Places.{flat_turn, flat_done}
use Rattle.archive.specs.Archives.{word_width}
use Rattle.archive.proofs.Columns.{cell_bytes, column_bytes_lem, cell_length}
use Rattle.archive.proofs.Cells.put_column.Goals as goal

pub loop-i-init : goal.loop-i-init
loop-i-init c = rw (column_bytes_lem, sub-zero)

pub loop-i-preserved : goal.loop-i-preserved
loop-i-preserved c =
    c.loop-i.invariant
    ∙ flat_turn (cell_bytes c.args.self.now.width c.args.self.now.words.now c.args.self.now.rows c.args.c) word_width 0 _ _ _ _ c.loop-i-test.true (cell_length c.args.self.now.width c.args.self.now.words.now c.args.self.now.rows c.args.c c.loop-i.i)
    (rw zero-add c.put_le.ensures)

pub returns : goal.returns
returns c =
    sym (c.loop-i.invariant
    ∙ ap (sets c.loop-i.out (0 + word_width * c.loop-i.i))
    (flat_done (cell_bytes c.args.self.now.width c.args.self.now.words.now c.args.self.now.rows c.args.c) _ _ c.loop-i-test.false))
