-- `archive::Cells::put_columns` meets its contract. The loop's invariant: what is to be stored in all is what is left to be stored, from column c on, in the
-- bytes as they are. Assumes nothing.
use Rattle.std.proofs.Common.{arith, ◌+◌, ◌*◌, sym, ap, ◌∙◌}
use Rattle.std.proofs.lemmas.List.Edits.{sets}
use native.Mathlib.Nat.{sub-zero, zero-add, mul-zero}
use Rattle.words.proofs.Places.{flat_turn, flat_done}
use Rattle.archive.specs.Archives.{word_width}
use Rattle.archive.proofs.Columns.{column_bytes, columns_bytes, column_length, column_put}
use Rattle.archive.proofs.Cells.put_columns.Goals as goal

pub loop-c-init : goal.loop-c-init
loop-c-init c = rw (columns_bytes, sub-zero, mul-zero)

pub loop-c-preserved : goal.loop-c-preserved
loop-c-preserved c =
    c.loop-c.invariant
    ∙ flat_turn (column_bytes c.args.self.now.width c.args.self.now.words.now c.args.self.now.rows) (word_width * c.args.self.now.rows) 0 _ _ _ _ c.loop-c-test.true
    (column_length _ _ _ _) (rw zero-add (column_put _ _ _ _ _ _ c.put_column.ensures c.loop-c-test.true (omega (arith, c.requires, c.loop-c.auto.out))))

pub returns : goal.returns
returns c =
    sym (c.loop-c.invariant
    ∙ ap (sets c.loop-c.out (0 + word_width * c.args.self.now.rows * c.loop-c.c))
    (flat_done (column_bytes c.args.self.now.width c.args.self.now.words.now c.args.self.now.rows) _ _ c.loop-c-test.false))
