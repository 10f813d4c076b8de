-- `archive::StoredColumns::put_row` meets its contract. The loop's invariant: what is to be stored in all is what is left to be stored, from column c on, in the words as
-- they are. Assumes nothing.
use Rattle.std.proofs.Common.{ℕ, List, sym, ap, ◌∙◌}
use Rattle.std.proofs.lemmas.List.Edits.{sets}
use mathlib.Core.List.{map}
use native.Mathlib.Nat.{sub-zero}
use Rattle.words.proofs.Places.{places_done}
use Rattle.archive.specs.Archives.{archived_word}
use Rattle.archive.proofs.Blocks.{word_turn}
use Rattle.archive.proofs.StoredColumns.put_row.Invariants.{cell}
use Rattle.archive.proofs.StoredColumns.put_row.Goals as goal

pub loop-c-init : goal.loop-c-init
loop-c-init c = rw sub-zero

pub loop-c-preserved : goal.loop-c-preserved
unfolding archived_word
loop-c-preserved c =
    c.loop-c.invariant
    ∙ word_turn (cell c.args.self.now.bytes.now c.args.self.now.rows c.args.i) _ _ _ _ c.loop-c-test.true c.word_at.ensures

pub returns : goal.returns
returns c =
    sym (c.loop-c.invariant
    ∙ ap (λ (is : List ℕ). sets c.loop-c.to c.loop-c.c (map (cell c.args.self.now.bytes.now c.args.self.now.rows c.args.i) is))
    (places_done _ _ c.loop-c-test.false))
