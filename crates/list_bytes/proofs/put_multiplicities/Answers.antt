-- `list_bytes::put_multiplicities` meets its contract. The loop's invariant: what is to be stored in all is what is left to be stored, from place i
-- on, in the bytes as they are. Assumes nothing.
use Prim.Native.Nat.{◌+◌, ◌*◌}
use mathlib.Core.Path.{sym, ap, ◌∙◌}
use native.Mathlib.Nat.{sub-zero, zero-add}
use native.Mathlib.Omega.{arith}
use lib.Seq.{sets}
use Rattle.words.proofs.LittleEndian.{length_le}
use Rattle.words.proofs.Places.{flat_turn, flat_done}
use Rattle.list.specs.Lists.{multiplicity_at}
use Rattle.list.specs.Lent.{counts_in}
use Rattle.list_bytes.specs.Packed.{multiplicity_width}
use Rattle.list_bytes.proofs.Format.{counts_form, length_counts, sets_whole}
use Rattle.list_bytes.proofs.put_multiplicities.Invariants.{block}
use Rattle.list_bytes.proofs.put_multiplicities.Goals as goal

pub loop-i-init : goal.loop-i-init
loop-i-init c =
    let m = multiplicity_at (counts_in c.args.used.now.list) in
    let n = c.args.used.now.list.sizes.used in
    rw sub-zero
    (sym (sets_whole (counts_form multiplicity_width m n) c.args.out.now (omega (arith, length_counts multiplicity_width m n, c.requires))))

pub loop-i-preserved : goal.loop-i-preserved
unfolding multiplicity_at
loop-i-preserved c =
    let list = counts_in c.args.used.now.list in
    c.loop-i.invariant
    ∙ flat_turn (block list) multiplicity_width 0 _ _ _ _ c.loop-i-test.true
    (length_le multiplicity_width (multiplicity_at list c.loop-i.i)) (rw zero-add c.put_le.ensures)

pub returns : goal.returns
returns c =
    sym (c.loop-i.invariant
    ∙ ap (sets c.loop-i.out (0 + multiplicity_width * c.loop-i.i)) (flat_done (block (counts_in c.args.used.now.list)) _ _ c.loop-i-test.false))
