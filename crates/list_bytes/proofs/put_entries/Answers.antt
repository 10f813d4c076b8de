-- `list_bytes::put_entries` meets its contract. The loop's invariant: what is to be stored in all is what is left to be stored, from entry i on, in
-- the bytes as they are. Assumes nothing.
use Prim.Native.Nat.{◌+◌, ◌*◌}
use mathlib.Core.Path.{sym, ap, ◌∙◌}
use native.Mathlib.Nat.{sub-zero, zero-add}
use native.Mathlib.Omega.{arith}
use lib.Seq.{sets}
use Rattle.words.proofs.Places.{flat_turn, flat_done}
use Rattle.words.proofs.Sets.{part_sets}
use Rattle.list.specs.Lists.{entry_at}
use Rattle.list.specs.Lent.{counts_in}
use Rattle.list_bytes.specs.Packed.{key_width, key_bytes}
use Rattle.list_bytes.proofs.Format.{keys_form, length_key, length_keys, sets_whole}
use Rattle.list_bytes.proofs.put_entries.Invariants.{block}
use Rattle.list_bytes.proofs.put_entries.Goals as goal

pub loop-i-init : goal.loop-i-init
loop-i-init c =
    let f = entry_at (counts_in c.args.used.now.list) in
    let n = c.args.used.now.list.sizes.used in
    rw sub-zero (sym (sets_whole (keys_form f n) c.args.out.now (omega (arith, length_keys f n, c.requires))))

pub loop-i-preserved : goal.loop-i-preserved
loop-i-preserved c =
    let list = counts_in c.args.used.now.list in
    let long = length_key (entry_at list c.loop-i.i) in
    c.loop-i.invariant
    ∙ flat_turn (block list) key_width 0 _ _ _ _ c.loop-i-test.true long
    (rw zero-add
    (part_sets c.loop-i.out _ (block list c.loop-i.i) (key_width * c.loop-i.i) _ (c.put_entry.ensures ∙ ap key_bytes (c.entry_at.ensures _ _))
    (omega (arith, long)) (omega (arith, long, c.requires, c.loop-i.auto.out))))

pub returns : goal.returns
returns c =
    sym (c.loop-i.invariant
    ∙ ap (sets c.loop-i.out (0 + key_width * c.loop-i.i)) (flat_done (block (counts_in c.args.used.now.list)) _ _ c.loop-i-test.false))
