-- `list_bytes::put_entry` meets its contract: three runs of stores, one after the other, over all bytes. Assumes nothing.
use Prim.Native.Nat.{◌+◌}
use mathlib.Core.Path.{sym, ◌∙◌}
use mathlib.Core.List.{◌++◌}
use native.Mathlib.Omega.{arith}
use Rattle.words.specs.LittleEndian.{le}
use Rattle.words.proofs.LittleEndian.{length_le}
use Rattle.words.proofs.Sets.{sets_then}
use Rattle.isa.specs.Entries.{lhs, rhs}
use Rattle.list_bytes.specs.Packed.{opcode_width, operand_width, key_bytes}
use Rattle.list_bytes.proofs.Format.{length_key, sets_whole}
use Rattle.list_bytes.proofs.put_entry.Goals as goal

pub returns : goal.returns
unfolding key_bytes
returns c =
    let e = c.args.e in
    let d = c.args.out.now in
    let l1 = length_le opcode_width e.opcode in
    let l2 = length_le operand_width (lhs e) in
    c.put_le-3.ensures
    ∙ sym
    (sets_then (le opcode_width e.opcode) (le operand_width (lhs e) ++ le operand_width (rhs e)) d c.put_le.new.bytes
    0 opcode_width c.put_le.ensures (omega arith)
    ∙ sets_then (le operand_width (lhs e)) (le operand_width (rhs e)) c.put_le.new.bytes c.put_le-2.new.bytes
    opcode_width (opcode_width + operand_width) c.put_le-2.ensures (omega arith))
    ∙ sets_whole (key_bytes e) d (omega (arith, length_key e, c.requires))
