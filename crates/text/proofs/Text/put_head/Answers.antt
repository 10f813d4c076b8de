-- `Text::put_head` meets its contract: the labelled numbers in their order, then the newline.
use native.Mathlib.Omega.{arith}
use lib.ListN.{length-append}
use Rattle.text.specs.Lines.{line_rest, line, head_line}
use Rattle.text.proofs.Lengths.{head_length}
use Rattle.text.proofs.Adding.{adds_then, reached}
use Rattle.text.proofs.Text.put_head.Goals as goal

pub put_labelled-requires : goal.put_labelled-requires
put_labelled-requires c = omega (arith, c.requires, head_length c.args.head.entries c.args.head.height c.args.head.padded)

pub put_labelled-requires-2 : goal.put_labelled-requires-2
put_labelled-requires-2 c =
    let r = reached c.put_labelled.ensures in
    omega (arith, c.requires, head_length c.args.head.entries c.args.head.height c.args.head.padded, r.len, r.size)

pub put_str-requires : goal.put_str-requires
put_str-requires c =
    let r = reached c.put_labelled.ensures in
    let s = reached c.put_labelled-2.ensures in
    omega (arith, c.requires, head_length c.args.head.entries c.args.head.height c.args.head.padded, r.len, r.size, s.len, s.size)

pub put_rest-requires : goal.put_rest-requires
unfolding line_rest
put_rest-requires c =
    let r = reached c.put_labelled.ensures in
    let s = reached c.put_labelled-2.ensures in
    let t = reached c.put_str.ensures in
    simp length-append
    (omega (arith, c.requires, head_length c.args.head.entries c.args.head.height c.args.head.padded, r.len, r.size, s.len, s.size, t.len, t.size))

pub returns : goal.returns
unfolding head_line line line_rest
returns c =
    adds_then c.put_labelled.ensures (adds_then c.put_labelled-2.ensures (adds_then c.put_str.ensures c.put_rest.ensures))
