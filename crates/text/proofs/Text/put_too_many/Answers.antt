-- `Text::put_too_many` meets its contract: the two numbers, each after its words, and a line's end.
use native.Mathlib.Omega.{arith}
use mathlib.Core.List.{append_assoc}
use lib.ListN.{length-append}
use Rattle.text.specs.Lines.{line_rest, line, too_many_line}
use Rattle.text.proofs.Lengths.{too_many_length}
use Rattle.text.proofs.Adding.{adds_then, reached}
use Rattle.text.proofs.Text.put_too_many.Goals as goal

pub put_labelled-requires : goal.put_labelled-requires
put_labelled-requires c = omega (arith, c.requires, too_many_length c.args.rows c.args.most)

pub put_str-requires : goal.put_str-requires
put_str-requires c =
    let r = reached c.put_labelled.ensures in
    omega (arith, c.requires, too_many_length c.args.rows c.args.most, r.len, r.size)

pub put_rest-requires : goal.put_rest-requires
unfolding line_rest
put_rest-requires c =
    let r = reached c.put_labelled.ensures in
    let s = reached c.put_str.ensures in
    simp length-append (omega (arith, c.requires, too_many_length c.args.rows c.args.most, r.len, r.size, s.len, s.size))

pub returns : goal.returns
unfolding too_many_line line line_rest
returns c =
    rw append_assoc (adds_then c.put_labelled.ensures (adds_then c.put_str.ensures c.put_rest.ensures))
