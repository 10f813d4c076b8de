-- `Text::put_malformed` meets its contract: the words, then the number.
use native.Mathlib.Omega.{arith}
use Rattle.text.specs.Lines.{line_rest, line, malformed_line}
use Rattle.text.proofs.Adding.{adds_then, reached}
use Rattle.text.proofs.Text.put_malformed.Goals as goal

pub put_str-requires : goal.put_str-requires
unfolding malformed_line line line_rest
put_str-requires c = omega (arith, c.requires)

pub put_rest-requires : goal.put_rest-requires
unfolding malformed_line line line_rest
put_rest-requires c =
    let r = reached c.put_str.ensures in
    omega (arith, c.requires, r.len, r.size)

pub returns : goal.returns
unfolding malformed_line line line_rest
returns c = adds_then c.put_str.ensures c.put_rest.ensures
