-- `Text::put_sum` meets its contract: the word, then the words after it.
use native.Mathlib.Omega.{arith}
use Rattle.text.specs.Lines.{line, sum_line}
use Rattle.text.proofs.Adding.{adds_then, reached}
use Rattle.text.proofs.Text.put_sum.Goals as goal

pub put_str-requires : goal.put_str-requires
unfolding sum_line line
put_str-requires c = omega (arith, c.requires)

pub put_rest-requires : goal.put_rest-requires
unfolding sum_line line
put_rest-requires c =
    let r = reached c.put_str.ensures in
    rw c.words.ensures (omega (arith, c.requires, r.len, r.size))

pub returns : goal.returns
unfolding sum_line line
returns c = adds_then c.put_str.ensures (rw c.words.ensures at c.put_rest.ensures)
