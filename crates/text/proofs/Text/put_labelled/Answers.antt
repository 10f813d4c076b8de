-- `Text::put_labelled` meets its contract: the label, then the number.
use native.Mathlib.Omega.{arith}
use lib.ListN.{length-append}
use Rattle.text.specs.Lines.{decimal}
use Rattle.text.proofs.Adding.{adds_then, reached}
use Rattle.text.proofs.Text.put_labelled.Goals as goal

pub put_number-requires : goal.put_number-requires
put_number-requires c =
    let r = reached c.put_str.ensures in
    omega (arith, c.requires, r.len, r.size, length-append c.args.label.now (decimal c.args.n))

pub returns : goal.returns
returns c = adds_then c.put_str.ensures c.put_number.ensures
