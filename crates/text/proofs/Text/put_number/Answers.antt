-- `Text::put_number` meets its contract: the digits that `itoa` gives are those of `decimal`.
use borrow.Author.Rules.{rules}
use mathlib.Core.Path.{◌∙◌}
use Rattle.text.proofs.Adding.{adds_same}
use Rattle.text.proofs.Decimal.{decimal_made}
use Rattle.text.proofs.Text.put_number.Goals as goal

pub put_str-requires : goal.put_str-requires
put_str-requires c = rw (c.format.ensures.text ∙ decimal_made c.args.n (search rules)) c.requires

pub returns : goal.returns
returns c =
    adds_same (c.format.ensures.text ∙ decimal_made c.args.n (search rules)) c.put_str.ensures
