-- `Fault::put` meets its contract: the line stands at the front.
use borrow.Author.Rules.{rules}
use Rattle.text.proofs.Adding.{whole_text}
use Rattle.archive_text.proofs.Fault.put.Goals as goal

pub returns : goal.returns
returns c =
    whole_text c.put_line.ensures (search rules) (search rules) (search rules) (search rules)
