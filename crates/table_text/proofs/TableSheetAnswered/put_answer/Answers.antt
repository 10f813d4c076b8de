-- `TableSheet`'s `put_answer` meets its contract: the words for the sums are its own, all 0, and the text begins at the front.
use borrow.Author.Rules.{rules}
use Rattle.text.proofs.Adding.{whole_text}
use Rattle.table_text.proofs.TableSheetAnswered.put_answer.Goals as goal

pub put_ended-requires : goal.put_ended-requires
put_ended-requires c = (search rules, search rules)

pub returns : goal.returns
returns c =
    whole_text c.put_ended.ensures (search rules) (search rules) (search rules) (search rules)
