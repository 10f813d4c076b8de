-- `BatchSheet`'s `put_answer` meets its contract: what the text leads to that ended here, from the front of the buffer on.
use borrow.Author.Rules.{rules}
use Rattle.text.proofs.Adding.{whole_text}
use Rattle.batch_text.proofs.Tables.{answer_put}
use Rattle.batch_text.proofs.BatchSheetAnswered.put_answer.Goals as goal

pub put_ended-requires : goal.put_ended-requires
put_ended-requires c = (search rules, (search rules, c.end_number-ended.ensures.within))

pub returns : goal.returns
returns c =
    whole_text (answer_put _ _ c.end_number-ended.ensures c.put_ended.ensures) (search rules) (search rules) (search rules) (search rules)
