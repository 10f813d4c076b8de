-- `Lent::put_ended` meets its contract: a case for what the text is.
use Rattle.table_text.proofs.Answering.{answer_put}
use borrow.Author.Rules.{rules}
use Rattle.table_text.proofs.Lent.put_ended.Goals as goal

pub put_table-requires : goal.put_table-requires
put_table-requires c = (search rules, c.in-Ok.ensures.few c.end_number-ended.ensures.within)

pub returns-in-Err : goal.returns-in-Err
returns-in-Err c =
    answer_put _ _ _ c.end_number-ended.ensures _ c.judge_end.ensures.taken _ c.in-Err.is c.put_fault.ensures

pub returns-in-Ok : goal.returns-in-Ok
returns-in-Ok c =
    answer_put _ _ _ c.end_number-ended.ensures _ c.judge_end.ensures.taken _ c.in-Ok.is c.put_table.ensures
