-- `TableSheet`'s `take` meets its contract: a case for each test.
use Rattle.table_text.proofs.Feeding.{take_past_due, take_too_many_rows, take_rows, take_word}
use borrow.Author.Rules.{rules}
use Rattle.table_text.proofs.TableSheetSheet.take.Goals as goal

pub returns-then-due-count : goal.returns-then-due-count
returns-then-due-count c = take_past_due _ _ _ _ _ c.if-due-count.true

pub returns-then-value-gt-MAX_ROWS : goal.returns-then-value-gt-MAX_ROWS
returns-then-value-gt-MAX_ROWS c = take_too_many_rows _ _ _ _ _ c.if-due-count.false c.if-count-eq-ROWS_AT.true c.if-value-gt-MAX_ROWS.true

pub returns-then-count-eq-ROWS_AT : goal.returns-then-count-eq-ROWS_AT
returns-then-count-eq-ROWS_AT c = take_rows _ _ _ _ _ c.if-due-count.false c.if-count-eq-ROWS_AT.true c.if-value-gt-MAX_ROWS.false

pub returns : goal.returns
returns c = take_word _ _ _ _ _ c.if-due-count.false c.if-count-eq-ROWS_AT.false (search rules)
