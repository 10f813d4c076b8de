-- `BatchSheet`'s `take` meets its contract: a case for each test.
use Rattle.batch_text.proofs.Feeding.{take_past_settings, take_setting, take_past_jobs, take_job}
use borrow.Author.Rules.{rules}
use Rattle.batch_text.proofs.BatchSheetSheet.take.Goals as goal

pub returns-then-settings-ge-MAX_SETTINGS : goal.returns-then-settings-ge-MAX_SETTINGS
returns-then-settings-ge-MAX_SETTINGS c = take_past_settings _ _ _ _ _ c.if-line-eq1.true c.if-settings-ge-MAX_SETTINGS.true

pub returns-then-line-eq1 : goal.returns-then-line-eq1
returns-then-line-eq1 c = take_setting _ _ _ _ _ c.if-line-eq1.true c.if-settings-ge-MAX_SETTINGS.false (search rules)

pub returns-then-jobs-ge-MAX_JOBS : goal.returns-then-jobs-ge-MAX_JOBS
returns-then-jobs-ge-MAX_JOBS c = take_past_jobs _ _ _ _ _ c.if-line-eq1.false c.if-jobs-ge-MAX_JOBS.true

pub returns : goal.returns
returns c = take_job _ _ _ _ _ c.if-line-eq1.false c.if-jobs-ge-MAX_JOBS.false (search rules)
