-- `batch_text::put_too_many` meets its contract: a line for either limit.
use Rattle.text.proofs.Adding.{adds_same}
use Rattle.batch_text.proofs.Tables.{too_many_settings, too_many_jobs}
use Rattle.batch_text.proofs.put_too_many.Goals as goal

pub returns-then-most : goal.returns-then-most
returns-then-most c =
    adds_same (too_many_settings c.args.most c.if-most.true) c.put_str.ensures

pub returns : goal.returns
returns c =
    adds_same (too_many_jobs c.args.most c.if-most.false) c.put_str-2.ensures
