-- `table_text::judged` meets its contract: a refusal of extension is the verdict; else it is what the check says.
use Rattle.words.proofs.Judgements.{handed_on}
use Rattle.table_text.proofs.Answering.{extension_refused, extension_made}
use Rattle.table_text.proofs.judged.Goals as goal

pub returns-in_err-extend : goal.returns-in_err-extend
returns-in_err-extend c =
    extension_refused _ _ _ _ _ (handed_on _ c.from_residual.ensures.1) c.in_err-extend.ensures

pub returns : goal.returns
returns c =
    extension_made _ _ _ _ _ c.check.result c.in_ok-extend.ensures c.check.ensures.exact
