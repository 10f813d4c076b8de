-- `transcript::put_filled` meets its contract: a refusal goes on as it is; else the text is what the check leads to.
use Rattle.std.proofs.Common.{refl, ◌∙◌, Ok, Err}
use Rattle.words.proofs.Judgements.{handed_on}
use Rattle.transcript.proofs.Steps.{padding_refused, padding_made, extension_refused, extension_made, result_refused}
use Rattle.transcript.proofs.put_filled.Goals as goal

pub returns-in_err-pad : goal.returns-in_err-pad
returns-in_err-pad c = rw (handed_on _ c.from_residual.ensures.1) (padding_refused _ _ _ _ _ _ _ c.in_err-pad.ensures, refl)

pub returns-in_err-sum : goal.returns-in_err-sum
returns-in_err-sum c =
    rw (handed_on _ c.from_residual-in_err-sum.ensures.1)
    (padding_made _ _ _ _ _ _ c.in_ok-pad.ensures ∙ extension_refused _ _ _ _ _ _ _ c.in_err-sum.ensures, refl)

pub returns-in_err-found : goal.returns-in_err-found
returns-in_err-found c =
    rw (handed_on _ c.from_residual-in_err-found.ensures.1) (
      padding_made _ _ _ _ _ _ c.in_ok-pad.ensures
          ∙ extension_made _ _ _ _ _ _ _ (Err _) c.in_ok-sum.ensures c.in_err-found.ensures.exact
          ∙ result_refused _ _ _ _ _ _,
      refl,
    )

pub returns : goal.returns
returns c =
    let h = c.args.head in
    let padded = padding_made h.entries h.height h.padded _ c.args.aux.now c.args.challenges.now c.in_ok-pad.ensures in
    let extended = extension_made h.entries h.height h.padded _ _ _ _ (Ok _) c.in_ok-sum.ensures c.in_ok-found.ensures.exact in
    rw (padded ∙ extended) c.put_result.ensures
