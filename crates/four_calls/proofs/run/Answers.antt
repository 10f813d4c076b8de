-- `four_calls::run` meets its contract: each way out is one of `Runs`. Assumes nothing.
use Rattle.words.proofs.Judgements.{handed_on}
use Rattle.four_calls.proofs.Runs.{fill_refused, pad_refused, extend_refused, checked}
use Rattle.four_calls.proofs.run.Goals as goal

pub returns-in_err-height : goal.returns-in_err-height
returns-in_err-height c =
    let fill = c.in_err-height.ensures in
    let all = fill_refused _ _ _ _ _ _ fill.answer fill.left in
    let told = handed_on _ c.from_residual.ensures.1 in
    record { exact = rw told all.0; claim = rw told all.1.0; no_other_refusal = rw told all.1.1 }

pub returns-in_err-pad : goal.returns-in_err-pad
returns-in_err-pad c =
    let fill = c.in_ok-height.ensures in
    let pad = c.in_err-pad.ensures in
    let all = pad_refused _ _ _ _ _ _ fill.answer fill.left _ _ pad.answer pad.left in
    let told = handed_on _ c.from_residual-in_err-pad.ensures.1 in
    record { exact = rw told all.0; claim = rw told all.1.0; no_other_refusal = rw told all.1.1 }

pub returns-in_err-extend : goal.returns-in_err-extend
returns-in_err-extend c =
    let fill = c.in_ok-height.ensures in
    let pad = c.in_ok-pad.ensures in
    let extend = c.in_err-extend.ensures in
    let all = extend_refused _ _ _ _ _ _ fill.answer fill.left _ pad.answer pad.left _ _ extend.answer extend.left in
    let told = handed_on _ c.from_residual-in_err-extend.ensures.1 in
    record { exact = rw told all.0; claim = rw told all.1.0; no_other_refusal = rw told all.1.1 }

pub returns : goal.returns
returns c =
    let fill = c.in_ok-height.ensures in
    let pad = c.in_ok-pad.ensures in
    let extend = c.in_ok-extend.ensures in
    let all = checked _ _ _ _ _ _ fill.answer fill.left _ pad.answer pad.left _ _ _ extend.answer extend.left c.check.ensures.exact in
    record { exact = all.0; claim = all.1.0; no_other_refusal = all.1.1 }
