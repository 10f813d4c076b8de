-- `fill::fill` meets its contract: each way out is a lemma of proofs/Fillings.antt. Assumes nothing.
use Rattle.std.proofs.Common.{sym, ap, ◌∙◌, arith}
use Rattle.std.specs.Prelude.{Ok}
use Rattle.words.proofs.Judgements.{handed_on}
use Rattle.list.specs.Lists.{U32List, judge_list}
use Rattle.list.specs.Heights.{list_height}
use Rattle.list.proofs.HeldLists.{closed_refused, held_height, held_refused, held_judged}
use Rattle.fill.specs.Filling.{filled}
use Rattle.fill.proofs.Fillings.{fill_list, fill_done}
use Rattle.fill.proofs.fill.Goals as goal

pub returns-in_err-closed : goal.returns-in_err-closed
returns-in_err-closed c =
    rw (handed_on _ c.from_residual.ensures.1)
    (fill_list _ _ (sym c.if-not-has_shape.ensures) (closed_refused _ c.in_err-closed.ensures))

pub returns-in_err-height : goal.returns-in_err-height
returns-in_err-height c =
    rw (handed_on _ c.from_residual-in_err-height.ensures.1)
    (fill_list _ _ (sym c.if-not-has_shape.ensures) (held_refused _ _ c.in_err-height.ensures.height))

pub fill_sections-requires : goal.fill_sections-requires
fill_sections-requires c =
    let j = held_height _ _ c.in_ok-height.ensures.height in
    let lent = c.lent.ensures ∙ c.in_ok-height.ensures.gathered in
    let high = ap list_height lent in
    record { fine = ap judge_list lent ∙ held_judged _ j.0; room = omega arith }

pub returns : goal.returns
returns c =
    let j = held_height _ _ c.in_ok-height.ensures.height in
    let lent = c.lent.ensures ∙ c.in_ok-height.ensures.gathered in
    fill_done _ _ (sym c.if-not-has_shape.ensures) j.0 (omega arith) (ap Ok j.1)
    (c.fill_sections.ensures ∙ ap (λ (l : U32List). filled l c.args.table.now) lent)
