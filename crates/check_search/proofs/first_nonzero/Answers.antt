-- `check_search::first_nonzero` meets its contract: the values before the one that is found are zero, or all are. Assumes nothing.
use Rattle.std.proofs.Common.{◌≡◌, refl, sym, ap, ◌∙◌, arith, rules, tests, true, false, length}
use Rattle.std.proofs.lemmas.Iterator.{YieldsList-from_slice, IsFirst-from_position}
use Rattle.std.specs.Prelude.{Option}
use Rattle.xfield.specs.Extension.{is_zero_x}
use Rattle.xfield.specs.XFieldElements.{ext_of}
use Rattle.xfield.specs.declared.XFieldElement.{XFieldElement}
use Rattle.check_search.specs.declared.Nonzero.{Nonzero}
use Rattle.check_search.specs.Finds.{followed_by}
use Rattle.check_search.proofs.Steps.{zero_element, passed_before, all_passed, found}
use Rattle.check_search.proofs.first_nonzero.Goals as goal

abbrev Zero : XFieldElement → Type 0
Zero v = is_zero_x (ext_of v) ≡ true

abbrev NotZero : XFieldElement → Type 0
NotZero v = is_zero_x (ext_of v) ≡ false

pub returns-in_err-index : goal.returns-in_err-index
returns-in_err-index c =
    let vs = c.args.values.now in
    let none = IsFirst-from_position _ _ _ NotZero Zero c.in_err-index.ensures.ran (YieldsList-from_slice vs cc) (λ x q k. search (rules, tests)) (λ x q k. search (rules, tests)) in
    λ next. ap (λ (o : Option Nonzero). followed_by o next) c.from_residual.ensures
    ∙ sym (passed_before _ _ vs next (length vs) (omega arith) (λ i l. none i zero_element (omega arith) l) ∙ all_passed _ _ vs (length vs) next (omega arith))

pub returns : goal.returns
returns c =
    let vs = c.args.values.now in
    let first = IsFirst-from_position _ _ _ NotZero Zero c.in_ok-index.ensures.ran (YieldsList-from_slice vs cc) (λ x q k. search (rules, tests)) (λ x q k. search (rules, tests)) in
    λ next. sym
    (passed_before _ _ vs next c.in_ok-index.index (omega (arith, first.0)) (λ i l. first.2 i zero_element (omega arith) l)
    ∙ found _ _ vs c.in_ok-index.index next first.0 (sym (first.1 zero_element)) refl)
