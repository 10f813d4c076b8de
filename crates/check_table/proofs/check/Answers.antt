-- `check_table::check` meets its contract: the reason is the definition's, or the loop goes through the groups: the whole search is that in the groups
-- that are left. The clauses on zero are the claims over the definition. Assumes nothing.
use Rattle.std.proofs.Common.{Ok, Some, None, ap, ◌∙◌}
use Rattle.words.proofs.Judgements.{handed_on}
use Rattle.air.specs.Check.{first_nonzero}
use Rattle.check_table.specs.Verdicts.{verdict_answer}
use Rattle.check_table.proofs.Groups.{groups_are_all}
use Rattle.check_table.proofs.Joined.{refused, searched, group_passed, group_found, groups_passed}
use Rattle.check_table.proofs.Clauses.{zero_iff, sound, sum}
use Rattle.check_table.proofs.check.Goals as goal

pub returns-in_err-judged : goal.returns-in_err-judged
returns-in_err-judged c =
    let exact = ap verdict_answer (handed_on _ c.from_residual.ensures.1) ∙ refused _ _ _ c.in_err-judged.ensures in record {
      exact = exact;
      zero_iff = zero_iff _ _ _ c.from_residual.result exact;
      sound = sound _ _ _ c.from_residual.result exact;
      sum = sum _ _ _ c.from_residual.result exact;
    }

pub groups-init : goal.groups-init
groups-init c = groups_are_all _ _ _

pub groups-preserved : goal.groups-preserved
groups-preserved c =
    group_passed _ _ _ c.groups.group-index c.groups-test.true c.groups.invariant c.search_group.result c.search_group.ensures c.in_default.is

pub returns-in-Some : goal.returns-in-Some
returns-in-Some c =
    let ok = c.in_ok-judged.ensures in
    let judged = c.in_ok-judged.judged in
    let found = group_found judged.rows.table.now judged.aux.now judged.challenges.now c.groups.group-index c.groups-test.true c.groups.invariant
    c.search_group.result c.search_group.ensures c.in-Some.is in
    let exact = searched _ _ _ (Some c.in-Some.nonzero) ok.3 (found ∙ (λ i. first_nonzero (ok.0 i) (ok.1 i) (ok.2 i))) in record {
      exact = exact;
      zero_iff = zero_iff _ _ _ (Ok (Some c.in-Some.nonzero)) exact;
      sound = sound _ _ _ (Ok (Some c.in-Some.nonzero)) exact;
      sum = sum _ _ _ (Ok (Some c.in-Some.nonzero)) exact;
    }

pub returns-after-groups : goal.returns-after-groups
returns-after-groups c =
    let ok = c.in_ok-judged.ensures in
    let judged = c.in_ok-judged.judged in
    let none = groups_passed judged.rows.table.now judged.aux.now judged.challenges.now c.groups.group-index c.groups-test.false c.groups.invariant in
    let exact = searched _ _ _ None ok.3 (none ∙ (λ i. first_nonzero (ok.0 i) (ok.1 i) (ok.2 i))) in record {
      exact = exact;
      zero_iff = zero_iff _ _ _ (Ok None) exact;
      sound = sound _ _ _ (Ok None) exact;
      sum = sum _ _ _ (Ok None) exact;
    }
