-- `extend::extend` meets its contract: where there is a reason, nothing is written; else the sums are. Assumes nothing.
use Rattle.std.proofs.Common.{ap, ap₂, ◌∙◌, rules}
use Rattle.std.proofs.lemmas.List.Edits.{sets}
use Rattle.words.proofs.Judgements.{handed_on}
use Rattle.table.specs.Columns.{row_count}
use Rattle.sums.specs.RunningSum.{running_sum, sum_words}
use Rattle.sums.specs.LookupSum.{summand_at, lookup_sum}
use Rattle.sums.proofs.SumWords.{all_words}
use Rattle.extend.proofs.Reasons.{extendable, extended_refused, extended, lent}
use Rattle.extend.proofs.extend.Goals as goal

pub returns-in_err-rows : goal.returns-in_err-rows
returns-in_err-rows c = rw (handed_on _ c.from_residual.ensures.1) (extended_refused _ _ _ c.in_err-rows.ensures)

pub write_sums-requires : goal.write_sums-requires
write_sums-requires c =
    let judged = c.in_ok-rows.ensures in
    let s = (extendable _ _ _ judged.2).shapes in
    let t = ap row_count judged.0 in
    search rules

pub returns : goal.returns
unfolding lookup_sum
returns c =
    let judged = c.in_ok-rows.ensures in
    let s = (extendable _ _ _ judged.2).shapes in
    let summands = lent c.in_ok-rows.rows c.args.table.now c.args.challenges.now judged.0 judged.1 in
    let rows = ap row_count judged.0 in
    extended _ _ _ judged.2
    (c.write_sums.ensures.last ∙ ap₂ running_sum summands rows)
    (c.write_sums.ensures.sums ∙ ap₂ (λ s n. sets c.args.aux.now 0 (sum_words s n)) summands rows
    ∙ all_words (summand_at c.args.table.now c.args.challenges.now) (row_count c.args.table.now) c.args.aux.now (search rules))
