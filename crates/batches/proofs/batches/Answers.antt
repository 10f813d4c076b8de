-- `batches::batches` meets its contract: a case for each reason, and the batches written. Assumes nothing.
use mathlib.Core.Path.{ap}
use Rattle.words.proofs.Judgements.{handed_on}
use Rattle.words.proofs.Outcomes.{leaves_said}
use Rattle.batches.specs.Batches.{batched_answer}
use Rattle.batches.proofs.Answering.{trial_declined, trial_tells, trial_rows, torn_leaves, refused_leaves, short_leaves, written_fits, written_leaves, written_lawful}
use Rattle.batches.proofs.batches.Goals as goal

pub returns-then-results-ne0-clause-exact : goal.returns-then-results-ne0-clause-exact
returns-then-results-ne0-clause-exact c = torn_leaves _ _ _ c.if-results-ne0.true

pub returns-in_err-each-clause-exact : goal.returns-in_err-each-clause-exact
returns-in_err-each-clause-exact c =
    leaves_said (ap batched_answer (handed_on _ c.from_residual.ensures.1)) (refused_leaves _ _ _ c.if-results-ne0.false _ (trial_declined _ _ c.in_err-each.ensures))

pub returns-then-results-totals-clause-exact : goal.returns-then-results-totals-clause-exact
returns-then-results-totals-clause-exact c =
    let tried = trial_tells _ _ (rw (c.in_ok-each.ensures.0, c.in_ok-each.ensures.1) at c.tally-totals.ensures) in
    short_leaves _ _ _ c.if-results-ne0.false tried c.if-results-totals.true

pub write-requires : goal.write-requires
write-requires c =
    let tried = trial_tells _ _ c.tally-totals.ensures in written_fits _ _ c.args.results.now c.if-results-ne0.false tried c.if-results-totals.false

pub returns : goal.returns
returns c =
    let tried = trial_tells _ _ (rw (c.in_ok-each.ensures.0, c.in_ok-each.ensures.1) at c.tally-totals.ensures) in
    let written = rw (c.in_ok-each.ensures.0, c.in_ok-each.ensures.1) at c.write.ensures in record {
      exact = written_leaves _ _ _ c.if-results-ne0.false tried c.if-results-totals.false written;
      law = written_lawful _ _ _ c.if-results-ne0.false tried c.if-results-totals.false written;
      rows = trial_rows _ _ tried;
    }
