-- `batches::EachBatchIterator::next` meets its contract: the batches that are left are this one and those of the jobs after its own, which are fewer.
-- Assumes nothing.
use Rattle.batches.proofs.Walking.{fine_tells, first_fits, left_fine, one_less}
use Rattle.batches.proofs.EachBatchIterator.next.Goals as goal

pub open-batch-requires : goal.open-batch-requires
open-batch-requires c = first_fits _ c.in_ok-rows.ensures.cases.0 (fine_tells _ _ c.args.self.now.fine).none_above

pub invariant_of-self : goal.invariant_of-self
invariant_of-self c = record { fine = left_fine _ c.in_ok-rows.ensures.cases.0 _ c.args.self.now.fine }

pub returns-clause-goes : goal.returns-clause-goes
returns-clause-goes c = record {
  on = λ f. (tt, tt, one_less _ c.in_ok-rows.ensures.cases.0 _ c.open-batch.ensures.batches);
  keeps = tt;
  rests = λ f. tt;
}
