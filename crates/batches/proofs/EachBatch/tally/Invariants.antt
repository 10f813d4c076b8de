-- What the loop of `EachBatch::tally` keeps: the totals so far, and those of the batches that are left, are the totals of all.
use Rattle.batches.specs.Batches.{batches_of}
use Rattle.batches.specs.Left.{batches_left}
use Rattle.batches.proofs.Walking.{Tallied}
use Rattle.batches.proofs.EachBatch.tally.Given as goal

abbrev pub invariant-loop-batch : goal.invariant-loop-batch
invariant-loop-batch l =
    Tallied (batches_of l.self.setting l.self.jobs.now) (batches_left l.batch-iterator) l.totals.count l.totals.rows l.totals.padding
