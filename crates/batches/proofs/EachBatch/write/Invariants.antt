-- What the loop of `EachBatch::write` keeps: the batches that are left, written from the next place on, make what is due.
use Rattle.batches.specs.Batches.{batches_of}
use Rattle.batches.specs.Left.{batches_left}
use Rattle.batches.proofs.Walking.{Written}
use Rattle.batches.proofs.EachBatch.write.Given as goal

abbrev pub invariant-loop-place : goal.invariant-loop-place
invariant-loop-place l =
    (goal.iterator-loop-place).can_next l.place-iterator
    × Written (batches_of l.self.setting l.self.jobs.now) (batches_left l.place-iterator.iter) l.initial.results l.results l.place-iterator.count
