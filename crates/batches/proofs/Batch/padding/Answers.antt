-- `batches::Batch::padding` meets its contract: a padded height is at least the rows. Assumes nothing.
use native.Mathlib.Omega.{arith}
use Rattle.list_record.proofs.PaddedHeight.{padded_at_least}
use Rattle.batches.proofs.Batch.padding.Goals as goal

pub overflow_sub-result : goal.overflow_sub-result
overflow_sub-result c =
    let e = c.padded_height.ensures.exact (omega arith) in
    omega (arith, padded_at_least c.args.self.rows)
