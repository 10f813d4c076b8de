-- What the loop of `Batch::open` keeps.
use Prim.Native.Nat.{◌+◌, ◌≤◌}
use mathlib.Core.Path.{◌≡◌}
use lib.ListN.{drop}
use Rattle.batches.specs.Batches.{batch, batches_from}
use Rattle.batches.proofs.Batch.open.Given as goal

abbrev pub invariant-loop-height : goal.invariant-loop-height
invariant-loop-height l =
    (l.batch.jobs ≡ l.height-index + 1) × (l.batch.rows ≤ l.setting)
    × (batches_from l.setting (batch 1 l.fn.rows) l.later ≡ batches_from l.setting l.batch (drop l.height-index l.later))
