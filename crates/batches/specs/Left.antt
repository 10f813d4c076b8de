-- The iterator `EachBatch`: the batches that it has still to give, and how it is made.
use Rattle.std.specs.Prelude.{ℕ, ◌≡◌, Result, Ok, Err}
use mathlib.Core.List.{List}
use Rattle.words.specs.declared.Refusal.{Refusal}
use Rattle.words.specs.Refusals.{Declined}
use Rattle.batches.specs.declared.Batch.{Batch}
use Rattle.batches.specs.declared.EachBatch.{EachBatch}
use Rattle.batches.specs.Batches.{batches_of, setting_reason}

abbrev pub batches_left : EachBatch → List Batch
batches_left left = batches_of left.setting left.jobs.now

-- it is of these jobs and this setting, or it is said what speaks against them
abbrev pub Judged : (jobs : List ℕ) → (setting : ℕ) → Result EachBatch Refusal → Type 0
Judged jobs setting (Ok each) = (each.jobs.now ≡ jobs) × (each.setting ≡ setting)
Judged jobs setting (Err reason) = setting_reason jobs setting ≡ Declined reason
