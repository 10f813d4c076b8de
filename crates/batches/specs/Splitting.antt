-- The law of request 12: "For every accepted list the batches, none empty, take the jobs in order, each job in one; the batch rows total the job
-- heights, no batch passes the setting, each would pass it with the next one's first job, and the padding answered is all padded heights minus all
-- rows." It does not speak of how the batches are made, and it leaves only one list of them (proofs/Splitting.antt: takes_only).
use Rattle.std.specs.Prelude.{ℕ, ◌+◌, ◌*◌, ◌-◌, ◌≤◌, ◌<◌, ◌≡◌, ◌⊎◌, length, get_or, take, drop, Result, Ok, Err}
use mathlib.Core.List.{List, [], ◌∷◌, flat_map}
use Rattle.words.specs.declared.Refusal.{Refusal}
use Rattle.batches.specs.declared.Batch.{Batch}
use Rattle.batches.specs.Batches.{all_rows, all_padded, batch_words}
use Rattle.batches.specs.declared.Totals.{Totals}

-- the sum of heights
unfoldable pub total : List ℕ → ℕ
total [] = 0
total (height ∷ heights) = height + total heights

-- the batches take the jobs in order, each job in one
pub data Takes (setting : ℕ) : (jobs : List ℕ) → List Batch → Type 0 where
  none : Takes setting [] []
  next : {b : Batch} {bs : List Batch} (jobs : List ℕ)
      -- "none empty"
      → 1 ≤ b.jobs
      -- it takes so many of the jobs that are left, and has their rows
      → b.jobs ≤ length jobs → b.rows ≡ total (take b.jobs jobs)
      -- "no batch passes the setting"
      → b.rows ≤ setting
      -- "each would pass it with the next one's first job", where there is a next one
      → (drop b.jobs jobs ≡ []) ⊎ (setting < b.rows + get_or jobs b.jobs 0)
      -- and so on for the jobs after these
      → Takes setting (drop b.jobs jobs) bs → Takes setting jobs (b ∷ bs)

-- the law, of batches and of the padding that is answered
pub record Splits (jobs : List ℕ) (setting : ℕ) (bs : List Batch) (padding : ℕ) : Type 0 where
  pub in_order : Takes setting jobs bs
  pub rows_total : all_rows bs ≡ total jobs
  pub padding_is : padding ≡ all_padded bs - all_rows bs

-- the law, of a call: there are such batches, as many as it answers, and the results begin with their words
pub record Batching (jobs : List ℕ) (setting count padding : ℕ) (results : List ℕ) : Type 0 where
  pub list : List Batch
  pub splits : Splits jobs setting list padding
  pub answered : count ≡ length list
  pub listed : take (3 * count) results ≡ flat_map batch_words list

abbrev pub Lawful : (jobs : List ℕ) → (setting : ℕ) → Result Totals Refusal → (after : List ℕ) → Type 0
Lawful jobs setting (Ok t) after = Batching jobs setting t.count t.padding after
Lawful jobs setting (Err reason) after = Unit
