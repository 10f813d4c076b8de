-- Batches (request 12): "jobs arrive in order, each with its height, and a setting gives the largest batch in rows. A job joins the open batch if
-- the sum stays within the setting, otherwise it opens the next."
use Rattle.std.specs.Prelude.{ℕ, ◌+◌, ◌-◌, ◌/◌, ◌%◌, Bool, false, cond, not, ◌||◌, eqb, ltb, length, Result, Ok, Err}
use mathlib.Core.List.{List, [], ◌∷◌, flat_map}
use Rattle.std.proofs.lemmas.List.Edits.{sets}
use Rattle.words.specs.Limits.{max_rows, max_jobs}
use Rattle.words.specs.Answers.{Answer, done, declined}
use Rattle.words.specs.Outcomes.{Outcome, outcome, answered}
use Rattle.words.specs.Refusals.{decline_if, or_else, Judgement}
use Rattle.words.specs.declared.Refusal.{Refusal}
use Rattle.words.specs.declared.Refusal.TheVariants.{Shape, JobAbove, Short}
use Rattle.list_record.specs.Plan.{padded_height}
use Rattle.batches.specs.declared.Totals.{Totals}
use Rattle.batches.specs.declared.Batch.{Batch}

-- ---- the batches
-- a batch: "its job count, its rows"
abbrev pub batch : (jobs rows : ℕ) → Batch
batch jobs rows = record { jobs = jobs; rows = rows }

-- the open batch, and those of the jobs that are still to come
unfoldable pub batches_from : (setting : ℕ) → (current : Batch) → (heights : List ℕ) → List Batch
batches_from setting current [] = current ∷ []
batches_from setting current (height ∷ heights) =
    cond (ltb setting (current.rows + height))
    (current ∷ batches_from setting (batch 1 height) heights)
    (batches_from setting (batch (current.jobs + 1) (current.rows + height)) heights)

-- the first job opens the first batch
abbrev pub batches_of : (setting : ℕ) → (jobs : List ℕ) → List Batch
batches_of setting [] = []
batches_of setting (height ∷ heights) = batches_from setting (batch 1 height) heights

-- ---- sums over batches
-- of something that depends on a batch's rows
unfoldable pub over_batches : (ℕ → ℕ) → List Batch → ℕ
over_batches f [] = 0
over_batches f (b ∷ bs) = f b.rows + over_batches f bs

-- "all rows"
abbrev pub all_rows : List Batch → ℕ
all_rows bs = over_batches (λ rows. rows) bs

-- "all padded heights", each "by the plan's rule"
abbrev pub all_padded : List Batch → ℕ
all_padded bs = over_batches padded_height bs

-- what each batch lacks to its padded height, added up
abbrev pub padding : List Batch → ℕ
padding bs = over_batches (λ rows. padded_height rows - rows) bs

-- ---- reasons to decline
-- 17, "a job above the setting"
unfoldable pub some_above : (setting : ℕ) → (jobs : List ℕ) → Bool
some_above setting [] = false
some_above setting (height ∷ heights) = ltb setting height || some_above setting heights

-- "17, a job above the setting; 1, a setting of 0 or above 131,072 or more than 1,048,576 jobs, ahead of it"
unfoldable pub setting_reason : (jobs : List ℕ) → (setting : ℕ) → Judgement
setting_reason jobs setting =
    or_else (decline_if (eqb setting 0 || (ltb max_rows setting || ltb max_jobs (length jobs))) Shape)
    (decline_if (some_above setting jobs) JobAbove)

-- results are three words a batch, and "a word array not of whole entries" is 1; "7, fewer result places than batches, after it"
unfoldable pub batch_reason : (jobs : List ℕ) → (setting : ℕ) → (results : List ℕ) → Judgement
batch_reason jobs setting results =
    or_else (decline_if (not (eqb (length results % 3) 0)) Shape)
    (or_else (setting_reason jobs setting) (decline_if (ltb (length results / 3) (length (batches_of setting jobs))) Short))

-- ---- the calls
-- "The result lists per batch its job count, its rows and its padded height by the plan's rule"
abbrev pub batch_words : Batch → List ℕ
batch_words b = b.jobs ∷ b.rows ∷ padded_height b.rows ∷ []

-- "the answer is the number of batches and the padding"; results past the last batch stay
unfoldable pub batch_all : (jobs : List ℕ) → (setting : ℕ) → (results : List ℕ) → Outcome (List ℕ)
batch_all jobs setting results =
    outcome (batch_reason jobs setting results) (length (batches_of setting jobs) ∷ padding (batches_of setting jobs) ∷ [])
    results (sets results 0 (flat_map batch_words (batches_of setting jobs)))

-- what the answer of `batches` means: its words are the number of batches and the padding
abbrev pub batched_answer : Result Totals Refusal → Answer
batched_answer (Ok t) = done (t.count ∷ t.padding ∷ [])
batched_answer (Err reason) = declined reason

-- the same with no batch listed: the number of batches, all rows and the padding
unfoldable pub trial_all : (jobs : List ℕ) → (setting : ℕ) → Answer
trial_all jobs setting =
    answered (setting_reason jobs setting)
    (length (batches_of setting jobs) ∷ all_rows (batches_of setting jobs) ∷ padding (batches_of setting jobs) ∷ [])

-- what the answer of `try_setting` means
abbrev pub trial_answer : Result Totals Refusal → Answer
trial_answer (Ok t) = done (t.count ∷ t.rows ∷ t.padding ∷ [])
trial_answer (Err reason) = declined reason
