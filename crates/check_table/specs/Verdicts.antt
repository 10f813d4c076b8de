-- What a verdict answers (document 01, "Check": "answering group 0 to 3, (upper) row, index from 0 and three-word value .. or it answers
-- zero").
use Rattle.std.specs.Prelude.{ℕ, ◌<◌, ◌≡◌, ◌↔◌, List, Option, None, Some, Result, Ok, Err}
use Rattle.words.specs.Answers.{Answer, declined}
use Rattle.words.specs.declared.Refusal.{Refusal}
use Rattle.words.specs.Refusals.{Fine}
use Rattle.table.specs.Columns.{row_at, row_count}
use Rattle.sums.specs.LookupSum.{lookup_sum}
use Rattle.air.specs.Check.{zero_answer, check_reason, ConstraintsHold}
use Rattle.air.specs.Claim.{RowTells, DenominatorsNotZero, last_sum}
use Rattle.check_search.specs.declared.Nonzero.{Nonzero}
use Rattle.check_search.specs.Nonzeros.{nonzero_answer}

abbrev pub Verdict : Type 0
Verdict = Result (Option Nonzero) Refusal

abbrev pub verdict_answer : Verdict → Answer
verdict_answer (Ok None) = zero_answer
verdict_answer (Ok (Some found)) = nonzero_answer found
verdict_answer (Err reason) = declined reason

-- ---- what it means that the check answers zero (demand 3)
abbrev pub AnswersZero : Verdict → Type 0
AnswersZero r = verdict_answer r ≡ zero_answer

-- it does exactly where it refuses nothing and every constraint is zero
abbrev pub ZeroIff : List ℕ → List ℕ → List ℕ → Verdict → Type 0
ZeroIff table aux challenges r = AnswersZero r ↔ ((check_reason table aux challenges ≡ Fine) × ConstraintsHold table aux challenges)

-- then each CopyFlag 1 row tells the truth
abbrev pub Sound : List ℕ → Verdict → Type 0
Sound table r = AnswersZero r → (i : ℕ) → i < row_count table → (row_at table i).copy_flag ≡ 1 → RowTells (row_at table i)

-- and the last running sum is the sum over the CopyFlag 1 rows, if no denominator of theirs is zero
abbrev pub Sums : List ℕ → List ℕ → List ℕ → Verdict → Type 0
Sums table aux challenges r = AnswersZero r → DenominatorsNotZero table challenges → last_sum table aux ≡ lookup_sum table challenges
