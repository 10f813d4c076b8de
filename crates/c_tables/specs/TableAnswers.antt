-- The answers of the calls on tables, as the C functions hand them over, and what it means that the check hands over zero.
use Rattle.std.specs.Prelude.{ℕ, ◌≤◌, ◌<◌, ◌≡◌, ◌↔◌, List, [], ◌∷◌, length, get_or}
use Rattle.words.specs.Answers.{Answer}
use Rattle.words.specs.Refusals.{Fine}
use Rattle.list.specs.Holds.{HeldList}
use Rattle.table.specs.Columns.{row_at, row_count}
use Rattle.sums.specs.LookupSum.{lookup_sum}
use Rattle.air.specs.Check.{check_reason, check_all, ConstraintsHold}
use Rattle.air.specs.Claim.{RowTells, DenominatorsNotZero, last_sum}
use Rattle.fill.specs.Filling.{fill_all}
use Rattle.fill.specs.Extending.{extend_all}
use Rattle.client_sum.specs.Client.{client_all}
use Rattle.c_answers.specs.Exports.{lent_due, Exported}

-- the check "answers zero": the word 0, and nothing more; else 1, then "group 0 to 3, (upper) row, index from 0 and three-word value"
abbrev pub verdict_words : List ℕ → List ℕ
verdict_words [] = 0 ∷ []
verdict_words (v ∷ vs) = 1 ∷ v ∷ vs

abbrev pub verdict_due : Answer → Answer
verdict_due due = record { number = due.number; values = verdict_words due.values }

-- ---- what the functions hand over, each by the number of words of `answers` that it states
-- fill: the height
abbrev pub FillAnswers : HeldList → (table answers : List ℕ) → (r : ℕ) → (after : List ℕ) → Type 0
FillAnswers h table answers r after = Exported 1 (fill_all h table).answer answers r after

abbrev pub FillLeaves : HeldList → (table answers table_after : List ℕ) → Type 0
FillLeaves h table answers table_after = table_after ≡ lent_due 1 answers table (fill_all h table).left

-- extend: the three words of the last sum
abbrev pub ExtendAnswers : (table aux challenges answers : List ℕ) → (r : ℕ) → (after : List ℕ) → Type 0
ExtendAnswers table aux challenges answers r after = Exported 3 (extend_all table aux challenges).answer answers r after

abbrev pub ExtendLeaves : (table aux challenges answers aux_after : List ℕ) → Type 0
ExtendLeaves table aux challenges answers aux_after = aux_after ≡ lent_due 3 answers aux (extend_all table aux challenges).left

-- check: the verdict
abbrev pub CheckAnswers : (table aux challenges answers : List ℕ) → (r : ℕ) → (after : List ℕ) → Type 0
CheckAnswers table aux challenges answers r after = Exported 7 (verdict_due (check_all table aux challenges)) answers r after

-- client_sum: the three words of the client's sum
abbrev pub ClientAnswers : (requests challenges answers : List ℕ) → (r : ℕ) → (after : List ℕ) → Type 0
ClientAnswers requests challenges answers r after = Exported 3 (client_all requests challenges) answers r after

-- ---- what it means that the check hands over zero (demand 3)
-- it is done, and the first word of `answers` is 0
abbrev pub SaysZero : ℕ → List ℕ → Type 0
SaysZero r after = (r ≡ 0) × (get_or after 0 1 ≡ 0)

-- where `answers` is long enough, that is so exactly where nothing is refused and every constraint is zero
abbrev pub SaysZeroIff : List ℕ → List ℕ → List ℕ → List ℕ → ℕ → List ℕ → Type 0
SaysZeroIff table aux challenges before r after =
    7 ≤ length before → (SaysZero r after ↔ ((check_reason table aux challenges ≡ Fine) × ConstraintsHold table aux challenges))

-- then each CopyFlag 1 row tells the truth
abbrev pub SaysZeroSound : List ℕ → ℕ → List ℕ → Type 0
SaysZeroSound table r after =
    SaysZero r after → (i : ℕ) → i < row_count table → (row_at table i).copy_flag ≡ 1 → RowTells (row_at table i)

-- and the last running sum is the sum over the CopyFlag 1 rows, if no denominator of theirs is zero
abbrev pub SaysZeroSums : List ℕ → List ℕ → List ℕ → ℕ → List ℕ → Type 0
SaysZeroSums table aux challenges r after =
    SaysZero r after → DenominatorsNotZero table challenges → last_sum table aux ≡ lookup_sum table challenges
