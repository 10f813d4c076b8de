-- Extension (document 01, under that heading): the aux words after `extend`.
use Rattle.std.specs.Prelude.{ℕ, not, ◌&&◌, List}
use Rattle.words.specs.Outcomes.{Outcome, outcome}
use Rattle.words.specs.Refusals.{decline_if, or_else, Judgement}
use Rattle.words.specs.declared.Refusal.TheVariants.{Shape, Unreduced, Flat}
use Rattle.table.specs.Columns.{row_count, table_shape, aux_shape, all_reduced}
use Rattle.table.specs.Challenges.{challenges_shape}
use Rattle.sums.specs.RunningSum.{denominators_ok, element_words, sum_words}
use Rattle.sums.specs.LookupSum.{summand_at, lookup_sum}

-- "Extend 1, 8, 9": 8 is about the table and the challenges; old aux words are not examined
unfoldable pub extend_reason : List ℕ → List ℕ → List ℕ → Judgement
extend_reason table aux challenges =
    or_else (decline_if (not (table_shape table && (aux_shape table aux && challenges_shape challenges))) Shape)
    (or_else (decline_if (not (all_reduced table && all_reduced challenges)) Unreduced)
    (decline_if (not (denominators_ok (summand_at table challenges) (row_count table))) Flat))

-- "The answer is the last sum, zero for no rows."
unfoldable pub extend_all : List ℕ → List ℕ → List ℕ → Outcome (List ℕ)
extend_all table aux challenges =
    outcome (extend_reason table aux challenges)
    (element_words (lookup_sum table challenges)) aux (sum_words (summand_at table challenges) (row_count table))
