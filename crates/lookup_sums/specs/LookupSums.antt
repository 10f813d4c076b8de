-- "Each table gets a running sum as U32 has, over input and output of each byte from 0 up, or each used cascade place in order, also where the
-- multiplicity is 0" (change request 3).
use Rattle.std.specs.Prelude.{ℕ, ◌*◌, Bool, not, ◌&&◌, List, eqb, length, get_or, take}
use Rattle.std.proofs.lemmas.List.Edits.{sets}
use Rattle.words.specs.Limits.{byte_rows}
use Rattle.words.specs.Outcomes.{Outcome, outcome}
use Rattle.words.specs.Refusals.{decline_if, or_else, Judgement}
use Rattle.words.specs.declared.Refusal.TheVariants.{Shape, Unreduced, Flat}
use Rattle.xfield.specs.Extension.{Ext, add_x, sub_x, scale_x}
use Rattle.table.specs.Columns.{aux_width, element_at, all_reduced}
use Rattle.sums.specs.RunningSum.{Summand, running_sum, denominators_ok, element_words, sum_words}
use Rattle.lookup.specs.ByteLookup.{byte_output, cascade_output}
use Rattle.lookup.specs.Cascades.{Cascade, capacity, used, cascade_shape, bytes_shape}

-- "LookupTableInputWeight, LookupTableOutputWeight and CascadeLookupIndeterminate for bytes, and the HashCascade challenges of those three kinds for
-- 16-bit values, each sum lent its nine words in that order": the indeterminate comes last
pub record LookupChallenges : Type 0 where
  pub input_weight : Ext
  pub output_weight : Ext
  pub indeterminate : Ext

abbrev pub lookup_challenge_words : ℕ
lookup_challenge_words = 9

unfoldable pub lookup_challenges_of : List ℕ → LookupChallenges
lookup_challenges_of ws = record { input_weight = element_at ws 0; output_weight = element_at ws 1; indeterminate = element_at ws 2 }

-- the indeterminate minus the weighted sum of input and output
unfoldable pub lookup_denominator : LookupChallenges → (input output : ℕ) → Ext
lookup_denominator c input output =
    sub_x c.indeterminate (add_x (scale_x input c.input_weight) (scale_x output c.output_weight))

-- "also where the multiplicity is 0": each counts, so the flag is 1
abbrev pub lookup_summand : LookupChallenges → (input output multiplicity : ℕ) → Summand
lookup_summand c input output multiplicity =
    record { flag = 1; multiplicity = multiplicity; denominator = lookup_denominator c input output }

-- byte i's
unfoldable pub byte_summand : (byte_multiplicities challenges : List ℕ) → ℕ → Summand
byte_summand bytes challenges i = lookup_summand (lookup_challenges_of challenges) i (byte_output i) (get_or bytes i 0)

-- that of place i of the cascade
unfoldable pub cascade_summand : (keys multiplicities challenges : List ℕ) → ℕ → Summand
cascade_summand keys multiplicities challenges i =
    lookup_summand (lookup_challenges_of challenges) (get_or keys i 0) (cascade_output (get_or keys i 0)) (get_or multiplicities i 0)

-- 1: nine challenge words, and "aux not three words a byte or place"
unfoldable pub sum_shape : (places : ℕ) → (challenges aux : List ℕ) → Bool
sum_shape places challenges aux = eqb (length challenges) lookup_challenge_words && eqb (length aux) (aux_width * places)

-- "8 and 9 as the U32 sum does, unused places not examined": 8 is about the challenges and the multiplicities of the n places
unfoldable pub places_reason : (ℕ → Summand) → (n : ℕ) → (multiplicities challenges : List ℕ) → Judgement
places_reason s n multiplicities challenges =
    or_else (decline_if (not (all_reduced challenges && all_reduced (take n multiplicities))) Unreduced)
    (decline_if (not (denominators_ok s n)) Flat)

-- the sums so far stand at the n places, the aux words of other places stay; the answer is the last sum, zero for no place
abbrev pub summed_as : Judgement → (ℕ → Summand) → (n : ℕ) → (aux : List ℕ) → Outcome (List ℕ)
summed_as j s n aux = outcome j (element_words (running_sum s n)) aux (sets aux 0 (sum_words s n))

unfoldable pub byte_sum_reason : (byte_multiplicities challenges aux : List ℕ) → Judgement
byte_sum_reason bytes challenges aux =
    or_else (decline_if (not (bytes_shape bytes && sum_shape byte_rows challenges aux)) Shape)
    (places_reason (byte_summand bytes challenges) byte_rows bytes challenges)

unfoldable pub byte_sum_all : (byte_multiplicities challenges aux : List ℕ) → Outcome (List ℕ)
byte_sum_all bytes challenges aux = summed_as (byte_sum_reason bytes challenges aux) (byte_summand bytes challenges) byte_rows aux

unfoldable pub cascade_sum_reason : Cascade → (challenges aux : List ℕ) → Judgement
cascade_sum_reason c challenges aux =
    or_else (decline_if (not (cascade_shape c && sum_shape (capacity c) challenges aux)) Shape)
    (places_reason (cascade_summand c.keys c.multiplicities challenges) (used c) c.multiplicities challenges)

unfoldable pub cascade_sum_all : Cascade → (challenges aux : List ℕ) → Outcome (List ℕ)
cascade_sum_all c challenges aux =
    summed_as (cascade_sum_reason c challenges aux) (cascade_summand c.keys c.multiplicities challenges) (used c) aux
