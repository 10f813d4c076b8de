-- The answers of the calls on the lookup tables, as the C functions hand them over.
use Rattle.std.specs.Prelude.{ℕ, List, [], ◌∷◌}
use Rattle.words.specs.Answers.{Answer, done}
use Rattle.words.specs.Outcomes.{Outcome}
use Rattle.lookup.specs.ByteLookup.{byte_output, cascade_output}
use Rattle.lookup.specs.Cascades.{Cascade, cascade, used, Lookups, lookups}

-- a cascade, and both tables, whose sizes are handed over as two numbers
abbrev pub lent_cascade : (capacity used : ℕ) → (keys multiplicities : List ℕ) → Cascade
lent_cascade capacity used keys multiplicities = cascade (record { capacity = capacity; used = used }) keys multiplicities

abbrev pub lent_lookups : (capacity used : ℕ) → (keys multiplicities byte_multiplicities : List ℕ) → Lookups
lent_lookups capacity used keys multiplicities byte_multiplicities =
    lookups (record { capacity = capacity; used = used }) keys multiplicities byte_multiplicities

-- a recording has no value to give; the places used afterwards are handed over
abbrev pub looked_up_due : Outcome Lookups → Answer
looked_up_due due = record { number = due.answer.number; values = used due.left.values ∷ [] }

-- the output of a byte, and of a 16-bit value
abbrev pub byte_output_due : ℕ → Answer
byte_output_due byte = done (byte_output byte ∷ [])

abbrev pub cascade_output_due : ℕ → Answer
cascade_output_due value = done (cascade_output value ∷ [])
