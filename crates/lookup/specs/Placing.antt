-- A recording in two parts: where a value goes, and storing it there. No contract of a call cites this page; proofs/LookupCases.antt:
-- looked_up_at says that the two parts are a recording.
use Rattle.std.specs.Prelude.{ℕ, ◌+◌, ◌<◌, ◌≡◌, false, cond, [], length, get_or, Option, Some, None, Result, Ok, Err}
use Rattle.words.specs.declared.Refusal.{Refusal}
use Rattle.words.specs.Limits.{byte_rows}
use Rattle.words.specs.Answers.{done, declined}
use Rattle.words.specs.Outcomes.{Outcome}
use Rattle.words.specs.Refusals.{Judgement, Fine, Declined}
use Rattle.list.specs.Lists.{count_full}
use Rattle.lookup.specs.Cascades.{Lookups, used, find_value, known, bytes_full, lookup_reason, raised, appended}

-- the place of the first equal key, or none where the value is new, unless a reason speaks against it
abbrev pub Placed : Type 0
Placed = Result (Option ℕ) Refusal

abbrev pub place_as : Judgement → Lookups → ℕ → Placed
place_as Fine t v = Ok (cond (known t.values v) (Some (find_value t.values v)) None)
place_as (Declined reason) t v = Err reason

unfoldable pub place_of : Lookups → ℕ → Placed
place_of t v = place_as (lookup_reason t v) t v

-- what storing the value there leaves
abbrev pub stored_at : Lookups → ℕ → Placed → Outcome Lookups
stored_at t v (Ok (Some i)) = record { answer = done []; left = raised t i }
stored_at t v (Ok None) = record { answer = done []; left = appended t v }
stored_at t v (Err reason) = record { answer = declined reason; left = t }

-- there is room for it: the multiplicities can gain what they would, the new key has its place
abbrev pub Fits : Lookups → ℕ → Placed → Type 0
Fits t v (Ok (Some i)) = (i < length t.values.multiplicities) × (count_full (get_or t.values.multiplicities i 0 + 1) ≡ false)
Fits t v (Ok None) =
    (used t.values < length t.values.keys) × (used t.values < length t.values.multiplicities)
    × (length t.byte_multiplicities ≡ byte_rows) × (bytes_full t.byte_multiplicities v ≡ false)
Fits t v (Err reason) = Unit {0}
