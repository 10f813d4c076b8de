-- The cascade and the multiplicities of the bytes (change request 3), and one recording.
use Rattle.std.specs.Prelude.{ℕ, zero, suc, ◌+◌, Bool, cond, not, ◌&&◌, ◌||◌, List, [], eqb, ltb, length, get_or, set}
use Rattle.words.specs.Limits.{max_cascade_places, byte_rows}
use Rattle.words.specs.Outcomes.{Outcome, outcome}
use Rattle.words.specs.Refusals.{decline_if, or_else, Judgement}
use Rattle.words.specs.declared.Refusal.TheVariants.{Shape, CountFull, CascadeFull}
use Rattle.list.specs.declared.Sizes.{Sizes}
use Rattle.list.specs.Lists.{count_full}
use Rattle.lookup.specs.ByteLookup.{high_byte, low_byte}

-- "It keeps sizes, keys (16 bits, one a place) and multiplicities as a list does."
pub record Cascade : Type 0 where
  pub sizes : Sizes
  pub keys : List ℕ
  pub multiplicities : List ℕ

abbrev pub cascade : Sizes → List ℕ → List ℕ → Cascade
cascade s ks ms = record { sizes = s; keys = ks; multiplicities = ms }

abbrev pub capacity : Cascade → ℕ
capacity c = c.sizes.capacity

-- the places in use: the first `used`; no other place is examined
abbrev pub used : Cascade → ℕ
used c = c.sizes.used

-- the two tables: the cascade, and a multiplicity for each byte
pub record Lookups : Type 0 where
  pub values : Cascade
  pub byte_multiplicities : List ℕ

abbrev pub lookups : Sizes → List ℕ → List ℕ → List ℕ → Lookups
lookups s ks ms bs = record { values = cascade s ks ms; byte_multiplicities = bs }

-- the first of the n places from i on that holds the value, or i + n
unfoldable pub find_from : List ℕ → ℕ → ℕ → ℕ → ℕ
find_from keys v i zero = i
find_from keys v i (suc n) = cond (eqb (get_or keys i 0) v) i (find_from keys v (suc i) n)

-- the first used place that holds the value, or `used` where none does
abbrev pub find_value : Cascade → ℕ → ℕ
find_value c v = find_from c.keys v 0 (used c)

abbrev pub known : Cascade → ℕ → Bool
known c v = ltb (find_value c v) (used c)

-- 1: keys and multiplicities one a place, used at most capacity, at most 65,536 places
unfoldable pub cascade_shape : Cascade → Bool
cascade_shape c =
    not (ltb max_cascade_places (capacity c)) && (not (ltb (capacity c) (used c))
    && (eqb (length c.keys) (capacity c) && eqb (length c.multiplicities) (capacity c)))

-- 1: "Byte multiplicities not 256"
unfoldable pub bytes_shape : List ℕ → Bool
bytes_shape bs = eqb (length bs) byte_rows

abbrev pub lookup_shape : Lookups → Bool
lookup_shape t = cascade_shape t.values && bytes_shape t.byte_multiplicities

-- one more for a byte
abbrev pub raised_byte : List ℕ → ℕ → List ℕ
raised_byte bs b = set bs b (get_or bs b 0 + 1)

-- "adds one to each of its two bytes' multiplicities (two if they are equal)"
abbrev pub raised_bytes : List ℕ → ℕ → List ℕ
raised_bytes bs v = raised_byte (raised_byte bs (high_byte v)) (low_byte v)

-- 5: "any multiplicity it would raise past the limit", of a new value: those of its bytes
unfoldable pub bytes_full : List ℕ → ℕ → Bool
bytes_full bs v = count_full (get_or (raised_bytes bs v) (high_byte v) 0) || count_full (get_or (raised_bytes bs v) (low_byte v) 0)

-- 5, of a known value its own multiplicity; "14, a new value and no unused cascade place .., last, after 1 and 5"
unfoldable pub value_reason : Lookups → ℕ → Judgement
value_reason t v =
    cond (known t.values v)
    (decline_if (count_full (get_or t.values.multiplicities (find_value t.values v) 0 + 1)) CountFull)
    (or_else (decline_if (bytes_full t.byte_multiplicities v) CountFull)
    (decline_if (not (ltb (used t.values) (capacity t.values))) CascadeFull))

unfoldable pub lookup_reason : Lookups → ℕ → Judgement
lookup_reason t v = or_else (decline_if (not (lookup_shape t)) Shape) (value_reason t v)

-- the value at place i gains one
abbrev pub raised : Lookups → ℕ → Lookups
raised t i =
    lookups t.values.sizes t.values.keys
    (set t.values.multiplicities i (get_or t.values.multiplicities i 0 + 1)) t.byte_multiplicities

-- the value is appended with 1, and its bytes gain one each
abbrev pub appended : Lookups → ℕ → Lookups
appended t v =
    lookups (record { capacity = capacity t.values; used = used t.values + 1 })
    (set t.values.keys (used t.values) v)
    (set t.values.multiplicities (used t.values) 1)
    (raised_bytes t.byte_multiplicities v)

-- "Recording a 16-bit value adds one to its multiplicity; a value new to the cascade also adds one to each of its two bytes' multiplicities"
abbrev pub looked_up_into : Lookups → ℕ → Lookups
looked_up_into t v = cond (known t.values v) (raised t (find_value t.values v)) (appended t v)

unfoldable pub look_up_all : Lookups → ℕ → Outcome Lookups
look_up_all t v = outcome (lookup_reason t v) [] t (looked_up_into t v)
