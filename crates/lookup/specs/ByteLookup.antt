-- The byte lookup and the cascade's outputs (change request 3).
use Rattle.std.specs.Prelude.{ℕ, ◌+◌, ◌*◌, ◌-◌, ◌/◌, ◌%◌, ◌^◌, ◌<◌, ◌≡◌, List, get_or}
use Rattle.words.specs.Limits.{byte_rows}
use Rattle.field.specs.Tables.{table_of}

-- "i goes to (i + 1)^3 − 1 modulo 257"
unfoldable pub byte_output : ℕ → ℕ
byte_output i = ((i + 1) ^ 3 - 1) % 257

-- "A stored table holds the 256 outputs of the byte lookup"
unfoldable pub byte_lookup : List ℕ
byte_lookup = table_of byte_output 0 byte_rows

-- "no two bytes share an output", of a table of outputs
abbrev pub NoneShared : List ℕ → Type 0
NoneShared outputs = (i j : ℕ) → i < byte_rows → j < byte_rows → get_or outputs i 0 ≡ get_or outputs j 0 → i ≡ j

-- "256·h + l"
abbrev pub high_byte : ℕ → ℕ
high_byte v = v / 256

abbrev pub low_byte : ℕ → ℕ
low_byte v = v % 256

-- "The cascade maps 256·h + l to 256·S(h) + S(l), S being the byte lookup."
unfoldable pub cascade_output : ℕ → ℕ
cascade_output v = 256 * byte_output (high_byte v) + byte_output (low_byte v)
