-- "Stored, little-endian": numbers as bytes, the lowest first.
use Rattle.std.specs.Prelude.{ℕ, zero, suc, ◌+◌, ◌*◌, ◌/◌, ◌%◌, ◌^◌, List, [], ◌∷◌, get_or}

-- the number in the k bytes from place at: the sum of byte i times 256^i
unfoldable pub le_at : List ℕ → ℕ → ℕ → ℕ
le_at bytes at zero = 0
le_at bytes at (suc k) = le_at bytes at k + get_or bytes (at + k) 0 * 256 ^ k

-- the k bytes of n
unfoldable pub le : ℕ → ℕ → List ℕ
le zero n = []
le (suc k) n = n % 256 ∷ le k (n / 256)
