-- Stored lists (document 01, "Recording and stored lists", from "Stored, little-endian" on, and change request 9): the bytes of a list, and what
-- bytes hold.
use Rattle.std.specs.Prelude.{ℕ, ◌+◌, ◌*◌, cond, eqb, length}
use mathlib.Core.List.{List, ◌++◌, map, flat_map}
use Rattle.words.specs.LittleEndian.{le_at, le}
use Rattle.words.specs.Places.{places}
use Rattle.isa.specs.declared.U32TableEntry.{U32TableEntry}
use Rattle.isa.specs.Entries.{entry, lhs, rhs}
use Rattle.list.specs.Lists.{U32List, used, entry_at, multiplicity_at}
use Rattle.list.specs.Heights.{list_height}

-- "writing takes N from used": the places of a list that are stored are the used ones, in their order, and N is how many they are
unfoldable pub stored_places : U32List → List ℕ
stored_places l = places (used l)

-- "4 bytes N, 4 bytes height"
abbrev pub n_width : ℕ
n_width = 4

abbrev pub height_width : ℕ
height_width = 4

-- the bytes before the keys
abbrev pub head_width : ℕ
head_width = n_width + height_width

-- "keys (opcode 1 byte, LHS 8, RHS 8)"
abbrev pub opcode_width : ℕ
opcode_width = 1

abbrev pub operand_width : ℕ
operand_width = 8

abbrev pub key_width : ℕ
key_width = opcode_width + operand_width + operand_width

-- "Stored multiplicities take 8 bytes"
abbrev pub multiplicity_width : ℕ
multiplicity_width = 8

-- and took 4 in lists of the old length
abbrev pub old_multiplicity_width : ℕ
old_multiplicity_width = 4

-- the length of n entries whose multiplicities take `width` bytes each
abbrev pub length_with : (width n : ℕ) → ℕ
length_with width n = head_width + (key_width * n + width * n)

-- "the length is 8 + 25·N"
abbrev pub stored_length : ℕ → ℕ
stored_length n = length_with multiplicity_width n

-- "Lists of the old length are still read": 8 + 21·N
abbrev pub old_length : ℕ → ℕ
old_length n = length_with old_multiplicity_width n

unfoldable pub key_bytes : U32TableEntry → List ℕ
key_bytes e = le opcode_width e.opcode ++ (le operand_width (lhs e) ++ le operand_width (rhs e))

-- "Stored, little-endian: 4 bytes N, 4 bytes height; then N keys ..; then N multiplicities": the bytes of a list with this number as its height
unfoldable pub bytes_with : ℕ → U32List → List ℕ
bytes_with height l =
    le n_width (length (stored_places l))
    ++ (le height_width height
    ++ (flat_map (λ i. key_bytes (entry_at l i)) (stored_places l)
    ++ flat_map (λ i. le multiplicity_width (multiplicity_at l i)) (stored_places l)))

-- the height is the list's own; "writing makes the new length only"
unfoldable pub stored_bytes : U32List → List ℕ
stored_bytes l = bytes_with (list_height l) l

-- What bytes hold, read at the same offsets
unfoldable pub stored_n : List ℕ → ℕ
stored_n s = le_at s 0 n_width

unfoldable pub stored_height : List ℕ → ℕ
stored_height s = le_at s n_width height_width

-- where the first n keys end: the next key, or the multiplicities, begin there
abbrev pub keys_end : ℕ → ℕ
keys_end n = head_width + key_width * n

unfoldable pub stored_entry : List ℕ → ℕ → U32TableEntry
stored_entry s i =
    entry (le_at s (keys_end i) opcode_width)
    (le_at s (keys_end i + opcode_width) operand_width)
    (le_at s (keys_end i + opcode_width + operand_width) operand_width)

-- the bytes that a multiplicity takes: the length tells which. For N = 0 both lengths are 8, and there is none
unfoldable pub width_of : List ℕ → ℕ
width_of s = cond (eqb (length s) (old_length (stored_n s))) old_multiplicity_width multiplicity_width

unfoldable pub stored_multiplicity : List ℕ → ℕ → ℕ
stored_multiplicity s i = le_at s (keys_end (stored_n s) + width_of s * i) (width_of s)

abbrev pub stored_entries : List ℕ → List U32TableEntry
stored_entries s = map (stored_entry s) (places (stored_n s))
