-- Printed text, in ASCII: words, numbers in decimal, lines of fields (document 01, "Recording and stored lists", what `u32list` prints).
use Rattle.std.specs.Prelude.{ℕ, zero, suc, ◌+◌, ◌-◌, ◌/◌, ◌%◌, cond, List, [], ◌∷◌, ◌++◌, map, ltb, length, replicate}
use Prim.Native.Char.{code}
use Prim.Native.String.{String, [] as []ˢ, ◌∷◌ as ◌∷ˢ◌}

-- the codes of a text's characters
abbrev pub ascii : String → List ℕ
ascii []ˢ = []
ascii (c ∷ˢ s) = code c ∷ ascii s

-- the decimal digits of a number below 10^k, the highest first, none of them a zero in front
unfoldable pub digits_of : ℕ → ℕ → List ℕ
digits_of zero n = []
digits_of (suc k) n = cond (ltb n 10) [] (digits_of k (n / 10)) ++ ((48 + n % 10) ∷ [])

-- a 64-bit number in decimal: it has at most 20 digits (proofs/Decimal.antt says what the digits are)
unfoldable pub decimal : ℕ → List ℕ
decimal n = digits_of 20 n

-- what follows a field of a line: each other field after a single space, then the newline
unfoldable pub line_rest : List (List ℕ) → List ℕ
line_rest [] = ascii "\n"
line_rest (field ∷ fields) = ascii " " ++ (field ++ line_rest fields)

-- a line: its fields, separated by single spaces, and a newline
unfoldable pub line : List (List ℕ) → List ℕ
line [] = ascii "\n"
line (field ∷ fields) = field ++ line_rest fields

-- "The first line has N, height and padded height", as `entries 1 rows 3 padded 4`
unfoldable pub head_line : (n height padded : ℕ) → List ℕ
head_line n height padded =
    line (ascii "entries" ∷ decimal n ∷ ascii "rows" ∷ decimal height ∷ ascii "padded" ∷ decimal padded ∷ [])

-- "then comes each row .., its fields the ten columns"
unfoldable pub row_line : List ℕ → List ℕ
row_line words = line (map decimal words)

-- "then `sum` and the last sum's three words"
unfoldable pub sum_line : List ℕ → List ℕ
sum_line words = line (ascii "sum" ∷ map decimal words)

-- "then the check's answer": `zero`; "a failed check prints `nonzero`, group, row, index and three words", its values
unfoldable pub verdict_line : List ℕ → List ℕ
verdict_line [] = line (ascii "zero" ∷ [])
verdict_line (group ∷ values) = line (ascii "nonzero" ∷ map decimal (group ∷ values))

-- "A refusal prints `refused` and the number alone."
unfoldable pub refused_line : ℕ → List ℕ
refused_line number = line (ascii "refused" ∷ decimal number ∷ [])

-- ---- what `u32check` prints besides
-- the line of one field alone, as a constraint's name
unfoldable pub field_line : List ℕ → List ℕ
field_line field = line (field ∷ [])

-- a text that cannot be read, and the line of its first fault, as `malformed line 3`
unfoldable pub malformed_line : ℕ → List ℕ
malformed_line number = line (ascii "malformed" ∷ ascii "line" ∷ decimal number ∷ [])

-- a number of rows above the most that is taken, as `too many rows: 16385, at most 16384`
unfoldable pub too_many_line : (rows most : ℕ) → List ℕ
too_many_line rows most =
    line (ascii "too" ∷ ascii "many" ∷ ascii "rows:" ∷ (decimal rows ++ ascii ",") ∷ ascii "at" ∷ ascii "most" ∷ decimal most ∷ [])

-- ---- what `u32batch` prints besides
-- so many spaces
unfoldable pub spaces : ℕ → List ℕ
spaces n = replicate n 32

-- a number at the right end of a column of this width; one that is wider is not cut
unfoldable pub column : (width n : ℕ) → List ℕ
column width n = spaces (width - length (decimal n)) ++ decimal n
