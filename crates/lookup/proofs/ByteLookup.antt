-- The stored outputs of the byte lookup: the numbers follow the rule (`stored_is`), and no two bytes share one (`stored_distinct`). One test each,
-- computed over the whole table: entry i is (i + 1)^3 − 1 modulo 257; and the cube root of one more than it, which is its power 171, is i + 1
-- (3 · 171 is 1 modulo 256). Assumes nothing.
use Prim.Native.Nat.{ℕ, ◌+◌, ◌*◌, ◌%◌, ◌^◌, ◌<◌}
use mathlib.Core.Path.{◌≡◌, refl, sym, ap, ◌∙◌}
use mathlib.Core.Bool.{Bool, true}
use mathlib.Core.List.{List, [], ◌∷◌}
use native.Mathlib.Omega.{arith}
use lib.Dec.{eqb}
use lib.ListN.{length, get_or}
use borrow.Author.Tests.{eqb-true}
use Rattle.words.specs.Limits.{byte_rows}
use Rattle.field.proofs.Tables.{every, every_at, table_at, is_table}
use Rattle.lookup.specs.ByteLookup.{byte_lookup, byte_output, NoneShared, high_byte, low_byte, cascade_output}

-- the numbers
unfoldable pub stored : List ℕ
stored =
    0 ∷ 7 ∷ 26 ∷ 63 ∷ 124 ∷ 215 ∷ 85 ∷ 254 ∷ 214 ∷ 228 ∷ 45 ∷ 185 ∷ 140 ∷ 173 ∷ 33 ∷ 240 ∷ 29 ∷ 177 ∷ 176 ∷ 32
    ∷ 8 ∷ 110 ∷ 87 ∷ 202 ∷ 204 ∷ 99 ∷ 150 ∷ 106 ∷ 230 ∷ 14 ∷ 235 ∷ 128 ∷ 213 ∷ 239 ∷ 212 ∷ 138 ∷ 23 ∷ 130 ∷ 208 ∷ 6
    ∷ 44 ∷ 71 ∷ 93 ∷ 116 ∷ 146 ∷ 189 ∷ 251 ∷ 81 ∷ 199 ∷ 97 ∷ 38 ∷ 28 ∷ 73 ∷ 179 ∷ 95 ∷ 84 ∷ 152 ∷ 48 ∷ 35 ∷ 119
    ∷ 49 ∷ 88 ∷ 242 ∷ 3 ∷ 148 ∷ 169 ∷ 72 ∷ 120 ∷ 62 ∷ 161 ∷ 166 ∷ 83 ∷ 175 ∷ 191 ∷ 137 ∷ 19 ∷ 100 ∷ 129 ∷ 112 ∷ 55
    ∷ 221 ∷ 102 ∷ 218 ∷ 61 ∷ 151 ∷ 237 ∷ 68 ∷ 164 ∷ 17 ∷ 147 ∷ 46 ∷ 234 ∷ 203 ∷ 216 ∷ 22 ∷ 141 ∷ 65 ∷ 57 ∷ 123 ∷ 12
    ∷ 244 ∷ 54 ∷ 219 ∷ 231 ∷ 96 ∷ 77 ∷ 180 ∷ 154 ∷ 5 ∷ 253 ∷ 133 ∷ 165 ∷ 98 ∷ 195 ∷ 205 ∷ 134 ∷ 245 ∷ 30 ∷ 9 ∷ 188
    ∷ 59 ∷ 142 ∷ 186 ∷ 197 ∷ 181 ∷ 144 ∷ 92 ∷ 31 ∷ 224 ∷ 163 ∷ 111 ∷ 74 ∷ 58 ∷ 69 ∷ 113 ∷ 196 ∷ 67 ∷ 246 ∷ 225 ∷ 10
    ∷ 121 ∷ 50 ∷ 60 ∷ 157 ∷ 90 ∷ 122 ∷ 2 ∷ 250 ∷ 101 ∷ 75 ∷ 178 ∷ 159 ∷ 24 ∷ 36 ∷ 201 ∷ 11 ∷ 243 ∷ 132 ∷ 198 ∷ 190
    ∷ 114 ∷ 233 ∷ 39 ∷ 52 ∷ 21 ∷ 209 ∷ 108 ∷ 238 ∷ 91 ∷ 187 ∷ 18 ∷ 104 ∷ 194 ∷ 37 ∷ 153 ∷ 34 ∷ 200 ∷ 143 ∷ 126 ∷ 155
    ∷ 236 ∷ 118 ∷ 64 ∷ 80 ∷ 172 ∷ 89 ∷ 94 ∷ 193 ∷ 135 ∷ 183 ∷ 86 ∷ 107 ∷ 252 ∷ 13 ∷ 167 ∷ 206 ∷ 136 ∷ 220 ∷ 207 ∷ 103
    ∷ 171 ∷ 160 ∷ 76 ∷ 182 ∷ 227 ∷ 217 ∷ 158 ∷ 56 ∷ 174 ∷ 4 ∷ 66 ∷ 109 ∷ 139 ∷ 162 ∷ 184 ∷ 211 ∷ 249 ∷ 47 ∷ 125 ∷ 232
    ∷ 117 ∷ 43 ∷ 16 ∷ 42 ∷ 127 ∷ 20 ∷ 241 ∷ 25 ∷ 149 ∷ 105 ∷ 156 ∷ 51 ∷ 53 ∷ 168 ∷ 145 ∷ 247 ∷ 223 ∷ 79 ∷ 78 ∷ 226
    ∷ 15 ∷ 222 ∷ 82 ∷ 115 ∷ 70 ∷ 210 ∷ 27 ∷ 41 ∷ 1 ∷ 170 ∷ 40 ∷ 131 ∷ 192 ∷ 229 ∷ 248 ∷ 255 ∷ []

stored_length_lem : length stored ≡ byte_rows
unfolding stored
stored_length_lem = refl

-- ---- the rule

follows : ℕ → ℕ → Bool
follows i x = eqb x (byte_output i)

all_follow : every follows 0 stored ≡ true
unfolding follows byte_output stored
all_follow = refl

pub stored_output : (i : ℕ) → i < byte_rows → get_or stored i 0 ≡ byte_output i
unfolding follows
stored_output i h = eqb-true _ _ (every_at follows stored all_follow i (rw stored_length_lem h))

-- "That rule .. holds for the stored table."
pub stored_is : stored ≡ byte_lookup
unfolding byte_lookup
stored_is = is_table byte_output stored byte_rows stored_length_lem stored_output

-- ---- no two bytes share an output

root_of : ℕ → ℕ
root_of x = (x + 1) ^ 171 % 257

comes_from : ℕ → ℕ → Bool
comes_from i x = eqb (root_of x) (i + 1)

all_come : every comes_from 0 stored ≡ true
unfolding comes_from root_of stored
all_come = refl

root_of_lem : (i : ℕ) → i < byte_rows → root_of (get_or stored i 0) ≡ i + 1
unfolding comes_from
root_of_lem i h = eqb-true _ _ (every_at comes_from stored all_come i (rw stored_length_lem h))

-- "and that no two bytes share an output"
pub stored_distinct : NoneShared stored
stored_distinct i j h k e = let q : i + 1 ≡ j + 1 = sym (root_of_lem i h) ∙ ap root_of e ∙ root_of_lem j k in omega arith

-- ---- the cascade

-- ---- a table that is lent

pub looked_up_lem : (outputs : List ℕ) → outputs ≡ byte_lookup → (i : ℕ) → i < byte_rows → get_or outputs i 0 ≡ byte_output i
unfolding byte_lookup
looked_up_lem outputs e i h = ap (λ (l : List ℕ). get_or l i 0) e ∙ table_at byte_output byte_rows i h

-- looking up both bytes of a 16-bit value in it makes the cascade's output
pub both_looked_up : (outputs : List ℕ) → outputs ≡ byte_lookup → (v : ℕ) → v < 65536 →
    256 * get_or outputs (high_byte v) 0 + get_or outputs (low_byte v) 0 ≡ cascade_output v
unfolding cascade_output
both_looked_up outputs e v h =
    let high = looked_up_lem outputs e (high_byte v) (omega arith) in
    let low = looked_up_lem outputs e (low_byte v) (omega arith) in
    omega arith
