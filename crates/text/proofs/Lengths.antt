-- How long a line can be: a number takes at most 20 digits, and a space or the newline follows it.
use Prim.Native.Nat.{ℕ, suc, ◌+◌, ◌*◌, ◌≤◌}
use mathlib.Core.Path.{◌≡◌}
use mathlib.Core.List.{List, [], ◌∷◌, map}
use native.Mathlib.Omega.{arith}
use lib.ListN.{length, length-append}
use Rattle.text.specs.Lines.{decimal, line_rest, line, head_line, row_line, sum_line, verdict_line, refused_line}
use Rattle.text.specs.Lines.{field_line, malformed_line, too_many_line}
use Rattle.text.proofs.Decimal.{length_decimal}

rest_bound : (ws : List ℕ) → length (line_rest (map decimal ws)) ≤ 21 * length ws + 1
unfolding line_rest
rest_bound [] = omega arith
rest_bound (w ∷ ws) =
    let h = rest_bound ws in
    omega (arith, length_decimal w, length-append (decimal w) (line_rest (map decimal ws)))

pub head_length : (n height padded : ℕ)
    → length (head_line n height padded) ≡ 23 + length (decimal n) + length (decimal height) + length (decimal padded)
unfolding head_line line line_rest
head_length n height padded = simp length-append (omega arith)

pub head_bound : (n height padded : ℕ) → length (head_line n height padded) ≤ 83
head_bound n height padded =
    omega (arith, head_length n height padded, length_decimal n, length_decimal height, length_decimal padded)

pub row_bound : (w : ℕ) (ws : List ℕ) → length (row_line (w ∷ ws)) ≤ 21 * suc (length ws)
unfolding row_line line
row_bound w ws = omega (arith, length_decimal w, rest_bound ws, length-append (decimal w) (line_rest (map decimal ws)))

pub sum_bound : (ws : List ℕ) → length (sum_line ws) ≤ 21 * length ws + 4
unfolding sum_line line
sum_bound ws = omega (arith, rest_bound ws)

pub verdict_bound : (vs : List ℕ) → length (verdict_line vs) ≤ 21 * length vs + 8
unfolding verdict_line line
verdict_bound [] = omega (arith, rest_bound [])
verdict_bound (v ∷ vs) = omega (arith, rest_bound (v ∷ vs))

pub refused_bound : (number : ℕ) → length (refused_line number) ≤ 29
unfolding refused_line line
refused_bound number = omega (arith, rest_bound (number ∷ []))

pub field_length : (field : List ℕ) → length (field_line field) ≡ length field + 1
unfolding field_line line line_rest
field_length field = length-append field (10 ∷ [])

pub malformed_bound : (number : ℕ) → length (malformed_line number) ≤ 36
unfolding malformed_line line line_rest
malformed_bound number = simp length-append (omega (arith, length_decimal number))

pub too_many_length : (rows most : ℕ) → length (too_many_line rows most) ≡ 26 + length (decimal rows) + length (decimal most)
unfolding too_many_line line line_rest
too_many_length rows most = simp length-append (omega arith)

pub too_many_bound : (rows most : ℕ) → length (too_many_line rows most) ≤ 66
too_many_bound rows most = omega (arith, too_many_length rows most, length_decimal rows, length_decimal most)
