-- Print, then read: the numbers of printed lines are read back (lines_read). By induction on the digits of a number, whose values only grow, so that none
-- is past 64 bits before the last; then on the numbers of a line; then on the lines. Assumes nothing.
use Prim.Native.Nat.{ℕ, ◌+◌, ◌*◌, ◌-◌, ◌≤◌}
use mathlib.Core.Path.{◌≡◌, refl, ap, ◌∙◌}
use mathlib.Core.Bool.{true, false}
use mathlib.Core.List.{List, [], ◌∷◌, ◌++◌, map, append_assoc}
use native.Mathlib.Omega.{arith}
use borrow.Author.Tests.{le-leb}
use Rattle.text.specs.Lines.{decimal, line_rest, line, row_line}
use Rattle.text.proofs.Decimal.{value_from, AllDigits, none, digit, IsDecimal, decimal_is}
use Rattle.numbers.specs.declared.Place.{Place}
use Rattle.std.specs.Prelude.{None, Some, Ok, unwrap_or}
use Rattle.numbers.specs.Numbers.{max_word, start_place, line_of_next, step, step_of, Reading, numbers, before, read_from, read_text}
use Rattle.numbers.proofs.Steps.{step_digit}

-- bytes that lead from a place to a place, with no number ended
pub data Passes : Place → List ℕ → Place → Type 0 where
  stay : {p : Place} → Passes p [] p
  pass : {p q r : Place} {byte : ℕ} {text : List ℕ} → step_of p byte ≡ Ok (step None q) → Passes q text r → Passes p (byte ∷ text) r

-- within a number of this value
abbrev pub in_number : (line value : ℕ) → Place
in_number line value = record { line = line; ended = false; number = Some value }

-- the number so far, 0 where none has begun
abbrev pub so_far : Place → ℕ
so_far p = unwrap_or p.number 0

value_grows : (a : ℕ) (ds : List ℕ) → a ≤ value_from a ds
value_grows a [] = omega arith
value_grows a (d ∷ ds) = omega (arith, value_grows (10 * a + (d - 48)) ds)

one_digit : (p : Place) (d : ℕ) → 48 ≤ d → d ≤ 57 → 10 * so_far p + (d - 48) ≤ max_word
    → step_of p d ≡ Ok (step None (in_number (line_of_next p) (10 * so_far p + (d - 48))))
one_digit p d l h m = step_digit p d l h ∙ rw (le-leb (10 * so_far p + (d - 48)) max_word m)

digits_pass : (p : Place) (d : ℕ) (ds : List ℕ) → AllDigits (d ∷ ds) → value_from (10 * so_far p + (d - 48)) ds ≤ max_word
    → Passes p (d ∷ ds) (in_number (line_of_next p) (value_from (10 * so_far p + (d - 48)) ds))
digits_pass p d [] (digit l h none) m = pass (one_digit p d l h m) stay
digits_pass p d (e ∷ es) (digit l h r) m =
    let v = 10 * so_far p + (d - 48) in
    pass
    (one_digit p d l h (omega (arith, m, value_grows v (e ∷ es))))
    (digits_pass (in_number (line_of_next p) (10 * so_far p + (d - 48))) e es r m)

text_passes : (p : Place) (n : ℕ) (text : List ℕ) → so_far p ≡ 0 → n ≤ max_word → IsDecimal n text → Passes p text (in_number (line_of_next p) n)
text_passes p n [] z m t = absurd (let s = t.some in omega arith)
text_passes p n (d ∷ ds) z m t =
    let e : 10 * so_far p + (d - 48) ≡ 10 * 0 + (d - 48) = omega arith in
    let v : value_from (10 * so_far p + (d - 48)) ds ≡ n = rw e t.value in
    rw v at (digits_pass p d ds t.digits (rw v m))

-- where no number has begun, a printed number is read
pub decimal_passes : (p : Place) (n : ℕ) → so_far p ≡ 0 → n ≤ max_word → Passes p (decimal n) (in_number (line_of_next p) n)
decimal_passes p n z m = text_passes p n (decimal n) z m (decimal_is n (omega arith))

-- ---- what is read after bytes that end no number
passes_read : {p q : Place} {text : List ℕ} (rest : List ℕ) → Passes p text q → read_from p (text ++ rest) ≡ read_from q rest
unfolding read_from
passes_read rest stay = refl
passes_read rest (pass e r) = rw e (passes_read rest r)

-- ---- lines of words
pub data Words : List ℕ → Type 0 where
  no_word : Words []
  word : {w : ℕ} {ws : List ℕ} → w ≤ max_word → Words ws → Words (w ∷ ws)

-- lines that each have a number
pub data WordLines : List (List ℕ) → Type 0 where
  no_line : WordLines []
  one_line : {w : ℕ} {ws : List ℕ} {lines : List (List ℕ)} → Words (w ∷ ws) → WordLines lines → WordLines ((w ∷ ws) ∷ lines)

-- their text
pub printed : List (List ℕ) → List ℕ
printed [] = []
printed (ws ∷ lines) = row_line ws ++ printed lines

-- their numbers
pub numbers_of : List (List ℕ) → List ℕ
numbers_of [] = []
numbers_of (ws ∷ lines) = ws ++ numbers_of lines

before_all : List ℕ → Reading → Reading
before_all [] r = r
before_all (n ∷ ns) r = before n (before_all ns r)

-- after a newline on this line
abbrev after_line : ℕ → Place
after_line number = record { line = number; ended = true; number = None }

rest_read : (number n : ℕ) (ws rest : List ℕ) → Words ws
    → read_from (in_number number n) (line_rest (map decimal ws) ++ rest) ≡ before n (before_all ws (read_from (after_line number) rest))
unfolding read_from step_of line_rest before_all
rest_read number n [] rest no_word = refl
rest_read number n (w ∷ ws) rest (word m r) =
    let between : Place = record { line = number; ended = false; number = None } in
    let e = append_assoc (decimal w) (line_rest (map decimal ws)) rest in
    let k = passes_read (line_rest (map decimal ws) ++ rest) (decimal_passes between w refl m) in
    let all : read_from between ((decimal w ++ line_rest (map decimal ws)) ++ rest) ≡ before w (before_all ws (read_from (after_line number) rest)) =
    rw e (k ∙ rest_read number w ws rest r) in
    ap (before n) all

line_read : (p : Place) (w : ℕ) (ws rest : List ℕ) → so_far p ≡ 0 → Words (w ∷ ws)
    → read_from p (row_line (w ∷ ws) ++ rest) ≡ before_all (w ∷ ws) (read_from (after_line (line_of_next p)) rest)
unfolding row_line line before_all
line_read p w ws rest z (word m r) =
    let e = append_assoc (decimal w) (line_rest (map decimal ws)) rest in
    rw e (passes_read (line_rest (map decimal ws) ++ rest) (decimal_passes p w z m) ∙ rest_read (line_of_next p) w ws rest r)

before_numbers : (ns ms : List ℕ) → before_all ns (numbers ms) ≡ numbers (ns ++ ms)
unfolding before_all
before_numbers [] ms = refl
before_numbers (n ∷ ns) ms = ap (before n) (before_numbers ns ms)

lines_read_from : (p : Place) (lines : List (List ℕ)) → p.number ≡ None → WordLines lines
    → read_from p (printed lines) ≡ numbers (numbers_of lines)
unfolding read_from printed numbers_of
lines_read_from p [] i no_line = rw i
lines_read_from p ([] ∷ lines) i x = elim x [ ]
lines_read_from p ((w ∷ ws) ∷ lines) i (one_line t r) =
    line_read p w ws (printed lines) (rw i) t ∙ rw (lines_read_from (after_line (line_of_next p)) lines refl r) (before_numbers (w ∷ ws) (numbers_of lines))

-- what is printed is read: these numbers, and no others
pub lines_read : (lines : List (List ℕ)) → WordLines lines → read_text (printed lines) ≡ numbers (numbers_of lines)
unfolding read_text
lines_read lines h = lines_read_from start_place lines refl h
