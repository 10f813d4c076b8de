-- What `decimal n` is, for every 64-bit n: at least 1 and at most 20 digits, each from `0` to `9`, the first no `0` where there are more,
-- and read as a decimal number they are n (decimal_is). By induction on the digits, from the lowest to the highest. They are what
-- `{}` and `itoa` make (decimal_made). Assumes nothing.
use Prim.Native.Nat.{ℕ, zero, suc, ◌+◌, ◌*◌, ◌-◌, ◌/◌, ◌%◌, ◌^◌, ◌≤◌, ◌<◌}
use mathlib.Core.Path.{◌≡◌, refl, ◌∙◌}
use mathlib.Core.Bool.{Bool, true, false, cond}
use mathlib.Core.List.{List, [], ◌∷◌, ◌++◌, append-nil, append_assoc}
use native.Mathlib.Nat.{pow-suc}
use native.Mathlib.Omega.{arith}
use borrow.Author.Tests.{lt-ltb, ltb-true, ltb-false, eq-eqb, ne_eqb}
use lib.Dec.{ltb}
use lib.ListN.{length, get_or, length-append, get_or-append}
use Rattle.std.specs.Fmt.{digits, digits_onto, digit_glyph, decimal as printed}
use Rattle.text.specs.Lines.{digits_of, decimal}

-- ---- as std and `itoa` make them

-- the digits before some others, for a number of at most k
onto_digits : (k f n : ℕ) (acc : List ℕ) → 1 ≤ k → k ≤ f → n < 10 ^ k → digits_onto f 10 false n acc ≡ digits_of k n ++ acc
unfolding digits_of
onto_digits zero f n acc one h low = absurd (omega arith)
onto_digits (suc k) zero n acc one h low = absurd (omega arith)
onto_digits (suc k) (suc f) n acc one h low = go (ltb n 10) refl (positive k high) (λ m. onto_digits k f (n / 10) ((48 + n % 10) ∷ acc) m (omega arith) (omega arith)) where
  high : n < 10 ^ k * 10
  high = rw pow-suc at low

  glyph : digit_glyph false (n % 10) ≡ 48 + n % 10
  glyph = rw (lt-ltb (n % 10) 10 (omega arith))

  positive : (k : ℕ) → n < 10 ^ k * 10 → 10 ≤ n → 1 ≤ k
  positive zero g m = absurd (let z : n < 10 = g in omega arith)
  positive (suc k) g m = omega arith

  go : (t : Bool) → ltb n 10 ≡ t → (10 ≤ n → 1 ≤ k) → (1 ≤ k → digits_onto f 10 false (n / 10) ((48 + n % 10) ∷ acc) ≡ digits_of k (n / 10) ++ ((48 + n % 10) ∷ acc))
      → digits_onto (suc f) 10 false n acc ≡ (cond t [] (digits_of k (n / 10)) ++ ((48 + n % 10) ∷ [])) ++ acc
  go true e more ih =
      let few : n < 10 = ltb-true n 10 e in
      let none : n / 10 ≡ 0 = omega arith in
      rw (eq-eqb (n / 10) 0 none, glyph)
  go false e more ih =
      let many : 10 ≤ n = ltb-false n 10 e in
      let some : n / 10 ≡ 0 → ⊥ = λ z. omega arith in
      rw (ne_eqb (n / 10) 0 some, glyph, append_assoc) (ih (more many))

-- the text of `{}`
pub decimal_made : (n : ℕ) → n < 18446744073709551616 → printed n ≡ decimal n
unfolding decimal digits
decimal_made n h =
    onto_digits 20 64 n [] (omega arith) (omega arith) (omega arith) ∙ append-nil (digits_of 20 n)

-- ---- what the digits are

-- the number that digits say, the highest first, after digits that say a
abbrev pub value_from : ℕ → List ℕ → ℕ
value_from a [] = a
value_from a (d ∷ ds) = value_from (10 * a + (d - 48)) ds

pub data AllDigits : List ℕ → Type 0 where
  none : AllDigits []
  digit : {d : ℕ} {ds : List ℕ} → 48 ≤ d → d ≤ 57 → AllDigits ds → AllDigits (d ∷ ds)

pub record IsDecimal (n : ℕ) (text : List ℕ) : Type 0 where
  pub value : value_from 0 text ≡ n
  pub digits : AllDigits text
  pub some : 1 ≤ length text
  pub front : 1 < length text → 49 ≤ get_or text 0 0

value_snoc : (a : ℕ) (l : List ℕ) (d : ℕ) → value_from a (l ++ (d ∷ [])) ≡ 10 * value_from a l + (d - 48)
value_snoc a [] d = refl
value_snoc a (x ∷ l) d = value_snoc (10 * a + (x - 48)) l d

digits_snoc : (l : List ℕ) (d : ℕ) → d < 10 → AllDigits l → AllDigits (l ++ ((48 + d) ∷ []))
digits_snoc [] d h none = digit {d = 48 + d} (omega arith) (omega arith) none
digits_snoc (x ∷ l) d h (digit a b r) = digit a b (digits_snoc l d h r)

-- one digit more, the lowest, where the others are those of n / 10
module _ (k n : ℕ) (low : n < 10 ^ suc k) where
  fewer : n / 10 < 10 ^ k
  fewer = let z : n < 10 ^ k * 10 = rw pow-suc at low in omega arith

value_digits : (k n : ℕ) → n < 10 ^ k → value_from 0 (digits_of k n) ≡ n
unfolding digits_of
value_digits zero n h = let z : n < 1 = h in omega arith
value_digits (suc k) n h = go (ltb n 10) refl (digits_of k (n / 10)) (value_digits k (n / 10) (fewer k n h)) where
  go : (t : Bool) → ltb n 10 ≡ t → (l : List ℕ) → value_from 0 l ≡ n / 10 → value_from 0 (cond t [] l ++ ((48 + n % 10) ∷ [])) ≡ n
  go true e l v = let s = ltb-true n 10 e in omega arith
  go false e l v = value_snoc 0 l (48 + n % 10) ∙ omega (arith, v)

all_digits : (k n : ℕ) → AllDigits (digits_of k n)
unfolding digits_of
all_digits zero n = none
all_digits (suc k) n = go (ltb n 10) (digits_of k (n / 10)) (all_digits k (n / 10)) where
  go : (t : Bool) (l : List ℕ) → AllDigits l → AllDigits (cond t [] l ++ ((48 + n % 10) ∷ []))
  go true l r = digits_snoc [] (n % 10) (omega arith) none
  go false l r = digits_snoc l (n % 10) (omega arith) r

-- a number that is not 0 begins with no `0`
first_digit : (k n : ℕ) → 1 ≤ n → n < 10 ^ k → (1 ≤ length (digits_of k n)) × (49 ≤ get_or (digits_of k n) 0 0)
unfolding digits_of
first_digit zero n p h = absurd (let z : n < 1 = h in omega arith)
first_digit (suc k) n p h =
    go (ltb n 10) refl (digits_of k (n / 10)) (λ (q : 1 ≤ n / 10). first_digit k (n / 10) q (fewer k n h)) where
      go : (t : Bool) → ltb n 10 ≡ t → (l : List ℕ) → (1 ≤ n / 10 → (1 ≤ length l) × (49 ≤ get_or l 0 0))
          → (1 ≤ length (cond t [] l ++ ((48 + n % 10) ∷ []))) × (49 ≤ get_or (cond t [] l ++ ((48 + n % 10) ∷ [])) 0 0)
      go true e l f = let s = ltb-true n 10 e in (omega arith, omega arith)
      go false e l f =
          let s = ltb-false n 10 e in
          let g = f (omega arith) in
          (rw length-append (omega arith), rw (get_or-append l ((48 + n % 10) ∷ []) 0 0 g.0) g.1)

zero_digits : digits_of 20 0 ≡ 48 ∷ []
unfolding digits_of
zero_digits = refl

pub decimal_is : (n : ℕ) → n < 18446744073709551616 → IsDecimal n (decimal n)
unfolding decimal
decimal_is n h = go (ltb 0 n) refl where
  value : value_from 0 (digits_of 20 n) ≡ n
  value = value_digits 20 n (omega arith)

  go : (t : Bool) → ltb 0 n ≡ t → IsDecimal n (digits_of 20 n)
  go true e =
      let f = first_digit 20 n (ltb-true 0 n e) (omega arith) in
      record { value = value; digits = all_digits 20 n; some = f.0; front = λ _. f.1 }
  go false e =
      let z : n ≡ 0 = omega (arith, ltb-false 0 n e) in
      let one : length (digits_of 20 n) ≡ 1 = rw (z, zero_digits) in
      record { value = value; digits = all_digits 20 n; some = omega arith; front = λ h. absurd (omega arith) }

-- ---- how many digits

length_digits : (k n : ℕ) → length (digits_of k n) ≤ k
unfolding digits_of
length_digits zero n = omega arith
length_digits (suc k) n = go (ltb n 10) (digits_of k (n / 10)) (length_digits k (n / 10)) where
  go : (t : Bool) (l : List ℕ) → length l ≤ k → length (cond t [] l ++ ((48 + n % 10) ∷ [])) ≤ suc k
  go true l h = omega arith
  go false l h = rw length-append (omega arith)

pub length_decimal : (n : ℕ) → length (decimal n) ≤ 20
unfolding decimal
length_decimal n = length_digits 20 n
