-- When two runs of items begin alike, by what `==` says of their parts. Assumes nothing.
use Rattle.std.proofs.Common.{◌≡◌, ℕ, zero, suc, ◌<◌, ◌≤◌, Bool, false, List, [], ◌∷◌, length, take, refl, sym, ap, arith}
use Rattle.std.specs.Prelude.{◌&&◌}
use Rattle.std.specs.Cmp.Lexicographic.{pointwise}
use Rattle.std.proofs.lemmas.Bool.{and_right}
use Rattle.vectors.specs.Same.{same_first}

pub alike : {T : Type 0} (equal : T → T → Bool) (n : ℕ) (xs ys : List T) → n ≤ length xs → n ≤ length ys
    → pointwise equal (take n xs) (take n ys) ≡ same_first equal n xs ys
unfolding same_first
alike equal zero xs ys h k = refl
alike equal (suc n) [] ys h k = absurd (omega (arith, h))
alike equal (suc n) (a ∷ xs) [] h k = absurd (omega (arith, k))
alike equal (suc n) (a ∷ xs) (b ∷ ys) h k = ap (λ rest. equal a b && rest) (alike equal n xs ys (omega (arith, h)) (omega (arith, k)))

pub first_short : {T : Type 0} (equal : T → T → Bool) (n : ℕ) (xs ys : List T) → length xs < n → false ≡ same_first equal n xs ys
unfolding same_first
first_short equal zero xs ys h = absurd (omega (arith, h))
first_short equal (suc n) [] ys h = refl
first_short equal (suc n) (a ∷ xs) [] h = refl
first_short equal (suc n) (a ∷ xs) (b ∷ ys) h = sym (and_right (equal a b) (same_first equal n xs ys) (sym (first_short equal n xs ys (omega (arith, h)))))

pub second_short : {T : Type 0} (equal : T → T → Bool) (n : ℕ) (xs ys : List T) → length ys < n → false ≡ same_first equal n xs ys
unfolding same_first
second_short equal zero xs ys h = absurd (omega (arith, h))
second_short equal (suc n) [] ys h = refl
second_short equal (suc n) (a ∷ xs) [] h = refl
second_short equal (suc n) (a ∷ xs) (b ∷ ys) h = sym (and_right (equal a b) (same_first equal n xs ys) (sym (second_short equal n xs ys (omega (arith, h)))))
