-- When two runs of items begin alike.
use Rattle.std.specs.Prelude.{ℕ, zero, suc, Bool, true, false, ◌&&◌, List, [], ◌∷◌}

-- both have n items, and their first n are equal
unfoldable pub same_first : {T : Type 0} → (T → T → Bool) → ℕ → List T → List T → Bool
same_first equal zero xs ys = true
same_first equal (suc n) [] ys = false
same_first equal (suc n) (a ∷ xs) [] = false
same_first equal (suc n) (a ∷ xs) (b ∷ ys) = equal a b && same_first equal n xs ys
