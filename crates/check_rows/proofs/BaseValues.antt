-- What `map` of `base_value` makes of an array, read by places: each element is the base value of the word in its place. Assumes nothing.
use Rattle.std.proofs.Common.{◌≡◌, ℕ, suc, ◌<◌, List, [], ◌∷◌, length, get_or, refl, ap₂, arith}
use Rattle.std.specs.Prelude.{map}
use Rattle.std.specs.Array.{IsMapOf}
use Rattle.std.specs.Fn.{Called, Mut}
use Rattle.field.specs.declared.BFieldElement.{BFieldElement}
use Rattle.xfield.specs.declared.XFieldElement.{XFieldElement}
use Rattle.xfield.specs.XFieldElements.{ext_of}
use Rattle.air.specs.Constraints.{base_value}

by_places : {A B C : Type 0} (u : B → C) (v : A → C) (xs : List A) (ys : List B) → length ys ≡ length xs
    → ((i : ℕ) (d : A) (e : B) → i < length xs → u (get_or ys i e) ≡ v (get_or xs i d)) → map u ys ≡ map v xs
by_places u v [] [] l h = refl
by_places u v [] (y ∷ ys) l h = absurd (omega arith)
by_places u v (x ∷ xs) [] l h = absurd (omega arith)
by_places u v (x ∷ xs) (y ∷ ys) l h =
    ap₂ (λ z zs. z ∷ zs) (h 0 x y (omega arith)) (by_places u v xs ys (omega arith) (λ i d e k. h (suc i) d e (omega arith)))

pub base_values : {F : Type 0} {g : Mut F (BFieldElement × Unit {0}) XFieldElement} {f : F} (xs : List BFieldElement) (ys : List XFieldElement)
    → IsMapOf g f xs ys (length xs)
    → ((p : F) (x : BFieldElement) (y : XFieldElement) (q : F) → Called g p (x, tt) y q → ext_of y ≡ base_value x.0)
    → map ext_of ys ≡ map (λ x. base_value x.0) xs
base_values xs ys m tells =
    by_places ext_of (λ x. base_value x.0) xs ys m.long (λ i d e l. tells _ _ _ _ (m.at i d e l).2)
