-- Lists place by place, and the tests of lengths. Assumes nothing.
use Prim.Native.Nat.{ℕ, zero, suc, ◌<◌}
use mathlib.Core.Path.{◌≡◌, refl, sym, ap, ◌∙◌}
use mathlib.Core.Bool.{true, false}
use mathlib.Core.List.{List, [], ◌∷◌}
use native.Mathlib.Omega.{arith}
use lib.ListN.{length, get_or}
use lib.Seq.{ext_get_or}
use borrow.Author.Tests.{eq-eqb, ne_eqb}
use Rattle.field.specs.Elements.{mul_f, inv_f}
use Rattle.probes.specs.Probes.{products_fit, products_of, inverses_fit, inverses_of}

-- ---- products
pub left_differs : (left right out : List ℕ) → (length left ≡ length out → ⊥) → products_fit left right out ≡ false
unfolding products_fit
left_differs left right out h = rw (ne_eqb (length left) (length out) h)

pub right_differs : (left right out : List ℕ) → length left ≡ length out → (length right ≡ length out → ⊥) → products_fit left right out ≡ false
unfolding products_fit
right_differs left right out e h = rw (eq-eqb (length left) (length out) e, ne_eqb (length right) (length out) h)

pub products_fit_lem : (left right out : List ℕ) → length left ≡ length out → length right ≡ length out → products_fit left right out ≡ true
unfolding products_fit
products_fit_lem left right out e f = rw (eq-eqb (length left) (length out) e, eq-eqb (length right) (length out) f)

length_products : (left right : List ℕ) → length left ≡ length right → length (products_of left right) ≡ length right
unfolding products_of
length_products [] right e = e
length_products (x ∷ left) [] e = absurd (omega (arith, e))
length_products (x ∷ left) (y ∷ right) e = ap suc (length_products left right (omega (arith, e)))

products_at : (left right : List ℕ) (k : ℕ) → k < length left → k < length right
    → get_or (products_of left right) k 0 ≡ mul_f (get_or left k 0) (get_or right k 0)
unfolding products_of
products_at [] right k a b = absurd (omega (arith, a))
products_at (x ∷ left) [] k a b = absurd (omega (arith, b))
products_at (x ∷ left) (y ∷ right) zero a b = refl
products_at (x ∷ left) (y ∷ right) (suc k) a b = products_at left right k (omega (arith, a)) (omega (arith, b))

-- a list that has each product at its place
pub are_products : (left right out : List ℕ) → length left ≡ length out → length right ≡ length out
    → ((k : ℕ) → k < length out → get_or out k 0 ≡ mul_f (get_or left k 0) (get_or right k 0)) → out ≡ products_of left right
are_products left right out e f all =
    ext_get_or 0 out (products_of left right) (sym (length_products left right (e ∙ sym f) ∙ f))
    (λ k h. all k h ∙ sym (products_at left right k (omega (arith, e, h)) (omega (arith, f, h))))

-- ---- inverses
pub inverses_fit_lem : (words out : List ℕ) → length words ≡ length out → inverses_fit words out ≡ true
unfolding inverses_fit
inverses_fit_lem words out e = eq-eqb (length words) (length out) e

pub words_differ : (words out : List ℕ) → (length words ≡ length out → ⊥) → inverses_fit words out ≡ false
unfolding inverses_fit
words_differ words out h = ne_eqb (length words) (length out) h

length_inverses : (words : List ℕ) → length (inverses_of words) ≡ length words
unfolding inverses_of
length_inverses [] = refl
length_inverses (x ∷ words) = ap suc (length_inverses words)

inverses_at : (words : List ℕ) (k : ℕ) → k < length words → get_or (inverses_of words) k 0 ≡ inv_f (get_or words k 0)
unfolding inverses_of
inverses_at [] k a = absurd (omega (arith, a))
inverses_at (x ∷ words) zero a = refl
inverses_at (x ∷ words) (suc k) a = inverses_at words k (omega (arith, a))

-- a list that has each inverse at its place
pub are_inverses : (words out : List ℕ) → length words ≡ length out → ((k : ℕ) → k < length out → get_or out k 0 ≡ inv_f (get_or words k 0))
    → out ≡ inverses_of words
are_inverses words out e all =
    ext_get_or 0 out (inverses_of words) (sym (length_inverses words ∙ e)) (λ k h. all k h ∙ sym (inverses_at words k (omega (arith, e, h))))
