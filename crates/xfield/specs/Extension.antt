-- Extension elements (document 01, "Elements"): three words a, b, c stand for a + b·X + c·X², with X³ = X − 1. Every operation
-- takes any words and answers words below p.
use Rattle.std.specs.Prelude.{ℕ, ◌%◌, ◌<◌, ◌≡◌, Bool, ◌&&◌, List, [], ◌∷◌, eqb}
use Rattle.std.specs.Cmp.{IsEquivalence, on_equiv, nat_eq_equiv, and_equiv}
use Rattle.field.specs.Elements.{p, add_f, sub_f, mul_f}

-- "An extension element is (a, b, c) for a + b·X + c·X^2"
pub record Ext : Type 0 where
  pub a : ℕ
  pub b : ℕ
  pub c : ℕ

abbrev pub ext : ℕ → ℕ → ℕ → Ext
ext x y z = record { a = x; b = y; c = z }

-- its three words
abbrev pub words_x : Ext → List ℕ
words_x x = x.a ∷ x.b ∷ x.c ∷ []

abbrev pub zero_x : Ext
zero_x = ext 0 0 0

abbrev pub one_x : Ext
one_x = ext 1 0 0

-- the base element v as an extension element: "(v, 0, 0) for a base value v"
abbrev pub lift_x : ℕ → Ext
lift_x v = ext (v % p) 0 0

-- the same element, its words below p
abbrev pub reduce_x : Ext → Ext
reduce_x x = ext (x.a % p) (x.b % p) (x.c % p)

-- word by word
unfoldable pub add_x : Ext → Ext → Ext
add_x x y = ext (add_f x.a y.a) (add_f x.b y.b) (add_f x.c y.c)

unfoldable pub sub_x : Ext → Ext → Ext
sub_x x y = ext (sub_f x.a y.a) (sub_f x.b y.b) (sub_f x.c y.c)

-- c0 + c1·X + c2·X² + c3·X³ + c4·X⁴ with "X^3 = X − 1", and so X⁴ = X² − X
abbrev pub fold_x : ℕ → ℕ → ℕ → ℕ → ℕ → Ext
fold_x c0 c1 c2 c3 c4 = ext (sub_f c0 c3) (sub_f (add_f c1 c3) c4) (add_f c2 c4)

-- the product of two elements: the product of their polynomials, coefficient by coefficient, folded
unfoldable pub mul_x : Ext → Ext → Ext
mul_x x y =
    fold_x
    (mul_f x.a y.a)
    (add_f (mul_f x.a y.b) (mul_f x.b y.a))
    (add_f (add_f (mul_f x.a y.c) (mul_f x.b y.b)) (mul_f x.c y.a))
    (add_f (mul_f x.b y.c) (mul_f x.c y.b))
    (mul_f x.c y.c)

-- an element times a base element
unfoldable pub scale_x : ℕ → Ext → Ext
scale_x k x = ext (mul_f k x.a) (mul_f k x.b) (mul_f k x.c)

-- "It has an inverse when some element times it is (1, 0, 0)."
unfoldable pub HasInverse : Ext → Type 0
HasInverse x = (y : Ext) × (mul_x y x ≡ one_x)

-- X^3 − X + 1, of which X is a root in the extension, at a number modulo p
unfoldable pub cubic_at : ℕ → ℕ
cubic_at r = add_f (sub_f (mul_f r (mul_f r r)) r) 1

-- the words of x are below p
pub record Reduced (x : Ext) : Type 0 where
  pub a_below : x.a < p
  pub b_below : x.b < p
  pub c_below : x.c < p

-- "inverse, (0, 0, 0) where there is none": r times x is one where x has an inverse, and r is zero where it has none. Exactly one
-- reduced r is (proofs/Inverses.antt)
pub record InverseOrZeroX (x r : Ext) : Type 0 where
  pub below : Reduced r
  pub product : HasInverse x → mul_x r x ≡ one_x
  pub none : (HasInverse x → ⊥) → r ≡ zero_x

-- Elements are told apart by their words modulo p
unfoldable pub equal_x : Ext → Ext → Bool
equal_x x y = eqb (x.a % p) (y.a % p) && (eqb (x.b % p) (y.b % p) && eqb (x.c % p) (y.c % p))

-- which is an equivalence
pub equal_x_equivalence : IsEquivalence equal_x
unfolding equal_x
equal_x_equivalence =
    and_equiv (on_equiv (λ x. x.a % p) nat_eq_equiv) (and_equiv (on_equiv (λ x. x.b % p) nat_eq_equiv) (on_equiv (λ x. x.c % p) nat_eq_equiv))

unfoldable pub is_zero_x : Ext → Bool
is_zero_x x = equal_x x zero_x
