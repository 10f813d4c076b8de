-- Inverses of extension elements. Multiplication by x is linear on the words; the cofactors of its matrix (first row) are the adjugate, and
-- the adjugate times x is the norm of x, a base element. The norm of a product is the product of the norms. So x has an inverse
-- exactly where its norm is not 0, which is decided; then the adjugate times the inverse of the norm is one. So `inv_x` is inverse-or-zero.
-- Inverses are unique. Assumes nothing.
use Prim.Native.Nat.{ℕ, ◌%◌}
use mathlib.Core.Path.{◌≡◌, refl, sym, ◌∙◌, ap, ap₂, subst}
use mathlib.Core.Logic.{◌≢◌, ◌↔◌}
use mathlib.Core.List.{[], ◌∷◌}
use native.Mathlib.Decide.{ℕ_discrete}
use native.Mathlib.Omega.{arith}
use Rattle.field.specs.Elements.{p, add_f, sub_f, mul_f, inv_f, InverseOrZero}
use Rattle.field.proofs.Ring.{Expr, var, con, neg, ◌:+◌, ◌:*◌, ◌:-◌, solve, combine}
use Rattle.field.proofs.Inverses.{inv_f_is, inv_f_product}
use Rattle.field.proofs.RingLaws.{𝔹, mul_f_zero_left, mul_f_comm}
use Rattle.xfield.specs.Extension.{Ext, ext, zero_x, one_x, lift_x, reduce_x, mul_x, scale_x, HasInverse, Reduced, InverseOrZeroX}
use Rattle.xfield.specs.Inverses.{adjugate_x, norm_x, inv_x}
use Rattle.xfield.proofs.RingLawsX.{ExprX, expr_x, ◌*X◌, X, Y, env, base_e, solve_x, base_scale_x, 𝔼, neg_one_x}
use Rattle.xfield.proofs.RingLawsX.{mul_x_comm, mul_x_assoc, mul_x_one, mul_x_zero, mul_x_of_red, mul_x_red}
use Rattle.xfield.proofs.RingLawsX.{reduced_eq, scale_x_reduced, scale_x_mul_x, scale_x_zero, lift_x_mul_f}

-- ---- adjugate and norm
abbrev pub adjugate_e : ExprX → ExprX
adjugate_e x =
    expr_x
    ((x.a :+ x.c) :* (x.a :+ x.c) :- x.b :* (x.b :- x.c))
    (x.c :* (x.b :- x.c) :- x.b :* (x.a :+ x.c))
    (x.b :* x.b :- x.c :* (x.a :+ x.c))

abbrev pub norm_e : ExprX → Expr
norm_e x = (x *X adjugate_e x).a

pub adjugate_x_mul_x : (x : Ext) → mul_x (adjugate_x x) x ≡ ext (norm_x x) 0 0
unfolding mul_x adjugate_x norm_x
adjugate_x_mul_x x = solve_x (adjugate_e X *X X) (base_e (norm_e X)) refl (env x x x)

pub norm_x_mul_x : (x y : Ext) → norm_x (mul_x x y) ≡ mul_f (norm_x x) (norm_x y)
unfolding mul_x adjugate_x norm_x
norm_x_mul_x x y = solve 𝔹 (norm_e (X *X Y)) (norm_e X :* norm_e Y) refl (env x y x)

norm_x_one : norm_x one_x ≡ 1
unfolding norm_x adjugate_x mul_x add_f mul_f sub_f
norm_x_one = refl

pub norm_x_red : (x : Ext) → norm_x x % p ≡ norm_x x
unfolding norm_x
norm_x_red x = ap (λ t. t.a) (mul_x_red x (adjugate_x x))

pub one≢zero : ◌≢◌ {A = ℕ} 1 0
one≢zero = omega arith

-- ---- an inverse exists exactly where the norm is not 0
pub norm_x_not_zero : (x : Ext) → HasInverse x → norm_x x ≢ 0
unfolding HasInverse
norm_x_not_zero x (y, e) z =
    one≢zero (sym norm_x_one ∙ ap norm_x (sym e) ∙ norm_x_mul_x y x ∙ ap (mul_f (norm_x y)) z ∙ mul_f_comm (norm_x y) 0 ∙ mul_f_zero_left (norm_x y))

-- where i is the inverse of the norm, i times the adjugate is the inverse of x
pub adjugate_x_unit : (x : Ext) (i : ℕ) → InverseOrZero (norm_x x) i → norm_x x ≢ 0 → mul_x (scale_x i (adjugate_x x)) x ≡ one_x
adjugate_x_unit x i h f =
    scale_x_mul_x i (adjugate_x x) x ∙ ap (scale_x i) (adjugate_x_mul_x x) ∙ base_scale_x i (norm_x x)
    ∙ ap (λ t. ext t 0 0) (mul_f_comm i (norm_x x) ∙ h.product (λ e. f (sym (norm_x_red x) ∙ e)))

-- "It has an inverse when some element times it is (1, 0, 0)": decided, with the inverse
unfoldable pub has_inverse? : (x : Ext) → Dec (HasInverse x)
unfolding HasInverse
has_inverse? x =
    elim (ℕ_discrete (norm_x x) 0) [
      | yes z ↦ no (λ h. norm_x_not_zero x h z)
      | no f ↦ yes (scale_x (inv_f (norm_x x)) (adjugate_x x), adjugate_x_unit x (inv_f (norm_x x)) (inv_f_is (norm_x x)) f)
    ]

pub has_inverse_iff : (x : Ext) → HasInverse x ↔ (norm_x x ≢ 0)
unfolding HasInverse
has_inverse_iff x =
    (norm_x_not_zero x, λ f. (scale_x (inv_f (norm_x x)) (adjugate_x x), adjugate_x_unit x (inv_f (norm_x x)) (inv_f_is (norm_x x)) f))

-- ---- the inverse is unique
pub inverse_unique : (x y z : Ext) → mul_x y x ≡ one_x → mul_x z x ≡ one_x → reduce_x y ≡ reduce_x z
inverse_unique x y z e f =
    combine 𝔼 neg_one_x
    (record { times = var 2; left = var 1 :* var 0; right = con 1 }
    ∷ record { times = neg (var 1); left = var 2 :* var 0; right = con 1 } ∷ [])
    (var 1) (var 2) refl (x ∷ y ∷ z ∷ []) e f

pub inverse_or_zero_unique : (x r s : Ext) → InverseOrZeroX x r → InverseOrZeroX x s → r ≡ s
inverse_or_zero_unique x r s h g = go (has_inverse? x)
  where
    go : Dec (HasInverse x) → r ≡ s
    go (yes u) = reduced_eq r s h.below g.below (inverse_unique x r s (h.product u) (g.product u))
    go (no f) = h.none f ∙ sym (g.none f)

-- ---- inverse-or-zero as a function
-- the inverse of the norm times the adjugate
pub adjugate_x_inverse : (x : Ext) (i : ℕ) → InverseOrZero (norm_x x) i → InverseOrZeroX x (scale_x i (adjugate_x x))
adjugate_x_inverse x i h =
    record {
      below = scale_x_reduced i (adjugate_x x);
      product = λ g. adjugate_x_unit x i h (norm_x_not_zero x g);
      none = λ f. ap (λ t. scale_x t (adjugate_x x)) (h.none (zero_norm f (ℕ_discrete (norm_x x) 0))) ∙ scale_x_zero (adjugate_x x);
    }
  where
    zero_norm : (HasInverse x → ⊥) → Dec (norm_x x ≡ 0) → norm_x x % p ≡ 0
    zero_norm f (yes z) = norm_x_red x ∙ z
    zero_norm f (no g) = absurd (f ((has_inverse_iff x).1 g))

pub inv_x_is : (x : Ext) → InverseOrZeroX x (inv_x x)
unfolding inv_x
inv_x_is x = adjugate_x_inverse x (inv_f (norm_x x)) (inv_f_is (norm_x x))

pub inv_x_only : (x r : Ext) → InverseOrZeroX x r → r ≡ inv_x x
inv_x_only x r h = inverse_or_zero_unique x r (inv_x x) h (inv_x_is x)

pub inv_x_reduced : (x : Ext) → Reduced (inv_x x)
inv_x_reduced x = (inv_x_is x).below

pub inv_x_mul_x : (x : Ext) → HasInverse x → mul_x (inv_x x) x ≡ one_x
inv_x_mul_x x h = (inv_x_is x).product h

pub inv_x_none : (x : Ext) → (HasInverse x → ⊥) → inv_x x ≡ zero_x
inv_x_none x f = (inv_x_is x).none f

-- zero is the inverse of none, so that inv_x x is zero exactly where x has no inverse
pub inv_x_not_zero : (x : Ext) → HasInverse x → inv_x x ≢ zero_x
inv_x_not_zero x h z = one≢zero (ap (λ t. t.a) (sym (inv_x_mul_x x h) ∙ ap (λ t. mul_x t x) z ∙ mul_x_zero x))

-- what times x is one
pub inv_x_by_product : (x r : Ext) → Reduced r → mul_x r x ≡ one_x → r ≡ inv_x x
unfolding HasInverse
inv_x_by_product x r b e = inv_x_only x r (record { below = b; product = λ h. e; none = λ f. absurd (f (r, e)) })

-- the same from its steps: y the adjugate, n the norm, i its inverse, r their product
pub inverse_by_adjugate : (x y r : Ext) (n i : ℕ)
    → y ≡ adjugate_x x → n ≡ (mul_x x y).a → i ≡ inv_f n → r ≡ scale_x i y → InverseOrZeroX x r
unfolding norm_x
inverse_by_adjugate x y r n i e f g h =
    let norm : n ≡ norm_x x = f ∙ ap (λ t. (mul_x x t).a) e in
    subst (InverseOrZeroX x) (sym (h ∙ ap₂ scale_x (g ∙ ap inv_f norm) e)) (adjugate_x_inverse x (inv_f (norm_x x)) (inv_f_is (norm_x x)))

-- ---- words modulo p are enough
pub has_inverse_red : (x : Ext) → HasInverse (reduce_x x) ↔ HasInverse x
unfolding HasInverse
has_inverse_red x = (λ h. (h.0, sym (mul_x_of_red h.0 x) ∙ h.1), λ h. (h.0, mul_x_of_red h.0 x ∙ h.1))

pub inv_x_of_red : (x : Ext) → inv_x (reduce_x x) ≡ inv_x x
inv_x_of_red x =
    inv_x_only x (inv_x (reduce_x x))
    (record {
      below = inv_x_reduced (reduce_x x);
      product = λ h. sym (mul_x_of_red (inv_x (reduce_x x)) x) ∙ inv_x_mul_x (reduce_x x) ((has_inverse_red x).1 h);
      none = λ f. inv_x_none (reduce_x x) (λ h. f ((has_inverse_red x).0 h));
    })

-- ---- products, and base elements
pub has_inverse_one : HasInverse one_x
unfolding HasInverse
has_inverse_one = (one_x, mul_x_one one_x)

pub has_inverse_zero : HasInverse zero_x → ⊥
unfolding HasInverse
has_inverse_zero (y, e) = one≢zero (ap (λ t. t.a) (sym e ∙ mul_x_comm y zero_x ∙ mul_x_zero y))

pub has_inverse_mul_x : (x y : Ext) → HasInverse x → HasInverse y → HasInverse (mul_x x y)
unfolding HasInverse
has_inverse_mul_x x y (u, e) (v, f) = (mul_x u v, product)
  where
    product : mul_x (mul_x u v) (mul_x x y) ≡ one_x
    product =
        combine 𝔼 neg_one_x
        (record { times = var 3 :* var 1; left = var 2 :* var 0; right = con 1 }
        ∷ record { times = con 1; left = var 3 :* var 1; right = con 1 } ∷ [])
        (var 2 :* var 3 :* (var 0 :* var 1)) (con 1) refl (x ∷ y ∷ u ∷ v ∷ []) e f

pub has_inverse_factor : (x y : Ext) → HasInverse (mul_x x y) → HasInverse x
unfolding HasInverse
has_inverse_factor x y (u, e) = (mul_x u y, mul_x_assoc u y x ∙ ap (mul_x u) (mul_x_comm y x) ∙ e)

pub has_inverse_lift_x : (v : ℕ) → v % p ≢ 0 → HasInverse (lift_x v)
unfolding HasInverse
has_inverse_lift_x v f = (lift_x (inv_f v), sym (lift_x_mul_f (inv_f v) v) ∙ ap lift_x (mul_f_comm (inv_f v) v ∙ inv_f_product v f))
