-- The laws by which the crates above know extension elements. A caller reads this page from top to bottom and cites it; what
-- add_x, sub_x, mul_x and their fellows are made of stays shut above the fields. Identities of sums and products alone are the ring
-- solver's (proofs/Ring.antt of the crate field, instance 𝔼 of proofs/RingLawsX.antt, with neg_one_x for `combine`).
-- Assumes nothing.
use Prim.Native.Nat.{ℕ, ◌+◌, ◌-◌, ◌%◌, ◌<◌}
use mathlib.Core.Path.{◌≡◌, refl, sym, ◌∙◌, ap, ap₂, subst}
use mathlib.Core.Logic.{◌≢◌, ◌↔◌}
use mathlib.Core.Bool.{Bool, true, false, ◌&&◌, and-true, and-eq-true_iff, true≢false}
use mathlib.Core.List.{[], ◌∷◌}
use native.Mathlib.Nat.{mod-eq_of_lt, mod-mod}
use lib.Dec.{T, eqb}
use borrow.Author.Tests.{eq-eqb, eqb-true}
use Rattle.field.specs.Elements.{p, add_f, sub_f, mul_f, is_zero_f}
use Rattle.field.proofs.Ring.{var, con, ◌:*◌, ◌:-◌, combine}
use Rattle.xfield.specs.Extension.{Ext, ext, zero_x, one_x, lift_x, reduce_x, add_x, sub_x, mul_x, scale_x, HasInverse, Reduced, equal_x, is_zero_x}
use Rattle.xfield.proofs.RingLawsX.{ext_path, 𝔼, neg_one_x}
-- ---- answers have words below p: Reduced (add_x x y), and so on; so that reduce_x leaves them alone: reduce_x (add_x x y) ≡ add_x x y
pub use Rattle.xfield.proofs.RingLawsX.{add_x_reduced, sub_x_reduced, mul_x_reduced, scale_x_reduced, lift_x_reduced, reduce_x_reduced}
pub use Rattle.xfield.proofs.RingLawsX.{zero_x_reduced, one_x_reduced}
pub use Rattle.xfield.proofs.RingLawsX.{add_x_red, sub_x_red, mul_x_red, scale_x_red, reduce_x_idem}
-- Reduced x → reduce_x x ≡ x; Reduced x → Reduced y → reduce_x x ≡ reduce_x y → x ≡ y; x ≡ y → Reduced y → Reduced x
pub use Rattle.xfield.proofs.RingLawsX.{reduced_same, reduced_eq, reduced_by}
-- operands count modulo p alone: add_x x (reduce_x y) ≡ add_x x y, add_x (reduce_x x) y ≡ add_x x y, and so on
pub use Rattle.xfield.proofs.RingLawsX.{add_x_of_red, red_add_x, sub_x_of_red, red_sub_x, mul_x_of_red, red_mul_x, scale_x_of_red, red_scale_x}
-- order and grouping; mul_x x (add_x y z) ≡ add_x (mul_x x y) (mul_x x z), the same with sub_x; add_x zero_x x ≡ reduce_x x;
-- mul_x zero_x x ≡ zero_x; mul_x one_x x ≡ reduce_x x
pub use Rattle.xfield.proofs.RingLawsX.{add_x_comm, add_x_assoc, mul_x_comm, mul_x_assoc, mul_x_add_x, mul_x_sub_x, add_x_zero, mul_x_zero, mul_x_one}
-- sub_x x x ≡ zero_x; sub_x x zero_x ≡ reduce_x x; add_x (sub_x x y) y ≡ reduce_x x; sub_x (add_x x y) y ≡ reduce_x x
pub use Rattle.xfield.proofs.RingLawsX.{sub_x_self, sub_x_zero, sub_x_add_x, add_x_sub_x}
-- ---- base elements: lift_x (add_f a b) ≡ add_x (lift_x a) (lift_x b), the same with sub_f and mul_f; lift_x (a % p) ≡ lift_x a;
-- scale_x k x ≡ mul_x (lift_x k) x; scale_x 0 x ≡ zero_x; scale_x 1 x ≡ reduce_x x; mul_x (scale_x k x) y ≡ scale_x k (mul_x x y);
-- scale_x k (lift_x v) ≡ lift_x (mul_f k v)
pub use Rattle.xfield.proofs.RingLawsX.{lift_x_add_f, lift_x_sub_f, lift_x_mul_f, lift_x_mod}
pub use Rattle.xfield.proofs.RingLawsX.{scale_x_is, scale_x_zero, scale_x_one, scale_x_mul_x, scale_x_lift_x}
-- ---- inverses: has_inverse? decides HasInverse x; InverseOrZeroX x (inv_x x), and no other element is so (inv_x_only);
-- Reduced (inv_x x); HasInverse x → mul_x (inv_x x) x ≡ one_x; (HasInverse x → ⊥) → inv_x x ≡ zero_x; HasInverse x → inv_x x ≢ zero_x;
-- Reduced r → mul_x r x ≡ one_x → r ≡ inv_x x; inv_x (reduce_x x) ≡ inv_x x; HasInverse (reduce_x x) ↔ HasInverse x
pub use Rattle.xfield.proofs.Inverses.{has_inverse?, inverse_unique}
pub use Rattle.xfield.specs.Inverses.{inv_x}
pub use Rattle.xfield.proofs.Inverses.{inv_x_is, inv_x_only, inv_x_reduced, inv_x_mul_x, inv_x_none, inv_x_not_zero, inv_x_by_product, inv_x_of_red}
-- what has an inverse: every element but zero, and no other. cubic_at r ≢ 0, and therefore: reduce_x x ≢ zero_x → HasInverse x;
-- HasInverse x → reduce_x x ≢ zero_x; the same of x itself where its words are below p
pub use Rattle.xfield.proofs.Roots.{no_root, nonzero_has_inverse, has_inverse_not_zero, only_zero_has_none, has_inverse_exactly}
-- so have one_x and base elements that are not 0; a product exactly where both factors have; not zero_x
pub use Rattle.xfield.proofs.Inverses.{has_inverse_red, has_inverse_one, has_inverse_lift_x, has_inverse_mul_x, has_inverse_factor, has_inverse_zero}

-- ---- on words below p
pub add_x_zero_left : (x : Ext) → Reduced x → add_x zero_x x ≡ x
add_x_zero_left x r = add_x_zero x ∙ reduced_same x r

pub add_x_zero_right : (x : Ext) → Reduced x → add_x x zero_x ≡ x
add_x_zero_right x r = add_x_comm x zero_x ∙ add_x_zero_left x r

pub sub_x_zero_right : (x : Ext) → Reduced x → sub_x x zero_x ≡ x
sub_x_zero_right x r = sub_x_zero x ∙ reduced_same x r

pub mul_x_one_left : (x : Ext) → Reduced x → mul_x one_x x ≡ x
mul_x_one_left x r = mul_x_one x ∙ reduced_same x r

pub mul_x_one_right : (x : Ext) → Reduced x → mul_x x one_x ≡ x
mul_x_one_right x r = mul_x_comm x one_x ∙ mul_x_one_left x r

pub mul_x_zero_right : (x : Ext) → mul_x x zero_x ≡ zero_x
mul_x_zero_right x = mul_x_comm x zero_x ∙ mul_x_zero x

-- ---- a difference is zero where the two sides are the same
pub sub_x_same : (x y : Ext) → reduce_x x ≡ reduce_x y → sub_x x y ≡ zero_x
sub_x_same x y e = sym (red_sub_x x y) ∙ ap (λ t. sub_x t y) e ∙ red_sub_x y y ∙ sub_x_self y

pub sub_x_zero_same : (x y : Ext) → sub_x x y ≡ zero_x → reduce_x x ≡ reduce_x y
sub_x_zero_same x y e =
    combine 𝔼 neg_one_x (record { times = con 1; left = var 0 :- var 1; right = con 0 } ∷ []) (var 0) (var 1) refl (x ∷ y ∷ []) e

pub sub_x_zero_iff : (x y : Ext) → (sub_x x y ≡ zero_x) ↔ (reduce_x x ≡ reduce_x y)
sub_x_zero_iff x y = (sub_x_zero_same x y, sub_x_same x y)

-- for words below p: they are equal
pub sub_x_zero_eq : (x y : Ext) → Reduced x → Reduced y → sub_x x y ≡ zero_x → x ≡ y
sub_x_zero_eq x y r s e = reduced_eq x y r s (sub_x_zero_same x y e)

-- ---- from one side of an equation to the other
pub sub_x_to_add_x : (x y r : Ext) → Reduced x → sub_x x y ≡ r → x ≡ add_x y r
sub_x_to_add_x x y r b e = sym (reduced_same x b) ∙ sym (sub_x_add_x x y) ∙ ap (λ t. add_x t y) e ∙ add_x_comm r y

pub add_x_to_sub_x : (x y r : Ext) → Reduced r → x ≡ add_x y r → sub_x x y ≡ r
add_x_to_sub_x x y r b e = ap (λ t. sub_x t y) (e ∙ add_x_comm y r) ∙ add_x_sub_x r y ∙ reduced_same r b

-- ---- sums of several
-- the last two of three change places
pub add_x_exchange : (x y z : Ext) → add_x (add_x x y) z ≡ add_x (add_x x z) y
add_x_exchange x y z = add_x_assoc x y z ∙ ap (add_x x) (add_x_comm y z) ∙ sym (add_x_assoc x z y)

-- what is added on both sides can be left out
pub add_x_cancel : (x y z : Ext) → add_x x z ≡ add_x y z → reduce_x x ≡ reduce_x y
add_x_cancel x y z e = sym (add_x_sub_x x z) ∙ ap (λ (t : Ext). sub_x t z) e ∙ add_x_sub_x y z

-- one more of an element
pub scale_x_suc : (m : ℕ) (x : Ext) → scale_x (m + 1) x ≡ add_x (scale_x m x) x
unfolding add_f
scale_x_suc m x =
    scale_x_is (m + 1) x
    ∙ ap (λ (t : Ext). mul_x t x) (sym (lift_x_mod (m + 1)) ∙ lift_x_add_f m 1)
    ∙ mul_x_comm (add_x (lift_x m) (lift_x 1)) x
    ∙ mul_x_add_x x (lift_x m) (lift_x 1)
    ∙ ap₂ add_x (mul_x_comm x (lift_x m) ∙ sym (scale_x_is m x)) (mul_x_comm x (lift_x 1) ∙ mul_x_one x)
    ∙ add_x_of_red (scale_x m x) x

-- ---- base values
pub lift_x_word : (v : ℕ) → v < p → lift_x v ≡ ext v 0 0
lift_x_word v l = ap (λ t. ext t 0 0) (mod-eq_of_lt l)

pub lift_x_same : (a b : ℕ) → (lift_x a ≡ lift_x b) ↔ (a % p ≡ b % p)
lift_x_same a b = (ap (λ t. t.a), ap (λ t. ext t 0 0))

pub lift_x_zero : (v : ℕ) → (lift_x v ≡ zero_x) ↔ (v % p ≡ 0)
lift_x_zero v = lift_x_same v 0

-- ---- a factor that has an inverse cancels
cancelled : (d e x y : Ext) → mul_x e d ≡ one_x → mul_x d x ≡ mul_x d y → reduce_x x ≡ reduce_x y
cancelled d e x y h k =
    combine 𝔼 neg_one_x
    (record { times = var 3 :- var 2; left = var 1 :* var 0; right = con 1 }
    ∷ record { times = var 1; left = var 0 :* var 2; right = var 0 :* var 3 } ∷ [])
    (var 2) (var 3) refl (d ∷ e ∷ x ∷ y ∷ []) h k

pub mul_x_cancel : (d x y : Ext) → HasInverse d → mul_x d x ≡ mul_x d y → reduce_x x ≡ reduce_x y
mul_x_cancel d x y h e = cancelled d (inv_x d) x y (inv_x_mul_x d h) e

-- ---- quotients: scale_x m (inv_x d) is m / d, "multiplicity × inverse of its denominator"
pub quotient_mul_x : (m : ℕ) (d : Ext) → HasInverse d → mul_x (scale_x m (inv_x d)) d ≡ lift_x m
quotient_mul_x m d h =
    scale_x_mul_x m (inv_x d) d ∙ ap (scale_x m) (inv_x_mul_x d h) ∙ scale_x_is m one_x ∙ mul_x_one_right (lift_x m) (lift_x_reduced m)

pub quotient_only : (m : ℕ) (d x : Ext) → HasInverse d → mul_x x d ≡ lift_x m → reduce_x x ≡ scale_x m (inv_x d)
quotient_only m d x h e =
    mul_x_cancel d x (scale_x m (inv_x d)) h (mul_x_comm d x ∙ e ∙ sym (mul_x_comm d (scale_x m (inv_x d)) ∙ quotient_mul_x m d h))
    ∙ scale_x_red m (inv_x d)

-- a step of a running sum from x to y: (y − x) · d − m is zero exactly where y is x + m / d
pub sum_step : (m : ℕ) (d x y : Ext)
    → HasInverse d → Reduced y → sub_x (mul_x (sub_x y x) d) (lift_x m) ≡ zero_x → y ≡ add_x x (scale_x m (inv_x d))
sum_step m d x y h r e =
    let product : mul_x (sub_x y x) d ≡ lift_x m = sub_x_zero_eq (mul_x (sub_x y x) d) (lift_x m) (mul_x_reduced (sub_x y x) d) (lift_x_reduced m) e in
    sub_x_to_add_x y x (scale_x m (inv_x d)) r (sym (sub_x_red y x) ∙ quotient_only m d (sub_x y x) h product)

pub sum_stepped : (m : ℕ) (d x : Ext) → HasInverse d → sub_x (mul_x (sub_x (add_x x (scale_x m (inv_x d))) x) d) (lift_x m) ≡ zero_x
sum_stepped m d x h =
    ap (λ t. sub_x (mul_x t d) (lift_x m)) (add_x_to_sub_x _ x (scale_x m (inv_x d)) (scale_x_reduced m (inv_x d)) refl)
    ∙ ap (λ t. sub_x t (lift_x m)) (quotient_mul_x m d h) ∙ sub_x_self (lift_x m)

-- the first step, from zero: y · d − m is zero exactly where y is 0 + m / d
pub sum_start : (m : ℕ) (d y : Ext) → HasInverse d → Reduced y → sub_x (mul_x y d) (lift_x m) ≡ zero_x → y ≡ add_x zero_x (scale_x m (inv_x d))
sum_start m d y h r e = sum_step m d zero_x y h r (ap (λ t. sub_x (mul_x t d) (lift_x m)) (sub_x_zero_right y r) ∙ e)

pub sum_started : (m : ℕ) (d : Ext) → HasInverse d → sub_x (mul_x (add_x zero_x (scale_x m (inv_x d))) d) (lift_x m) ≡ zero_x
sum_started m d h =
    ap (λ t. sub_x (mul_x t d) (lift_x m)) (add_x_zero_left (scale_x m (inv_x d)) (scale_x_reduced m (inv_x d)))
    ∙ ap (λ t. sub_x t (lift_x m)) (quotient_mul_x m d h) ∙ sub_x_self (lift_x m)

-- ---- tests: an answer of equality and of is-zero, and what it says of the elements modulo p
pub equal_x_yes : (x y : Ext) → reduce_x x ≡ reduce_x y → equal_x x y ≡ true
unfolding equal_x
equal_x_yes x y e =
    let a = eq-eqb (x.a % p) (y.a % p) (ap (λ t. t.a) e) in
    let b = eq-eqb (x.b % p) (y.b % p) (ap (λ t. t.b) e) in
    let c = eq-eqb (x.c % p) (y.c % p) (ap (λ t. t.c) e) in
    simp (a, b, c)

pub equal_x_true : (x y : Ext) → equal_x x y ≡ true → reduce_x x ≡ reduce_x y
unfolding equal_x
equal_x_true x y e =
    let h = (and-eq-true_iff (eqb (x.a % p) (y.a % p)) (eqb (x.b % p) (y.b % p) && eqb (x.c % p) (y.c % p))).0 e in
    let g = (and-eq-true_iff (eqb (x.b % p) (y.b % p)) (eqb (x.c % p) (y.c % p))).0 h.1 in
    ext_path (eqb-true _ _ h.0) (eqb-true _ _ g.0) (eqb-true _ _ g.1)

pub equal_x_false : (x y : Ext) → equal_x x y ≡ false → reduce_x x ≢ reduce_x y
equal_x_false x y e f = true≢false (sym (equal_x_yes x y f) ∙ e)

pub equal_x_no : (x y : Ext) → reduce_x x ≢ reduce_x y → equal_x x y ≡ false
equal_x_no x y f = go (equal_x x y) refl
  where
    go : (b : Bool) → equal_x x y ≡ b → b ≡ false
    go true e = absurd (f (equal_x_true x y e))
    go false e = refl

pub equal_x_iff : (x y : Ext) → T (equal_x x y) ↔ (reduce_x x ≡ reduce_x y)
equal_x_iff x y = (λ t. equal_x_true x y (go (equal_x x y) t), λ e. subst T (sym (equal_x_yes x y e)) tt)
  where
    go : (b : Bool) → T b → b ≡ true
    go true t = refl
    go false t = absurd t

pub is_zero_x_true : (x : Ext) → is_zero_x x ≡ true → reduce_x x ≡ zero_x
unfolding is_zero_x
is_zero_x_true x e = equal_x_true x zero_x e

pub is_zero_x_yes : (x : Ext) → reduce_x x ≡ zero_x → is_zero_x x ≡ true
unfolding is_zero_x
is_zero_x_yes x e = equal_x_yes x zero_x e

pub is_zero_x_false : (x : Ext) → is_zero_x x ≡ false → reduce_x x ≢ zero_x
unfolding is_zero_x
is_zero_x_false x e = equal_x_false x zero_x e

pub is_zero_x_no : (x : Ext) → reduce_x x ≢ zero_x → is_zero_x x ≡ false
unfolding is_zero_x
is_zero_x_no x f = equal_x_no x zero_x f

pub is_zero_x_iff : (x : Ext) → T (is_zero_x x) ↔ (reduce_x x ≡ zero_x)
unfolding is_zero_x
is_zero_x_iff x = equal_x_iff x zero_x

-- a base value is zero as an element where it is zero
pub is_zero_x_lift_x : (v : ℕ) → is_zero_x (lift_x v) ≡ is_zero_f v
unfolding is_zero_x equal_x is_zero_f
is_zero_x_lift_x v = and-true (eqb (v % p % p) 0) ∙ ap (λ t. eqb t 0) (mod-mod v p)

-- ---- the defining equation: X · X · X is X − 1
pub x_cubed : mul_x (mul_x (ext 0 1 0) (ext 0 1 0)) (ext 0 1 0) ≡ ext (p - 1) 1 0
unfolding mul_x add_f sub_f mul_f
x_cubed = refl
