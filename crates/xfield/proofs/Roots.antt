-- X³ − X + 1 has no root modulo p (`no_root`), and so every element but zero has an inverse (`nonzero_has_inverse`).
--   no_root: at a root r, mul_x becomes the product of values (value_mul_x), so X to the power 2^k becomes r to that power. Since
--   2^64 + 1 is p + 2^32 and r^p is r, the element X · X^(2^64) − X · X^(2^32) has the value 0 at r. But it has an inverse, computed
--   once and checked here, and the value of one is 1.
--   norm_zero: where the norm of (a, b, c) is 0, a quotient of two of its cofactors would be a root, or b / c would be one, or else all
--   three words are 0.
-- Assumes nothing.
use Prim.Native.Nat.{ℕ, zero, suc, ◌*◌, ◌%◌, ◌^◌}
use mathlib.Core.Path.{◌≡◌, refl, sym, ap, ap₂, subst, ◌∙◌}
use mathlib.Core.Logic.{◌≢◌, ◌↔◌, ◌⊎◌, inl, inr}
use mathlib.Core.List.{[], ◌∷◌}
use native.Mathlib.Decide.{ℕ_discrete}
use native.Mathlib.Nat.{mul_assoc, mul_comm, mul-one, pow-succ'}
use Rattle.field.specs.Elements.{p, add_f, sub_f, mul_f, pow_f, inv_f}
use Rattle.field.proofs.Ring.{Expr, var, con, neg, ◌:+◌, ◌:*◌, ◌:-◌, solve, combine}
use Rattle.field.proofs.RingLaws.{𝔹, neg_one, sub_f_red, mul_f_red}
use Rattle.field.proofs.Fermat.{p_fermat}
use Rattle.field.proofs.Powers.{pow_f_one, pow_f_suc, pow_f_add, pow_f_double}
use Rattle.field.proofs.Laws.{no_zero_divisors, inv_f_product}
use Rattle.xfield.specs.Extension.{Ext, ext, zero_x, one_x, reduce_x, sub_x, mul_x, cubic_at, HasInverse, Reduced}
use Rattle.xfield.proofs.RingLawsX.{ExprX, ◌*X◌, ◌-X◌, X, Y, env, ext_path, reduced_same}
use Rattle.xfield.specs.Inverses.{norm_x, adjugate_x}
use Rattle.xfield.proofs.Inverses.{one≢zero, adjugate_e, norm_e, has_inverse_iff, has_inverse_red, has_inverse_zero}

-- the value of a + b·X + c·X² at r
unfoldable pub value_at : ℕ → Ext → ℕ
value_at r x = add_f (add_f x.a (mul_f x.b r)) (mul_f x.c (mul_f r r))

abbrev cubic_e : Expr → Expr
cubic_e r = r :* (r :* r) :- r :+ con 1

abbrev value_e : Expr → ExprX → Expr
value_e r x = x.a :+ x.b :* r :+ x.c :* (r :* r)

-- x squared k times
unfoldable pub squared_x : ℕ → Ext → Ext
squared_x zero x = x
squared_x (suc k) x = squared_x k (mul_x x x)

-- 0 is none
cubic_at_zero : (r : ℕ) → r % p ≡ 0 → cubic_at r ≡ 1
unfolding cubic_at
cubic_at_zero r z =
    combine 𝔹 neg_one (record { times = var 0 :* var 0 :- con 1; left = var 0; right = con 0 } ∷ []) (cubic_e (var 0)) (con 1) refl (r ∷ []) z

module _ (r : ℕ) (root : cubic_at r ≡ 0) where
  value_mul_x : (x y : Ext) → value_at r (mul_x x y) ≡ mul_f (value_at r x) (value_at r y)
  unfolding cubic_at value_at mul_x
  value_mul_x x y =
      combine 𝔹 neg_one
      (record { times = neg (X.b :* Y.c :+ X.c :* Y.b :+ X.c :* Y.c :* var 6); left = cubic_e (var 6); right = con 0 } ∷ [])
      (value_e (var 6) (X *X Y)) (value_e (var 6) X :* value_e (var 6) Y) refl (env x y (ext r 0 0)) root

  value_x : value_at r (ext 0 1 0) ≡ pow_f r 1
  unfolding value_at
  value_x = solve 𝔹 (con 0 :+ con 1 :* var 0 :+ con 0 :* (var 0 :* var 0)) (var 0) refl (r ∷ []) ∙ sym (pow_f_one r)

  -- x squared k times, where x has the value r^e
  value_squared : (k e : ℕ) (x : Ext) → value_at r x ≡ pow_f r e → value_at r (squared_x k x) ≡ pow_f r (e * 2 ^ k)
  unfolding squared_x
  value_squared zero e x h = h ∙ ap (pow_f r) (sym (mul-one e))
  value_squared (suc k) e x h =
      value_squared k (2 * e) (mul_x x x) (value_mul_x x x ∙ ap₂ mul_f h h ∙ sym (pow_f_double r e))
      ∙ ap (pow_f r) (ap (λ (n : ℕ). n * 2 ^ k) (mul_comm 2 e) ∙ mul_assoc e 2 (2 ^ k) ∙ ap (λ (n : ℕ). e * n) (sym (pow-succ' 2 k)))

-- ---- the certificate: X^(2^32), X^(2^64), and the inverse of X · X^(2^64) − X · X^(2^32)
abbrev to_32 : Ext
to_32 = ext 4313033625783026847 14322987502044991736 13756005300681981762

abbrev to_64 : Ext
to_64 = ext 15890331032454968110 14052839707969102485 2012697817756225988

to_32_is : squared_x 32 (ext 0 1 0) ≡ to_32
unfolding squared_x mul_x add_f sub_f mul_f
to_32_is = refl

to_64_is : squared_x 64 (ext 0 1 0) ≡ to_64
unfolding squared_x mul_x add_f sub_f mul_f
to_64_is = refl

abbrev difference : Ext
difference = sub_x (mul_x to_64 (ext 0 1 0)) (mul_x to_32 (ext 0 1 0))

abbrev inverse : Ext
inverse = ext 7018973942261232818 12619507027527961167 7285603391039665689

certificate : mul_x difference inverse ≡ one_x
unfolding sub_x mul_x add_f sub_f mul_f
certificate = refl

-- ---- no root
value_one : (r : ℕ) → value_at r one_x ≡ 1
unfolding value_at
value_one r = solve 𝔹 (con 1 :+ con 0 :* var 0 :+ con 0 :* (var 0 :* var 0)) (con 1) refl (r ∷ [])

value_sub_x : (r : ℕ) (x y : Ext) → value_at r (sub_x x y) ≡ sub_f (value_at r x) (value_at r y)
unfolding value_at sub_x
value_sub_x r x y =
    solve 𝔹 (value_e (var 6) (X -X Y)) (value_e (var 6) X :- value_e (var 6) Y) refl (env x y (ext r 0 0))

-- r^p is r
power_p : (r : ℕ) → r % p ≢ 0 → pow_f r p ≡ pow_f r 1
unfolding pow_f
power_p r f =
    pow_f_suc r 18446744069414584320 ∙ ap (λ (n : ℕ). mul_f n r) (p_fermat r f)
    ∙ solve 𝔹 (con 1 :* var 0) (var 0) refl (r ∷ []) ∙ sym (pow_f_one r)

-- "X^3 − X + 1 has no root modulo p"
pub no_root : (r : ℕ) → cubic_at r ≢ 0
no_root r root =
    one≢zero
    (sym (value_one r) ∙ ap (value_at r) (sym certificate) ∙ value_mul_x r root difference inverse
    ∙ ap (λ (n : ℕ). mul_f n (value_at r inverse)) vanishes ∙ solve 𝔹 (con 0 :* var 0) (con 0) refl (value_at r inverse ∷ []))
  where
    not_zero : r % p ≢ 0
    not_zero z = one≢zero (sym (cubic_at_zero r z) ∙ root)

    value_64 : value_at r to_64 ≡ pow_f r 18446744073709551616
    value_64 = ap (value_at r) (sym to_64_is) ∙ value_squared r root 64 1 (ext 0 1 0) (value_x r root)

    value_32 : value_at r to_32 ≡ pow_f r 4294967296
    value_32 = ap (value_at r) (sym to_32_is) ∙ value_squared r root 32 1 (ext 0 1 0) (value_x r root)

    left : value_at r (mul_x to_64 (ext 0 1 0)) ≡ mul_f (pow_f r 1) (pow_f r 4294967296)
    left =
        value_mul_x r root to_64 (ext 0 1 0) ∙ ap₂ mul_f value_64 (value_x r root) ∙ sym (pow_f_add r 18446744073709551616 1)
        ∙ pow_f_add r p 4294967296 ∙ ap (λ (n : ℕ). mul_f n (pow_f r 4294967296)) (power_p r not_zero)

    right : value_at r (mul_x to_32 (ext 0 1 0)) ≡ mul_f (pow_f r 4294967296) (pow_f r 1)
    right = value_mul_x r root to_32 (ext 0 1 0) ∙ ap₂ mul_f value_32 (value_x r root)

    vanishes : value_at r difference ≡ 0
    vanishes =
        value_sub_x r (mul_x to_64 (ext 0 1 0)) (mul_x to_32 (ext 0 1 0)) ∙ ap₂ sub_f left right
        ∙ solve 𝔹 (var 0 :* var 1 :- var 1 :* var 0) (con 0) refl (pow_f r 1 ∷ pow_f r 4294967296 ∷ [])

-- ---- the norm is 0 only at 0
-- t / s would be a root
no_quotient : (s t : ℕ) → s % p ≢ 0 → add_f (sub_f (mul_f t (mul_f t t)) (mul_f t (mul_f s s))) (mul_f s (mul_f s s)) ≢ 0
unfolding cubic_at
no_quotient s t f h =
    no_root (mul_f t (inv_f s))
    (combine 𝔹 neg_one
    (record {
      times = var 2 :* (var 2 :* var 2);
      left = var 1 :* (var 1 :* var 1) :- var 1 :* (var 0 :* var 0) :+ var 0 :* (var 0 :* var 0);
      right = con 0;
    }
    ∷ record {
      times = var 1 :* var 2 :* (var 0 :* var 2 :+ con 1) :- (var 0 :* var 2 :* (var 0 :* var 2) :+ var 0 :* var 2 :+ con 1);
      left = var 0 :* var 2;
      right = con 1;
    } ∷ [])
    (cubic_e (var 1 :* var 2)) (con 0) refl (s ∷ t ∷ inv_f s ∷ []) h (inv_f_product s f))

abbrev y0 : Expr
y0 = (adjugate_e X).a

abbrev y1 : Expr
y1 = (adjugate_e X).b

abbrev y2 : Expr
y2 = (adjugate_e X).c

-- a square is 0 only at 0
square_zero : (n : ℕ) → mul_f n n ≡ 0 → n % p ≡ 0
square_zero n h = go (no_zero_divisors n n h) where
  go : (n % p ≡ 0) ⊎ (n % p ≡ 0) → n % p ≡ 0
  go (inl z) = z
  go (inr z) = z

module _ (x : Ext) (zero_norm : norm_x x ≡ 0) where
  -- else the quotient of the second and the third cofactor would be a root
  third_zero : (adjugate_x x).c ≡ 0
  unfolding norm_x adjugate_x mul_x
  third_zero = pick (ℕ_discrete (adjugate_x x).c 0)
    where
      pick : Dec ((adjugate_x x).c ≡ 0) → (adjugate_x x).c ≡ 0
      pick (yes z) = z
      pick (no f) =
          absurd
          (no_quotient (adjugate_x x).c (adjugate_x x).b (λ z. f (sym (sub_f_red _ _) ∙ z))
          (combine 𝔹 neg_one (record { times = X.c :* y1 :- X.b :* y2; left = norm_e X; right = con 0 } ∷ [])
          (y1 :* (y1 :* y1) :- y1 :* (y2 :* y2) :+ y2 :* (y2 :* y2)) (con 0) refl (env x x x) zero_norm))

  second_zero : (adjugate_x x).b ≡ 0
  unfolding norm_x adjugate_x mul_x
  second_zero =
      sym (sub_f_red _ _)
      ∙ square_zero (adjugate_x x).b
      (combine 𝔹 neg_one
      (record { times = X.c; left = norm_e X; right = con 0 } ∷ record { times = y0 :+ y2; left = y2; right = con 0 } ∷ [])
      (y1 :* y1) (con 0) refl (env x x x) zero_norm third_zero)

  -- else b / c would be a root
  c_zero : x.c % p ≡ 0
  unfolding adjugate_x
  c_zero = pick (ℕ_discrete (x.c % p) 0)
    where
      pick : Dec (x.c % p ≡ 0) → x.c % p ≡ 0
      pick (yes z) = z
      pick (no f) =
          absurd
          (no_quotient x.c x.b f
          (combine 𝔹 neg_one
          (record { times = X.b; left = y2; right = con 0 } ∷ record { times = neg X.c; left = y1; right = con 0 } ∷ [])
          (X.b :* (X.b :* X.b) :- X.b :* (X.c :* X.c) :+ X.c :* (X.c :* X.c)) (con 0) refl (env x x x) third_zero second_zero))

  b_zero : x.b % p ≡ 0
  unfolding adjugate_x
  b_zero =
      square_zero x.b
      (combine 𝔹 neg_one
      (record { times = con 1; left = y2; right = con 0 } ∷ record { times = X.a :+ X.c; left = X.c; right = con 0 } ∷ [])
      (X.b :* X.b) (con 0) refl (env x x x) third_zero c_zero)

  a_zero : x.a % p ≡ 0
  unfolding norm_x adjugate_x mul_x
  a_zero = go (no_zero_divisors x.a (mul_f x.a x.a) cube)
    where
      cube : mul_f x.a (mul_f x.a x.a) ≡ 0
      cube =
          combine 𝔹 neg_one
          (record { times = con 1; left = norm_e X; right = con 0 }
          ∷ record { times = X.a :* X.b :+ y2; left = X.b; right = con 0 }
          ∷ record { times = y1 :- con 2 :* (X.a :* X.a) :- X.a :* X.c :- X.a :* X.b; left = X.c; right = con 0 } ∷ [])
          (X.a :* (X.a :* X.a)) (con 0) refl (env x x x) zero_norm b_zero c_zero

      go : (x.a % p ≡ 0) ⊎ (mul_f x.a x.a % p ≡ 0) → x.a % p ≡ 0
      go (inl z) = z
      go (inr z) = square_zero x.a (sym (mul_f_red x.a x.a) ∙ z)

pub norm_zero : (x : Ext) → norm_x x ≡ 0 → reduce_x x ≡ zero_x
norm_zero x z = ext_path (a_zero x z) (b_zero x z) (c_zero x z)

-- ---- only zero has no inverse
pub nonzero_has_inverse : (x : Ext) → reduce_x x ≢ zero_x → HasInverse x
nonzero_has_inverse x f = (has_inverse_iff x).1 (λ z. f (norm_zero x z))

pub has_inverse_not_zero : (x : Ext) → HasInverse x → reduce_x x ≢ zero_x
has_inverse_not_zero x h e = has_inverse_zero (subst HasInverse e ((has_inverse_red x).1 h))

-- "every extension element with words below p but (0, 0, 0) has an inverse"
pub only_zero_has_none : (x : Ext) → Reduced x → x ≢ zero_x → HasInverse x
only_zero_has_none x r f = nonzero_has_inverse x (λ e. f (sym (reduced_same x r) ∙ e))

pub has_inverse_exactly : (x : Ext) → Reduced x → HasInverse x ↔ (x ≢ zero_x)
has_inverse_exactly x r = (λ h e. has_inverse_not_zero x h (reduced_same x r ∙ e), only_zero_has_none x r)
