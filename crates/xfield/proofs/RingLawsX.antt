-- The laws of extension elements: a commutative ring, the base elements inside it, and the words below p. Each identity is
-- three identities of the base ring, which its solver decides. Assumes nothing.
use Prim.Native.Nat.{ℕ, ◌+◌, ◌*◌, ◌-◌, ◌%◌}
use mathlib.Core.Path.{◌≡◌, refl, sym, ◌∙◌, ap, ap₂, subst}
use mathlib.Core.List.{List, [], ◌∷◌}
use native.Mathlib.Nat.{mod-lt, mod-eq_of_lt}
use Rattle.field.specs.Elements.{p, add_f, sub_f, mul_f}
use Rattle.field.proofs.Ring.{Ring, Expr, var, con, ◌:+◌, ◌:*◌, ◌:-◌, Pol, norm, out, solve}
use Rattle.field.proofs.RingLaws.{𝔹, p_pos, add_f_lt, sub_f_lt, mul_f_lt, add_f_red, sub_f_red, add_f_of_red, mul_f_of_red, red_add_f, red_mul_f, neg_one}
use Rattle.xfield.specs.Extension.{Ext, ext, zero_x, one_x, lift_x, reduce_x, add_x, sub_x, mul_x, scale_x, Reduced}

-- ---- the operations on expressions, word by word as specs/Extension.antt has them on numbers
pub record ExprX : Type 0 where
  pub a : Expr
  pub b : Expr
  pub c : Expr

abbrev pub expr_x : Expr → Expr → Expr → ExprX
expr_x x y z = record { a = x; b = y; c = z }

infixl 6 ◌+X◌ ◌-X◌
infixl 7 ◌*X◌ ◌·X◌
abbrev pub ◌+X◌ : ExprX → ExprX → ExprX
x +X y = expr_x (x.a :+ y.a) (x.b :+ y.b) (x.c :+ y.c)

abbrev pub ◌-X◌ : ExprX → ExprX → ExprX
x -X y = expr_x (x.a :- y.a) (x.b :- y.b) (x.c :- y.c)

abbrev pub fold_e : Expr → Expr → Expr → Expr → Expr → ExprX
fold_e c0 c1 c2 c3 c4 = expr_x (c0 :- c3) (c1 :+ c3 :- c4) (c2 :+ c4)

abbrev pub ◌*X◌ : ExprX → ExprX → ExprX
x *X y =
    fold_e
    (x.a :* y.a)
    (x.a :* y.b :+ x.b :* y.a)
    (x.a :* y.c :+ x.b :* y.b :+ x.c :* y.a)
    (x.b :* y.c :+ x.c :* y.b)
    (x.c :* y.c)

abbrev pub ◌·X◌ : Expr → ExprX → ExprX
k ·X x = expr_x (k :* x.a) (k :* x.b) (k :* x.c)

-- three elements, of the variables 0 to 8
abbrev pub X : ExprX
X = expr_x (var 0) (var 1) (var 2)

abbrev pub Y : ExprX
Y = expr_x (var 3) (var 4) (var 5)

abbrev pub Z : ExprX
Z = expr_x (var 6) (var 7) (var 8)

abbrev pub env : Ext → Ext → Ext → List ℕ
env x y z = x.a ∷ x.b ∷ x.c ∷ y.a ∷ y.b ∷ y.c ∷ z.a ∷ z.b ∷ z.c ∷ []

-- an expression of the base ring, as an element
abbrev pub base_e : Expr → ExprX
base_e e = expr_x e (con 0) (con 0)

abbrev pub out_x : ExprX → List ℕ → Ext
out_x e ρ = ext (out 𝔹 e.a ρ) (out 𝔹 e.b ρ) (out 𝔹 e.c ρ)

-- the normal forms of the three words
pub record Normal : Type 0 where
  pub a : Pol
  pub b : Pol
  pub c : Pol

abbrev pub normal : ExprX → Normal
normal e = record { a = norm p e.a; b = norm p e.b; c = norm p e.c }

-- equal word by word
pub ext_path : {a a' b b' c c' : ℕ} → a ≡ a' → b ≡ b' → c ≡ c' → ext a b c ≡ ext a' b' c'
ext_path e f g = λ i. record { a = e i; b = f i; c = g i }

-- three equations at once: `solve_x e f refl ρ`
pub solve_x : (e f : ExprX) → normal e ≡ normal f → (ρ : List ℕ) → out_x e ρ ≡ out_x f ρ
solve_x e f q ρ =
    ext_path
    (solve 𝔹 e.a f.a (λ i. (q i).a) ρ)
    (solve 𝔹 e.b f.b (λ i. (q i).b) ρ)
    (solve 𝔹 e.c f.c (λ i. (q i).c) ρ)

-- ---- the laws
pub add_x_comm : (x y : Ext) → add_x x y ≡ add_x y x
unfolding add_x
add_x_comm x y = solve_x (X +X Y) (Y +X X) refl (env x y x)

pub add_x_assoc : (x y z : Ext) → add_x (add_x x y) z ≡ add_x x (add_x y z)
unfolding add_x
add_x_assoc x y z = solve_x (X +X Y +X Z) (X +X (Y +X Z)) refl (env x y z)

pub mul_x_comm : (x y : Ext) → mul_x x y ≡ mul_x y x
unfolding mul_x
mul_x_comm x y = solve_x (X *X Y) (Y *X X) refl (env x y x)

pub mul_x_assoc : (x y z : Ext) → mul_x (mul_x x y) z ≡ mul_x x (mul_x y z)
unfolding mul_x
mul_x_assoc x y z = solve_x (X *X Y *X Z) (X *X (Y *X Z)) refl (env x y z)

pub mul_x_add_x : (x y z : Ext) → mul_x x (add_x y z) ≡ add_x (mul_x x y) (mul_x x z)
unfolding mul_x add_x
mul_x_add_x x y z = solve_x (X *X (Y +X Z)) (X *X Y +X X *X Z) refl (env x y z)

pub mul_x_sub_x : (x y z : Ext) → mul_x x (sub_x y z) ≡ sub_x (mul_x x y) (mul_x x z)
unfolding mul_x sub_x
mul_x_sub_x x y z = solve_x (X *X (Y -X Z)) (X *X Y -X X *X Z) refl (env x y z)

pub add_x_zero : (x : Ext) → add_x zero_x x ≡ reduce_x x
unfolding add_x
add_x_zero x = solve_x (base_e (con 0) +X X) X refl (env x x x)

pub mul_x_zero : (x : Ext) → mul_x zero_x x ≡ zero_x
unfolding mul_x
mul_x_zero x = solve_x (base_e (con 0) *X X) (base_e (con 0)) refl (env x x x)

pub mul_x_one : (x : Ext) → mul_x one_x x ≡ reduce_x x
unfolding mul_x
mul_x_one x = solve_x (base_e (con 1) *X X) X refl (env x x x)

pub sub_x_is : (x y : Ext) → sub_x x y ≡ add_x x (mul_x (lift_x (p - 1)) y)
unfolding sub_x add_x mul_x
sub_x_is x y = solve_x (X -X Y) (X +X base_e (con (p - 1)) *X Y) refl (env x y x)

pub neg_x_is : (x : Ext) → sub_x zero_x x ≡ mul_x (lift_x (p - 1)) x
unfolding sub_x mul_x
neg_x_is x = solve_x (base_e (con 0) -X X) (base_e (con (p - 1)) *X X) refl (env x x x)

-- ---- words modulo p: an operation reads no more of its arguments, and answers words below p
pub reduce_x_reduced : (x : Ext) → Reduced (reduce_x x)
reduce_x_reduced x = record { a_below = mod-lt x.a p_pos; b_below = mod-lt x.b p_pos; c_below = mod-lt x.c p_pos }

pub lift_x_reduced : (v : ℕ) → Reduced (lift_x v)
lift_x_reduced v = reduce_x_reduced (ext v 0 0)

pub zero_x_reduced : Reduced zero_x
zero_x_reduced = lift_x_reduced 0

pub one_x_reduced : Reduced one_x
one_x_reduced = lift_x_reduced 1

pub add_x_reduced : (x y : Ext) → Reduced (add_x x y)
unfolding add_x
add_x_reduced x y = record { a_below = add_f_lt _ _; b_below = add_f_lt _ _; c_below = add_f_lt _ _ }

pub sub_x_reduced : (x y : Ext) → Reduced (sub_x x y)
unfolding sub_x
sub_x_reduced x y = record { a_below = sub_f_lt _ _; b_below = sub_f_lt _ _; c_below = sub_f_lt _ _ }

pub scale_x_reduced : (k : ℕ) (x : Ext) → Reduced (scale_x k x)
unfolding scale_x
scale_x_reduced k x = record { a_below = mul_f_lt _ _; b_below = mul_f_lt _ _; c_below = mul_f_lt _ _ }

pub reduced_same : (x : Ext) → Reduced x → reduce_x x ≡ x
reduced_same x r = ext_path (mod-eq_of_lt r.a_below) (mod-eq_of_lt r.b_below) (mod-eq_of_lt r.c_below)

pub reduced_eq : (x y : Ext) → Reduced x → Reduced y → reduce_x x ≡ reduce_x y → x ≡ y
reduced_eq x y r s e = sym (reduced_same x r) ∙ e ∙ reduced_same y s

-- an answer that its contract equates with a reduced element has words below p
pub reduced_by : {x y : Ext} → x ≡ y → Reduced y → Reduced x
reduced_by e r = subst Reduced (sym e) r

pub reduce_x_idem : (x : Ext) → reduce_x (reduce_x x) ≡ reduce_x x
reduce_x_idem x = reduced_same (reduce_x x) (reduce_x_reduced x)

pub add_x_red : (x y : Ext) → reduce_x (add_x x y) ≡ add_x x y
add_x_red x y = reduced_same (add_x x y) (add_x_reduced x y)

pub sub_x_red : (x y : Ext) → reduce_x (sub_x x y) ≡ sub_x x y
sub_x_red x y = reduced_same (sub_x x y) (sub_x_reduced x y)

pub mul_x_red : (x y : Ext) → reduce_x (mul_x x y) ≡ mul_x x y
unfolding mul_x
mul_x_red x y = simp (add_f_red, sub_f_red)

pub mul_x_reduced : (x y : Ext) → Reduced (mul_x x y)
mul_x_reduced x y = reduced_by (sym (mul_x_red x y)) (reduce_x_reduced (mul_x x y))

pub scale_x_red : (k : ℕ) (x : Ext) → reduce_x (scale_x k x) ≡ scale_x k x
scale_x_red k x = reduced_same (scale_x k x) (scale_x_reduced k x)

pub add_x_of_red : (x y : Ext) → add_x x (reduce_x y) ≡ add_x x y
unfolding add_x
add_x_of_red x y = simp add_f_of_red

pub mul_x_of_red : (x y : Ext) → mul_x x (reduce_x y) ≡ mul_x x y
unfolding mul_x
mul_x_of_red x y = simp mul_f_of_red

pub red_mul_x : (x y : Ext) → mul_x (reduce_x x) y ≡ mul_x x y
red_mul_x x y = mul_x_comm (reduce_x x) y ∙ mul_x_of_red y x ∙ mul_x_comm y x

pub red_add_x : (x y : Ext) → add_x (reduce_x x) y ≡ add_x x y
red_add_x x y = add_x_comm (reduce_x x) y ∙ add_x_of_red y x ∙ add_x_comm y x

pub sub_x_of_red : (x y : Ext) → sub_x x (reduce_x y) ≡ sub_x x y
sub_x_of_red x y = sub_x_is x (reduce_x y) ∙ ap (add_x x) (mul_x_of_red (lift_x (p - 1)) y) ∙ sym (sub_x_is x y)

pub red_sub_x : (x y : Ext) → sub_x (reduce_x x) y ≡ sub_x x y
red_sub_x x y = sub_x_is (reduce_x x) y ∙ red_add_x x (mul_x (lift_x (p - 1)) y) ∙ sym (sub_x_is x y)

-- ---- base elements: `lift_x` takes sums, differences and products to sums, differences and products
pub lift_x_mod : (a : ℕ) → lift_x (a % p) ≡ lift_x a
lift_x_mod a = reduce_x_idem (ext a 0 0)

base_add_x : (a b : ℕ) → ext (add_f a b) 0 0 ≡ add_x (ext a 0 0) (ext b 0 0)
unfolding add_x
base_add_x a b = solve_x (base_e (var 0 :+ var 1)) (base_e (var 0) +X base_e (var 1)) refl (a ∷ b ∷ [])

base_sub_x : (a b : ℕ) → ext (sub_f a b) 0 0 ≡ sub_x (ext a 0 0) (ext b 0 0)
unfolding sub_x
base_sub_x a b = solve_x (base_e (var 0 :- var 1)) (base_e (var 0) -X base_e (var 1)) refl (a ∷ b ∷ [])

base_mul_x : (a b : ℕ) → ext (mul_f a b) 0 0 ≡ mul_x (ext a 0 0) (ext b 0 0)
unfolding mul_x
base_mul_x a b = solve_x (base_e (var 0 :* var 1)) (base_e (var 0) *X base_e (var 1)) refl (a ∷ b ∷ [])

scale_x_base : (k : ℕ) (x : Ext) → scale_x k x ≡ mul_x (ext k 0 0) x
unfolding scale_x mul_x
scale_x_base k x = solve_x (var 3 ·X X) (base_e (var 3) *X X) refl (x.a ∷ x.b ∷ x.c ∷ k ∷ [])

pub lift_x_add_f : (a b : ℕ) → lift_x (add_f a b) ≡ add_x (lift_x a) (lift_x b)
lift_x_add_f a b =
    ap reduce_x (base_add_x a b) ∙ add_x_red (ext a 0 0) (ext b 0 0) ∙ sym (red_add_x (ext a 0 0) (lift_x b) ∙ add_x_of_red (ext a 0 0) (ext b 0 0))

pub lift_x_sub_f : (a b : ℕ) → lift_x (sub_f a b) ≡ sub_x (lift_x a) (lift_x b)
lift_x_sub_f a b =
    ap reduce_x (base_sub_x a b) ∙ sub_x_red (ext a 0 0) (ext b 0 0) ∙ sym (red_sub_x (ext a 0 0) (lift_x b) ∙ sub_x_of_red (ext a 0 0) (ext b 0 0))

pub lift_x_mul_f : (a b : ℕ) → lift_x (mul_f a b) ≡ mul_x (lift_x a) (lift_x b)
lift_x_mul_f a b =
    ap reduce_x (base_mul_x a b) ∙ mul_x_red (ext a 0 0) (ext b 0 0) ∙ sym (red_mul_x (ext a 0 0) (lift_x b) ∙ mul_x_of_red (ext a 0 0) (ext b 0 0))

pub scale_x_is : (k : ℕ) (x : Ext) → scale_x k x ≡ mul_x (lift_x k) x
scale_x_is k x = scale_x_base k x ∙ sym (red_mul_x (ext k 0 0) x)

pub base_scale_x : (k v : ℕ) → scale_x k (ext v 0 0) ≡ ext (mul_f k v) 0 0
base_scale_x k v = scale_x_base k (ext v 0 0) ∙ sym (base_mul_x k v)

pub scale_x_zero : (x : Ext) → scale_x 0 x ≡ zero_x
scale_x_zero x = scale_x_is 0 x ∙ mul_x_zero x

pub scale_x_one : (x : Ext) → scale_x 1 x ≡ reduce_x x
scale_x_one x = scale_x_is 1 x ∙ mul_x_one x

pub scale_x_mul_x : (k : ℕ) (x y : Ext) → mul_x (scale_x k x) y ≡ scale_x k (mul_x x y)
scale_x_mul_x k x y = ap (λ t. mul_x t y) (scale_x_is k x) ∙ mul_x_assoc (lift_x k) x y ∙ sym (scale_x_is k (mul_x x y))

pub scale_x_lift_x : (k v : ℕ) → scale_x k (lift_x v) ≡ lift_x (mul_f k v)
scale_x_lift_x k v = scale_x_is k (lift_x v) ∙ sym (lift_x_mul_f k v)

pub scale_x_of_red : (k : ℕ) (x : Ext) → scale_x k (reduce_x x) ≡ scale_x k x
scale_x_of_red k x = scale_x_is k (reduce_x x) ∙ mul_x_of_red (lift_x k) x ∙ sym (scale_x_is k x)

pub red_scale_x : (k : ℕ) (x : Ext) → scale_x (k % p) x ≡ scale_x k x
red_scale_x k x = scale_x_is (k % p) x ∙ ap (λ t. mul_x t x) (lift_x_mod k) ∙ sym (scale_x_is k x)

-- ---- the extension, for the solver: `solve 𝔼 e₁ e₂ refl ρ`, and `combine 𝔼 neg_one_x ..`
abbrev pub 𝔼 : Ring Ext
𝔼 = record {
  m = p;
  ◌⊞◌ = add_x;
  ◌⊠◌ = mul_x;
  ◌⊟◌ = sub_x;
  opp = λ x. sub_x zero_x x;
  red = reduce_x;
  c = lift_x;
  add_comm = add_x_comm;
  add_assoc = add_x_assoc;
  mul_comm = mul_x_comm;
  mul_assoc = mul_x_assoc;
  mul-add = mul_x_add_x;
  red_add = add_x_red;
  red_mul = mul_x_red;
  add_red = add_x_of_red;
  mul_red = mul_x_of_red;
  zero-add = add_x_zero;
  zero-mul = mul_x_zero;
  one-mul = mul_x_one;
  c_add = λ a b. sym (lift_x_mod (a + b)) ∙ ap lift_x (red_add_f a b) ∙ lift_x_add_f (a % p) (b % p) ∙ ap₂ add_x (lift_x_mod a) (lift_x_mod b);
  c_mul = λ a b. sym (lift_x_mod (a * b)) ∙ ap lift_x (red_mul_f a b) ∙ lift_x_mul_f (a % p) (b % p) ∙ ap₂ mul_x (lift_x_mod a) (lift_x_mod b);
  c_mod = lift_x_mod;
  c_red = λ a. reduce_x_idem (ext a 0 0);
  sub_is = sub_x_is;
  neg_is = neg_x_is;
}

pub neg_one_x : add_x (lift_x 1) (lift_x (p - 1)) ≡ lift_x 0
neg_one_x = sym (lift_x_add_f 1 (p - 1)) ∙ ap lift_x neg_one

-- ---- subtraction
pub sub_x_self : (x : Ext) → sub_x x x ≡ zero_x
sub_x_self x = solve 𝔼 (var 0 :- var 0) (con 0) refl (x ∷ [])

pub sub_x_zero : (x : Ext) → sub_x x zero_x ≡ reduce_x x
sub_x_zero x = solve 𝔼 (var 0 :- con 0) (var 0) refl (x ∷ [])

pub sub_x_add_x : (x y : Ext) → add_x (sub_x x y) y ≡ reduce_x x
sub_x_add_x x y = solve 𝔼 (var 0 :- var 1 :+ var 1) (var 0) refl (x ∷ y ∷ [])

pub add_x_sub_x : (x y : Ext) → sub_x (add_x x y) y ≡ reduce_x x
add_x_sub_x x y = solve 𝔼 (var 0 :+ var 1 :- var 1) (var 0) refl (x ∷ y ∷ [])
