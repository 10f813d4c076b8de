-- A ring solver by reflection. An identity of sums, products and differences is shown by normalising both sides:
--     solve 𝔹 ((var 0 :- var 1) :* (var 0 :+ var 1)) (var 0 :* var 0 :- var 1 :* var 1) refl (a ∷ b ∷ [])
--         : mul_f (sub_f a b) (add_f a b) ≡ sub_f (mul_f a a) (mul_f b b)
--     solve 𝔹 (var 0 :- var 1 :+ var 1) (var 0) refl (a ∷ b ∷ []) : add_f (sub_f a b) b ≡ a % p
-- and one that follows from equations, by multiples of these (`times`) that add up to it:
--     combine 𝔹 neg_one (record { times = con 1; left = var 0 :* (var 0 :- con 1); right = con 0 } ∷ []) (var 0 :* var 0) (var 0) refl
--         (a ∷ []) h : mul_f a a ≡ a % p          where h : mul_f a (sub_f a 1) ≡ 0
-- The members of the list after `refl` are what the variables stand for, any terms at all. A side that is a bare variable answers
-- with `red` of it, at 𝔹 its remainder modulo p.
--
-- Instances: 𝔹, base elements (proofs/RingLaws.antt); 𝔑, plain numbers (proofs/Naturals.antt, with congruences modulo p); the
-- extension has its own in its crate.
--
-- The normal form is nested Horner: a constant, or p + x q where x is the first variable and p is over the later ones. Coefficients
-- are natural numbers modulo m, computed natively, and -y is (m - 1) y. `norm_sound` shows that an expression and its normal form
-- have the same value in every ring. Assumes nothing.
use Rattle.std.proofs.Common.{◌≡◌, ℕ, zero, suc, ◌+◌, ◌-◌, ◌*◌, ◌%◌, List, [], ◌∷◌, sym, refl, ap, ◌∙◌, ap₂}

-- ---- expressions: the variable at a place of the environment, a number, sums, products, differences, the opposite
infixl 6 ◌:+◌ ◌:-◌
infixl 7 ◌:*◌
pub data Expr : Type 0 where
  var : ℕ → Expr
  con : ℕ → Expr
  ◌:+◌ : Expr → Expr → Expr
  ◌:*◌ : Expr → Expr → Expr
  ◌:-◌ : Expr → Expr → Expr
  neg : Expr → Expr

-- ---- polynomials: a constant, or p + x * q, where x is the first variable, and p is over the later ones only
pub data Pol : Type 0 where
  k : ℕ → Pol
  h : Pol → Pol → Pol

abbrev pub mk : Pol → Pol → Pol
mk (k a) (k zero) = k a
mk (k a) (k (suc b)) = h (k a) (k (suc b))
mk (k a) (h p q) = h (k a) (h p q)
mk (h p₁ p₂) q = h (h p₁ p₂) q

abbrev pub addk : ℕ → ℕ → Pol → Pol
addk m a (k b) = k ((a + b) % m)
addk m a (h p q) = h (addk m a p) q

abbrev pub padd : ℕ → Pol → Pol → Pol
padd m (k zero) r = r
padd m (k (suc a)) r = addk m (suc a) r
padd m (h p q) (k b) = h (padd m p (k b)) q
padd m (h p q) (h p' q') = mk (padd m p p') (padd m q q')

abbrev pub mulk : ℕ → ℕ → Pol → Pol
mulk m a (k b) = k ((a * b) % m)
mulk m a (h p q) = mk (mulk m a p) (mulk m a q)

abbrev pub mapm : (Pol → Pol) → Pol → Pol
mapm f (k b) = mk (f (k b)) (k 0)
mapm f (h r₁ r₂) = mk (f r₁) (mapm f r₂)

abbrev pub pmul : ℕ → Pol → Pol → Pol
pmul m (k zero) r = k 0
pmul m (k (suc a)) r = mulk m (suc a) r
pmul m (h p q) r = padd m (mapm (λ s. pmul m p s) r) (mk (k 0) (pmul m q r))

abbrev pub varp : ℕ → Pol
varp zero = h (k 0) (k 1)
varp (suc i) = h (varp i) (k 0)

abbrev pub norm : ℕ → Expr → Pol
norm m (var i) = varp i
norm m (con a) = k (a % m)
norm m (a :+ b) = padd m (norm m a) (norm m b)
norm m (a :* b) = pmul m (norm m a) (norm m b)
norm m (a :- b) = padd m (norm m a) (mulk m (m - 1) (norm m b))
norm m (neg a) = mulk m (m - 1) (norm m a)

-- ---- a commutative ring of characteristic m, up to `red`, which takes an element to the one that stands for it
pub record Ring (R : Type 0) : Type 0 where
  pub m : ℕ
  pub ◌⊞◌ : R → R → R
  pub ◌⊠◌ : R → R → R
  pub ◌⊟◌ : R → R → R
  pub opp : R → R
  pub red : R → R
  pub c : ℕ → R
  pub add_comm : (x y : R) → ◌⊞◌ x y ≡ ◌⊞◌ y x
  pub add_assoc : (x y z : R) → ◌⊞◌ (◌⊞◌ x y) z ≡ ◌⊞◌ x (◌⊞◌ y z)
  pub mul_comm : (x y : R) → ◌⊠◌ x y ≡ ◌⊠◌ y x
  pub mul_assoc : (x y z : R) → ◌⊠◌ (◌⊠◌ x y) z ≡ ◌⊠◌ x (◌⊠◌ y z)
  pub mul-add : (x y z : R) → ◌⊠◌ x (◌⊞◌ y z) ≡ ◌⊞◌ (◌⊠◌ x y) (◌⊠◌ x z)
  pub red_add : (x y : R) → red (◌⊞◌ x y) ≡ ◌⊞◌ x y
  pub red_mul : (x y : R) → red (◌⊠◌ x y) ≡ ◌⊠◌ x y
  pub add_red : (x y : R) → ◌⊞◌ x (red y) ≡ ◌⊞◌ x y
  pub mul_red : (x y : R) → ◌⊠◌ x (red y) ≡ ◌⊠◌ x y
  pub zero-add : (x : R) → ◌⊞◌ (c 0) x ≡ red x
  pub zero-mul : (x : R) → ◌⊠◌ (c 0) x ≡ c 0
  pub one-mul : (x : R) → ◌⊠◌ (c 1) x ≡ red x
  pub c_add : (a b : ℕ) → c (a + b) ≡ ◌⊞◌ (c a) (c b)
  pub c_mul : (a b : ℕ) → c (a * b) ≡ ◌⊠◌ (c a) (c b)
  pub c_mod : (a : ℕ) → c (a % m) ≡ c a
  pub c_red : (a : ℕ) → red (c a) ≡ c a
  pub sub_is : (x y : R) → ◌⊟◌ x y ≡ ◌⊞◌ x (◌⊠◌ (c (m - 1)) y)
  pub neg_is : (x : R) → opp x ≡ ◌⊠◌ (c (m - 1)) x

-- an equation that is given, and what it is multiplied by
pub record Hyp : Type 0 where
  pub times : Expr
  pub left : Expr
  pub right : Expr

abbrev pub nth : {A : Type 0} → A → List A → ℕ → A
nth d [] i = d
nth d (x ∷ ρ) zero = x
nth d (x ∷ ρ) (suc i) = nth d ρ i

abbrev pub tl : {A : Type 0} → List A → List A
tl [] = []
tl (x ∷ ρ) = ρ

module _ {R : Type 0} (𝓡 : Ring R) where
  infixl 6 ◌⊕◌
  infixl 7 ◌⊗◌
  abbrev ◌⊕◌ : R → R → R
  x ⊕ y = 𝓡.◌⊞◌ x y

  abbrev ◌⊗◌ : R → R → R
  x ⊗ y = 𝓡.◌⊠◌ x y

  abbrev C : ℕ → R
  C a = 𝓡.c a

  abbrev M : ℕ
  M = 𝓡.m

  abbrev pub den : Expr → List R → R
  den (var i) ρ = nth (𝓡.c 0) ρ i
  den (con a) ρ = 𝓡.c a
  den (a :+ b) ρ = 𝓡.◌⊞◌ (den a ρ) (den b ρ)
  den (a :* b) ρ = 𝓡.◌⊠◌ (den a ρ) (den b ρ)
  den (a :- b) ρ = 𝓡.◌⊟◌ (den a ρ) (den b ρ)
  den (neg a) ρ = 𝓡.opp (den a ρ)

  ev : Pol → List R → R
  ev (k a) ρ = C a
  ev (h p q) ρ = ev p (tl ρ) ⊕ nth (C 0) ρ 0 ⊗ ev q ρ

  ev_red : (p : Pol) (ρ : List R) → 𝓡.red (ev p ρ) ≡ ev p ρ
  unfolding ev
  ev_red (k a) ρ = 𝓡.c_red a
  ev_red (h p q) ρ = 𝓡.red_add (ev p (tl ρ)) (nth (C 0) ρ 0 ⊗ ev q ρ)

  mul-zero : (x : R) → x ⊗ C 0 ≡ C 0
  mul-zero x = 𝓡.mul_comm x (C 0) ∙ 𝓡.zero-mul x

  add-zero : (x : R) → x ⊕ C 0 ≡ 𝓡.red x
  add-zero x = 𝓡.add_comm x (C 0) ∙ 𝓡.zero-add x

  add-mul : (x y z : R) → (x ⊕ y) ⊗ z ≡ x ⊗ z ⊕ y ⊗ z
  add-mul x y z = 𝓡.mul_comm (x ⊕ y) z ∙ 𝓡.mul-add z x y ∙ ap₂ ◌⊕◌ (𝓡.mul_comm z x) (𝓡.mul_comm z y)

  add_right_comm : (x y z : R) → x ⊕ y ⊕ z ≡ x ⊕ z ⊕ y
  add_right_comm x y z = 𝓡.add_assoc x y z ∙ ap (λ t. x ⊕ t) (𝓡.add_comm y z) ∙ sym (𝓡.add_assoc x z y)

  mul_left_comm : (x y z : R) → x ⊗ (y ⊗ z) ≡ y ⊗ (x ⊗ z)
  mul_left_comm x y z = sym (𝓡.mul_assoc x y z) ∙ ap (λ t. t ⊗ z) (𝓡.mul_comm x y) ∙ 𝓡.mul_assoc y x z

  swap4 : (p q r s : R) → (p ⊕ q) ⊕ (r ⊕ s) ≡ (p ⊕ r) ⊕ (q ⊕ s)
  swap4 p q r s = sym (𝓡.add_assoc (p ⊕ q) r s) ∙ ap (λ t. t ⊕ s) (add_right_comm p q r) ∙ 𝓡.add_assoc (p ⊕ r) q s

  ev_mk : (p q : Pol) (ρ : List R) → ev (mk p q) ρ ≡ ev p (tl ρ) ⊕ nth (C 0) ρ 0 ⊗ ev q ρ
  unfolding ev
  ev_mk (k a) (k zero) ρ = sym (ap (λ t. C a ⊕ t) (mul-zero (nth (C 0) ρ 0)) ∙ add-zero (C a) ∙ 𝓡.c_red a)
  ev_mk (k a) (k (suc b)) ρ = refl
  ev_mk (k a) (h p q) ρ = refl
  ev_mk (h p₁ p₂) q ρ = refl

  c_sum : (a b : ℕ) → C ((a + b) % M) ≡ C a ⊕ C b
  c_sum a b = 𝓡.c_mod (a + b) ∙ 𝓡.c_add a b

  c_prod : (a b : ℕ) → C ((a * b) % M) ≡ C a ⊗ C b
  c_prod a b = 𝓡.c_mod (a * b) ∙ 𝓡.c_mul a b

  ev_addk : (a : ℕ) (q : Pol) (ρ : List R) → ev (addk M a q) ρ ≡ C a ⊕ ev q ρ
  unfolding ev
  ev_addk a (k b) ρ = c_sum a b
  ev_addk a (h p q) ρ =
      ap (λ t. t ⊕ nth (C 0) ρ 0 ⊗ ev q ρ) (ev_addk a p (tl ρ)) ∙ 𝓡.add_assoc (C a) (ev p (tl ρ)) (nth (C 0) ρ 0 ⊗ ev q ρ)

  ev_padd : (p q : Pol) (ρ : List R) → ev (padd M p q) ρ ≡ ev p ρ ⊕ ev q ρ
  unfolding ev
  ev_padd (k zero) q ρ = sym (𝓡.zero-add (ev q ρ) ∙ ev_red q ρ)
  ev_padd (k (suc a)) q ρ = ev_addk (suc a) q ρ
  ev_padd (h p q) (k b) ρ =
      ap (λ t. t ⊕ nth (C 0) ρ 0 ⊗ ev q ρ) (ev_padd p (k b) (tl ρ)) ∙ add_right_comm (ev p (tl ρ)) (C b) (nth (C 0) ρ 0 ⊗ ev q ρ)
  ev_padd (h p q) (h p' q') ρ =
      ev_mk (padd M p p') (padd M q q') ρ
      ∙ ap₂ (λ s t. s ⊕ nth (C 0) ρ 0 ⊗ t) (ev_padd p p' (tl ρ)) (ev_padd q q' ρ)
      ∙ ap (λ t. ev p (tl ρ) ⊕ ev p' (tl ρ) ⊕ t) (𝓡.mul-add (nth (C 0) ρ 0) (ev q ρ) (ev q' ρ))
      ∙ swap4 (ev p (tl ρ)) (ev p' (tl ρ)) (nth (C 0) ρ 0 ⊗ ev q ρ) (nth (C 0) ρ 0 ⊗ ev q' ρ)

  -- u (x + y z) is u x + y (u z)
  spread : (u x y z : R) → u ⊗ x ⊕ y ⊗ (u ⊗ z) ≡ u ⊗ (x ⊕ y ⊗ z)
  spread u x y z = ap (λ t. u ⊗ x ⊕ t) (mul_left_comm y u z) ∙ sym (𝓡.mul-add u x (y ⊗ z))

  ev_mulk : (a : ℕ) (q : Pol) (ρ : List R) → ev (mulk M a q) ρ ≡ C a ⊗ ev q ρ
  unfolding ev
  ev_mulk a (k b) ρ = c_prod a b
  ev_mulk a (h p q) ρ =
      ev_mk (mulk M a p) (mulk M a q) ρ
      ∙ ap₂ (λ s t. s ⊕ nth (C 0) ρ 0 ⊗ t) (ev_mulk a p (tl ρ)) (ev_mulk a q ρ)
      ∙ spread (C a) (ev p (tl ρ)) (nth (C 0) ρ 0) (ev q ρ)

  ev_mapm : (f : Pol → Pol) (u : R) (r : Pol) (ρ : List R) → ((s : Pol) → ev (f s) (tl ρ) ≡ u ⊗ ev s (tl ρ)) → ev (mapm f r) ρ ≡ u ⊗ ev r ρ
  unfolding ev
  ev_mapm f u (k b) ρ e =
      ev_mk (f (k b)) (k 0) ρ
      ∙ ap₂ ◌⊕◌ (e (k b)) (mul-zero (nth (C 0) ρ 0))
      ∙ add-zero (u ⊗ C b) ∙ 𝓡.red_mul u (C b)
  ev_mapm f u (h p q) ρ e =
      ev_mk (f p) (mapm f q) ρ
      ∙ ap₂ (λ s t. s ⊕ nth (C 0) ρ 0 ⊗ t) (e p) (ev_mapm f u q ρ e)
      ∙ spread u (ev p (tl ρ)) (nth (C 0) ρ 0) (ev q ρ)

  ev_pmul : (p r : Pol) (ρ : List R) → ev (pmul M p r) ρ ≡ ev p ρ ⊗ ev r ρ
  unfolding ev
  ev_pmul (k zero) r ρ = sym (𝓡.zero-mul (ev r ρ))
  ev_pmul (k (suc a)) r ρ = ev_mulk (suc a) r ρ
  ev_pmul (h p q) r ρ =
      ev_padd (mapm (λ s. pmul M p s) r) (mk (k 0) (pmul M q r)) ρ
      ∙ ap₂ ◌⊕◌ (ev_mapm (λ s. pmul M p s) (ev p (tl ρ)) r ρ (λ s. ev_pmul p s (tl ρ)))
      (ev_mk (k 0) (pmul M q r) ρ
      ∙ 𝓡.zero-add (nth (C 0) ρ 0 ⊗ ev (pmul M q r) ρ)
      ∙ 𝓡.red_mul (nth (C 0) ρ 0) (ev (pmul M q r) ρ)
      ∙ ap (λ t. nth (C 0) ρ 0 ⊗ t) (ev_pmul q r ρ)
      ∙ sym (𝓡.mul_assoc (nth (C 0) ρ 0) (ev q ρ) (ev r ρ)))
      ∙ sym (add-mul (ev p (tl ρ)) (nth (C 0) ρ 0 ⊗ ev q ρ) (ev r ρ))

  mul-one : (x : R) → x ⊗ C 1 ≡ 𝓡.red x
  mul-one x = 𝓡.mul_comm x (C 1) ∙ 𝓡.one-mul x

  nth_tl : (i : ℕ) (ρ : List R) → nth (C 0) (tl ρ) i ≡ nth (C 0) ρ (suc i)
  nth_tl i [] = refl
  nth_tl i (x ∷ ρ) = refl

  red_red : (x : R) → 𝓡.red (𝓡.red x) ≡ 𝓡.red x
  red_red x = ap (λ t. 𝓡.red t) (sym (𝓡.zero-add x)) ∙ 𝓡.red_add (C 0) x ∙ 𝓡.zero-add x

  ev_varp : (i : ℕ) (ρ : List R) → ev (varp i) ρ ≡ 𝓡.red (nth (C 0) ρ i)
  unfolding ev
  ev_varp zero ρ = 𝓡.zero-add (nth (C 0) ρ 0 ⊗ C 1) ∙ ap (λ t. 𝓡.red t) (mul-one (nth (C 0) ρ 0)) ∙ red_red (nth (C 0) ρ 0)
  ev_varp (suc i) ρ =
      ap₂ ◌⊕◌ (ev_varp i (tl ρ)) (mul-zero (nth (C 0) ρ 0))
      ∙ add-zero (𝓡.red (nth (C 0) (tl ρ) i)) ∙ red_red (nth (C 0) (tl ρ) i) ∙ ap (λ t. 𝓡.red t) (nth_tl i ρ)

  red_add₂ : (x y : R) → x ⊕ y ≡ 𝓡.red x ⊕ 𝓡.red y
  red_add₂ x y = sym (𝓡.add_comm (𝓡.red x) (𝓡.red y) ∙ 𝓡.add_red (𝓡.red y) x ∙ 𝓡.add_comm (𝓡.red y) x ∙ 𝓡.add_red x y)

  red_mul₂ : (x y : R) → x ⊗ y ≡ 𝓡.red x ⊗ 𝓡.red y
  red_mul₂ x y = sym (𝓡.mul_comm (𝓡.red x) (𝓡.red y) ∙ 𝓡.mul_red (𝓡.red y) x ∙ 𝓡.mul_comm (𝓡.red y) x ∙ 𝓡.mul_red x y)

  norm_sound : (e : Expr) (ρ : List R) → 𝓡.red (den e ρ) ≡ ev (norm M e) ρ
  unfolding ev
  norm_sound (var i) ρ = sym (ev_varp i ρ)
  norm_sound (con a) ρ = 𝓡.c_red a ∙ sym (𝓡.c_mod a)
  norm_sound (a :+ b) ρ =
      𝓡.red_add (den a ρ) (den b ρ) ∙ red_add₂ (den a ρ) (den b ρ)
      ∙ ap₂ ◌⊕◌ (norm_sound a ρ) (norm_sound b ρ) ∙ sym (ev_padd (norm M a) (norm M b) ρ)
  norm_sound (a :* b) ρ =
      𝓡.red_mul (den a ρ) (den b ρ) ∙ red_mul₂ (den a ρ) (den b ρ)
      ∙ ap₂ ◌⊗◌ (norm_sound a ρ) (norm_sound b ρ) ∙ sym (ev_pmul (norm M a) (norm M b) ρ)
  norm_sound (a :- b) ρ =
      ap (λ t. 𝓡.red t) (𝓡.sub_is (den a ρ) (den b ρ))
      ∙ 𝓡.red_add (den a ρ) (C (M - 1) ⊗ den b ρ) ∙ red_add₂ (den a ρ) (C (M - 1) ⊗ den b ρ)
      ∙ ap₂ ◌⊕◌ (norm_sound a ρ)
      (𝓡.red_mul (C (M - 1)) (den b ρ) ∙ sym (𝓡.mul_red (C (M - 1)) (den b ρ)) ∙ ap (λ t. C (M - 1) ⊗ t) (norm_sound b ρ)
      ∙ sym (ev_mulk (M - 1) (norm M b) ρ))
      ∙ sym (ev_padd (norm M a) (mulk M (M - 1) (norm M b)) ρ)
  norm_sound (neg b) ρ =
      ap (λ t. 𝓡.red t) (𝓡.neg_is (den b ρ))
      ∙ 𝓡.red_mul (C (M - 1)) (den b ρ) ∙ sym (𝓡.mul_red (C (M - 1)) (den b ρ)) ∙ ap (λ t. C (M - 1) ⊗ t) (norm_sound b ρ)
      ∙ sym (ev_mulk (M - 1) (norm M b) ρ)

  -- ---- the solver, up to `red`
  pub solve_red : (e₁ e₂ : Expr) → norm 𝓡.m e₁ ≡ norm 𝓡.m e₂ → (ρ : List R) → 𝓡.red (den e₁ ρ) ≡ 𝓡.red (den e₂ ρ)
  solve_red e₁ e₂ q ρ = norm_sound e₁ ρ ∙ ap (λ t. ev t ρ) q ∙ sym (norm_sound e₂ ρ)

  -- what an expression answers: of a variable, what stands for it. Any other expression is left alone by `red`
  abbrev pub out : Expr → List R → R
  out (var i) ρ = 𝓡.red (nth (𝓡.c 0) ρ i)
  out (con a) ρ = 𝓡.c a
  out (a :+ b) ρ = 𝓡.◌⊞◌ (den a ρ) (den b ρ)
  out (a :* b) ρ = 𝓡.◌⊠◌ (den a ρ) (den b ρ)
  out (a :- b) ρ = 𝓡.◌⊟◌ (den a ρ) (den b ρ)
  out (neg a) ρ = 𝓡.opp (den a ρ)

  out_red : (e : Expr) (ρ : List R) → 𝓡.red (den e ρ) ≡ out e ρ
  out_red (var i) ρ = refl
  out_red (con a) ρ = 𝓡.c_red a
  out_red (a :+ b) ρ = 𝓡.red_add (den a ρ) (den b ρ)
  out_red (a :* b) ρ = 𝓡.red_mul (den a ρ) (den b ρ)
  out_red (a :- b) ρ =
      ap (λ t. 𝓡.red t) (𝓡.sub_is (den a ρ) (den b ρ)) ∙ 𝓡.red_add (den a ρ) (C (M - 1) ⊗ den b ρ)
      ∙ sym (𝓡.sub_is (den a ρ) (den b ρ))
  out_red (neg a) ρ = ap (λ t. 𝓡.red t) (𝓡.neg_is (den a ρ)) ∙ 𝓡.red_mul (C (M - 1)) (den a ρ) ∙ sym (𝓡.neg_is (den a ρ))

  -- ---- the solver: `solve 𝓡 e₁ e₂ refl ρ`
  pub solve : (e₁ e₂ : Expr) → norm 𝓡.m e₁ ≡ norm 𝓡.m e₂ → (ρ : List R) → out e₁ ρ ≡ out e₂ ρ
  solve e₁ e₂ q ρ = sym (out_red e₁ ρ) ∙ solve_red e₁ e₂ q ρ ∙ out_red e₂ ρ

  -- ---- from hypotheses: e₁ - e₂ is a combination of the differences of equations that hold
  abbrev pub combo : List Hyp → Expr
  combo [] = con 0
  combo (q ∷ qs) = q.times :* (q.left :- q.right) :+ combo qs

  abbrev pub Imp : List R → List Hyp → Type 0 → Type 0
  Imp ρ [] G = G
  Imp ρ (q ∷ qs) G = out q.left ρ ≡ out q.right ρ → Imp ρ qs G

  abbrev Holds : List R → List Hyp → Type 0
  Holds ρ [] = Unit {0}
  Holds ρ (q ∷ qs) = (out q.left ρ ≡ out q.right ρ) × Holds ρ qs

  curry : (ρ : List R) (qs : List Hyp) (G : Type 0) → (Holds ρ qs → G) → Imp ρ qs G
  curry ρ [] G f = f tt
  curry ρ (q ∷ qs) G f = λ e. curry ρ qs G (λ es. f (e, es))

  module _ (neg_one : 𝓡.◌⊞◌ (𝓡.c 1) (𝓡.c (𝓡.m - 1)) ≡ 𝓡.c 0) where
    minus_self : (x : R) → x ⊕ C (M - 1) ⊗ x ≡ C 0
    minus_self x =
        𝓡.add_comm x (C (M - 1) ⊗ x) ∙ sym (𝓡.add_red (C (M - 1) ⊗ x) x) ∙ 𝓡.add_comm (C (M - 1) ⊗ x) (𝓡.red x)
        ∙ ap (λ t. t ⊕ C (M - 1) ⊗ x) (sym (𝓡.one-mul x)) ∙ sym (add-mul (C 1) (C (M - 1)) x)
        ∙ ap (λ t. t ⊗ x) neg_one ∙ 𝓡.zero-mul x

    minus_same : (x y : R) → 𝓡.red x ≡ 𝓡.red y → 𝓡.◌⊟◌ x y ≡ C 0
    minus_same x y e =
        𝓡.sub_is x y ∙ ap (λ t. x ⊕ t) (sym (𝓡.mul_red (C (M - 1)) y) ∙ ap (λ t. C (M - 1) ⊗ t) (sym e) ∙ 𝓡.mul_red (C (M - 1)) x)
        ∙ minus_self x

    same_of_minus : (x y : R) → 𝓡.◌⊟◌ x y ≡ C 0 → 𝓡.red x ≡ 𝓡.red y
    same_of_minus x y e =
        sym (add-zero x) ∙ ap (λ t. x ⊕ t) (sym (minus_self y)) ∙ sym (𝓡.add_assoc x y (C (M - 1) ⊗ y))
        ∙ ap (λ t. t ⊕ C (M - 1) ⊗ y) (𝓡.add_comm x y) ∙ 𝓡.add_assoc y x (C (M - 1) ⊗ y)
        ∙ ap (λ t. y ⊕ t) (sym (𝓡.sub_is x y) ∙ e) ∙ add-zero y

    combo_zero : (qs : List Hyp) (ρ : List R) → Holds ρ qs → den (combo qs) ρ ≡ C 0
    combo_zero [] ρ t = refl
    combo_zero (q ∷ qs) ρ (e, es) =
        ap₂ ◌⊕◌
        (ap (λ t. den q.times ρ ⊗ t) (minus_same (den q.left ρ) (den q.right ρ) (out_red q.left ρ ∙ e ∙ sym (out_red q.right ρ)))
        ∙ mul-zero (den q.times ρ))
        (combo_zero qs ρ es)
        ∙ add-zero (C 0) ∙ 𝓡.c_red 0

    pub combine : (qs : List Hyp) (e₁ e₂ : Expr) → norm 𝓡.m (e₁ :- e₂) ≡ norm 𝓡.m (combo qs) → (ρ : List R)
        → Imp ρ qs (out e₁ ρ ≡ out e₂ ρ)
    combine qs e₁ e₂ n ρ =
        curry ρ qs (out e₁ ρ ≡ out e₂ ρ) (λ es.
        sym (out_red e₁ ρ)
        ∙ same_of_minus (den e₁ ρ) (den e₂ ρ)
        (sym (out_red (e₁ :- e₂) ρ) ∙ solve_red (e₁ :- e₂) (combo qs) n ρ ∙ ap (λ t. 𝓡.red t) (combo_zero qs ρ es) ∙ 𝓡.c_red 0)
        ∙ out_red e₂ ρ)
