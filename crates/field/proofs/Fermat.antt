-- Modulo a prime n: every a that is not 0 has an inverse, a product is 0 only where a factor is (Euclid's lemma), a factor that
-- is not 0 cancels, and a^(n - 1) is 1 (Fermat's little theorem). The inverse is found by going down from a to n % a, since
-- a (n - n / a) is n % a modulo n, until 1 is reached. Fermat's theorem compares the product of 1 .. n - 1 with that of their
-- multiples by a, the same numbers in another order. At the end the same at p. Assumes nothing.
use Rattle.std.proofs.Common.{◌≡◌, ℕ, zero, suc, pred, ◌+◌, ◌-◌, ◌*◌, ◌/◌, ◌%◌, ◌^◌, ◌<◌, ◌≤◌, ◌≢◌, ◌⊎◌, sym, ap, ◌∙◌, inl, inr, le_refl, not-suc-le-zero, mod-lt, mod-eq_of_lt, zero-lt-suc, mul_assoc, mul_comm, pow-suc, mul-zero, div-add-mod', mul-one, div-le_self, arith}
use native.Mathlib.Nat.{pow-zero, zero-mod, suc_inj, le_step, dvd_of_mod-eq-zero, mul-add-mod_self_right, mul-mul-mul_comm}
use native.Mathlib.Decide.{ℕ_discrete}
use Rattle.field.proofs.Congruence.{Cong, c_eq, c_refl, c_sym, ◌⨾◌, c_mod, c_mul, c_below, c_cancel}
use Rattle.field.proofs.Counting.{Injection, product, product_permuted}
use Rattle.field.proofs.Primality.{p_prime}
use Rattle.field.specs.Elements.{p}
use Rattle.field.specs.Primes.{Prime}

-- one step of the inverse: n = a * q + r gives a * (n - q) ≡ r
pub inv_step : (n a : ℕ) → 0 < a → a < n → Cong n (a * (n - n / a)) (n % a)
inv_step n zero l h = elim l [ ]
inv_step n (suc b) l h = c_eq eq ⨾ record { same = mul-add-mod_self_right b n (n % suc b) }
  where
    qw : n ≡ n / suc b + (n - n / suc b)
    qw = omega (arith, div-le_self n (suc b))

    eq : suc b * (n - n / suc b) ≡ b * n + n % suc b
    eq = omega (arith, qw, div-add-mod' n (suc b), ap (λ (x : ℕ). b * x) qw)

module _ (n : ℕ) (pr : Prime n) where
  one_lt : 1 < n
  unfolding Prime
  one_lt = pr.0

  -- what is between 1 and n leaves a rest
  pub rest : (a : ℕ) → 1 < a → a < n → 0 < n % a
  unfolding Prime
  rest a l h = pick (ℕ_discrete (n % a) 0)
    where
      no_div : (a ≡ 1) ⊎ (a ≡ n) → ⊥
      no_div (inl e) = omega arith
      no_div (inr e) = omega arith

      pick : Dec (n % a ≡ 0) → 0 < n % a
      pick (yes e) = absurd (no_div (pr.1 a (dvd_of_mod-eq-zero a e)))
      pick (no f) = omega arith

  -- from x * acc ≡ a down to x * c ≡ 1
  inv_go : (f a x acc : ℕ) → a ≤ f → 0 < a → a < n → Cong n (x * acc) a → (c : ℕ) × Cong n (x * c) 1
  inv_go zero a x acc b l h e = absurd (not-suc-le-zero {n = 0} (omega arith))
  inv_go (suc f) a x acc b l h e =
      pick (ℕ_discrete a 1) (λ lo hi. inv_go f (n % a) x (acc * (n - n / a)) hi lo (omega (arith, mod-lt n l)) next)
    where
      next : Cong n (x * (acc * (n - n / a))) (n % a)
      next = c_eq (sym (mul_assoc x acc (n - n / a))) ⨾ c_mul e c_refl ⨾ inv_step n a l h

      pick : Dec (a ≡ 1) → (0 < n % a → n % a ≤ f → (c : ℕ) × Cong n (x * c) 1) → (c : ℕ) × Cong n (x * c) 1
      pick (yes q) r = (acc, e ⨾ c_eq q)
      pick (no q) r = r (rest a (omega arith) h) (omega (arith, mod-lt n l))

  pub inverse : (a : ℕ) → a % n ≢ 0 → (c : ℕ) × Cong n (a * c) 1
  inverse a h =
      inv_go (a % n) (a % n) a 1 (le_refl (a % n)) (omega arith) (mod-lt a (omega (arith, one_lt)))
      (c_eq (mul-one a) ⨾ c_sym c_mod)

  pub c_zero : {a : ℕ} → a % n ≡ 0 → Cong n a 0
  c_zero h = record { same = h ∙ sym (zero-mod n) }

  pub zero_c : {a : ℕ} → Cong n a 0 → a % n ≡ 0
  zero_c h = h.same ∙ zero-mod n

  -- no zero divisors
  pub euclid : (a b : ℕ) → a * b % n ≡ 0 → (a % n ≡ 0) ⊎ (b % n ≡ 0)
  euclid a b h = pick (ℕ_discrete (a % n) 0)
    where
      pick : Dec (a % n ≡ 0) → (a % n ≡ 0) ⊎ (b % n ≡ 0)
      pick (yes z) = inl z
      pick (no f) = let i = inverse a f in inr (zero_c (c_cancel a i.0 i.1 (c_zero h ⨾ c_eq (sym (mul-zero a)))))

  pub not_zero : (a b : ℕ) → a % n ≢ 0 → b % n ≢ 0 → a * b % n ≢ 0
  not_zero a b f g h = pick (euclid a b h)
    where
      pick : (a % n ≡ 0) ⊎ (b % n ≡ 0) → ⊥
      pick (inl e) = f e
      pick (inr e) = g e

  pub cancel_c : {x y : ℕ} (a : ℕ) → a % n ≢ 0 → Cong n (a * x) (a * y) → Cong n x y
  cancel_c a f e = let i = inverse a f in c_cancel a i.0 i.1 e

  product_cong : (k : ℕ) (f g : ℕ → ℕ) → ((i : ℕ) → i < k → Cong n (f i) (g i)) → Cong n (product k f) (product k g)
  unfolding product
  product_cong zero f g h = c_refl
  product_cong (suc k) f g h = c_mul (product_cong k f g (λ i l. h i (le_step l))) (h k (le_refl (suc k)))

  product_not_zero : (k : ℕ) (f : ℕ → ℕ) → ((i : ℕ) → i < k → f i % n ≢ 0) → product k f % n ≢ 0
  unfolding product
  product_not_zero zero f h e = omega (arith, sym (mod-eq_of_lt one_lt) ∙ e)
  product_not_zero (suc k) f h e = not_zero (product k f) (f k) (product_not_zero k f (λ i l. h i (le_step l))) (h k (le_refl (suc k))) e

product_scale : (k a : ℕ) (f : ℕ → ℕ) → product k (λ i. a * f i) ≡ a ^ k * product k f
unfolding product
product_scale zero a f = sym (mul-one (a ^ 0) ∙ pow-zero a)
product_scale (suc k) a f =
    ap (λ (x : ℕ). x * (a * f k)) (product_scale k a f) ∙ mul-mul-mul_comm (a ^ k) (product k f) a (f k)
    ∙ ap (λ (x : ℕ). x * (product k f * f k)) (sym (pow-suc a k))

module _ (m : ℕ) (pr : Prime (suc m)) (a : ℕ) (nz : a % suc m ≢ 0) where
  -- the multiple of suc i by a, reduced: v permutes 1 .. m
  v : ℕ → ℕ
  v i = a * suc i % suc m

  suc_not_zero : (i : ℕ) → i < m → suc i % suc m ≢ 0
  suc_not_zero i l e = omega (arith, sym (mod-eq_of_lt {n = suc i} {m = suc m} (omega arith)) ∙ e)

  v_pos : (i : ℕ) → i < m → 0 < v i
  unfolding v
  v_pos i l =
      let h : a * suc i % suc m ≢ 0 = not_zero (suc m) pr a (suc i) nz (suc_not_zero i l)
      in omega arith

  times : Injection m m (λ i. pred (v i))
  unfolding v
  times = record { below = λ i l. omega (arith, v_pos i l, mod-lt (a * suc i) (zero-lt-suc m)); inj = inj₁ }
    where
      inj₁ : (i j : ℕ) → i < m → j < m → pred (v i) ≡ pred (v j) → i ≡ j
      inj₁ i j hi hj e =
          let w : a * suc i % suc m ≡ a * suc j % suc m = omega (arith, v_pos i hi, v_pos j hj, e)
          in suc_inj (c_below {m = suc m} (omega arith) (omega arith) (cancel_c (suc m) pr a nz (record { same = w })))

  fermat₀ : Cong (suc m) (a ^ m * product m suc) (product m suc)
  unfolding v
  fermat₀ =
      c_eq (sym (product_scale m a suc))
      ⨾ product_cong (suc m) pr m (λ i. a * suc i) (λ i. suc (pred (v i))) (λ i l. c_sym c_mod ⨾ c_eq (omega (arith, v_pos i l)))
      ⨾ c_eq (product_permuted m (λ i. pred (v i)) times suc)

  pub fermat : Cong (suc m) (a ^ m) 1
  fermat =
      cancel_c (suc m) pr (product m suc) (product_not_zero (suc m) pr m suc suc_not_zero)
      (c_eq (mul_comm (product m suc) (a ^ m)) ⨾ fermat₀ ⨾ c_eq (sym (mul-one (product m suc))))

-- ---- at p
pub p_euclid : (a b : ℕ) → a * b % p ≡ 0 → (a % p ≡ 0) ⊎ (b % p ≡ 0)
p_euclid = euclid p p_prime

pub p_inverse : (a : ℕ) → a % p ≢ 0 → (c : ℕ) × (a * c % p ≡ 1)
p_inverse a h = let i = inverse p p_prime a h in (i.0, i.1.same)

pub p_fermat : (a : ℕ) → a % p ≢ 0 → a ^ (p - 1) % p ≡ 1
p_fermat a h = (fermat 18446744069414584320 p_prime a h).same

-- a factor that is not 0 cancels
pub p_cancel : {x y : ℕ} (a : ℕ) → a % p ≢ 0 → Cong p (a * x) (a * y) → Cong p x y
p_cancel a h e = cancel_c p p_prime a h e
