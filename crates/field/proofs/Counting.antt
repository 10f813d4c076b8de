-- Counting with injections between initial segments of the numbers, without lists. An injection of [0, n) into [0, k) has
-- n ≤ k (`pigeonhole`, which shows p prime), and one of [0, n) into itself leaves every product over [0, n) as it is
-- (`product_permuted`, which gives Fermat's little theorem). Both go by induction on n: the last place is taken away, and the
-- place that went to the top value is sent to where the last one went (`redirect`). Assumes nothing.
use Rattle.std.proofs.Common.{◌≡◌, ℕ, zero, suc, ◌*◌, ◌<◌, ◌≤◌, ◌≢◌, ◌⊎◌, sym, refl, ap, ◌∙◌, ap₂, inl, inr, suc-le-suc, zero-le, le_refl, not-suc-le-zero, mul_right_comm, arith}
use native.Mathlib.Nat.{le_step}
use native.Mathlib.Decide.{ℕ_discrete}

-- a where d says yes, and b where it says no
pub choose : {P : Type 0} → Dec P → ℕ → ℕ → ℕ
choose (yes q) a b = a
choose (no q) a b = b

pub choose_cases : {P : Type 0} (d : Dec P) (a b : ℕ) → (P × (choose d a b ≡ a)) ⊎ ((P → ⊥) × (choose d a b ≡ b))
unfolding choose
choose_cases (yes q) a b = inl (q, refl)
choose_cases (no q) a b = inr (q, refl)

-- σ takes [0, n) into [0, k), no two places to one
pub record Injection (n k : ℕ) (σ : ℕ → ℕ) : Type 0 where
  pub below : (i : ℕ) → i < n → σ i < k
  pub inj : (i j : ℕ) → i < n → j < n → σ i ≡ σ j → i ≡ j

-- σ on [0, n), but what went to the top value k goes to σ n instead
pub redirect : ℕ → ℕ → (ℕ → ℕ) → ℕ → ℕ
redirect n k σ i = choose (ℕ_discrete (σ i) k) (σ n) (σ i)

pub redirect_cases : (n k : ℕ) (σ : ℕ → ℕ) (i : ℕ)
    → ((σ i ≡ k) × (redirect n k σ i ≡ σ n)) ⊎ ((σ i ≢ k) × (redirect n k σ i ≡ σ i))
unfolding redirect
redirect_cases n k σ i = choose_cases (ℕ_discrete (σ i) k) (σ n) (σ i)

pub redirect_injection : {n k : ℕ} {σ : ℕ → ℕ} → Injection (suc n) (suc k) σ → Injection n k (redirect n k σ)
redirect_injection {n} {k} {σ} s = record { below = bel; inj = inj₂ }
  where
    up : {i : ℕ} → i < n → i < suc n
    up h = le_step h

    ne : (i : ℕ) → i < n → σ i ≢ σ n
    ne i h e = let q : i ≡ n = s.inj i n (up h) (le_refl (suc n)) e in omega arith

    bel : (i : ℕ) → i < n → redirect n k σ i < k
    bel i h = pick (redirect_cases n k σ i)
      where
        pick : ((σ i ≡ k) × (redirect n k σ i ≡ σ n)) ⊎ ((σ i ≢ k) × (redirect n k σ i ≡ σ i)) → redirect n k σ i < k
        pick (inl c) = omega (arith, ne i h, s.below n (le_refl (suc n)))
        pick (inr c) = omega (arith, s.below i (up h))

    inj₂ : (i j : ℕ) → i < n → j < n → redirect n k σ i ≡ redirect n k σ j → i ≡ j
    inj₂ i j hi hj e = pick (redirect_cases n k σ i) (redirect_cases n k σ j)
      where
        pick : ((σ i ≡ k) × (redirect n k σ i ≡ σ n)) ⊎ ((σ i ≢ k) × (redirect n k σ i ≡ σ i))
            → ((σ j ≡ k) × (redirect n k σ j ≡ σ n)) ⊎ ((σ j ≢ k) × (redirect n k σ j ≡ σ j)) → i ≡ j
        pick (inl c) (inl d) = s.inj i j (up hi) (up hj) (c.0 ∙ sym d.0)
        pick (inl c) (inr d) = absurd (ne j hj (sym d.1 ∙ sym e ∙ c.1))
        pick (inr c) (inl d) = absurd (ne i hi (sym c.1 ∙ e ∙ d.1))
        pick (inr c) (inr d) = s.inj i j (up hi) (up hj) (sym c.1 ∙ e ∙ d.1)

pub pigeonhole : (n k : ℕ) (σ : ℕ → ℕ) → Injection n k σ → n ≤ k
pigeonhole zero k σ s = zero-le
pigeonhole (suc n) zero σ s = absurd (not-suc-le-zero (s.below zero (suc-le-suc zero-le)))
pigeonhole (suc n) (suc k) σ s = suc-le-suc (pigeonhole n k (redirect n k σ) (redirect_injection s))

-- the product of f 0 .. f (n - 1)
unfoldable pub product : ℕ → (ℕ → ℕ) → ℕ
product zero f = 1
product (suc n) f = product n f * f n

pub product_ext : (n : ℕ) (f g : ℕ → ℕ) → ((i : ℕ) → i < n → f i ≡ g i) → product n f ≡ product n g
unfolding product
product_ext zero f g h = refl
product_ext (suc n) f g h = ap₂ (λ (x y : ℕ). x * y) (product_ext n f g (λ i l. h i (le_step l))) (h n (le_refl (suc n)))

-- two products that differ in the factor at j only
pub product_change : (n j : ℕ) (f g : ℕ → ℕ) → j < n → ((i : ℕ) → i ≢ j → f i ≡ g i) → product n f * g j ≡ product n g * f j
unfolding product
product_change zero j f g l h = absurd (not-suc-le-zero l)
product_change (suc n) j f g l h = pick (ℕ_discrete n j) (λ q. product_change n j f g q h)
  where
    pick : Dec (n ≡ j) → (j < n → product n f * g j ≡ product n g * f j) → product n f * f n * g j ≡ product n g * g n * f j
    pick (yes e) r =
        ap₂ (λ (x y : ℕ). x * f n * y) (product_ext n f g (λ i q. h i (omega arith))) (ap g (sym e))
        ∙ mul_right_comm (product n g) (f n) (g n) ∙ ap (λ (y : ℕ). product n g * g n * y) (ap f e)
    pick (no q) r =
        ap (λ (y : ℕ). product n f * y * g j) (h n q) ∙ mul_right_comm (product n f) (g n) (g j)
        ∙ ap (λ (x : ℕ). x * g n) (r (omega arith)) ∙ mul_right_comm (product n g) (f j) (g n)

-- f with the value f n replaced at m
replaced : (ℕ → ℕ) → ℕ → ℕ → ℕ → ℕ
replaced f m n x = choose (ℕ_discrete x m) (f n) (f x)

replaced_cases : (f : ℕ → ℕ) (m n x : ℕ) → ((x ≡ m) × (replaced f m n x ≡ f n)) ⊎ ((x ≢ m) × (replaced f m n x ≡ f x))
unfolding replaced
replaced_cases f m n x = choose_cases (ℕ_discrete x m) (f n) (f x)

replaced_at : (f : ℕ → ℕ) (m n : ℕ) → replaced f m n m ≡ f n
replaced_at f m n = pick (replaced_cases f m n m)
  where
    pick : ((m ≡ m) × (replaced f m n m ≡ f n)) ⊎ ((m ≢ m) × (replaced f m n m ≡ f m)) → replaced f m n m ≡ f n
    pick (inl c) = c.1
    pick (inr c) = absurd (c.0 refl)

replaced_off : (f : ℕ → ℕ) (m n x : ℕ) → x ≢ m → replaced f m n x ≡ f x
replaced_off f m n x h = pick (replaced_cases f m n x)
  where
    pick : ((x ≡ m) × (replaced f m n x ≡ f n)) ⊎ ((x ≢ m) × (replaced f m n x ≡ f x)) → replaced f m n x ≡ f x
    pick (inl c) = absurd (h c.0)
    pick (inr c) = c.1

-- the factors in another order
pub product_permuted : (n : ℕ) (σ : ℕ → ℕ) → Injection n n σ → (f : ℕ → ℕ) → product n (λ i. f (σ i)) ≡ product n f
unfolding product
product_permuted zero σ s f = refl
product_permuted (suc n) σ s f =
    ap (λ (x : ℕ). x * f (σ n))
    (product_ext n (λ i. f (σ i)) (λ i. replaced f (σ n) n (redirect n n σ i)) same
    ∙ product_permuted n (redirect n n σ) (redirect_injection s) (replaced f (σ n) n))
    ∙ last (ℕ_discrete (σ n) n)
  where
    ne : (i : ℕ) → i < n → σ i ≢ σ n
    ne i h e = let q : i ≡ n = s.inj i n (le_step h) (le_refl (suc n)) e in omega arith

    same : (i : ℕ) → i < n → f (σ i) ≡ replaced f (σ n) n (redirect n n σ i)
    same i h = pick (redirect_cases n n σ i)
      where
        pick : ((σ i ≡ n) × (redirect n n σ i ≡ σ n)) ⊎ ((σ i ≢ n) × (redirect n n σ i ≡ σ i))
            → f (σ i) ≡ replaced f (σ n) n (redirect n n σ i)
        pick (inl c) = ap f c.0 ∙ sym (replaced_at f (σ n) n) ∙ ap (replaced f (σ n) n) (sym c.1)
        pick (inr c) = sym (replaced_off f (σ n) n (σ i) (ne i h)) ∙ ap (replaced f (σ n) n) (sym c.1)

    last : Dec (σ n ≡ n) → product n (replaced f (σ n) n) * f (σ n) ≡ product n f * f n
    last (yes e) = ap₂ (λ (x y : ℕ). x * y) (product_ext n (replaced f (σ n) n) f (λ i h. replaced_off f (σ n) n i (omega arith))) (ap f e)
    last (no q) =
        product_change n (σ n) (replaced f (σ n) n) f (omega (arith, s.below n (le_refl (suc n)))) (λ i h. replaced_off f (σ n) n i h)
        ∙ ap (λ (y : ℕ). product n f * y) (replaced_at f (σ n) n)
