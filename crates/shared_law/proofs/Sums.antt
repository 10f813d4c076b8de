-- Sums of numbers over the first n places. Assumes nothing.
use Prim.Native.Nat.{ℕ, zero, suc, ◌+◌, ◌≤◌, ◌<◌}
use mathlib.Core.Path.{◌≡◌, refl, sym, ap}
use mathlib.Core.Logic.{◌≢◌}
use native.Mathlib.Nat.{add-zero, add-suc}
use native.Mathlib.Decide.{ℕ_discrete}
use native.Mathlib.Omega.{arith}

unfoldable pub sum_to : (ℕ → ℕ) → ℕ → ℕ
sum_to f zero = 0
sum_to f (suc n) = sum_to f n + f n

pub sum_cong : (f g : ℕ → ℕ) (n : ℕ) → ((i : ℕ) → i < n → f i ≡ g i) → sum_to f n ≡ sum_to g n
unfolding sum_to
sum_cong f g zero e = refl
sum_cong f g (suc n) e = rw (e n (omega arith), sum_cong f g n (λ i h. e i (omega arith)))

-- one place is changed
pub sum_one : (f g : ℕ → ℕ) (n i : ℕ) → i < n → ((j : ℕ) → j < n → j ≢ i → f j ≡ g j) → sum_to g n + f i ≡ sum_to f n + g i
unfolding sum_to
sum_one f g zero i h e = absurd (omega arith)
sum_one f g (suc n) i h e = go (λ k. sum_one f g n i k (λ j m z. e j (omega arith) z)) (ℕ_discrete i n) where
  go : (i < n → sum_to g n + f i ≡ sum_to f n + g i) → Dec (i ≡ n) → sum_to g (suc n) + f i ≡ sum_to f (suc n) + g i
  go before (yes q) =
      let same : sum_to f n ≡ sum_to g n = sum_cong f g n (λ j k. e j (omega arith) (λ z. omega arith)) in
      let a = ap f q in
      let b = ap g q in
      omega arith
  go before (no q) =
      let rest = before (omega arith) in
      let last = e n (omega arith) (λ z. q (sym z)) in
      omega arith

-- places from u on bring nothing
pub sum_longer : (f g : ℕ → ℕ) (u d : ℕ) → ((i : ℕ) → i < u → g i ≡ f i) → ((i : ℕ) → u ≤ i → i < u + d → g i ≡ 0) → sum_to g (u + d) ≡ sum_to f u
unfolding sum_to
sum_longer f g u zero e z = rw add-zero (sum_cong g f u e)
sum_longer f g u (suc d) e z =
    let last = z (u + d) (omega arith) (omega arith) in
    let before = sum_longer f g u d e (λ i a b. z i a (omega arith)) in
    rw add-suc (omega arith)

-- each place brings at most one
pub sum_bound : (f : ℕ → ℕ) (n : ℕ) → ((i : ℕ) → i < n → f i ≤ 1) → sum_to f n ≤ n
unfolding sum_to
sum_bound f zero b = omega arith
sum_bound f (suc n) b = omega (arith, b n (omega arith), sum_bound f n (λ i h. b i (omega arith)))

-- and one place brings nothing
pub sum_less : (f : ℕ → ℕ) (n i : ℕ) → ((j : ℕ) → j < n → f j ≤ 1) → i < n → f i ≡ 0 → sum_to f n < n
unfolding sum_to
sum_less f zero i b h z = absurd (omega arith)
sum_less f (suc n) i b h z = go (λ k. sum_less f n i (λ j m. b j (omega arith)) k z) (ℕ_discrete i n) where
  go : (i < n → sum_to f n < n) → Dec (i ≡ n) → sum_to f (suc n) < suc n
  go before (yes q) = let a = ap f q in omega (arith, sum_bound f n (λ j k. b j (omega arith)))
  go before (no q) = omega (arith, b n (omega arith), before (omega arith))

-- a sum is 0 exactly where each place brings nothing
pub sum_none : (f : ℕ → ℕ) (n : ℕ) → ((i : ℕ) → i < n → f i ≡ 0) → sum_to f n ≡ 0
unfolding sum_to
sum_none f zero e = refl
sum_none f (suc n) e = omega (arith, e n (omega arith), sum_none f n (λ i h. e i (omega arith)))

pub sum_zero : (f : ℕ → ℕ) (n : ℕ) → sum_to f n ≡ 0 → (i : ℕ) → i < n → f i ≡ 0
unfolding sum_to
sum_zero f zero e i h = absurd (omega arith)
sum_zero f (suc n) e i h = go (λ k. sum_zero f n (omega arith) i k) (ℕ_discrete i n) where
  go : (i < n → f i ≡ 0) → Dec (i ≡ n) → f i ≡ 0
  go before (yes q) = let a = ap f q in omega arith
  go before (no q) = before (omega arith)
