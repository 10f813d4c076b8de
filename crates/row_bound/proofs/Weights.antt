-- Sums over initial segments of the numbers. An injection picks no more than the whole sum (`picked`), and weights that stand for runs of places
-- which do not meet and lie inside [0, n) sum to at most n (`runs_fit`). Assumes nothing.
use Prim.Native.Nat.{ℕ, zero, suc, ◌+◌, ◌≤◌, ◌<◌}
use mathlib.Core.Path.{◌≡◌, refl, sym, ap, ap₂, ◌∙◌}
use mathlib.Core.Logic.{◌≢◌, ◌⊎◌, inl, inr}
use native.Mathlib.Nat.{le_refl, le_step}
use native.Mathlib.Decide.{ℕ_discrete}
use native.Mathlib.Omega.{arith}
use mathlib.Core.Bool.{Bool, true, false}
use lib.Dec.{ltb}
use borrow.Author.Tests.{ltb-true, ltb-false}
use Rattle.field.proofs.Counting.{choose, choose_cases, Injection}

-- w 0 + .. + w (n - 1)
unfoldable pub sum_to : ℕ → (ℕ → ℕ) → ℕ
sum_to zero w = 0
sum_to (suc n) w = sum_to n w + w n

pub sum_ext : (n : ℕ) (v w : ℕ → ℕ) → ((i : ℕ) → i < n → v i ≡ w i) → sum_to n v ≡ sum_to n w
unfolding sum_to
sum_ext zero v w h = refl
sum_ext (suc n) v w h = ap₂ (λ (x y : ℕ). x + y) (sum_ext n v w (λ i l. h i (le_step l))) (h n (le_refl (suc n)))

-- the first summand taken apart
pub sum_first : (n : ℕ) (w : ℕ → ℕ) → sum_to (suc n) w ≡ w 0 + sum_to n (λ i. w (suc i))
unfolding sum_to
sum_first zero w = omega arith
sum_first (suc n) w = let h = sum_first n w in omega (arith, h)

-- ---- an injection picks no more than the whole sum

-- w, but 0 at j
without : (ℕ → ℕ) → ℕ → ℕ → ℕ
without w j x = choose (ℕ_discrete x j) 0 (w x)

without_cases : (w : ℕ → ℕ) (j x : ℕ) → ((x ≡ j) × (without w j x ≡ 0)) ⊎ ((x ≢ j) × (without w j x ≡ w x))
unfolding without
without_cases w j x = choose_cases (ℕ_discrete x j) 0 (w x)

without_at : (w : ℕ → ℕ) (j : ℕ) → without w j j ≡ 0
without_at w j = pick (without_cases w j j)
  where
    pick : ((j ≡ j) × (without w j j ≡ 0)) ⊎ ((j ≢ j) × (without w j j ≡ w j)) → without w j j ≡ 0
    pick (inl c) = c.1
    pick (inr c) = absurd (c.0 refl)

without_off : (w : ℕ → ℕ) (j x : ℕ) → x ≢ j → without w j x ≡ w x
without_off w j x h = pick (without_cases w j x)
  where
    pick : ((x ≡ j) × (without w j x ≡ 0)) ⊎ ((x ≢ j) × (without w j x ≡ w x)) → without w j x ≡ w x
    pick (inl c) = absurd (h c.0)
    pick (inr c) = c.1

sum_without : (n j : ℕ) (w : ℕ → ℕ) → j < n → sum_to n w ≡ sum_to n (without w j) + w j
unfolding sum_to
sum_without zero j w l = absurd (omega arith)
sum_without (suc n) j w l = pick (ℕ_discrete n j) (λ q. sum_without n j w q)
  where
    pick : Dec (n ≡ j) → (j < n → sum_to n w ≡ sum_to n (without w j) + w j) → sum_to n w + w n ≡ sum_to n (without w j) + without w j n + w j
    pick (yes e) r =
        let same = sum_ext n (without w j) w (λ i q. without_off w j i (omega arith)) in
        let gone : without w j n ≡ 0 = ap (without w j) e ∙ without_at w j in
        let last : w n ≡ w j = ap w e in
        omega arith
    pick (no q) r = let same = without_off w j n q in let rest = r (omega arith) in omega arith

pub picked : (m n : ℕ) (σ : ℕ → ℕ) → Injection m n σ → (w : ℕ → ℕ) → sum_to m (λ i. w (σ i)) ≤ sum_to n w
unfolding sum_to
picked zero n σ s w = omega arith
picked (suc m) n σ s w =
    let j = σ m in
    let rest = picked m n σ (record { below = λ i l. s.below i (le_step l); inj = λ a b p q e. s.inj a b (le_step p) (le_step q) e }) (without w j) in
    let same : sum_to m (λ i. w (σ i)) ≡ sum_to m (λ i. without w j (σ i)) = sum_ext m _ _ (λ i l. sym (without_off w j (σ i) (other i l))) in
    let whole = sum_without n j w (s.below m (le_refl (suc m))) in
    omega arith
  where
    other : (i : ℕ) → i < m → σ i ≢ σ m
    other i l e = let q : i ≡ m = s.inj i m (le_step l) (le_refl (suc m)) e in omega arith

-- ---- runs of places

-- the sum of the first m weights ends inside [0, n), and the weights up to there are 0
record Reach (n : ℕ) (w : ℕ → ℕ) (m : ℕ) : Type 0 where
  end : ℕ
  within : end ≤ n
  covers : sum_to m w ≤ end
  free : (x : ℕ) → m ≤ x → x < end → w x ≡ 0

module _ (n : ℕ) (w : ℕ → ℕ)
    (inside : (i : ℕ) → i < n → w i ≢ 0 → i + w i ≤ n)
    (apart : (i x : ℕ) → i < n → i < x → x < i + w i → w x ≡ 0) where
  -- a run that begins at m is not begun before the last one has ended
  not_before : {m : ℕ} (r : Reach n w m) → w m ≢ 0 → r.end ≤ m
  not_before {m} r z = go (ltb m r.end) refl
    where
      go : (t : Bool) → ltb m r.end ≡ t → r.end ≤ m
      go true e = absurd (z (r.free m (le_refl m) (ltb-true m r.end e)))
      go false e = ltb-false m r.end e

  reach : (m : ℕ) → m ≤ n → Reach n w m
  unfolding sum_to
  reach zero h = record { end = 0; within = omega arith; covers = omega arith; free = λ x a b. absurd (omega arith) }
  reach (suc m) h = go (reach m (omega arith)) (ℕ_discrete (w m) 0)
    where
      go : Reach n w m → Dec (w m ≡ 0) → Reach n w (suc m)
      go r (yes z) = record { end = r.end; within = r.within; covers = omega (arith, r.covers); free = λ x a b. r.free x (omega arith) b }
      go r (no z) =
          let i = inside m (omega arith) z in
          let passed : r.end ≤ m = not_before r z in
          record { end = m + w m; within = i; covers = omega (arith, r.covers); free = λ x a b. apart m x (omega arith) (omega arith) b }

  pub runs_fit : sum_to n w ≤ n
  runs_fit = let r = reach n (omega arith) in omega (arith, r.covers, r.within)
