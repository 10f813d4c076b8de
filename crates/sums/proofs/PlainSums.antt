-- Sums of extension elements over the first n places. They depend on these alone (sum_x_cong), and where one place changes, the sum loses what stood
-- there and gains what stands there now (sum_one). Assumes nothing.
use Prim.Native.Nat.{ℕ, zero, suc, ◌<◌}
use mathlib.Core.Path.{◌≡◌, refl, sym, ap, ◌∙◌}
use mathlib.Core.Logic.{◌≢◌}
use native.Mathlib.Decide.{ℕ_discrete}
use native.Mathlib.Omega.{arith}
use Rattle.xfield.specs.Extension.{Ext, zero_x, add_x, Reduced}
use Rattle.xfield.proofs.Laws.{add_x_reduced, add_x_exchange, zero_x_reduced}

-- ---- the sum over the first n places

unfoldable pub sum_x : (ℕ → Ext) → ℕ → Ext
sum_x f zero = zero_x
sum_x f (suc n) = add_x (sum_x f n) (f n)

pub sum_x_reduced : (f : ℕ → Ext) (n : ℕ) → Reduced (sum_x f n)
unfolding sum_x
sum_x_reduced f zero = zero_x_reduced
sum_x_reduced f (suc n) = add_x_reduced _ _

pub sum_x_cong : (f g : ℕ → Ext) (n : ℕ) → ((i : ℕ) → i < n → f i ≡ g i) → sum_x f n ≡ sum_x g n
unfolding sum_x
sum_x_cong f g zero e = refl
sum_x_cong f g (suc n) e = rw (e n (omega arith), sum_x_cong f g n (λ i h. e i (omega arith)))

-- ---- one place changes

pub sum_one : (f g : ℕ → Ext) (n i : ℕ) → i < n → ((j : ℕ) → j < n → j ≢ i → f j ≡ g j) → add_x (sum_x g n) (f i) ≡ add_x (sum_x f n) (g i)
unfolding sum_x
sum_one f g zero i h e = absurd (omega arith)
sum_one f g (suc n) i h e = go (λ k. sum_one f g n i k (λ j m z. e j (omega arith) z)) (ℕ_discrete i n) where
  go : (i < n → add_x (sum_x g n) (f i) ≡ add_x (sum_x f n) (g i)) → Dec (i ≡ n)
      → add_x (add_x (sum_x g n) (g n)) (f i) ≡ add_x (add_x (sum_x f n) (f n)) (g i)
  go before (yes q) =
      let same : sum_x g n ≡ sum_x f n = sym (sum_x_cong f g n (λ j k. e j (omega arith) (λ z. omega arith))) in
      rw (q, same) (add_x_exchange (sum_x f n) (g n) (f n))
  go before (no q) =
      add_x_exchange (sum_x g n) (g n) (f i)
      ∙ ap (λ (t : Ext). add_x t (g n)) (before (omega arith))
      ∙ add_x_exchange (sum_x f n) (g i) (g n)
      ∙ ap (λ (t : Ext). add_x (add_x (sum_x f n) t) (g i)) (sym (e n (omega arith) (λ z. q (sym z))))
