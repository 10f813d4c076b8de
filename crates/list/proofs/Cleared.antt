-- Clearing places past an array's end changes nothing (clear_capped), so what is cleared up to a place, or to the array's end where that is nearer, is
-- cleared up to the place (clear_to_end). Assumes nothing.
use Rattle.std.proofs.Common.{◌≡◌, ℕ, ◌+◌, ◌-◌, ◌≤◌, ◌<◌, zero, suc, min, Bool, true, false, List, [], ◌∷◌, length, set, replicate, refl, sym, ap, ◌∙◌, arith}
use Rattle.std.proofs.lemmas.Bool.{ltb-true, ltb-false}
use Rattle.std.proofs.lemmas.List.{set_past}
use Rattle.std.proofs.lemmas.List.Edits.{sets}
use lib.Dec.{ltb}
use lib.ListN.{length-set}
use native.Mathlib.Nat.{min-eq_left, min-eq_right, le_of_lt}

sets_past : (vs ws : List ℕ) (i : ℕ) → length ws ≤ i → sets ws i vs ≡ ws
sets_past [] ws i h = refl
sets_past (v ∷ vs) ws i h = ap (λ (xs : List ℕ). sets xs (suc i) vs) (set_past ws i v h) ∙ sets_past vs ws (suc i) (omega arith)

capped : (k n : ℕ) (ws : List ℕ) (i : ℕ) → length ws ≤ i + k → k ≤ n → sets ws i (replicate k 0) ≡ sets ws i (replicate n 0)
capped zero n ws i h q = sym (sets_past (replicate n 0) ws i (omega arith))
capped (suc k) zero ws i h q = absurd (omega arith)
capped (suc k) (suc n) ws i h q = capped k n (set ws i 0) (suc i) (omega (arith, length-set ws i 0)) (omega arith)

pub clear_capped : {after : List ℕ} (ws : List ℕ) (from to : ℕ) → length ws < to → after ≡ sets ws from (replicate (length ws - from) 0)
    → after ≡ sets ws from (replicate (to - from) 0)
clear_capped ws from to h e = e ∙ capped (length ws - from) (to - from) ws from (omega arith) (omega arith)

pub clear_to_end : {after : List ℕ} (ws : List ℕ) (from to : ℕ) {end : ℕ} → end ≡ min to (length ws) → after ≡ sets ws from (replicate (end - from) 0)
    → after ≡ sets ws from (replicate (to - from) 0)
clear_to_end {after} ws from to {end} m e = go (ltb (length ws) to) refl where
  at : {n : ℕ} → end ≡ n → after ≡ sets ws from (replicate (n - from) 0)
  at q = e ∙ ap (λ (n : ℕ). sets ws from (replicate (n - from) 0)) q

  go : (s : Bool) → ltb (length ws) to ≡ s → after ≡ sets ws from (replicate (to - from) 0)
  go true q = clear_capped ws from to (ltb-true _ _ q) (at (m ∙ min-eq_right (le_of_lt (ltb-true _ _ q))))
  go false q = at (m ∙ min-eq_left (ltb-false _ _ q))
