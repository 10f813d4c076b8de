-- Ten words below p: those of a part of ten that is all below p, and with them those before them; so those of ten after ten. And a part of words that are all
-- below p is all below p. Assumes nothing.
use Prim.Native.Nat.{ℕ, zero, suc, ◌+◌, ◌*◌, ◌-◌, ◌<◌}
use mathlib.Core.Path.{subst, ◌∙◌}
use mathlib.Core.Bool.{true}
use mathlib.Core.List.{List}
use native.Mathlib.Omega.{arith}
use native.Mathlib.Decide.{dec_lt}
use lib.ListN.{length, get_or, length-take}
use Rattle.std.specs.Prelude.{◌≡◌, ◌≤◌, take, drop}
use Rattle.std.proofs.lemmas.List.{get_or-take, get_or-drop, length-take-le, length-drop}
use Rattle.field.specs.Elements.{p}
use Rattle.table.specs.Columns.{all_reduced}
use Rattle.table.specs.Tens.{TenBelow}
use Rattle.table.proofs.Rows.{reduced_word, all_reduced_lem}

pub ten_below : (words : List ℕ) (at : ℕ) → at + 10 ≤ length words → all_reduced (take 10 (drop at words)) ≡ true → TenBelow words at
unfolding TenBelow
ten_below words at l h k b =
    subst (λ (w : ℕ). w < p) (get_or-take 10 (drop at words) k 0 b ∙ get_or-drop at words k 0)
    (reduced_word (take 10 (drop at words)) h k (omega (arith, length-take-le 10 (drop at words), length-drop at words)))

pub ten_more : (words : List ℕ) (at : ℕ) → ((k : ℕ) → k < at → get_or words k 0 < p) → TenBelow words at
    → (k : ℕ) → k < at + 10 → get_or words k 0 < p
unfolding TenBelow
ten_more words at before ten k l = go (dec_lt k at)
  where
    go : Dec (k < at) → get_or words k 0 < p
    go (yes b) = before k b
    go (no b) = subst (λ (i : ℕ). get_or words i 0 < p) (omega arith) (ten (k - at) (omega arith))

pub tens_below : (words : List ℕ) (n : ℕ) → ((k : ℕ) → k < n → TenBelow words (10 * k)) → (k : ℕ) → k < 10 * n → get_or words k 0 < p
tens_below words zero ten k l = absurd (omega arith)
tens_below words (suc n) ten k l =
    ten_more words (10 * n) (tens_below words n (λ i b. ten i (omega arith))) (ten n (omega arith)) k (omega arith)

-- a part of words that are all below p
pub reduced_take : (words : List ℕ) (n : ℕ) → all_reduced words ≡ true → all_reduced (take n words) ≡ true
reduced_take words n h = all_reduced_lem (take n words) below
  where
    below : (i : ℕ) → i < length (take n words) → get_or (take n words) i 0 < p
    below i l =
        let long = length-take n words in
        rw (get_or-take n words i 0 (omega (arith, long))) (reduced_word words h i (omega (arith, long)))

pub reduced_drop : (words : List ℕ) (at : ℕ) → all_reduced words ≡ true → all_reduced (drop at words) ≡ true
reduced_drop words at h = all_reduced_lem (drop at words) below
  where
    below : (i : ℕ) → i < length (drop at words) → get_or (drop at words) i 0 < p
    below i l = let long = length-drop at words in rw (get_or-drop at words i 0) (reduced_word words h (at + i) (omega (arith, long)))
