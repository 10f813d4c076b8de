-- A word that is p or more decides that not all words are below p. Assumes nothing.
use Prim.Native.Nat.{ℕ, ◌<◌, ◌≤◌}
use mathlib.Core.Path.{◌≡◌, refl}
use mathlib.Core.Bool.{Bool, true, false}
use mathlib.Core.List.{List}
use native.Mathlib.Omega.{arith}
use lib.ListN.{length, get_or}
use Rattle.field.specs.Elements.{p}
use Rattle.table.specs.Columns.{all_reduced}
use Rattle.table.proofs.Rows.{reduced_word}

-- a word that is p or more
pub word_above : (ws : List ℕ) (i : ℕ) → i < length ws → p ≤ get_or ws i 0 → false ≡ all_reduced ws
word_above ws i h above = go (all_reduced ws) refl
  where
    go : (t : Bool) → all_reduced ws ≡ t → false ≡ t
    go true e = absurd (omega (arith, reduced_word ws e i h))
    go false e = refl
