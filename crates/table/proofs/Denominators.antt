-- The denominator. The source adds the weighted words LHS, RHS, CI, Result in the initial constraint, and CI, LHS, RHS, Result in the
-- transition constraint; the sum is the same, addition being commutative and associative. Assumes nothing.
use Prim.Native.Nat.{ℕ}
use mathlib.Core.Path.{◌≡◌, refl}
use mathlib.Core.List.{[], ◌∷◌}
use Rattle.field.proofs.Ring.{var, ◌:+◌, solve}
use Rattle.xfield.specs.Extension.{add_x, scale_x}
use Rattle.xfield.proofs.RingLawsX.{𝔼}
use Rattle.table.specs.Challenges.{Challenges, compressed_row}

pub compressed_row_next : (c : Challenges) (lhs rhs ci result : ℕ)
    → add_x (add_x (add_x (scale_x ci c.u32_ci_weight) (scale_x lhs c.u32_lhs_weight)) (scale_x rhs c.u32_rhs_weight)) (scale_x result c.u32_result_weight)
    ≡ compressed_row c lhs rhs ci result
unfolding compressed_row
compressed_row_next c lhs rhs ci result =
    solve 𝔼 (var 2 :+ var 0 :+ var 1 :+ var 3) (var 0 :+ var 1 :+ var 2 :+ var 3) refl
    (scale_x lhs c.u32_lhs_weight ∷ scale_x rhs c.u32_rhs_weight ∷ scale_x ci c.u32_ci_weight ∷ scale_x result c.u32_result_weight ∷ [])
