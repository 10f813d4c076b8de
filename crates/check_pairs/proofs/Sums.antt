-- Twice a value, which the code makes as a sum: the ring solver's. Assumes nothing.
use Prim.Native.Nat.{ℕ}
use mathlib.Core.Path.{◌≡◌, refl}
use mathlib.Core.List.{[], ◌∷◌}
use Rattle.field.specs.Elements.{add_f, mul_f}
use Rattle.field.proofs.Ring.{solve, var, con, ◌:+◌, ◌:*◌}
use Rattle.field.proofs.RingLaws.{𝔹}

pub double : (a : ℕ) → add_f a a ≡ mul_f 2 a
double a = solve 𝔹 (var 0 :+ var 0) (con 2 :* var 0) refl (a ∷ [])

pub double_product : (a b : ℕ) → add_f (mul_f a b) (mul_f a b) ≡ mul_f (mul_f 2 a) b
double_product a b = solve 𝔹 (var 0 :* var 1 :+ var 0 :* var 1) (con 2 :* var 0 :* var 1) refl (a ∷ b ∷ [])
