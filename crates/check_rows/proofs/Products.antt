-- Products that the code makes in another way than the definitions; each identity is the ring solver's. Assumes nothing.
use Prim.Native.Nat.{ℕ}
use mathlib.Core.Path.{◌≡◌, refl}
use mathlib.Core.List.{[], ◌∷◌}
use Rattle.field.specs.Elements.{sub_f, mul_f}
use Rattle.field.proofs.Ring.{solve, Expr, var, con, ◌:*◌}
use Rattle.field.proofs.RingLaws.{𝔹}
use Rattle.isa.specs.Opcodes.{op_split, op_lt, op_and, op_log2_floor, op_pow, op_pop_count}
use Rattle.air.specs.Constraints.{instruction_deselector, deselect_from}

-- ---- the deselectors, from products of the first and of the last differences
-- five factors, from 1 on, as a deselector has them
chain : Expr
chain = con 1 :* var 0 :* var 1 :* var 2 :* var 3 :* var 4

module _ (ci : ℕ) where
  pub lt_product :
      mul_f (sub_f ci op_split) (mul_f (sub_f ci op_and) (mul_f (sub_f ci op_log2_floor) (mul_f (sub_f ci op_pow) (sub_f ci op_pop_count))))
      ≡ instruction_deselector op_lt ci
  unfolding instruction_deselector deselect_from chain
  lt_product =
      solve 𝔹 (var 0 :* (var 1 :* (var 2 :* (var 3 :* var 4)))) chain refl
      (sub_f ci op_split ∷ sub_f ci op_and ∷ sub_f ci op_log2_floor ∷ sub_f ci op_pow ∷ sub_f ci op_pop_count ∷ [])

  pub and_product :
      mul_f (mul_f (sub_f ci op_split) (sub_f ci op_lt)) (mul_f (sub_f ci op_log2_floor) (mul_f (sub_f ci op_pow) (sub_f ci op_pop_count)))
      ≡ instruction_deselector op_and ci
  unfolding instruction_deselector deselect_from chain
  and_product =
      solve 𝔹 (var 0 :* var 1 :* (var 2 :* (var 3 :* var 4))) chain refl
      (sub_f ci op_split ∷ sub_f ci op_lt ∷ sub_f ci op_log2_floor ∷ sub_f ci op_pow ∷ sub_f ci op_pop_count ∷ [])

  pub log2_floor_product :
      mul_f (mul_f (mul_f (sub_f ci op_split) (sub_f ci op_lt)) (sub_f ci op_and)) (mul_f (sub_f ci op_pow) (sub_f ci op_pop_count))
      ≡ instruction_deselector op_log2_floor ci
  unfolding instruction_deselector deselect_from chain
  log2_floor_product =
      solve 𝔹 (var 0 :* var 1 :* var 2 :* (var 3 :* var 4)) chain refl
      (sub_f ci op_split ∷ sub_f ci op_lt ∷ sub_f ci op_and ∷ sub_f ci op_pow ∷ sub_f ci op_pop_count ∷ [])

  pub pow_product :
      mul_f (mul_f (mul_f (mul_f (sub_f ci op_split) (sub_f ci op_lt)) (sub_f ci op_and)) (sub_f ci op_log2_floor)) (sub_f ci op_pop_count)
      ≡ instruction_deselector op_pow ci
  unfolding instruction_deselector deselect_from chain
  pow_product =
      solve 𝔹 (var 0 :* var 1 :* var 2 :* var 3 :* var 4) chain refl
      (sub_f ci op_split ∷ sub_f ci op_lt ∷ sub_f ci op_and ∷ sub_f ci op_log2_floor ∷ sub_f ci op_pop_count ∷ [])

  pub pop_count_product :
      mul_f (mul_f (mul_f (mul_f (sub_f ci op_split) (sub_f ci op_lt)) (sub_f ci op_and)) (sub_f ci op_log2_floor)) (sub_f ci op_pow)
      ≡ instruction_deselector op_pop_count ci
  unfolding instruction_deselector deselect_from chain
  pop_count_product =
      solve 𝔹 (var 0 :* var 1 :* var 2 :* var 3 :* var 4) chain refl
      (sub_f ci op_split ∷ sub_f ci op_lt ∷ sub_f ci op_and ∷ sub_f ci op_log2_floor ∷ sub_f ci op_pow ∷ [])

-- ---- consistency: d a deselector, a and b the factors of LHS and RHS, f that of CopyFlag, x that of Result
pub shared_lt : (d a b f x : ℕ) → mul_f (mul_f (mul_f d (mul_f a b)) f) x ≡ mul_f (mul_f (mul_f (mul_f d f) a) b) x
shared_lt d a b f x =
    solve 𝔹 (var 0 :* (var 1 :* var 2) :* var 3 :* var 4) (var 0 :* var 3 :* var 1 :* var 2 :* var 4) refl (d ∷ a ∷ b ∷ f ∷ x ∷ [])

pub shared_and : (d a b x : ℕ) → mul_f (mul_f d (mul_f a b)) x ≡ mul_f (mul_f (mul_f d a) b) x
shared_and d a b x =
    solve 𝔹 (var 0 :* (var 1 :* var 2) :* var 3) (var 0 :* var 1 :* var 2 :* var 3) refl (d ∷ a ∷ b ∷ x ∷ [])

pub shared_log : (d a f x : ℕ) → mul_f (mul_f (mul_f d a) f) x ≡ mul_f (mul_f (mul_f d f) a) x
shared_log d a f x =
    solve 𝔹 (var 0 :* var 1 :* var 2 :* var 3) (var 0 :* var 2 :* var 1 :* var 3) refl (d ∷ a ∷ f ∷ x ∷ [])

pub shared_crash : (d a f : ℕ) → mul_f (mul_f d a) f ≡ mul_f (mul_f d f) a
shared_crash d a f = solve 𝔹 (var 0 :* var 1 :* var 2) (var 0 :* var 2 :* var 1) refl (d ∷ a ∷ f ∷ [])

-- ---- by name, for the functions whose answers they are
pub ruleset deselector_products = (lt_product, and_product, log2_floor_product, pow_product, pop_count_product)

pub ruleset shared_products = (shared_lt, shared_and, shared_log, shared_crash)
