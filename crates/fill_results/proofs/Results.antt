-- Exactly the six opcodes have a Result: `ending_known`, `carry_known`, `ending_unknown`, `carry_unknown`, each by going through the six; and what
-- words end a section (`end_zero`, `zero_end`). Assumes nothing.
use Prim.Native.Nat.{ℕ}
use mathlib.Core.Path.{◌≡◌, refl}
use mathlib.Core.Bool.{Bool, true, false, ◌&&◌, ◌||◌, or-true}
use mathlib.Core.Logic.{◌⊎◌, inl, inr}
use native.Mathlib.Omega.{arith}
use lib.Dec.{eqb}
use borrow.Author.Tests.{eqb-true, ne_eqb}
use Rattle.isa.specs.Opcodes.{op_split, op_lt, op_log2_floor, op_and, op_pop_count, op_pow, is_opcode}
use Rattle.isa.proofs.Entries.{OneOfSix, opcode_cases, not_one_of_six}
use Rattle.std.specs.Prelude.{Option, Some, None}
use Rattle.fill_results.specs.Results.{is_end, ending, carry}

-- a choice that is a Result
pub data IsValue : Option ℕ → Type 0 where
  value : (v : ℕ) → IsValue (Some v)

pub ending_known : (ci bits : ℕ) → is_opcode ci ≡ true → IsValue (ending ci bits)
unfolding ending
ending_known ci bits k = go (opcode_cases ci k) where
  go : OneOfSix ci → IsValue (ending ci bits)
  go (inl e) = rw e (value _)
  go (inr (inl e)) = rw e (value _)
  go (inr (inr (inl e))) = rw e (value _)
  go (inr (inr (inr (inl e)))) = rw e (value _)
  go (inr (inr (inr (inr (inl e))))) = rw e (value _)
  go (inr (inr (inr (inr (inr e))))) = rw e (value _)

pub carry_known : (ci copy_flag bits l r below : ℕ) → is_opcode ci ≡ true → IsValue (carry ci copy_flag bits l r below)
unfolding carry
carry_known ci copy_flag bits l r below k = go (opcode_cases ci k) where
  go : OneOfSix ci → IsValue (carry ci copy_flag bits l r below)
  go (inl e) = rw e (value _)
  go (inr (inl e)) = rw e (value _)
  go (inr (inr (inl e))) = rw e (value _)
  go (inr (inr (inr (inl e)))) = rw e (value _)
  go (inr (inr (inr (inr (inl e))))) = rw e (value _)
  go (inr (inr (inr (inr (inr e))))) = rw e (value _)

-- the tests of the six, each false
not_six : (ci : ℕ) → is_opcode ci ≡ false
    → (eqb ci op_split ≡ false) × (eqb ci op_lt ≡ false) × (eqb ci op_log2_floor ≡ false) × (eqb ci op_and ≡ false) × (eqb ci op_pop_count ≡ false) × (eqb ci op_pow ≡ false)
not_six ci k = (
  ne_eqb ci op_split (λ e. no (inl e)),
  ne_eqb ci op_lt (λ e. no (inr (inl e))),
  ne_eqb ci op_log2_floor (λ e. no (inr (inr (inl e)))),
  ne_eqb ci op_and (λ e. no (inr (inr (inr (inl e))))),
  ne_eqb ci op_pop_count (λ e. no (inr (inr (inr (inr (inl e)))))),
  ne_eqb ci op_pow (λ e. no (inr (inr (inr (inr (inr e)))))),
)
  where
    no : OneOfSix ci → ⊥
    no = not_one_of_six ci k

pub ending_unknown : (ci bits : ℕ) → is_opcode ci ≡ false → ending ci bits ≡ None
unfolding ending
ending_unknown ci bits k = let n = not_six ci k in simp (n.0, n.1, n.2, n.3, n.4, n.5)

pub carry_unknown : (ci copy_flag bits l r below : ℕ) → is_opcode ci ≡ false → carry ci copy_flag bits l r below ≡ None
unfolding carry
carry_unknown ci copy_flag bits l r below k = let n = not_six ci k in simp (n.0, n.1, n.2, n.3, n.4, n.5)

-- ---- the end of a section

pub end_zero : (ci l r : ℕ) → is_end ci l r ≡ true → (r ≡ 0) × ((l ≡ 0) ⊎ (ci ≡ op_pow))
unfolding is_end
end_zero ci l r e = go (eqb r 0) refl (eqb l 0) refl e where
  go : (s : Bool) → eqb r 0 ≡ s → (t : Bool) → eqb l 0 ≡ t → (s && (t || eqb ci op_pow)) ≡ true → (r ≡ 0) × ((l ≡ 0) ⊎ (ci ≡ op_pow))
  go true a true b h = (eqb-true r 0 a, inl (eqb-true l 0 b))
  go true a false b h = (eqb-true r 0 a, inr (eqb-true ci op_pow h))
  go false a t b h = absurd (let z : ◌≡◌ {A = ℕ} 0 1 = cc in omega arith)

pub zero_end : (ci l r : ℕ) → r ≡ 0 → (l ≡ 0) ⊎ (ci ≡ op_pow) → is_end ci l r ≡ true
unfolding is_end
zero_end ci l r e (inl a) = rw (e, a)
zero_end ci l r e (inr a) = rw (e, a) (or-true (eqb l 0))
