-- In a plain row each of the fifteen polynomials is zero. One that asks for an opcode has a deselector, which is zero at the other five;
-- at its own, it asks nothing but where LHS or RHS is 0, and there Result is what it asks for. Assumes nothing.
use Prim.Native.Nat.{ℕ, ◌-◌}
use mathlib.Core.Path.{◌≡◌, refl, sym, ap, ◌∙◌}
use mathlib.Core.Logic.{◌⊎◌, inl, inr}
use mathlib.Core.List.{[]}
use native.Mathlib.Omega.{arith}
use Rattle.field.specs.Elements.{p, add_f, sub_f, mul_f}
use Rattle.field.proofs.Ring.{con, ◌:+◌, solve}
use Rattle.field.proofs.RingLaws.{𝔹}
use Rattle.isa.specs.Opcodes.{op_lt, op_log2_floor, op_and, op_pop_count, op_pow}
use Rattle.isa.proofs.Entries.{OneOfSix}
use Rattle.table.specs.Columns.{Row}
use Rattle.air.specs.Constraints as Poly
use Rattle.air.specs.Constraints.{one_minus_product_of}
use Rattle.air.specs.Check.{AllZero}
use Rattle.air.specs.Constraints.{consistency_constraints}
use Rattle.air.proofs.Lists.{ConsistencyZero, zero_consistency}
use Rattle.check_plain.specs.Plain.{Flagged, Inverted, LtEqual, Ended, PlainRow}
use Rattle.check_plain.proofs.Products.{zero_factor, factor_zero, same_zero, zs, selected_or_zero}

-- ---- what an opcode asks for
module _ {ci copy_flag lhs rhs result : ℕ} where
  ended_known : Ended ci copy_flag lhs rhs result → OneOfSix ci
  ended_known (Ended.split c) = inl c
  ended_known (Ended.lt c h) = inr (inl c)
  ended_known (Ended.log c h) = inr (inr (inl c))
  ended_known (Ended.and c h) = inr (inr (inr (inl c)))
  ended_known (Ended.pop_count_lem c h) = inr (inr (inr (inr (inl c))))
  ended_known (Ended.pow c h) = inr (inr (inr (inr (inr c))))

  ended_lt : Ended ci copy_flag lhs rhs result → ci ≡ op_lt → lhs ≡ 0 → rhs ≡ 0 → LtEqual copy_flag result
  ended_lt (Ended.lt c h) e = h
  ended_lt (Ended.split c) e = absurd (omega arith)
  ended_lt (Ended.and c h) e = absurd (omega arith)
  ended_lt (Ended.log c h) e = absurd (omega arith)
  ended_lt (Ended.pow c h) e = absurd (omega arith)
  ended_lt (Ended.pop_count_lem c h) e = absurd (omega arith)

  ended_and : Ended ci copy_flag lhs rhs result → ci ≡ op_and → lhs ≡ 0 → rhs ≡ 0 → result ≡ 0
  ended_and (Ended.and c h) e = h
  ended_and (Ended.split c) e = absurd (omega arith)
  ended_and (Ended.lt c h) e = absurd (omega arith)
  ended_and (Ended.log c h) e = absurd (omega arith)
  ended_and (Ended.pow c h) e = absurd (omega arith)
  ended_and (Ended.pop_count_lem c h) e = absurd (omega arith)

  ended_log : Ended ci copy_flag lhs rhs result → ci ≡ op_log2_floor → lhs ≡ 0 → (copy_flag ≡ 0) × (result ≡ p - 1)
  ended_log (Ended.log c h) e = h
  ended_log (Ended.split c) e = absurd (omega arith)
  ended_log (Ended.lt c h) e = absurd (omega arith)
  ended_log (Ended.and c h) e = absurd (omega arith)
  ended_log (Ended.pow c h) e = absurd (omega arith)
  ended_log (Ended.pop_count_lem c h) e = absurd (omega arith)

  ended_pow : Ended ci copy_flag lhs rhs result → ci ≡ op_pow → rhs ≡ 0 → result ≡ 1
  ended_pow (Ended.pow c h) e = h
  ended_pow (Ended.split c) e = absurd (omega arith)
  ended_pow (Ended.lt c h) e = absurd (omega arith)
  ended_pow (Ended.and c h) e = absurd (omega arith)
  ended_pow (Ended.log c h) e = absurd (omega arith)
  ended_pow (Ended.pop_count_lem c h) e = absurd (omega arith)

  ended_pop_count : Ended ci copy_flag lhs rhs result → ci ≡ op_pop_count → lhs ≡ 0 → result ≡ 0
  ended_pop_count (Ended.pop_count_lem c h) e = h
  ended_pop_count (Ended.split c) e = absurd (omega arith)
  ended_pop_count (Ended.lt c h) e = absurd (omega arith)
  ended_pop_count (Ended.and c h) e = absurd (omega arith)
  ended_pop_count (Ended.log c h) e = absurd (omega arith)
  ended_pop_count (Ended.pow c h) e = absurd (omega arith)

-- ---- factors
abbrev Off : ℕ → ℕ → Type 0
Off x i = (x ≡ 0) ⊎ (one_minus_product_of x i ≡ 0)

off : {x i : ℕ} → Inverted x i → Off x i
unfolding one_minus_product_of
off (inl e) = inl e.0
off (inr e) = inr (same_zero (sym e))

inverse_times : {x i : ℕ} → Inverted x i → mul_f i (one_minus_product_of x i) ≡ 0
unfolding one_minus_product_of
inverse_times (inl e) = zero_factor _ e.1
inverse_times (inr e) = factor_zero _ (same_zero (sym e))

word_times : {x i : ℕ} → Inverted x i → mul_f x (one_minus_product_of x i) ≡ 0
unfolding one_minus_product_of
word_times (inl e) = zero_factor _ e.0
word_times (inr e) = factor_zero _ (same_zero (sym e))

pub flag_bit : {copy_flag bits multiplicity : ℕ} → Flagged copy_flag bits multiplicity → (copy_flag ≡ 0) ⊎ (copy_flag ≡ 1)
flag_bit (inl f) = inl f.0
flag_bit (inr f) = inr f.0

minus_one : {x : ℕ} → x ≡ p - 1 → add_f x 1 ≡ 0
minus_one e = ap (λ (x : ℕ). add_f x 1) e ∙ solve 𝔹 (con (p - 1) :+ con 1) (con 0) refl []

module _ {row : Row} (h : PlainRow row) where
  abbrev Selected : ℕ → Type 0
  Selected o = (row.ci ≡ o) ⊎ (Poly.instruction_deselector o row.ci ≡ 0)

  selected : (o : ℕ) → Selected o
  selected o = selected_or_zero o row.ci (ended_known h.ended)

  lhs_off : Off row.lhs row.lhs_inv
  lhs_off = off h.lhs_inverse_lem

  rhs_off : Off row.rhs row.rhs_inv
  rhs_off = off h.rhs_inverse_lem

  flag_is_bit : Poly.copy_flag_is_bit row ≡ 0
  unfolding Poly.copy_flag_is_bit
  flag_is_bit = go (flag_bit h.flagged)
    where
      go : (row.copy_flag ≡ 0) ⊎ (row.copy_flag ≡ 1) → mul_f row.copy_flag (sub_f 1 row.copy_flag) ≡ 0
      go (inl e) = zero_factor _ e
      go (inr e) = factor_zero _ (same_zero (sym e))

  flag_or_bits : Poly.copy_flag_is_0_or_bits_is_0 row ≡ 0
  unfolding Poly.copy_flag_is_0_or_bits_is_0
  flag_or_bits = go h.flagged
    where
      go : Flagged row.copy_flag row.bits row.lookup_multiplicity → mul_f row.copy_flag row.bits ≡ 0
      go (inl f) = zero_factor _ f.0
      go (inr f) = factor_zero _ f.1

  multiplicity_zero : Poly.if_copy_flag_is_0_then_lookup_multiplicity_is_0 row ≡ 0
  unfolding Poly.if_copy_flag_is_0_then_lookup_multiplicity_is_0
  multiplicity_zero = go h.flagged
    where
      go : Flagged row.copy_flag row.bits row.lookup_multiplicity → mul_f (sub_f row.copy_flag 1) row.lookup_multiplicity ≡ 0
      go (inl f) = factor_zero _ f.1
      go (inr f) = zero_factor _ (same_zero f.0)

  -- ---- lt
  record LtZero : Type 0 where
    pub below : Poly.result_is_initialized_correctly_for_lt_with_copy_flag_0 row ≡ 0
    pub first : Poly.result_is_initialized_correctly_for_lt_with_copy_flag_1 row ≡ 0

  lt_end : LtZero
  unfolding Poly.result_is_initialized_correctly_for_lt_with_copy_flag_0 Poly.result_is_initialized_correctly_for_lt_with_copy_flag_1
  lt_end = go (selected op_lt) lhs_off rhs_off
    where
      at_end : LtEqual row.copy_flag row.result → LtZero
      at_end (inl (f, e)) = search zs depth 9
      at_end (inr (f, e)) = search zs depth 9

      go : Selected op_lt → Off row.lhs row.lhs_inv → Off row.rhs row.rhs_inv → LtZero
      go (inr d) l r = search zs depth 9
      go (inl c) (inr l) r = search zs depth 9
      go (inl c) (inl l) (inr r) = search zs depth 9
      go (inl c) (inl l) (inl r) = at_end (ended_lt h.ended c l r)

  -- ---- and
  and_end : Poly.result_is_initialized_correctly_for_and row ≡ 0
  unfolding Poly.result_is_initialized_correctly_for_and
  and_end = go (selected op_and) lhs_off rhs_off
    where
      go : Selected op_and → Off row.lhs row.lhs_inv → Off row.rhs row.rhs_inv
          → Poly.result_is_initialized_correctly_for_and row ≡ 0
      go (inr d) l r = search zs depth 9
      go (inl c) (inr l) r = search zs depth 9
      go (inl c) (inl l) (inr r) = search zs depth 9
      go (inl c) (inl l) (inl r) = let e = ended_and h.ended c l r in search zs depth 9

  -- ---- pow
  pow_end : Poly.result_is_initialized_correctly_for_pow row ≡ 0
  unfolding Poly.result_is_initialized_correctly_for_pow
  pow_end = go (selected op_pow) rhs_off
    where
      go : Selected op_pow → Off row.rhs row.rhs_inv → Poly.result_is_initialized_correctly_for_pow row ≡ 0
      go (inr d) r = search zs depth 9
      go (inl c) (inr r) = search zs depth 9
      go (inl c) (inl r) = let e = ended_pow h.ended c r in search zs depth 9

  -- ---- log_2_floor
  record LogZero : Type 0 where
    pub end : Poly.result_is_initialized_correctly_for_log_2_floor row ≡ 0
    pub crash : Poly.if_log_2_floor_on_0_then_vm_crashes row ≡ 0

  log_end : LogZero
  unfolding Poly.result_is_initialized_correctly_for_log_2_floor Poly.if_log_2_floor_on_0_then_vm_crashes
  log_end = go (selected op_log2_floor) lhs_off
    where
      at_end : (row.copy_flag ≡ 0) × (row.result ≡ p - 1) → LogZero
      at_end (f, e) = let z = minus_one e in search zs depth 9

      go : Selected op_log2_floor → Off row.lhs row.lhs_inv → LogZero
      go (inr d) l = search zs depth 9
      go (inl c) (inr l) = search zs depth 9
      go (inl c) (inl l) = at_end (ended_log h.ended c l)

  -- ---- pop_count
  pop_count_end : Poly.result_is_initialized_correctly_for_pop_count row ≡ 0
  unfolding Poly.result_is_initialized_correctly_for_pop_count
  pop_count_end = go (selected op_pop_count) lhs_off
    where
      go : Selected op_pop_count → Off row.lhs row.lhs_inv → Poly.result_is_initialized_correctly_for_pop_count row ≡ 0
      go (inr d) l = search zs depth 9
      go (inl c) (inr l) = search zs depth 9
      go (inl c) (inl l) = let e = ended_pop_count h.ended c l in search zs depth 9

  -- ---- all fifteen
  pub plain_zero : ConsistencyZero row
  unfolding
      Poly.bits_minus_33_inv_is_inverse_of_bits_minus_33
      Poly.lhs_inv_is_0_or_the_inverse_of_lhs
      Poly.lhs_is_0_or_lhs_inverse_is_the_inverse_of_lhs
      Poly.rhs_inv_is_0_or_the_inverse_of_rhs
      Poly.rhs_is_0_or_rhs_inverse_is_the_inverse_of_rhs
  plain_zero = record {
    copy_flag_is_bit = flag_is_bit;
    copy_flag_is_0_or_bits_is_0 = flag_or_bits;
    bits_minus_33_inv_is_inverse_of_bits_minus_33 = same_zero (sym h.bits_inverse);
    lhs_inv_is_0_or_the_inverse_of_lhs = inverse_times h.lhs_inverse_lem;
    lhs_is_0_or_lhs_inverse_is_the_inverse_of_lhs = word_times h.lhs_inverse_lem;
    rhs_inv_is_0_or_the_inverse_of_rhs = inverse_times h.rhs_inverse_lem;
    rhs_is_0_or_rhs_inverse_is_the_inverse_of_rhs = word_times h.rhs_inverse_lem;
    result_is_initialized_correctly_for_lt_with_copy_flag_0 = lt_end.below;
    result_is_initialized_correctly_for_lt_with_copy_flag_1 = lt_end.first;
    result_is_initialized_correctly_for_and = and_end;
    result_is_initialized_correctly_for_pow = pow_end;
    result_is_initialized_correctly_for_log_2_floor = log_end.end;
    result_is_initialized_correctly_for_pop_count = pop_count_end;
    if_log_2_floor_on_0_then_vm_crashes = log_end.crash;
    if_copy_flag_is_0_then_lookup_multiplicity_is_0 = multiplicity_zero;
  }

-- by the tests of a plain row, one after the other
pub plain_row : (row : Row) → mul_f row.bits_minus33_inv (sub_f row.bits 33) ≡ 1 → Flagged row.copy_flag row.bits row.lookup_multiplicity
    → Inverted row.lhs row.lhs_inv → Inverted row.rhs row.rhs_inv → Ended row.ci row.copy_flag row.lhs row.rhs row.result
    → AllZero (consistency_constraints row)
plain_row row bits flag lhs rhs ended =
    zero_consistency row (plain_zero (record { flagged = flag; bits_inverse = bits; lhs_inverse_lem = lhs; rhs_inverse_lem = rhs; ended = ended }))
