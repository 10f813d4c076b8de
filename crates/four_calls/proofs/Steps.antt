-- Two neighbouring rows: the twenty transition polynomials over main columns are zero. Three kinds of neighbours there are: the next
-- row of a section; the padding row below a last row or below another padding row (both are `Follows`: CI stays and the operands are
-- halved, which leaves those of an end row as they are); and the first row of a section below an end row (`seam`), of which the
-- constraints ask nothing but CopyFlag 1. The lower of two honest rows that follow each other is a plain step from the upper one, since
-- `row_result` of one is carried to that of the other (proofs/Steps.antt of plain_rows has the polynomials).
use Prim.Native.Nat.{ℕ, ◌+◌, ◌*◌, ◌/◌, ◌%◌}
use mathlib.Core.Path.{◌≡◌, sym, ap, ap₂, ◌∙◌, subst}
use mathlib.Core.Logic.{◌≢◌, ◌⊎◌, inl, inr}
use native.Mathlib.Omega.{arith}
use native.Mathlib.Decide.{ℕ_discrete}
use borrow.Author.Tests.{eq-eqb, ne_eqb}
use Rattle.field.specs.Elements.{add_f, mul_f}
use Rattle.field.proofs.Laws.{inv_f_product_word}
use Rattle.isa.specs.Opcodes.{op_lt, op_log2_floor, op_and, op_pop_count, op_pow}
use Rattle.isa.specs.PlainFunctions.{plain_pow}
use Rattle.isa.proofs.Entries.{OneOfSix}
use Rattle.table.specs.Columns.{Row}
use Rattle.air.specs.Constraints as Poly
use Rattle.air.proofs.Descent.{EndRow}
use Rattle.air.proofs.Lists.{TransitionZero, TerminalZero}
use Rattle.check_plain.specs.Plain as Plain
use Rattle.check_plain.specs.Plain.{IsEnd, LtCarried, AndCarried, PowCarried, PopCountCarried, Carried, Step}
use Rattle.check_plain.proofs.Products.{zs}
use Rattle.check_plain.proofs.PlainRows.{flag_bit}
use Rattle.check_plain.proofs.Steps as PlainSteps
use Rattle.check_plain.proofs.Steps.{low_bit}
use Rattle.fill_results.specs.Results.{carry_pop_count}
use Rattle.fill_sections.specs.Sections.{next_lhs}
use Rattle.four_calls.proofs.Results.{row_result, at_lt, at_log, at_and, at_pop_count, at_pow, lt_result, log2_floor_result}
use Rattle.four_calls.proofs.Results.{lt_carried, LogCarried, zero_lhs, last_bit, more_bits, log_carried}
use Rattle.four_calls.proofs.Results.{and_halves, carry_pop_count_is, pow_even, pow_odd}
use Rattle.four_calls.proofs.HonestRows.{HonestRow, lhs_below, result_at}

pub record Follows (upper lower : Row) : Type 0 where
  pub copy_flag_zero : lower.copy_flag ≡ 0
  pub ci_same : lower.ci ≡ upper.ci
  pub lhs_next_lem : lower.lhs ≡ next_lhs upper.ci upper.lhs
  pub rhs_half : lower.rhs ≡ upper.rhs / 2
  pub bits_next : (lower.bits ≡ upper.bits + 1) ⊎ EndRow upper

pub next_other : {ci : ℕ} (lhs : ℕ) → ci ≢ op_pow → next_lhs ci lhs ≡ lhs / 2
next_other {ci} lhs n = rw (ne_eqb ci op_pow n)

pub next_pow : {ci : ℕ} (lhs : ℕ) → ci ≡ op_pow → next_lhs ci lhs ≡ lhs
next_pow {ci} lhs e = rw (eq-eqb ci op_pow e)

is_end_lem : {row : Row} → EndRow row → IsEnd row.ci row.lhs row.rhs
is_end_lem {row} e = (e.rhs_zero, go (ℕ_discrete row.ci op_pow))
  where
    go : Dec (row.ci ≡ op_pow) → (row.lhs ≡ 0) ⊎ (row.ci ≡ op_pow)
    go (yes c) = inr c
    go (no n) = inl (e.lhs_zero n)

module _ {upper lower : Row} (o : HonestRow upper) (o' : HonestRow lower) (f : Follows upper lower) where
  lower_result : (opcode : ℕ) → upper.ci ≡ opcode
      → lower.result ≡ row_result opcode 0 lower.bits (next_lhs opcode upper.lhs) (upper.rhs / 2)
  lower_result opcode c =
      o'.result_is_lem
      ∙ ap₂ (λ (ci flag : ℕ). row_result ci flag lower.bits lower.lhs lower.rhs) (f.ci_same ∙ c) f.copy_flag_zero
      ∙ ap₂ (row_result opcode 0 lower.bits) (f.lhs_next_lem ∙ ap (λ (ci : ℕ). next_lhs ci upper.lhs) c) f.rhs_half

  half : (opcode : ℕ) → opcode ≢ op_pow → upper.ci ≡ opcode → lower.lhs ≡ upper.lhs / 2
  half opcode n c = f.lhs_next_lem ∙ next_other upper.lhs (λ e. n (sym c ∙ e))

  lt_step : upper.ci ≡ op_lt → LtCarried upper.copy_flag upper.lhs upper.rhs lower.result upper.result
  lt_step c =
      subst (λ (x : ℕ). LtCarried upper.copy_flag upper.lhs upper.rhs x upper.result) (sym (lower_result op_lt c ∙ at_lt _ _ _ _))
      (subst (λ (x : ℕ). LtCarried upper.copy_flag upper.lhs upper.rhs (lt_result 0 (upper.lhs / 2) (upper.rhs / 2)) x)
      (sym (result_at o op_lt c ∙ at_lt _ _ _ _))
      (lt_carried upper.copy_flag upper.lhs upper.rhs (flag_bit o.flagged)))

  and_step : upper.ci ≡ op_and → AndCarried upper.lhs upper.rhs lower.result upper.result
  and_step c =
      result_at o op_and c ∙ at_and _ _ _ _ ∙ and_halves upper.lhs upper.rhs
      ∙ ap (λ (x : ℕ). 2 * x + (upper.lhs % 2) * (upper.rhs % 2)) (sym (lower_result op_and c ∙ at_and _ _ _ _))

  log_step : upper.ci ≡ op_log2_floor
      → Plain.LogCarried upper.bits upper.lhs lower.lhs lower.lhs_inv lower.result upper.result
  log_step c =
      carried (subst (λ (x : ℕ). LogCarried upper.bits upper.lhs x upper.result) (sym (lower_result op_log2_floor c ∙ at_log _ _ _ _))
      (subst (λ (x : ℕ). LogCarried upper.bits upper.lhs (log2_floor_result lower.bits (upper.lhs / 2)) x)
      (sym (result_at o op_log2_floor c ∙ at_log _ _ _ _))
      (log_carried upper.bits lower.bits upper.lhs (bits_or_zero f.bits_next))))
    where
      bits_or_zero : (lower.bits ≡ upper.bits + 1) ⊎ EndRow upper → (lower.bits ≡ upper.bits + 1) ⊎ (upper.lhs ≡ 0)
      bits_or_zero (inl b) = inl b
      bits_or_zero (inr e) = inr (e.lhs_zero (λ q. omega arith))

      next : lower.lhs ≡ upper.lhs / 2
      next = half op_log2_floor (λ e. omega arith) c

      carried : LogCarried upper.bits upper.lhs lower.result upper.result
          → Plain.LogCarried upper.bits upper.lhs lower.lhs lower.lhs_inv lower.result upper.result
      carried (zero_lhs z e) = Plain.LogCarried.none z
      carried (last_bit n z e) = Plain.LogCarried.last (next ∙ z) e
      carried (more_bits n z e) =
          Plain.LogCarried.more
          (ap (mul_f lower.lhs) o'.lhs_inverse_lem ∙ inv_f_product_word lower.lhs (lhs_below o') (λ q. z (sym next ∙ q))) (sym e)

  pow_step : upper.ci ≡ op_pow → PowCarried upper.lhs upper.rhs lower.result upper.result
  pow_step c = go (low_bit upper.rhs)
    where
      above : upper.result ≡ plain_pow upper.lhs upper.rhs
      above = result_at o op_pow c ∙ at_pow _ _ _ _

      below : plain_pow upper.lhs (upper.rhs / 2) ≡ lower.result
      below = sym (lower_result op_pow c ∙ at_pow _ _ _ _)

      go : (upper.rhs % 2 ≡ 0) ⊎ (upper.rhs % 2 ≡ 1) → PowCarried upper.lhs upper.rhs lower.result upper.result
      go (inl b) = PowCarried.even b (above ∙ pow_even upper.lhs upper.rhs b ∙ ap₂ mul_f below below)
      go (inr b) =
          PowCarried.odd b (above ∙ pow_odd upper.lhs upper.rhs b ∙ ap (λ (t : ℕ). mul_f t upper.lhs) (ap₂ mul_f below below))

  pop_count_step : upper.ci ≡ op_pop_count → PopCountCarried upper.lhs lower.result upper.result
  unfolding carry_pop_count
  pop_count_step c =
      result_at o op_pop_count c ∙ at_pop_count _ _ _ _ ∙ sym (carry_pop_count_is upper.lhs upper.rhs (lhs_below o))
      ∙ ap (λ (x : ℕ). add_f x (upper.lhs % 2)) (sym (lower_result op_pop_count c ∙ at_pop_count _ _ _ _))

  carried : OneOfSix upper.ci → Carried upper lower
  carried (inl c) = Carried.split c (half _ (λ e. omega arith) c)
  carried (inr (inl c)) = Carried.lt c (half _ (λ e. omega arith) c) (lt_step c)
  carried (inr (inr (inl c))) = Carried.log c (half _ (λ e. omega arith) c) (log_step c)
  carried (inr (inr (inr (inl c)))) = Carried.and c (half _ (λ e. omega arith) c) (and_step c)
  carried (inr (inr (inr (inr (inl c))))) = Carried.pop_count_lem c (half _ (λ e. omega arith) c) (pop_count_step c)
  carried (inr (inr (inr (inr (inr c))))) = Carried.pow c (f.lhs_next_lem ∙ next_pow upper.lhs c) (pow_step c)

  pub is_step : Step upper lower
  is_step = record {
    flag = f.copy_flag_zero;
    ci_same = f.ci_same;
    bits_next = counted f.bits_next;
    rhs_half = f.rhs_half;
    carried = carried o.known;
  }
    where
      counted : (lower.bits ≡ upper.bits + 1) ⊎ EndRow upper → (lower.bits ≡ upper.bits + 1) ⊎ IsEnd upper.ci upper.lhs upper.rhs
      counted (inl b) = inl b
      counted (inr e) = inr (is_end_lem e)

  pub follows_zero : TransitionZero upper lower
  follows_zero = PlainSteps.step_zero is_step

-- ---- a section begins below an end row
pub seam : {upper lower : Row} → EndRow upper → lower.copy_flag ≡ 1 → TransitionZero upper lower
seam e o = PlainSteps.seam (is_end_lem e) o

-- ---- a table may end at an end row
pub end_terminal : {row : Row} → EndRow row → TerminalZero row
unfolding Poly.lhs_is_0_or_ci_is_pow Poly.rhs_is_0
end_terminal {row} e = go (ℕ_discrete row.ci op_pow)
  where
    go : Dec (row.ci ≡ op_pow) → TerminalZero row
    go (yes c) = record { lhs_is_0_or_ci_is_pow = search zs depth 4; rhs_is_0 = e.rhs_zero }
    go (no n) = let l = e.lhs_zero n in record { lhs_is_0_or_ci_is_pow = search zs depth 4; rhs_is_0 = e.rhs_zero }
