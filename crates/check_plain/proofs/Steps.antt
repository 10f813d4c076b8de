-- Two neighbouring rows: where the lower one is a plain step from the upper one, and where it begins a section below an end row (`seam`),
-- the twenty transition polynomials over main columns are zero. Each is taken once: where its deselector is not zero, Result is carried as
-- it asks. The bit that leaves an operand is the operand less twice the one below, for any words. Assumes nothing.
use Prim.Native.Nat.{ℕ, ◌+◌, ◌*◌, ◌/◌, ◌%◌, ◌≤◌, ◌<◌}
use mathlib.Core.Path.{◌≡◌, sym, ap, ap₂, ◌∙◌}
use mathlib.Core.Logic.{◌≢◌, ◌⊎◌, inl, inr}
use native.Mathlib.Omega.{arith}
use native.Mathlib.Decide.{ℕ_discrete}
use lib.Dec.{lit<}
use Rattle.field.specs.Elements.{p, sub_f, mul_f}
use Rattle.field.proofs.Laws.{bit_of_half, mul_f_small, sub_f_more, sub_f_double}
use Rattle.isa.specs.Opcodes.{op_lt, op_log2_floor, op_and, op_pop_count, op_pow}
use Rattle.isa.proofs.Entries.{OneOfSix}
use Rattle.table.specs.Columns.{Row}
use Rattle.air.specs.Constraints as Poly
use Rattle.air.specs.Constraints.{instruction_deselector, ci_is_pow_of, lhs_lsb, rhs_lsb, one_minus_product_of}
use Rattle.air.proofs.Lists.{TransitionZero}
use Rattle.check_plain.specs.Plain.{IsEnd, LtEqual, LtCarried, known_0, known_1, bits_01, bits_10, bits_same}
use Rattle.check_plain.specs.Plain.{AndCarried, LogCarried, PowCarried, PopCountCarried, Carried, Step}
use Rattle.check_plain.proofs.Products.{zs, same_zero, IsBit, bit_product, less_both, selected_or_zero, differ_01, differ_10}

-- ---- numbers
pub low_bit : (x : ℕ) → IsBit (x % 2)
low_bit x = go (ℕ_discrete (x % 2) 0)
  where
    go : Dec (x % 2 ≡ 0) → IsBit (x % 2)
    go (yes e) = inl e
    go (no n) = inr (omega arith)

pub low_bits_product : (x y : ℕ) → x % 2 * (y % 2) ≤ 1
low_bits_product x y = go (low_bit x) (omega arith)
  where
    go : {a b : ℕ} → IsBit a → b ≤ 1 → a * b ≤ 1
    go (inl e) h = rw e (omega arith)
    go (inr e) h = rw e (omega arith)

one_more : {y : ℕ} (x : ℕ) → y ≡ x + 1 → sub_f (sub_f y x) 1 ≡ 0
one_more x e = same_zero (ap (λ (y : ℕ). sub_f y x) e ∙ sub_f_more x 1 (lit< tt))

-- twice a number and the product of two bits, less both
and_less : (x y z : ℕ) → sub_f (sub_f (2 * x + y % 2 * (z % 2)) (mul_f 2 x)) (mul_f (y % 2) (z % 2)) ≡ 0
and_less x y z =
    let small : y % 2 * (z % 2) < p = omega (arith, low_bits_product y z) in
    same_zero (sub_f_double x _ small ∙ sym (mul_f_small (y % 2) (z % 2) small))

-- ---- what an opcode asks for
module _ {upper lower : Row} where
  carried_known : Carried upper lower → OneOfSix upper.ci
  carried_known (Carried.split c l) = inl c
  carried_known (Carried.lt c l h) = inr (inl c)
  carried_known (Carried.log c l h) = inr (inr (inl c))
  carried_known (Carried.and c l h) = inr (inr (inr (inl c)))
  carried_known (Carried.pop_count_lem c l h) = inr (inr (inr (inr (inl c))))
  carried_known (Carried.pow c l h) = inr (inr (inr (inr (inr c))))

  carried_half : Carried upper lower → upper.ci ≢ op_pow → lower.lhs ≡ upper.lhs / 2
  carried_half (Carried.split c l) n = l
  carried_half (Carried.lt c l h) n = l
  carried_half (Carried.and c l h) n = l
  carried_half (Carried.log c l h) n = l
  carried_half (Carried.pow c l h) n = absurd (n c)
  carried_half (Carried.pop_count_lem c l h) n = l

  carried_lt : Carried upper lower → upper.ci ≡ op_lt
      → LtCarried upper.copy_flag upper.lhs upper.rhs lower.result upper.result
  carried_lt (Carried.lt c l h) e = h
  carried_lt (Carried.split c l) e = absurd (omega arith)
  carried_lt (Carried.and c l h) e = absurd (omega arith)
  carried_lt (Carried.log c l h) e = absurd (omega arith)
  carried_lt (Carried.pow c l h) e = absurd (omega arith)
  carried_lt (Carried.pop_count_lem c l h) e = absurd (omega arith)

  carried_and : Carried upper lower → upper.ci ≡ op_and → AndCarried upper.lhs upper.rhs lower.result upper.result
  carried_and (Carried.and c l h) e = h
  carried_and (Carried.split c l) e = absurd (omega arith)
  carried_and (Carried.lt c l h) e = absurd (omega arith)
  carried_and (Carried.log c l h) e = absurd (omega arith)
  carried_and (Carried.pow c l h) e = absurd (omega arith)
  carried_and (Carried.pop_count_lem c l h) e = absurd (omega arith)

  carried_log : Carried upper lower → upper.ci ≡ op_log2_floor
      → LogCarried upper.bits upper.lhs lower.lhs lower.lhs_inv lower.result upper.result
  carried_log (Carried.log c l h) e = h
  carried_log (Carried.split c l) e = absurd (omega arith)
  carried_log (Carried.lt c l h) e = absurd (omega arith)
  carried_log (Carried.and c l h) e = absurd (omega arith)
  carried_log (Carried.pow c l h) e = absurd (omega arith)
  carried_log (Carried.pop_count_lem c l h) e = absurd (omega arith)

  carried_pow : Carried upper lower → upper.ci ≡ op_pow
      → (lower.lhs ≡ upper.lhs) × PowCarried upper.lhs upper.rhs lower.result upper.result
  carried_pow (Carried.pow c l h) e = (l, h)
  carried_pow (Carried.split c l) e = absurd (omega arith)
  carried_pow (Carried.lt c l h) e = absurd (omega arith)
  carried_pow (Carried.and c l h) e = absurd (omega arith)
  carried_pow (Carried.log c l h) e = absurd (omega arith)
  carried_pow (Carried.pop_count_lem c l h) e = absurd (omega arith)

  carried_pop_count : Carried upper lower → upper.ci ≡ op_pop_count → PopCountCarried upper.lhs lower.result upper.result
  carried_pop_count (Carried.pop_count_lem c l h) e = h
  carried_pop_count (Carried.split c l) e = absurd (omega arith)
  carried_pop_count (Carried.lt c l h) e = absurd (omega arith)
  carried_pop_count (Carried.and c l h) e = absurd (omega arith)
  carried_pop_count (Carried.log c l h) e = absurd (omega arith)
  carried_pop_count (Carried.pow c l h) e = absurd (omega arith)

-- ---- a plain step
-- the six polynomials of lt
record LtZero (upper lower : Row) : Type 0 where
  pub next_0 : Poly.if_copy_flag_next_is_0_and_ci_is_lt_and_result_next_is_0_then_result_is_0 upper lower ≡ 0
  pub next_1 : Poly.if_copy_flag_next_is_0_and_ci_is_lt_and_result_next_is_1_then_result_is_1 upper lower ≡ 0
  pub less : Poly.if_copy_flag_next_is_0_and_ci_is_lt_and_result_next_is_2_and_lt_is_0_then_result_is_0 upper lower ≡ 0
  pub more : Poly.if_copy_flag_next_is_0_and_ci_is_lt_and_result_next_is_2_and_lt_is_1_then_result_is_1 upper lower ≡ 0
  pub not_known : Poly.if_copy_flag_next_is_0_and_ci_is_lt_and_result_still_not_known_then_result_is_2 upper lower ≡ 0
  pub by_flag : Poly.if_copy_flag_next_is_0_and_ci_is_lt_and_copy_flag_dictates_result_then_result_is_0 upper lower ≡ 0

module _ {upper lower : Row} (s : Step upper lower) where
  abbrev Selected : ℕ → Type 0
  Selected opcode = (upper.ci ≡ opcode) ⊎ (instruction_deselector opcode lower.ci ≡ 0)

  selected : (opcode : ℕ) → Selected opcode
  selected opcode = go (selected_or_zero opcode upper.ci (carried_known s.carried))
    where
      go : (upper.ci ≡ opcode) ⊎ (instruction_deselector opcode upper.ci ≡ 0) → Selected opcode
      go (inl e) = inl e
      go (inr z) = inr (ap (instruction_deselector opcode) s.ci_same ∙ z)

  rhs_lsb_lem : rhs_lsb upper lower ≡ upper.rhs % 2
  unfolding rhs_lsb
  rhs_lsb_lem = ap (λ (x : ℕ). sub_f upper.rhs (mul_f 2 x)) s.rhs_half ∙ bit_of_half upper.rhs

  lhs_lsb_lem : upper.ci ≢ op_pow → lhs_lsb upper lower ≡ upper.lhs % 2
  unfolding lhs_lsb
  lhs_lsb_lem n = ap (λ (x : ℕ). sub_f upper.lhs (mul_f 2 x)) (carried_half s.carried n) ∙ bit_of_half upper.lhs

  not_pow : (opcode : ℕ) → opcode ≢ op_pow → upper.ci ≡ opcode → upper.ci ≢ op_pow
  not_pow opcode n c e = n (sym c ∙ e)

  low_bit_is : {x : ℕ} (y : ℕ) → x ≡ y % 2 → IsBit x
  low_bit_is {x} y e = go (low_bit y)
    where
      go : IsBit (y % 2) → IsBit x
      go (inl b) = inl (e ∙ b)
      go (inr b) = inr (e ∙ b)

  -- ---- CI, Bits and the operands
  abbrev Counted : Type 0
  Counted = (lower.bits ≡ upper.bits + 1) ⊎ IsEnd upper.ci upper.lhs upper.rhs

  bits_by_lhs : Poly.if_copy_flag_next_is_0_and_lhs_next_is_nonzero_and_ci_not_pow_then_bits_increases_by_1 upper lower ≡ 0
  unfolding Poly.if_copy_flag_next_is_0_and_lhs_next_is_nonzero_and_ci_not_pow_then_bits_increases_by_1 ci_is_pow_of
  bits_by_lhs = go s.bits_next
    where
      go : Counted → Poly.if_copy_flag_next_is_0_and_lhs_next_is_nonzero_and_ci_not_pow_then_bits_increases_by_1 upper lower ≡ 0
      go (inl b) = let z = one_more upper.bits b in search zs depth 9
      go (inr (r, inl l)) = search zs depth 9
      go (inr (r, inr c)) = search zs depth 9

  bits_by_rhs : Poly.if_copy_flag_next_is_0_and_rhs_next_is_nonzero_then_bits_increases_by_1 upper lower ≡ 0
  unfolding Poly.if_copy_flag_next_is_0_and_rhs_next_is_nonzero_then_bits_increases_by_1
  bits_by_rhs = go s.bits_next
    where
      go : Counted → Poly.if_copy_flag_next_is_0_and_rhs_next_is_nonzero_then_bits_increases_by_1 upper lower ≡ 0
      go (inl b) = let z = one_more upper.bits b in search zs depth 9
      go (inr (r, e)) = search zs depth 9

  lhs_bit : Poly.if_copy_flag_next_is_0_and_ci_not_pow_then_lhs_lsb_is_a_bit upper lower ≡ 0
  unfolding Poly.if_copy_flag_next_is_0_and_ci_not_pow_then_lhs_lsb_is_a_bit ci_is_pow_of
  lhs_bit = go (ℕ_discrete upper.ci op_pow)
    where
      go : Dec (upper.ci ≡ op_pow) → Poly.if_copy_flag_next_is_0_and_ci_not_pow_then_lhs_lsb_is_a_bit upper lower ≡ 0
      go (yes c) = search zs depth 9
      go (no n) = bit_product (low_bit_is upper.lhs (lhs_lsb_lem n)) _

  rhs_bit : Poly.if_copy_flag_next_is_0_then_rhs_lsb_is_a_bit upper lower ≡ 0
  unfolding Poly.if_copy_flag_next_is_0_then_rhs_lsb_is_a_bit
  rhs_bit = bit_product (low_bit_is upper.rhs rhs_lsb_lem) _

  -- ---- lt
  lt_zero : LtZero upper lower
  unfolding
      Poly.if_copy_flag_next_is_0_and_ci_is_lt_and_result_next_is_0_then_result_is_0
      Poly.if_copy_flag_next_is_0_and_ci_is_lt_and_result_next_is_1_then_result_is_1
      Poly.if_copy_flag_next_is_0_and_ci_is_lt_and_result_next_is_2_and_lt_is_0_then_result_is_0
      Poly.if_copy_flag_next_is_0_and_ci_is_lt_and_result_next_is_2_and_lt_is_1_then_result_is_1
      Poly.if_copy_flag_next_is_0_and_ci_is_lt_and_result_still_not_known_then_result_is_2
      Poly.if_copy_flag_next_is_0_and_ci_is_lt_and_copy_flag_dictates_result_then_result_is_0
  lt_zero = go (selected op_lt)
    where
      same : lower.result ≡ 2 → IsBit (upper.lhs % 2) → upper.lhs % 2 ≡ upper.rhs % 2 → lhs_lsb upper lower ≡ upper.lhs % 2
          → LtEqual upper.copy_flag upper.result → LtZero upper lower
      same e (inl a) q l (inl (c, r)) =
          let x = l ∙ a in
          let y = rhs_lsb_lem ∙ sym q ∙ a in
          search zs depth 10
      same e (inl a) q l (inr (c, r)) =
          let x = l ∙ a in
          let y = rhs_lsb_lem ∙ sym q ∙ a in
          search zs depth 10
      same e (inr a) q l (inl (c, r)) =
          let x = l ∙ a in
          let y = rhs_lsb_lem ∙ sym q ∙ a in
          search zs depth 10
      same e (inr a) q l (inr (c, r)) =
          let x = l ∙ a in
          let y = rhs_lsb_lem ∙ sym q ∙ a in
          search zs depth 10

      carried : lhs_lsb upper lower ≡ upper.lhs % 2
          → LtCarried upper.copy_flag upper.lhs upper.rhs lower.result upper.result → LtZero upper lower
      carried l (known_0 e r) = search zs depth 10
      carried l (known_1 e r) = search zs depth 10
      carried l (bits_01 e a b r) =
          let x = l ∙ a in
          let y = rhs_lsb_lem ∙ b in
          let z = differ_01 x y in
          search zs depth 10
      carried l (bits_10 e a b r) =
          let x = l ∙ a in
          let y = rhs_lsb_lem ∙ b in
          let z = differ_10 x y in
          search zs depth 10
      carried l (bits_same e a r) = same e (low_bit upper.lhs) a l r

      go : Selected op_lt → LtZero upper lower
      go (inl c) = carried (lhs_lsb_lem (not_pow op_lt (λ e. omega arith) c)) (carried_lt s.carried c)
      go (inr d) = search zs depth 10

  -- ---- and
  and_step : Poly.if_copy_flag_next_is_0_and_ci_is_and_then_results_updates_correctly upper lower ≡ 0
  unfolding Poly.if_copy_flag_next_is_0_and_ci_is_and_then_results_updates_correctly
  and_step = go (selected op_and)
    where
      go : Selected op_and → Poly.if_copy_flag_next_is_0_and_ci_is_and_then_results_updates_correctly upper lower ≡ 0
      go (inr d) = search zs depth 9
      go (inl c) =
          let z : sub_f (sub_f upper.result (mul_f 2 lower.result)) (mul_f (lhs_lsb upper lower) (rhs_lsb upper lower)) ≡ 0 =
          ap₂ (λ (x y : ℕ). sub_f (sub_f x (mul_f 2 lower.result)) y) (carried_and s.carried c)
          (ap₂ mul_f (lhs_lsb_lem (not_pow op_and (λ e. omega arith) c)) rhs_lsb_lem)
          ∙ and_less lower.result upper.lhs upper.rhs
          in
          search zs depth 9

  -- ---- pop_count
  pop_count_step : Poly.if_copy_flag_next_is_0_and_ci_is_pop_count_then_result_increases_by_lhs_lsb upper lower ≡ 0
  unfolding Poly.if_copy_flag_next_is_0_and_ci_is_pop_count_then_result_increases_by_lhs_lsb
  pop_count_step = go (selected op_pop_count)
    where
      go : Selected op_pop_count → Poly.if_copy_flag_next_is_0_and_ci_is_pop_count_then_result_increases_by_lhs_lsb upper lower ≡ 0
      go (inr d) = search zs depth 9
      go (inl c) =
          let z : sub_f (sub_f upper.result lower.result) (lhs_lsb upper lower) ≡ 0 =
          ap₂ (λ (x y : ℕ). sub_f (sub_f x lower.result) y) (carried_pop_count s.carried c) (lhs_lsb_lem (not_pow op_pop_count (λ e. omega arith) c))
          ∙ less_both lower.result (upper.lhs % 2)
          in
          search zs depth 9

  -- ---- log_2_floor
  record LogZero : Type 0 where
    pub set : Poly.if_copy_flag_next_is_0_and_ci_is_log_2_floor_lhs_next_0_for_first_time_then_set_result upper lower ≡ 0
    pub copied : Poly.if_copy_flag_next_is_0_and_ci_is_log_2_floor_and_lhs_next_not_0_then_copy_result upper lower ≡ 0

  log_step : LogZero
  unfolding
      Poly.if_copy_flag_next_is_0_and_ci_is_log_2_floor_lhs_next_0_for_first_time_then_set_result
      Poly.if_copy_flag_next_is_0_and_ci_is_log_2_floor_and_lhs_next_not_0_then_copy_result
      one_minus_product_of
  log_step = go (selected op_log2_floor)
    where
      carried : lower.lhs ≡ upper.lhs / 2
          → LogCarried upper.bits upper.lhs lower.lhs lower.lhs_inv lower.result upper.result → LogZero
      carried l (LogCarried.none z) = let w : lower.lhs ≡ 0 = omega arith in search zs depth 10
      carried l (LogCarried.last z e) = search zs depth 10
      carried l (LogCarried.more i e) = let w = sym i in search zs depth 10

      go : Selected op_log2_floor → LogZero
      go (inr d) = search zs depth 10
      go (inl c) = carried (carried_half s.carried (not_pow op_log2_floor (λ e. omega arith) c)) (carried_log s.carried c)

  -- ---- pow
  record PowZero : Type 0 where
    pub lhs_stays : Poly.if_copy_flag_next_is_0_and_ci_is_pow_then_lhs_remains_unchanged upper lower ≡ 0
    pub even : Poly.if_copy_flag_next_is_0_and_ci_is_pow_and_rhs_lsb_is_0_then_result_squares upper lower ≡ 0
    pub odd : Poly.if_copy_flag_next_is_0_and_ci_is_pow_and_rhs_lsb_is_1_then_result_squares_and_mults upper lower ≡ 0

  pow_step : PowZero
  unfolding
      Poly.if_copy_flag_next_is_0_and_ci_is_pow_then_lhs_remains_unchanged
      Poly.if_copy_flag_next_is_0_and_ci_is_pow_and_rhs_lsb_is_0_then_result_squares
      Poly.if_copy_flag_next_is_0_and_ci_is_pow_and_rhs_lsb_is_1_then_result_squares_and_mults
  pow_step = go (selected op_pow)
    where
      carried : (lower.lhs ≡ upper.lhs) × PowCarried upper.lhs upper.rhs lower.result upper.result → PowZero
      carried (l, PowCarried.even b e) = let x = rhs_lsb_lem ∙ b in search zs depth 10
      carried (l, PowCarried.odd b e) = let x = rhs_lsb_lem ∙ b in search zs depth 10

      go : Selected op_pow → PowZero
      go (inr d) = search zs depth 10
      go (inl c) = carried (carried_pow s.carried c)

  -- ---- all twenty
  pub step_zero : TransitionZero upper lower
  unfolding
      Poly.if_copy_flag_next_is_1_then_lhs_is_0_or_ci_is_pow
      Poly.if_copy_flag_next_is_1_then_rhs_is_0
      Poly.if_copy_flag_next_is_0_then_ci_stays
  step_zero = let z = s.flag in let c = s.ci_same in record {
    if_copy_flag_next_is_1_then_lhs_is_0_or_ci_is_pow = search zs depth 9;
    if_copy_flag_next_is_1_then_rhs_is_0 = search zs depth 9;
    if_copy_flag_next_is_0_then_ci_stays = search zs depth 9;
    if_copy_flag_next_is_0_and_lhs_next_is_nonzero_and_ci_not_pow_then_bits_increases_by_1 = bits_by_lhs;
    if_copy_flag_next_is_0_and_rhs_next_is_nonzero_then_bits_increases_by_1 = bits_by_rhs;
    if_copy_flag_next_is_0_and_ci_not_pow_then_lhs_lsb_is_a_bit = lhs_bit;
    if_copy_flag_next_is_0_then_rhs_lsb_is_a_bit = rhs_bit;
    if_copy_flag_next_is_0_and_ci_is_lt_and_result_next_is_0_then_result_is_0 = lt_zero.next_0;
    if_copy_flag_next_is_0_and_ci_is_lt_and_result_next_is_1_then_result_is_1 = lt_zero.next_1;
    if_copy_flag_next_is_0_and_ci_is_lt_and_result_next_is_2_and_lt_is_0_then_result_is_0 = lt_zero.less;
    if_copy_flag_next_is_0_and_ci_is_lt_and_result_next_is_2_and_lt_is_1_then_result_is_1 = lt_zero.more;
    if_copy_flag_next_is_0_and_ci_is_lt_and_result_still_not_known_then_result_is_2 = lt_zero.not_known;
    if_copy_flag_next_is_0_and_ci_is_lt_and_copy_flag_dictates_result_then_result_is_0 = lt_zero.by_flag;
    if_copy_flag_next_is_0_and_ci_is_and_then_results_updates_correctly = and_step;
    if_copy_flag_next_is_0_and_ci_is_log_2_floor_lhs_next_0_for_first_time_then_set_result = log_step.set;
    if_copy_flag_next_is_0_and_ci_is_log_2_floor_and_lhs_next_not_0_then_copy_result = log_step.copied;
    if_copy_flag_next_is_0_and_ci_is_pow_then_lhs_remains_unchanged = pow_step.lhs_stays;
    if_copy_flag_next_is_0_and_ci_is_pow_and_rhs_lsb_is_0_then_result_squares = pow_step.even;
    if_copy_flag_next_is_0_and_ci_is_pow_and_rhs_lsb_is_1_then_result_squares_and_mults = pow_step.odd;
    if_copy_flag_next_is_0_and_ci_is_pop_count_then_result_increases_by_lhs_lsb = pop_count_step;
  }

-- ---- a section begins below an end row
pub seam : {upper lower : Row} → IsEnd upper.ci upper.lhs upper.rhs → lower.copy_flag ≡ 1 → TransitionZero upper lower
unfolding
    Poly.if_copy_flag_next_is_1_then_lhs_is_0_or_ci_is_pow
    Poly.if_copy_flag_next_is_1_then_rhs_is_0
    Poly.if_copy_flag_next_is_0_then_ci_stays
    Poly.if_copy_flag_next_is_0_and_lhs_next_is_nonzero_and_ci_not_pow_then_bits_increases_by_1
    Poly.if_copy_flag_next_is_0_and_rhs_next_is_nonzero_then_bits_increases_by_1
    Poly.if_copy_flag_next_is_0_and_ci_not_pow_then_lhs_lsb_is_a_bit
    Poly.if_copy_flag_next_is_0_then_rhs_lsb_is_a_bit
    Poly.if_copy_flag_next_is_0_and_ci_is_lt_and_result_next_is_0_then_result_is_0
    Poly.if_copy_flag_next_is_0_and_ci_is_lt_and_result_next_is_1_then_result_is_1
    Poly.if_copy_flag_next_is_0_and_ci_is_lt_and_result_next_is_2_and_lt_is_0_then_result_is_0
    Poly.if_copy_flag_next_is_0_and_ci_is_lt_and_result_next_is_2_and_lt_is_1_then_result_is_1
    Poly.if_copy_flag_next_is_0_and_ci_is_lt_and_result_still_not_known_then_result_is_2
    Poly.if_copy_flag_next_is_0_and_ci_is_lt_and_copy_flag_dictates_result_then_result_is_0
    Poly.if_copy_flag_next_is_0_and_ci_is_and_then_results_updates_correctly
    Poly.if_copy_flag_next_is_0_and_ci_is_log_2_floor_lhs_next_0_for_first_time_then_set_result
    Poly.if_copy_flag_next_is_0_and_ci_is_log_2_floor_and_lhs_next_not_0_then_copy_result
    Poly.if_copy_flag_next_is_0_and_ci_is_pow_then_lhs_remains_unchanged
    Poly.if_copy_flag_next_is_0_and_ci_is_pow_and_rhs_lsb_is_0_then_result_squares
    Poly.if_copy_flag_next_is_0_and_ci_is_pow_and_rhs_lsb_is_1_then_result_squares_and_mults
    Poly.if_copy_flag_next_is_0_and_ci_is_pop_count_then_result_increases_by_lhs_lsb
    ci_is_pow_of
seam {upper} {lower} (r, e) o = go e
  where
    go : (upper.lhs ≡ 0) ⊎ (upper.ci ≡ op_pow) → TransitionZero upper lower
    go (inl l) = search zs depth 10
    go (inr c) = search zs depth 10
