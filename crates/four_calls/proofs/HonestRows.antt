-- What every filled and every padding row is (HonestRow), and that such a row is a plain one: where an operand is 0, the Result that
-- `row_result` gives is what the opcode asks for. So each of the fifteen polynomials is zero (proofs/PlainRows.antt of check_plain).
use Prim.Native.Nat.{ℕ, ◌-◌, ◌≤◌, ◌<◌}
use mathlib.Core.Path.{◌≡◌, sym, ap, ◌∙◌}
use mathlib.Core.Logic.{◌≢◌, ◌⊎◌, inl, inr}
use native.Mathlib.Omega.{arith}
use native.Mathlib.Decide.{ℕ_discrete}
use lib.Dec.{lit<}
use Rattle.field.specs.Elements.{p, sub_f, mul_f, inv_f}
use Rattle.field.proofs.Laws.{mul_f_comm, sub_f_lt, inv_f_lt, word_not_zero, sub_f_not_zero, inv_f_product, inv_f_zero, inv_f_product_word}
use Rattle.isa.specs.Opcodes.{op_lt, op_log2_floor, op_and, op_pop_count, op_pow}
use Rattle.isa.specs.PlainFunctions.{plain_and, one_bits, plain_pow}
use Rattle.isa.specs.Entries.{lhs_limit, rhs_limit}
use Rattle.isa.proofs.Entries.{OneOfSix, limit_below}
use Rattle.isa.proofs.PlainLaws.{and_zero_left, pow-zero, one_bits_zero}
use Rattle.table.specs.Columns.{Row}
use Rattle.table.proofs.Rows.{RowReduced}
use Rattle.air.proofs.Lists.{ConsistencyZero}
use Rattle.check_plain.specs.Plain.{Flagged, Inverted, LtEqual, Ended, PlainRow}
use Rattle.check_plain.proofs.PlainRows.{flag_bit, plain_zero}
use Rattle.fill_sections.specs.Sections.{bits_minus33_inverse}
use Rattle.four_calls.proofs.Results.{each_opcode, row_result, row_result_below, at_lt, at_log, at_and, at_pop_count, at_pow}
use Rattle.four_calls.proofs.Results.{lt_equal_first, lt_equal_below, log_none}

pub record HonestRow (row : Row) : Type 0 where
  pub known : OneOfSix row.ci
  pub flagged : Flagged row.copy_flag row.bits row.lookup_multiplicity
  pub bits_limit : row.bits ≤ 32
  pub lhs_limit_lem : row.lhs < lhs_limit row.ci
  pub rhs_limit_lem : row.rhs < rhs_limit
  pub log_lhs : row.ci ≡ op_log2_floor → row.copy_flag ≡ 1 → row.lhs ≢ 0
  pub multiplicity_limit_lem : row.lookup_multiplicity < p
  pub bits_inverse : row.bits_minus33_inv ≡ bits_minus33_inverse row.bits
  pub lhs_inverse_lem : row.lhs_inv ≡ inv_f row.lhs
  pub rhs_inverse_lem : row.rhs_inv ≡ inv_f row.rhs
  pub result_is_lem : row.result ≡ row_result row.ci row.copy_flag row.bits row.lhs row.rhs

opcode_below : (o : ℕ) → OneOfSix o → o < p
opcode_below = each_opcode (λ (o : ℕ). o < p) (lit< tt) (lit< tt) (lit< tt) (lit< tt) (lit< tt) (lit< tt)

bit_below : {x : ℕ} → (x ≡ 0) ⊎ (x ≡ 1) → x < p
bit_below (inl e) = omega arith
bit_below (inr e) = omega arith

bits_inverse_below : (bits : ℕ) → bits_minus33_inverse bits < p
unfolding bits_minus33_inverse
bits_inverse_below bits = inv_f_lt (sub_f bits 33)

bits_inverse_product : (bits : ℕ) → bits ≤ 32 → mul_f (bits_minus33_inverse bits) (sub_f bits 33) ≡ 1
unfolding bits_minus33_inverse
bits_inverse_product bits h =
    mul_f_comm _ _
    ∙ inv_f_product (sub_f bits 33) (word_not_zero (sub_f_lt bits 33) (sub_f_not_zero bits 33 (omega arith) (lit< tt) (λ e. omega arith)))

inverted : {x i : ℕ} → x < p → i ≡ inv_f x → Inverted x i
inverted {x} {i} l e = go (ℕ_discrete x 0)
  where
    go : Dec (x ≡ 0) → Inverted x i
    go (yes z) = inl (z, e ∙ ap inv_f z ∙ inv_f_zero)
    go (no n) = inr (ap (mul_f x) e ∙ inv_f_product_word x l n)

module _ {row : Row} (h : HonestRow row) where
  pub lhs_below : row.lhs < p
  lhs_below = omega (arith, h.lhs_limit_lem, limit_below row.ci)

  pub rhs_below : row.rhs < p
  rhs_below = omega (arith, h.rhs_limit_lem)

  -- every word is below p
  pub reduced : RowReduced row
  reduced = record {
    copy_flag_below = bit_below (flag_bit h.flagged);
    bits_below = omega (arith, h.bits_limit);
    bits_minus33_inv_below = rw h.bits_inverse (bits_inverse_below row.bits);
    ci_below = opcode_below row.ci h.known;
    lhs_below = lhs_below;
    lhs_inv_below = rw h.lhs_inverse_lem (inv_f_lt row.lhs);
    rhs_below = rhs_below;
    rhs_inv_below = rw h.rhs_inverse_lem (inv_f_lt row.rhs);
    result_below = rw h.result_is_lem (row_result_below row.ci row.copy_flag row.bits row.lhs row.rhs lhs_below h.bits_limit);
    lookup_multiplicity_below = h.multiplicity_limit_lem;
  }

  -- ---- Result at an opcode, where operands are 0
  pub result_at : (o : ℕ) → row.ci ≡ o → row.result ≡ row_result o row.copy_flag row.bits row.lhs row.rhs
  result_at o e = h.result_is_lem ∙ ap (λ (c : ℕ). row_result c row.copy_flag row.bits row.lhs row.rhs) e

  ended : Ended row.ci row.copy_flag row.lhs row.rhs row.result
  ended = go h.known
    where
      lt_zero : row.ci ≡ op_lt → row.lhs ≡ 0 → row.rhs ≡ 0 → (row.copy_flag ≡ 0) ⊎ (row.copy_flag ≡ 1) → LtEqual row.copy_flag row.result
      lt_zero c l r (inl f) = inr (f, result_at op_lt c ∙ at_lt _ _ _ _ ∙ lt_equal_below row.copy_flag f (l ∙ sym r))
      lt_zero c l r (inr f) = inl (f, result_at op_lt c ∙ at_lt _ _ _ _ ∙ lt_equal_first row.copy_flag f (l ∙ sym r))

      log_zero : row.ci ≡ op_log2_floor → row.lhs ≡ 0 → (row.copy_flag ≡ 0) ⊎ (row.copy_flag ≡ 1) → (row.copy_flag ≡ 0) × (row.result ≡ p - 1)
      log_zero c l (inl f) = (f, result_at op_log2_floor c ∙ at_log _ _ _ _ ∙ log_none row.bits l)
      log_zero c l (inr f) = absurd (h.log_lhs c f l)

      and_zero : row.ci ≡ op_and → row.lhs ≡ 0 → row.result ≡ 0
      and_zero c l = result_at op_and c ∙ at_and _ _ _ _ ∙ ap (λ (x : ℕ). plain_and x row.rhs) l ∙ and_zero_left row.rhs

      pop_count_zero : row.ci ≡ op_pop_count → row.lhs ≡ 0 → row.result ≡ 0
      pop_count_zero c l = result_at op_pop_count c ∙ at_pop_count _ _ _ _ ∙ ap one_bits l ∙ one_bits_zero

      pow_one : row.ci ≡ op_pow → row.rhs ≡ 0 → row.result ≡ 1
      pow_one c r = result_at op_pow c ∙ at_pow _ _ _ _ ∙ ap (plain_pow row.lhs) r ∙ pow-zero row.lhs

      go : OneOfSix row.ci → Ended row.ci row.copy_flag row.lhs row.rhs row.result
      go (inl c) = Ended.split c
      go (inr (inl c)) = Ended.lt c (λ l r. lt_zero c l r (flag_bit h.flagged))
      go (inr (inr (inl c))) = Ended.log c (λ l. log_zero c l (flag_bit h.flagged))
      go (inr (inr (inr (inl c)))) = Ended.and c (λ l r. and_zero c l)
      go (inr (inr (inr (inr (inl c))))) = Ended.pop_count_lem c (pop_count_zero c)
      go (inr (inr (inr (inr (inr c))))) = Ended.pow c (pow_one c)

  pub is_plain : PlainRow row
  is_plain = record {
    flagged = h.flagged;
    bits_inverse = ap (λ (i : ℕ). mul_f i (sub_f row.bits 33)) h.bits_inverse ∙ bits_inverse_product row.bits h.bits_limit;
    lhs_inverse_lem = inverted lhs_below h.lhs_inverse_lem;
    rhs_inverse_lem = inverted rhs_below h.rhs_inverse_lem;
    ended = ended;
  }

  pub consistent : ConsistencyZero row
  consistent = plain_zero is_plain
