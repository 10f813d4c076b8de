-- Soundness: in a table whose words are below p and whose constraints are all zero, each row with CopyFlag 1 tells the truth: its operands
-- are in their range and Result is the plain function of them. From such a row the descent meets an end row before the table ends and
-- before the next row with CopyFlag 1, since a row that continues is neither the last of the table (terminal) nor the last before a
-- CopyFlag 1 row (transition). On it each opcode's induction gives the row's Result. Nothing is asked of the rows between a first
-- end row and the next CopyFlag 1 row, nor of the rows above the first CopyFlag 1 row.
use Prim.Native.Nat.{ℕ, zero, suc, ◌+◌, ◌-◌, ◌≤◌, ◌<◌}
use mathlib.Core.Path.{◌≡◌, ap, ◌∙◌}
use mathlib.Core.Bool.{true}
use mathlib.Core.Logic.{◌≢◌, ◌⊎◌, inl, inr}
use mathlib.Core.List.{List}
use native.Mathlib.Omega.{arith}
use lib.Dec.{lit<}
use Rattle.field.specs.Elements.{p}
use Rattle.field.proofs.Laws.{sub_f_lt}
use Rattle.isa.specs.Opcodes.{op_pow}
use Rattle.table.specs.Columns.{Row, row_at, row_count, aux_at, all_reduced}
use Rattle.table.specs.Challenges.{challenges_of}
use Rattle.air.specs.Constraints.{ci_is_pow_of}
use Rattle.air.specs.Constraints as Poly
use Rattle.air.specs.Check.{ConstraintsHold}
use Rattle.air.specs.Claim.{RowTells}
use Rattle.table.proofs.Rows.{RowReduced, row_reduced}
use Rattle.air.proofs.Lists.{TransitionZero, TerminalZero, consistency_zero, transition_zero, terminal_zero}
use Rattle.air.proofs.Factors.{Nonzero, word_one, difference, ◌⊠◌, last_zero}
use Rattle.air.proofs.Descent.{RowOk, EndRow, Continues, end_or_continues, Descent, end, step, first_ok, copy_flag_bit, bits_zero, steps_bound, rhs_bound, lhs_bound, below_32_bits}
use Rattle.air.proofs.Lt.{lt_row, lt_plain}
use Rattle.air.proofs.And.{and_row}
use Rattle.air.proofs.Log2Floor.{log2floor_lhs, log2floor_row}
use Rattle.air.proofs.Pow.{pow_row}
use Rattle.air.proofs.PopCount.{popcount_row}

-- ---- the first row of a descent, with CopyFlag 1
descent_tells : {row : Row} {k : ℕ} → Descent row k → row.copy_flag ≡ 1 → RowTells row
descent_tells {row} {k} s f =
    let o = first_ok s in
    let first : row.bits ≡ 0 = bits_zero o f in
    let steps : row.bits + k ≤ 32 = steps_bound s (omega arith) in
    let few : k ≤ 32 = omega arith in
    record {
      rhs_below = below_32_bits k few (rhs_bound s few);
      lhs_below = λ n. below_32_bits k few (lhs_bound s few n);
      is_lt = λ c. lt_plain (lt_row s few c) f;
      is_and = λ c. and_row s few c;
      is_log2floor = λ c. omega (arith, log2floor_row s steps c (log2floor_lhs o f c));
      is_pow = λ c. pow_row s few c;
      is_popcount = λ c. popcount_row s few c;
      log2floor_lhs = λ c. log2floor_lhs o f c;
    }

-- ---- a row that continues
nonzero_word : {a : ℕ} → a < p → a ≢ 0 → Nonzero a
nonzero_word l n = record { below = l; not_zero = n }

-- is not the last of a table
continues_not_last : {row : Row} → RowReduced row → TerminalZero row → Continues row → ⊥
unfolding Poly.rhs_is_0 Poly.lhs_is_0_or_ci_is_pow
continues_not_last r t (inl n) = n t.rhs_is_0
continues_not_last {row} r t (inr n) =
    (difference r.ci_below (lit< tt) n.1).not_zero
    (last_zero (nonzero_word r.lhs_below n.0) (sub_f_lt row.ci op_pow) t.lhs_is_0_or_ci_is_pow)

-- is not followed by a row with CopyFlag 1
continues_not_first : {upper lower : Row} → RowReduced upper → TransitionZero upper lower → lower.copy_flag ≡ 1 → Continues upper → ⊥
unfolding Poly.if_copy_flag_next_is_1_then_rhs_is_0 Poly.if_copy_flag_next_is_1_then_lhs_is_0_or_ci_is_pow ci_is_pow_of
continues_not_first r t f (inl n) = n (last_zero (word_one f) r.rhs_below t.if_copy_flag_next_is_1_then_rhs_is_0)
continues_not_first {upper} r t f (inr n) =
    (difference r.ci_below (lit< tt) n.1).not_zero
    (last_zero (word_one f ⊠ nonzero_word r.lhs_below n.0) (sub_f_lt upper.ci op_pow)
    t.if_copy_flag_next_is_1_then_lhs_is_0_or_ci_is_pow)

-- ---- the descent from row i of a table: inside the table, and its rows below the first have CopyFlag 0
pub record DescentIn (table : List ℕ) (i : ℕ) : Type 0 where
  pub steps : ℕ
  pub descent : Descent (row_at table i) steps
  pub inside : i + steps < row_count table
  pub below : (x : ℕ) → x < steps → (row_at table (i + suc x)).copy_flag ≡ 0

-- a descent of no steps
stays : (table : List ℕ) (i : ℕ) → i < row_count table → RowOk (row_at table i) → EndRow (row_at table i) → DescentIn table i
stays table i h o e = record { steps = 0; descent = end o e; inside = omega arith; below = λ x l. absurd (omega arith) }

-- a descent of one step more
longer : (table : List ℕ) (i : ℕ) → RowOk (row_at table i) → TransitionZero (row_at table i) (row_at table (i + 1)) → Continues (row_at table i)
    → (row_at table (i + 1)).copy_flag ≡ 0 → DescentIn table (i + 1) → DescentIn table i
longer table i o t c z w = record {
  steps = suc w.steps;
  descent = step o (first_ok w.descent) t c z w.descent;
  inside = omega arith;
  below = rows;
}
  where
    rows : (x : ℕ) → x < suc w.steps → (row_at table (i + suc x)).copy_flag ≡ 0
    rows zero l = ap (λ (m : ℕ). (row_at table m).copy_flag) (omega arith) ∙ z
    rows (suc x) l = ap (λ (m : ℕ). (row_at table m).copy_flag) (omega arith) ∙ w.below x (omega arith)

module _ (table aux challenges : List ℕ) (r : all_reduced table ≡ true) (holds : ConstraintsHold table aux challenges) where
  pub row_ok : (i : ℕ) → i < row_count table → RowOk (row_at table i)
  row_ok i h = record { reduced = row_reduced table r i h; zero = consistency_zero (row_at table i) (holds.consistency i h) }

  pub pair_zero : (i : ℕ) → i + 1 < row_count table → TransitionZero (row_at table i) (row_at table (i + 1))
  pair_zero i h =
      transition_zero (challenges_of challenges) (row_at table i) (row_at table (i + 1)) (aux_at aux i) (aux_at aux (i + 1)) (holds.transition i h)

  last_zeros : (i : ℕ) → i + 1 ≡ row_count table → TerminalZero (row_at table i)
  last_zeros i h = terminal_zero (row_at table i) (holds.terminal i h)

  -- by the number of rows below row i
  descend : (below i : ℕ) → i + suc below ≡ row_count table → DescentIn table i
  descend zero i h = go (end_or_continues (row_at table i))
    where
      go : EndRow (row_at table i) ⊎ Continues (row_at table i) → DescentIn table i
      go (inl e) = stays table i (omega arith) (row_ok i (omega arith)) e
      go (inr c) = absurd (continues_not_last (row_reduced table r i (omega arith)) (last_zeros i (omega arith)) c)
  descend (suc below) i h = go (descend below (i + 1) (omega arith)) (end_or_continues (row_at table i)) (copy_flag_bit (row_ok (i + 1) (omega arith)))
    where
      go : DescentIn table (i + 1) → EndRow (row_at table i) ⊎ Continues (row_at table i)
          → ((row_at table (i + 1)).copy_flag ≡ 0) ⊎ ((row_at table (i + 1)).copy_flag ≡ 1) → DescentIn table i
      go w (inl e) f = stays table i (omega arith) (row_ok i (omega arith)) e
      go w (inr c) (inl z) = longer table i (row_ok i (omega arith)) (pair_zero i (omega arith)) c z w
      go w (inr c) (inr f) = absurd (continues_not_first (row_reduced table r i (omega arith)) (pair_zero i (omega arith)) f c)

  pub from_row : (i : ℕ) → i < row_count table → DescentIn table i
  from_row i h = descend (row_count table - suc i) i (omega arith)

  pub sound : (i : ℕ) → i < row_count table → (row_at table i).copy_flag ≡ 1 → RowTells (row_at table i)
  sound i h f = descent_tells (from_row i h).descent f
