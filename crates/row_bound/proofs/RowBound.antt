-- NO SHORTER TABLE: a table that passes the check has at least as many rows as the height of any list whose entries have CopyFlag 1 rows of
-- their own there (`no_shorter`), so as many as fill reports for the list (`no_shorter_than_filled`), and none with fewer passes
-- (`none_shorter_passes`).
-- From a CopyFlag 1 row the descent has at least as many steps as the row's dominant operand has bits; it stays inside the table, and no row on it
-- below the first has CopyFlag 1 (air/proofs/Soundness.antt). So the heights of the CopyFlag 1 rows are runs of rows that do not meet, and together they
-- fit into the table. Rows between the end of such a run and the next CopyFlag 1 row only add to the table. Result is not looked at, so split is no
-- case of its own.
use Prim.Native.Nat.{ℕ, suc, ◌+◌, ◌-◌, ◌^◌, ◌≤◌, ◌<◌, max}
use mathlib.Core.Path.{◌≡◌, refl, sym, ap, ◌∙◌}
use mathlib.Core.Logic.{◌≢◌}
use mathlib.Core.Bool.{Bool, true, false, cond}
use mathlib.Core.List.{List, [], ◌∷◌}
use native.Mathlib.Omega.{arith}
use lib.Dec.{eqb}
use lib.ListN.{length, get_or}
use borrow.Author.Tests.{eqb-true, eqb-false, eq-eqb}
use Rattle.words.specs.Answers.{done}
use Rattle.words.proofs.Outcomes.{done_fine}
use Rattle.isa.specs.Opcodes.{op_pow}
use Rattle.isa.specs.declared.U32TableEntry.{U32TableEntry}
use Rattle.isa.specs.Entries.{dominant, height}
use Rattle.isa.proofs.Logarithm.{height_below}
use Rattle.list.specs.Heights.{section_entries, sum_heights, list_height}
use Rattle.list.specs.Holds.{HeldList, section_list}
use Rattle.table.specs.Columns.{Row, row_at, row_count, all_reduced}
use Rattle.air.specs.Check.{ConstraintsHold}
use Rattle.air.proofs.Descent.{Descent, first_ok, bits_zero, steps_bound, rhs_bound, lhs_bound}
use Rattle.air.proofs.Soundness.{from_row}
use Rattle.air.proofs.Judging.{accepted}
use Rattle.air.proofs.Claims.{zero_iff}
use Rattle.fill.specs.Filling.{filled, fill_reason, fill_all}
use Rattle.row_bound.specs.OwnRows.{entry_of, entry_in, NoShorter, NoShorterThanFilled, NoneShorterPasses}
use Rattle.row_bound.proofs.Weights.{sum_to, sum_ext, sum_first, picked, runs_fit}

-- ---- the height of the entry of a row with CopyFlag 1

dominant_bound : {row : Row} {k : ℕ} → Descent row k → k ≤ 32 → dominant (entry_of row) < 2 ^ k
unfolding dominant
dominant_bound {row} {k} s h = go (eqb row.ci op_pow) refl
  where
    go : (t : Bool) → eqb row.ci op_pow ≡ t → cond t row.rhs (max row.lhs row.rhs) < 2 ^ k
    go true e = rhs_bound s h
    go false e = omega (arith, lhs_bound s h (eqb-false _ _ e), rhs_bound s h)

height_bound : {row : Row} {k : ℕ} → Descent row k → row.copy_flag ≡ 1 → height (entry_of row) ≤ suc k
unfolding height
height_bound {row} {k} s f =
    let first : row.bits ≡ 0 = bits_zero (first_ok s) f in
    let steps : row.bits + k ≤ 32 = steps_bound s (omega arith) in
    height_below (dominant (entry_of row)) k (dominant_bound s (omega arith))

-- ---- the rows of a passing table

-- the height of a row's entry where CopyFlag is 1, else 0
weight : List ℕ → ℕ → ℕ
weight table i = cond (eqb (row_at table i).copy_flag 1) (height (entry_of (row_at table i))) 0

weight_flagged : (table : List ℕ) (i : ℕ) → (row_at table i).copy_flag ≡ 1 → weight table i ≡ height (entry_of (row_at table i))
unfolding weight
weight_flagged table i f = rw (eq-eqb (row_at table i).copy_flag 1 f)

weight_none : (table : List ℕ) (i : ℕ) → (row_at table i).copy_flag ≡ 0 → weight table i ≡ 0
unfolding weight
weight_none table i f = rw f

weight_some : (table : List ℕ) (i : ℕ) → weight table i ≢ 0 → (row_at table i).copy_flag ≡ 1
unfolding weight
weight_some table i n = go (eqb (row_at table i).copy_flag 1) refl n
  where
    go : (t : Bool) → eqb (row_at table i).copy_flag 1 ≡ t → cond t (height (entry_of (row_at table i))) 0 ≢ 0 → (row_at table i).copy_flag ≡ 1
    go true e m = eqb-true _ 1 e
    go false e m = absurd (m refl)

module _ (table aux challenges : List ℕ) (r : all_reduced table ≡ true) (holds : ConstraintsHold table aux challenges) where
  room : (i : ℕ) (h : i < row_count table) → (row_at table i).copy_flag ≡ 1 → weight table i ≤ suc (from_row table aux challenges r holds i h).steps
  room i h f = let e = weight_flagged table i f in let b = height_bound (from_row table aux challenges r holds i h).descent f in omega arith

  inside : (i : ℕ) → i < row_count table → weight table i ≢ 0 → i + weight table i ≤ row_count table
  inside i h n =
      let b = room i h (weight_some table i n) in
      let l = (from_row table aux challenges r holds i h).inside in
      omega arith

  apart : (i x : ℕ) → i < row_count table → i < x → x < i + weight table i → weight table x ≡ 0
  apart i x h a b =
      let m = room i h (weight_some table i (λ e. omega arith)) in
      let k : ℕ = x - suc i in
      let at : i + suc k ≡ x = omega arith in
      weight_none table x (ap (λ (y : ℕ). (row_at table y).copy_flag) (sym at) ∙ (from_row table aux challenges r holds i h).below k (omega arith))

  -- the heights of all CopyFlag 1 rows fit into the table
  all_fit : sum_to (row_count table) (weight table) ≤ row_count table
  all_fit = runs_fit (row_count table) (weight table) inside apart

-- ---- a list of entries

heights_sum : (es : List U32TableEntry) → sum_heights es ≡ sum_to (length es) (λ k. height (entry_in es k))
unfolding sum_heights sum_to
heights_sum [] = refl
heights_sum (e ∷ es) = ap (λ (n : ℕ). height e + n) (heights_sum es) ∙ sym (sum_first (length es) (λ k. height (entry_in (e ∷ es) k)))

-- THE LAW, for any list of entries: they pick some of the CopyFlag 1 rows, no row twice
pub no_shorter : (table aux challenges : List ℕ) → NoShorter table aux challenges
no_shorter table aux challenges e es own o =
    let h = (zero_iff table aux challenges).0 e in
    let fit = all_fit table aux challenges (accepted table aux challenges h.0).table_reduced h.1 in
    let chosen = picked (length es) (row_count table) own (record { below = o.inside; inj = o.apart }) (weight table) in
    let same : sum_to (length es) (λ k. height (entry_in es k)) ≡ sum_to (length es) (λ k. weight table (own k))
    = sum_ext (length es) _ _ (λ k l. ap height (sym (o.tells k l)) ∙ sym (weight_flagged table (own k) (o.flagged k l))) in
    let total = heights_sum es in
    omega arith

-- the height that fill answers is that of the list that gets sections
filled_height : (held : HeldList) (table : List ℕ) (h : ℕ) → (fill_all held table).answer ≡ done (h ∷ []) → h ≡ list_height (section_list held)
unfolding fill_all
filled_height held table h e =
    let l = section_list held in
    let height = (done_fine (fill_reason held table) (list_height l ∷ []) table (filled l table) e).1 in
    sym (ap (λ (values : List ℕ). get_or values 0 0) height)

-- "that table has at least as many rows as the height that filling reports for the list"
pub no_shorter_than_filled : (table aux challenges : List ℕ) → NoShorterThanFilled table aux challenges
unfolding list_height
no_shorter_than_filled table aux challenges e held own o lent h a =
    let n = no_shorter table aux challenges e (section_entries (section_list held)) own o in
    let f = filled_height held lent h a in
    omega arith

-- the same, read from its end
pub none_shorter_passes : (table aux challenges : List ℕ) → NoneShorterPasses table aux challenges
none_shorter_passes table aux challenges held own o lent h a fewer passes =
    let n = no_shorter_than_filled table aux challenges passes held own o lent h a in
    omega arith
