-- A whole table as a list of rows: the sections of the places in list order, and padding below them. Every row is honest, each two
-- neighbours meet the transition constraints, the last row is an end row, and the CopyFlag 1 rows are the first rows of the places.
-- Padding is honest too: it is the row that follows an end row, with Bits 0. Where nothing is filled, the table stands below a
-- padding row with CI split.
use Prim.Native.Nat.{ℕ, ◌<◌}
use mathlib.Core.Path.{◌≡◌, refl, sym, ap, ap₂, ◌∙◌, subst}
use mathlib.Core.Logic.{◌≢◌, inl, inr}
use mathlib.Core.Bool.{cond}
use mathlib.Core.List.{List, [], ◌∷◌, ◌++◌, append-nil}
use native.Mathlib.Omega.{arith}
use native.Mathlib.Decide.{ℕ_discrete}
use lib.Dec.{eqb, lit<}
use lib.ListN.{length, replicate, length-append}
use borrow.Author.Tests.{ne_eqb}
use Rattle.field.specs.Elements.{p}
use Rattle.field.proofs.Laws.{inv_f_zero}
use Rattle.isa.specs.Opcodes.{op_lt, op_log2_floor, op_pow}
use Rattle.isa.specs.PlainFunctions.{plain_result}
use Rattle.isa.proofs.Entries.{Admissible}
use Rattle.list.specs.Lists.{U32List, entry_at, multiplicity_at}
use Rattle.list.specs.Heights.{entries_at, sum_heights}
use Rattle.table.specs.Columns.{Row}
use Rattle.air.proofs.Descent.{EndRow}
use Rattle.air.proofs.Lists.{TransitionZero}
use Rattle.fill_sections.specs.Sections.{next_lhs, first_row}
use Rattle.fill.specs.Filling.{sections_at}
use Rattle.fill.specs.Padding.{padding_row, no_row}
use Rattle.four_calls.specs.FourCalls.{copy_flag1, first_rows_at}
use Rattle.four_calls.proofs.Results.{row_result, at_split, lt_equal_below, log_none}
use Rattle.four_calls.proofs.HonestRows.{HonestRow}
use Rattle.four_calls.proofs.Steps.{Follows, next_other, next_pow, follows_zero, seam}
use Rattle.four_calls.proofs.RowLists.{Each, each_join, each_same, last_of, last_join, last_same, last_each, Below, below_join}
use Rattle.four_calls.proofs.RowLists.{below_same, flagged_join, flagged_none, flagged_first}
use Rattle.four_calls.proofs.Sections.{SectionRows, HonestSection, honest_section}

-- ---- padding
-- at operands of an end row Bits does not count, and CopyFlag only for lt
padding_result : (ci copy_flag bits lhs rhs : ℕ) → rhs ≡ 0 → (ci ≢ op_pow → lhs ≡ 0)
    → cond (eqb ci op_lt) 2 (row_result ci copy_flag bits lhs rhs) ≡ row_result ci 0 0 lhs 0
unfolding row_result
padding_result ci copy_flag bits lhs rhs r l = go (ℕ_discrete ci op_lt) (ℕ_discrete ci op_log2_floor)
  where
    go : Dec (ci ≡ op_lt) → Dec (ci ≡ op_log2_floor) → cond (eqb ci op_lt) 2 (row_result ci copy_flag bits lhs rhs) ≡ row_result ci 0 0 lhs 0
    go (yes e) d = rw e (sym (lt_equal_below 0 refl (l (λ k. omega arith))))
    go (no n) (yes e) = rw e (let z = l (λ k. omega arith) in log_none bits z ∙ sym (log_none 0 z))
    go (no n) (no m) = rw (ne_eqb ci op_lt n, ne_eqb ci op_log2_floor m) (ap (plain_result ci lhs) r)

-- the operands of an end row are as they are when halved
end_next : (row : Row) → EndRow row → row.lhs ≡ next_lhs row.ci row.lhs
end_next row e = go (ℕ_discrete row.ci op_pow)
  where
    go : Dec (row.ci ≡ op_pow) → row.lhs ≡ next_lhs row.ci row.lhs
    go (yes c) = sym (next_pow row.lhs c)
    go (no n) = let z = e.lhs_zero n in sym (next_other row.lhs n ∙ omega arith)

module _ (row : Row) (e : EndRow row) where
  padding_end : EndRow (padding_row row)
  unfolding padding_row
  padding_end = record { rhs_zero = refl; lhs_zero = e.lhs_zero }

  module _ (h : HonestRow row) where
    padding_honest : HonestRow (padding_row row)
    unfolding padding_row
    padding_honest = record {
      known = h.known;
      flagged = inl (refl, refl);
      bits_limit = omega arith;
      lhs_limit_lem = h.lhs_limit_lem;
      rhs_limit_lem = lit< tt;
      log_lhs = λ c f. absurd (omega arith);
      multiplicity_limit_lem = lit< tt;
      bits_inverse = refl;
      lhs_inverse_lem = h.lhs_inverse_lem;
      rhs_inverse_lem = sym inv_f_zero;
      result_is_lem =
          ap (λ (v : ℕ). cond (eqb row.ci op_lt) 2 v) h.result_is_lem
          ∙ padding_result row.ci row.copy_flag row.bits row.lhs row.rhs e.rhs_zero e.lhs_zero;
    }

-- below an end row with the same CI and LHS
padding_follows : (upper row : Row) → EndRow upper → row.ci ≡ upper.ci → row.lhs ≡ upper.lhs → Follows upper (padding_row row)
unfolding padding_row
padding_follows upper row e c l = record {
  copy_flag_zero = refl;
  ci_same = c;
  lhs_next_lem = l ∙ end_next upper e;
  rhs_half = let z = e.rhs_zero in omega arith;
  bits_next = inr e;
}

module _ (row : Row) (e : EndRow row) (h : HonestRow row) where
  padding_below : TransitionZero row (padding_row row)
  padding_below = follows_zero h (padding_honest row e h) (padding_follows row row e refl refl)

  padding_again : TransitionZero (padding_row row) (padding_row row)
  unfolding padding_row
  padding_again =
      follows_zero (padding_honest row e h) (padding_honest row e h)
      (padding_follows (padding_row row) row (padding_end row e) refl refl)

-- ---- rows that stand below a row
pub record Chain (a : Row) (xs : List Row) : Type 0 where
  pub each : Each HonestRow xs
  pub below : Below TransitionZero a xs
  pub ends : EndRow (last_of a xs)

chain_join : (a : Row) (xs ys : List Row) → Chain a xs → Chain (last_of a xs) ys → Chain a (xs ++ ys)
chain_join a xs ys c d = record {
  each = each_join HonestRow xs ys c.each d.each;
  below = below_join TransitionZero a xs ys c.below d.below;
  ends = subst EndRow (sym (last_join a xs ys)) d.ends;
}

section_chain : (a first : Row) (more : List Row) → EndRow a → first.copy_flag ≡ 1 → SectionRows first more → Chain a (first ∷ more)
section_chain a first more e f s = record {
  each = (s.honest, s.each);
  below = (seam e f, s.below);
  ends = s.ends;
}

padding_chain : (a : Row) (n : ℕ) → EndRow a → HonestRow a → Chain a (replicate n (padding_row a))
padding_chain a n e h = record {
  each = each_same HonestRow n (padding_row a) (padding_honest a e h);
  below = below_same TransitionZero n a (padding_row a) (padding_below a e h) (padding_again a e h);
  ends = last_same EndRow n a (padding_row a) e (padding_end a e);
}

-- ---- the sections of places of a list
abbrev pub EachPlace : (ℕ → Type 0) → List ℕ → Type 0
EachPlace P [] = Unit {0}
EachPlace P (i ∷ is) = P i × EachPlace P is

-- the entry at place i is admissible, and its multiplicity is a word
pub record PlaceOk (l : U32List) (i : ℕ) : Type 0 where
  pub admissible : Admissible (entry_at l i)
  pub multiplicity_limit_lem : multiplicity_at l i < p

pub record HonestSections (l : U32List) (places : List ℕ) : Type 0 where
  pub all_rows_lem : List Row
  pub sections_are : sections_at l places ≡ all_rows_lem
  pub chain : (a : Row) → EndRow a → Chain a all_rows_lem
  pub first_rows : copy_flag1 all_rows_lem ≡ first_rows_at l places
  pub row_count : length all_rows_lem ≡ sum_heights (entries_at l places)

pub honest_sections : (l : U32List) (places : List ℕ) → EachPlace (PlaceOk l) places → HonestSections l places
unfolding sections_at first_rows_at copy_flag1 entries_at sum_heights first_row
honest_sections l [] ok = record {
  all_rows_lem = [];
  sections_are = refl;
  chain = λ a e. record { each = tt; below = tt; ends = e };
  first_rows = refl;
  row_count = refl;
}
honest_sections l (i ∷ is) ok =
    joins (honest_section (entry_at l i) (multiplicity_at l i) ok.0.admissible ok.0.multiplicity_limit_lem) (honest_sections l is ok.1)
  where
    joins : HonestSection (entry_at l i) (multiplicity_at l i) → HonestSections l is → HonestSections l (i ∷ is)
    joins s t =
        let first : Row = first_row (entry_at l i) (multiplicity_at l i) in
        record {
          all_rows_lem = first ∷ s.more ++ t.all_rows_lem;
          sections_are = rw (s.section_is, t.sections_are);
          chain = λ a e.
              let c = section_chain a first s.more e refl s.section_rows in
              chain_join a (first ∷ s.more) t.all_rows_lem c (t.chain (last_of first s.more) c.ends);
          first_rows =
              flagged_join (first ∷ s.more) t.all_rows_lem
              ∙ ap₂ (λ (xs ys : List Row). xs ++ ys) (flagged_first first s.more refl s.section_rows.copy_flags) t.first_rows;
          row_count =
              omega (arith, length-append s.more t.all_rows_lem, s.section_length, t.row_count);
        }

-- ---- with padding
-- what stands above the table: a padding row as where nothing is filled
abbrev pub front : Row
front = padding_row no_row

pub front_end : EndRow front
unfolding padding_row
front_end = record { rhs_zero = refl; lhs_zero = λ n. refl }

front_honest : HonestRow front
unfolding padding_row
front_honest = record {
  known = inl refl;
  flagged = inl (refl, refl);
  bits_limit = omega arith;
  lhs_limit_lem = lit< tt;
  rhs_limit_lem = lit< tt;
  log_lhs = λ c f. absurd (omega arith);
  multiplicity_limit_lem = lit< tt;
  bits_inverse = refl;
  lhs_inverse_lem = sym inv_f_zero;
  rhs_inverse_lem = sym inv_f_zero;
  result_is_lem = sym (at_split 0 0 0 0);
}

abbrev pub padded_rows : List Row → ℕ → List Row
padded_rows xs n = xs ++ replicate n (padding_row (last_of front xs))

module _ (l : U32List) (places : List ℕ) (s : HonestSections l places) where
  filled_chain : Chain front s.all_rows_lem
  filled_chain = s.chain front front_end

  pub padded_chain : (n : ℕ) → Chain front (padded_rows s.all_rows_lem n)
  padded_chain n =
      chain_join front s.all_rows_lem (replicate n (padding_row (last_of front s.all_rows_lem))) filled_chain
      (padding_chain (last_of front s.all_rows_lem) n filled_chain.ends
      (last_each HonestRow front s.all_rows_lem front_honest filled_chain.each))

  pub padded_first_rows : (n : ℕ) → copy_flag1 (padded_rows s.all_rows_lem n) ≡ first_rows_at l places
  unfolding padding_row
  padded_first_rows n =
      let padding : Row = padding_row (last_of front s.all_rows_lem) in
      flagged_join s.all_rows_lem (replicate n padding)
      ∙ ap₂ (λ (xs ys : List Row). xs ++ ys) s.first_rows
      (flagged_none (replicate n padding) (each_same (λ row. row.copy_flag ≡ 0) n padding refl))
      ∙ append-nil (first_rows_at l places)
