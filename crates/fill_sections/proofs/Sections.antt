-- Sections (document 01, "Filling"): how many rows a section has, and which of them ends it.
--   end_height, next_height: an end row's entry has height 1, every other one more than the entry of the row below.
--   section_fuel: rows enough is enough; more fuel than the height changes nothing, for any opcode.
--   section_unknown: no number but the six opcodes has a section.
--   section_rows: an admitted entry's section has as many rows as its height says; the last row is an end row and no earlier one is.
-- Each goes down the rows; the height falls by one a row. Assumes nothing.
use Prim.Native.Nat.{ℕ, zero, suc, ◌/◌, ◌≤◌}
use mathlib.Core.Path.{◌≡◌, refl, sym, ap, ◌∙◌}
use mathlib.Core.Bool.{Bool, true, false, cond}
use mathlib.Core.List.{List, [], ◌∷◌}
use mathlib.Core.Logic.{◌≢◌}
use native.Mathlib.Omega.{arith}
use lib.Dec.{eqb}
use lib.ListN.{length}
use borrow.Author.Tests.{eqb-true, eqb-false}
use Rattle.isa.specs.Opcodes.{op_pow, is_opcode}
use Rattle.isa.specs.declared.U32TableEntry.{U32TableEntry}
use Rattle.isa.specs.Entries.{entry, dominant, height}
use Rattle.isa.proofs.Entries.{Admissible, height_bound}
use Rattle.isa.proofs.Entries.{dominant_end, end_dominant, dominant_half_pow, dominant_half, height_end, height_next, height_at_least}
use Rattle.table.specs.Columns.{Row}
use Rattle.std.specs.Prelude.{Option}
use Rattle.fill_results.specs.Results.{is_end, ending, carry}
use Rattle.fill_results.proofs.Results.{end_zero, zero_end, IsValue, value, ending_known, carry_known, ending_unknown}
use Rattle.fill_sections.specs.Sections.{Pending, first_pending, next_pending, is_last}
use Rattle.fill_sections.specs.Sections.{section_row, next_lhs, Section, rows, no_section, above, above_section}
use Rattle.fill_sections.specs.Sections.{section_from, section}

-- ---- the end row

pub end_height : (ci l r : ℕ) → is_end ci l r ≡ true → height (entry ci l r) ≡ 1
end_height ci l r e = let z = end_zero ci l r e in height_end (entry ci l r) (dominant_end (entry ci l r) z.0 z.1)

next_dominant : (ci l r : ℕ) → dominant (entry ci (next_lhs ci l) (r / 2)) ≡ dominant (entry ci l r) / 2
next_dominant ci l r = go (eqb ci op_pow) refl where
  go : (t : Bool) → eqb ci op_pow ≡ t → dominant (entry ci (cond t l (l / 2)) (r / 2)) ≡ dominant (entry ci l r) / 2
  go true k = dominant_half_pow (entry ci l r) l (eqb-true ci op_pow k)
  go false k = dominant_half (entry ci l r) (eqb-false ci op_pow k)

-- "RHS halved downwards, LHS too unless pow" takes one row from the height
pub next_height : (ci l r : ℕ) → is_end ci l r ≡ false → height (entry ci l r) ≡ suc (height (entry ci (next_lhs ci l) (r / 2)))
next_height ci l r e = height_next (entry ci l r) (entry ci (next_lhs ci l) (r / 2)) not_zero (next_dominant ci l r) where
  not_zero : dominant (entry ci l r) ≢ 0
  not_zero d =
      let z = end_dominant (entry ci l r) d in
      let t = zero_end ci l r z.0 z.1 in
      let o : ◌≡◌ {A = ℕ} 0 1 = cc in
      omega arith

-- ---- the section by its first row

-- the rows from a row to the section's end, this one included
abbrev pub left : Pending → ℕ
left q = height (entry q.ci q.lhs q.rhs)

last_left : (q : Pending) → is_last q ≡ true → left q ≡ 1
last_left q e = end_height q.ci q.lhs q.rhs e

pub next_left : (q : Pending) → is_last q ≡ false → left q ≡ suc (left (next_pending q))
next_left q e = next_height q.ci q.lhs q.rhs e

some_left : (q : Pending) → 1 ≤ left q
some_left q = height_at_least (entry q.ci q.lhs q.rhs)

module _ (n : ℕ) (q : Pending) where
  pub section_end : is_last q ≡ true → section_from (suc n) q ≡ above q (ending q.ci q.bits) []
  unfolding section_from
  section_end e = rw e

  pub section_next : is_last q ≡ false → section_from (suc n) q ≡ above_section q (section_from n (next_pending q))
  unfolding section_from
  section_next e = rw e

-- fuel for the height is enough
pub section_fuel : (n k : ℕ) (q : Pending) → left q ≤ n → left q ≤ k → section_from n q ≡ section_from k q
section_fuel zero k q a b = absurd (omega (arith, some_left q))
section_fuel (suc n) zero q a b = absurd (omega (arith, some_left q))
section_fuel (suc n) (suc k) q a b = step λ c d. section_fuel n k (next_pending q) c d
  where
    step : (left (next_pending q) ≤ n → left (next_pending q) ≤ k → section_from n (next_pending q) ≡ section_from k (next_pending q))
        → section_from (suc n) q ≡ section_from (suc k) q
    step below = go (is_last q) refl where
      go : (t : Bool) → is_last q ≡ t → section_from (suc n) q ≡ section_from (suc k) q
      go true e = section_end n q e ∙ sym (section_end k q e)
      go false e =
          section_next n q e
          ∙ ap (above_section q) (below (omega (arith, next_left q e)) (omega (arith, next_left q e)))
          ∙ sym (section_next k q e)

pub section_height : (e : U32TableEntry) (m : ℕ) → height e ≤ 34 → section e m ≡ section_from (height e) (first_pending e m)
unfolding section
section_height e m h = section_fuel 34 (height e) (first_pending e m) h (omega arith)

-- ---- the six opcodes

-- no other number has a section
pub section_unknown : (n : ℕ) (q : Pending) → is_opcode q.ci ≡ false → section_from n q ≡ no_section
unfolding section_from
section_unknown zero q k = refl
section_unknown (suc n) q k =
    rw (section_unknown n (next_pending q) k, ending_unknown q.ci q.bits k) (same (is_last q))
  where
    same : (t : Bool) → cond t no_section no_section ≡ no_section
    same true = refl
    same false = refl

-- ---- the rows of a section

abbrev pub is_end_row : Row → Bool
is_end_row row = is_end row.ci row.lhs row.rhs

-- the last row is an end row and no earlier one is
pub data OnlyLastEnds : Row → List Row → Type 0 where
  last : {row : Row} → is_end_row row ≡ true → OnlyLastEnds row []
  earlier : {row next : Row} {more : List Row} → is_end_row row ≡ false → OnlyLastEnds next more → OnlyLastEnds row (next ∷ more)

-- n rows, of which the first is this one
pub record HasRows (n : ℕ) (q : Pending) (s : Section) : Type 0 where
  pub first : Row
  pub more : List Row
  pub is : s ≡ rows first more
  pub top : first ≡ section_row q first.result
  pub count : length (first ∷ more) ≡ n
  pub ends : OnlyLastEnds first more

module _ (q : Pending) where
  last_row : {s : Section} {c : Option ℕ} → is_last q ≡ true → IsValue c → s ≡ above q c [] → HasRows 1 q s
  last_row e (value v) i = record { first = section_row q v; more = []; is = i; top = refl; count = refl; ends = last e }

  row_above_lem : {s : Section} {c : Option ℕ} {next : Row} {more : List Row} → is_last q ≡ false → IsValue c → OnlyLastEnds next more
      → s ≡ above q c (next ∷ more) → HasRows (suc (length (next ∷ more))) q s
  row_above_lem {next = next} {more = more} e (value v) o i = record {
    first = section_row q v;
    more = next ∷ more;
    is = i;
    top = refl;
    count = refl;
    ends = earlier e o;
  }

pub rows_from_lem : (n : ℕ) (q : Pending) → is_opcode q.ci ≡ true → left q ≡ n → HasRows n q (section_from n q)
rows_from_lem zero q k h = absurd (omega (arith, some_left q))
rows_from_lem (suc n) q k h = go (is_last q) refl (λ e. rows_from_lem n (next_pending q) k e)
  where
    go : (t : Bool) → is_last q ≡ t → (left (next_pending q) ≡ n → HasRows n (next_pending q) (section_from n (next_pending q)))
        → HasRows (suc n) q (section_from (suc n) q)
    go true e below =
        let one : suc n ≡ 1 = omega (arith, last_left q e) in
        let s = last_row q e (ending_known q.ci q.bits k) (section_end n q e) in
        record { first = s.first; more = s.more; is = s.is; top = s.top; count = s.count ∙ sym one; ends = s.ends }
    go false e below =
        let b = below (omega (arith, next_left q e)) in
        let i : section_from (suc n) q
        ≡ above q (carry q.ci q.copy_flag q.bits q.lhs q.rhs b.first.result) (b.first ∷ b.more)
        = section_next n q e ∙ ap (above_section q) b.is in
        let s = row_above_lem q e (carry_known q.ci q.copy_flag q.bits q.lhs q.rhs b.first.result k) b.ends i in
        record { first = s.first; more = s.more; is = s.is; top = s.top; count = rw b.count at s.count; ends = s.ends }

-- an admitted entry's section
pub section_rows : (e : U32TableEntry) (m : ℕ) → Admissible e → HasRows (height e) (first_pending e m) (section e m)
section_rows e m a =
    rw (section_height e m (omega (arith, height_bound e a)))
    (rows_from_lem (height e) (first_pending e m) a.known refl)
