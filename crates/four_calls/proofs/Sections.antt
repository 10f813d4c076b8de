-- An entry's section: its first row is `first_row`, its rows are honest, each two neighbours meet the transition constraints, it ends
-- at an end row, and it has as many rows as the entry's height. By one induction on the fuel of the definition, down the halving of
-- the operands: the row below a row is the next one that `Follows` asks for, and its Result carries up to `row_result`.
use Prim.Native.Nat.{ℕ, zero, suc, ◌+◌, ◌≤◌, ◌<◌}
use mathlib.Core.Path.{◌≡◌, refl, sym, ap, ◌∙◌, subst}
use mathlib.Core.Logic.{◌≢◌, ◌⊎◌, inl, inr}
use mathlib.Core.Bool.{Bool, true, false}
use mathlib.Core.List.{List, []}
use native.Mathlib.Omega.{arith}
use native.Mathlib.Decide.{ℕ_discrete}
use lib.Dec.{lit<}
use lib.ListN.{length}
use Rattle.field.specs.Elements.{p}
use Rattle.isa.specs.Opcodes.{op_log2_floor, op_pow}
use Rattle.isa.specs.declared.U32TableEntry.{U32TableEntry}
use Rattle.isa.specs.Entries.{entry, lhs, rhs, lhs_limit, rhs_limit, height}
use Rattle.isa.proofs.Entries.{OneOfSix, opcode_cases, Admissible}
use Rattle.isa.proofs.Entries.{height_at_least, height_bound}
use Rattle.table.specs.Columns.{Row}
use Rattle.air.proofs.Descent.{EndRow}
use Rattle.air.proofs.Lists.{TransitionZero}
use Rattle.std.specs.Prelude.{Some}
use Rattle.fill_results.specs.Results.{ending, carry}
use Rattle.fill_sections.specs.Sections.{Pending, first_pending, next_pending, is_last}
use Rattle.fill_sections.specs.Sections.{section_row, next_lhs, Section, rows, no_section, above, above_section}
use Rattle.fill_sections.specs.Sections.{section_from, section, first_row}
use Rattle.fill_results.proofs.Results.{end_zero}
use Rattle.fill_sections.proofs.Sections.{left, end_height, next_left, section_end, section_next}
use Rattle.four_calls.proofs.Results.{row_result, carry_is, ending_is, first_is}
use Rattle.four_calls.proofs.HonestRows.{HonestRow, lhs_below}
use Rattle.four_calls.proofs.Steps.{Follows, next_other, next_pow, follows_zero}
use Rattle.four_calls.proofs.RowLists.{Each, Below, last_of}

-- ---- a pending row, from which a section goes down
-- the first row of a section, or one below it
abbrev Flagged : Pending → Type 0
Flagged q = ((q.copy_flag ≡ 0) × ((q.bits ≢ 0) × (q.multiplicity ≡ 0))) ⊎ ((q.copy_flag ≡ 1) × (q.bits ≡ 0))

record Fitting (q : Pending) : Type 0 where
  pub known : OneOfSix q.ci
  pub flag : Flagged q
  pub lhs_limit_lem : q.lhs < lhs_limit q.ci
  pub rhs_limit_lem : q.rhs < rhs_limit
  pub log_lhs : q.ci ≡ op_log2_floor → q.copy_flag ≡ 1 → q.lhs ≢ 0
  pub multiplicity_limit_lem : q.multiplicity < p
  pub room : q.bits + left q ≤ 33

abbrev result_of : Pending → ℕ
result_of q = row_result q.ci q.copy_flag q.bits q.lhs q.rhs

abbrev row_of : Pending → Row
row_of q = section_row q (result_of q)

honest_row : (q : Pending) → Fitting q → HonestRow (row_of q)
honest_row q w = record {
  known = w.known;
  flagged = flagged w.flag;
  bits_limit = omega (arith, w.room, height_at_least (entry q.ci q.lhs q.rhs));
  lhs_limit_lem = w.lhs_limit_lem;
  rhs_limit_lem = w.rhs_limit_lem;
  log_lhs = w.log_lhs;
  multiplicity_limit_lem = w.multiplicity_limit_lem;
  bits_inverse = refl;
  lhs_inverse_lem = refl;
  rhs_inverse_lem = refl;
  result_is_lem = refl;
}
  where
    flagged : Flagged q → ((q.copy_flag ≡ 0) × (q.multiplicity ≡ 0)) ⊎ ((q.copy_flag ≡ 1) × (q.bits ≡ 0))
    flagged (inl f) = inl (f.0, f.1.1)
    flagged (inr f) = inr f

next_limit : (ci l : ℕ) → l < lhs_limit ci → next_lhs ci l < lhs_limit ci
next_limit ci l h = go (ℕ_discrete ci op_pow)
  where
    go : Dec (ci ≡ op_pow) → next_lhs ci l < lhs_limit ci
    go (yes e) = omega (arith, next_pow l e)
    go (no n) = omega (arith, next_other l n)

module _ (q : Pending) (w : Fitting q) (going : is_last q ≡ false) where
  next_fits : Fitting (next_pending q)
  next_fits = record {
    known = w.known;
    flag = inl (refl, (λ e. omega arith, refl));
    lhs_limit_lem = next_limit q.ci q.lhs w.lhs_limit_lem;
    rhs_limit_lem = omega (arith, w.rhs_limit_lem);
    log_lhs = λ c e. absurd (omega arith);
    multiplicity_limit_lem = lit< tt;
    room = omega (arith, next_left q going, w.room);
  }

  next_follows : Follows (row_of q) (row_of (next_pending q))
  next_follows = record { copy_flag_zero = refl; ci_same = refl; lhs_next_lem = refl; rhs_half = refl; bits_next = inl refl }

-- ---- the rows of a section below its first
pub record SectionRows (first : Row) (more : List Row) : Type 0 where
  pub honest : HonestRow first
  pub each : Each HonestRow more
  pub below : Below TransitionZero first more
  pub ends : EndRow (last_of first more)
  -- "Each next row: CopyFlag 0, .. multiplicity 0"
  pub copy_flags : Each (λ row. row.copy_flag ≡ 0) more
  pub multiplicities : Each (λ row. row.lookup_multiplicity ≡ 0) more

record SectionOf (q : Pending) (first : Row) (more : List Row) : Type 0 where
  pub first_is : first ≡ row_of q
  pub section_rows : SectionRows first more
  pub section_length : suc (length more) ≡ left q

abbrev IsSection : Pending → Section → Type 0
IsSection q (rows first more) = SectionOf q first more
IsSection q no_section = ⊥

last_row : (q : Pending) → Fitting q → is_last q ≡ true → IsSection q (above q (ending q.ci q.bits) [])
last_row q w e =
    rw (ending_is q.ci w.known q.copy_flag q.bits q.lhs q.rhs (flag w.flag) zero.0 lhs_zero)
    (record {
      first_is = refl;
      section_rows = record {
        honest = honest_row q w;
        each = tt;
        below = tt;
        ends = record { rhs_zero = zero.0; lhs_zero = lhs_zero };
        copy_flags = tt;
        multiplicities = tt;
      };
      section_length = sym (end_height q.ci q.lhs q.rhs e);
    })
  where
    zero : (q.rhs ≡ 0) × ((q.lhs ≡ 0) ⊎ (q.ci ≡ op_pow))
    zero = end_zero q.ci q.lhs q.rhs e

    lhs_zero : q.ci ≢ op_pow → q.lhs ≡ 0
    lhs_zero n = go zero.1
      where
        go : (q.lhs ≡ 0) ⊎ (q.ci ≡ op_pow) → q.lhs ≡ 0
        go (inl z) = z
        go (inr c) = absurd (n c)

    flag : Flagged q → ((q.copy_flag ≡ 0) × (q.bits ≢ 0)) ⊎ ((q.copy_flag ≡ 1) × (q.bits ≡ 0))
    flag (inl f) = inl (f.0, f.1.0)
    flag (inr f) = inr f

upper_row : (q : Pending) → Fitting q → is_last q ≡ false → (below : Section)
    → IsSection (next_pending q) below → IsSection q (above_section q below)
upper_row q w e no_section s = elim s [ ]
upper_row q w e (rows next more) s =
    rw carried
    (record {
      first_is = refl;
      section_rows = record {
        honest = honest_row q w;
        each = (s.section_rows.honest, s.section_rows.each);
        below = (linked, s.section_rows.below);
        ends = s.section_rows.ends;
        copy_flags = (ap (λ (row : Row). row.copy_flag) s.first_is, s.section_rows.copy_flags);
        multiplicities = (ap (λ (row : Row). row.lookup_multiplicity) s.first_is, s.section_rows.multiplicities);
      };
      section_length = omega (arith, s.section_length, next_left q e);
    })
  where
    flag_bit : Flagged q → (q.copy_flag ≡ 0) ⊎ (q.copy_flag ≡ 1)
    flag_bit (inl f) = inl f.0
    flag_bit (inr f) = inr f.0

    carried : carry q.ci q.copy_flag q.bits q.lhs q.rhs next.result ≡ Some (result_of q)
    carried =
        ap (λ (row : Row). carry q.ci q.copy_flag q.bits q.lhs q.rhs row.result) s.first_is
        ∙ carry_is q.ci w.known q.copy_flag q.bits q.lhs q.rhs (flag_bit w.flag) (lhs_below (honest_row q w))

    linked : TransitionZero (row_of q) next
    linked =
        subst (TransitionZero (row_of q)) (sym s.first_is)
        (follows_zero (honest_row q w) (honest_row (next_pending q) (next_fits q w e)) (next_follows q w e))

section_from_lem : (fuel : ℕ) (q : Pending) → Fitting q → left q ≤ fuel → IsSection q (section_from fuel q)
section_from_lem zero q w h = absurd (omega (arith, height_at_least (entry q.ci q.lhs q.rhs)))
section_from_lem (suc fuel) q w h =
    go (λ e. section_from_lem fuel (next_pending q) (next_fits q w e) (omega (arith, next_left q e))) (is_last q) refl
  where
    go : (is_last q ≡ false → IsSection (next_pending q) (section_from fuel (next_pending q)))
        → (t : Bool) → is_last q ≡ t → IsSection q (section_from (suc fuel) q)
    go rest true e = rw (section_end fuel q e) (last_row q w e)
    go rest false e = rw (section_next fuel q e) (upper_row q w e (section_from fuel (next_pending q)) (rest e))

-- ---- an entry's section
pub record HonestSection (e : U32TableEntry) (multiplicity : ℕ) : Type 0 where
  pub more : List Row
  pub section_is : section e multiplicity ≡ rows (first_row e multiplicity) more
  pub section_rows : SectionRows (first_row e multiplicity) more
  pub section_length : suc (length more) ≡ height e

first_row_is : (e : U32TableEntry) (multiplicity : ℕ) → Admissible e
    → row_of (first_pending e multiplicity) ≡ first_row e multiplicity
unfolding first_row
first_row_is e multiplicity a =
    ap (λ (v : ℕ). section_row (first_pending e multiplicity) v) (first_is e.opcode (lhs e) (rhs e) a.log)

first_fits : (e : U32TableEntry) (multiplicity : ℕ) → Admissible e → multiplicity < p → Fitting (first_pending e multiplicity)
first_fits e multiplicity a m = record {
  known = opcode_cases e.opcode a.known;
  flag = inr (refl, refl);
  lhs_limit_lem = a.left;
  rhs_limit_lem = a.right;
  log_lhs = λ c f. a.log c;
  multiplicity_limit_lem = m;
  room = omega (arith, height_bound e a);
}

pub honest_section : (e : U32TableEntry) (multiplicity : ℕ) → Admissible e → multiplicity < p → HonestSection e multiplicity
unfolding section
honest_section e multiplicity a m =
    go (section e multiplicity) refl
    (section_from_lem 34 (first_pending e multiplicity) (first_fits e multiplicity a m) (omega (arith, height_bound e a)))
  where
    go : (s : Section) → section e multiplicity ≡ s → IsSection (first_pending e multiplicity) s → HonestSection e multiplicity
    go no_section k s = elim s [ ]
    go (rows first more) k s =
        let f = s.first_is ∙ first_row_is e multiplicity a in
        record {
          more = more;
          section_is = k ∙ ap (λ (row : Row). rows row more) f;
          section_rows = subst (λ (row : Row). SectionRows row more) f s.section_rows;
          section_length = s.section_length;
        }
