-- The recursion of section filling, said of rows and tables alone: what the end row leaves (`end_filled`), and what a row above leaves once
-- the rows below it are filled (`unknown_filled`, `row_filled`). Assumes nothing.
use Prim.Native.Nat.{ℕ, suc, ◌+◌, ◌*◌, ◌≤◌}
use mathlib.Core.Path.{◌≡◌, refl, sym, ap, ◌∙◌}
use mathlib.Core.Bool.{Bool, true, false}
use mathlib.Core.List.{List, [], ◌∷◌, ◌++◌}
use native.Mathlib.Omega.{arith}
use lib.ListN.{length}
use lib.Seq.{sets}
use Rattle.words.proofs.Sets.{sets_append, sets_comm}
use Rattle.isa.specs.Opcodes.{is_opcode}
use Rattle.isa.specs.Entries.{entry, height}
use Rattle.table.specs.Columns.{Row, main_width}
use Rattle.std.specs.Prelude.{Option, Some, None}
use Rattle.fill_sections.specs.declared.PendingRow.{PendingRow}
use Rattle.fill_results.specs.Results.{ending, carry}
use Rattle.fill_sections.specs.Sections.{Pending, next_pending, is_last, section_row, section_from}
use Rattle.table.specs.RowWords.{row_words, table_words}
use Rattle.fill_sections.specs.Sections.{Section, rows, no_section, above, above_section, top_result, section_words}
use Rattle.fill_sections.specs.PendingRows.{pending_of, rows_left, section_of}
use Rattle.fill_sections.proofs.Sections.{end_height, next_height, section_end, section_next, section_unknown}
use Rattle.fill_results.proofs.Results.{IsValue, value, carry_known}
use Rattle.isa.proofs.Entries.{height_at_least}

-- ---- the row's words

abbrev pub row_above : PendingRow → Option ℕ → List Row → Section
row_above row choice below = above (pending_of row) choice below

abbrev pub filled_row : PendingRow → ℕ → Row
filled_row row result = section_row (pending_of row) result

-- storing a row stores the words of the section that it is
pub stored_row : (row : PendingRow) (table : List ℕ) (at result : ℕ) {stored : Row} {after : List ℕ} → stored ≡ filled_row row result
    → after ≡ sets table (main_width * at) (row_words stored) → after ≡ sets table (main_width * at) (section_words (row_above row (Some result) []))
unfolding table_words
stored_row row table at result e w = w ∙ ap (λ (r : Row). sets table (main_width * at) (row_words r)) e

-- ---- the section of a row, and of the row below

abbrev end_of : PendingRow → Bool
end_of row = is_last (pending_of row)

abbrev carried_to : PendingRow → ℕ → Option ℕ
carried_to row below = carry row.ci row.copy_flag row.bits row.lhs.value row.rhs.value below

top_above : (row : PendingRow) (choice : Option ℕ) (below : List Row) → top_result (row_above row choice below) ≡ choice
top_above row (Some v) below = refl
top_above row None below = refl

last_section : (row : PendingRow) → end_of row ≡ true → section_of row ≡ row_above row (ending row.ci row.bits) []
last_section row e =
    rw (end_height row.ci row.lhs.value row.rhs.value e) (section_end 0 (pending_of row) e)

pub left_at_least : (row : PendingRow) → 1 ≤ rows_left row
left_at_least row = height_at_least (entry row.ci row.lhs.value row.rhs.value)

module _ (row next : PendingRow) (b : pending_of next ≡ next_pending (pending_of row)) (e : end_of row ≡ false) where
  pub left_below : rows_left row ≡ suc (rows_left next)
  left_below =
      next_height row.ci row.lhs.value row.rhs.value e ∙ ap (λ (q : Pending). suc (height (entry q.ci q.lhs q.rhs))) (sym b)

  section_above : section_of row ≡ above_section (pending_of row) (section_of next)
  section_above =
      rw left_below (section_next (rows_left next) (pending_of row) e)
      ∙ ap (λ (q : Pending). above_section (pending_of row) (section_from (rows_left next) q)) (sym b)

value_known : {c : Option ℕ} → IsValue c → c ≡ None → ⊥
value_known (value v) e = let z : ◌≡◌ {A = ℕ} 0 1 = cc in omega arith

-- ten words stored above the words below
row_over : (before between after : List ℕ) (at : ℕ) (row below : List ℕ) → length row ≡ main_width
    → between ≡ sets before (main_width * (at + 1)) below → after ≡ sets between (main_width * at) row → after ≡ sets before (main_width * at) (row ++ below)
row_over before between after at row below n e f =
    let here : main_width * (at + 1) ≡ main_width * at + length row = omega arith in
    f
    ∙ ap (λ (l : List ℕ). sets l (main_width * at) row) e
    ∙ sets_comm row below before (main_width * at) (main_width * (at + 1)) (omega arith)
    ∙ ap (λ (i : ℕ). sets (sets before (main_width * at) row) i below) here
    ∙ sym (sets_append row below before (main_width * at))

-- ---- the ways out

-- the answer, and the table afterwards
pub record Filled (row : PendingRow) (at : ℕ) (before after : List ℕ) (answer : Option ℕ) : Type 0 where
  pub result : answer ≡ top_result (section_of row)
  pub words : after ≡ sets before (main_width * at) (section_words (section_of row))

-- from the two clauses of the contract
pub both_clauses : {row : PendingRow} {at : ℕ} {before after : List ℕ} {answer : Option ℕ}
    → answer ≡ top_result (section_of row) → after ≡ sets before (main_width * at) (section_words (section_of row)) → Filled row at before after answer
both_clauses r w = record { result = r; words = w }

pub end_filled : (row : PendingRow) (at : ℕ) (before after : List ℕ) (choice : Option ℕ)
    → end_of row ≡ true
    → choice ≡ ending row.ci row.bits
    → after ≡ sets before (main_width * at) (section_words (row_above row choice []))
    → Filled row at before after choice
end_filled row at before after choice e f w =
    let s : section_of row ≡ row_above row choice [] = rw f (last_section row e) in
    record { result = rw s (sym (top_above row choice [])); words = rw s w }

module _ (row next : PendingRow) (at : ℕ) (before between : List ℕ) (below : Option ℕ)
    (b : pending_of next ≡ next_pending (pending_of row)) (e : end_of row ≡ false) (f : Filled next (at + 1) before between below) where
  -- the rows below have no Result, so nothing was written
  pub unknown_filled : below ≡ None → Filled row at before between None
  unknown_filled u = go (section_of next) refl where
    go : (s : Section) → section_of next ≡ s → Filled row at before between None
    go (rows first more) k =
        absurd (let t = f.result in let z : ◌≡◌ {A = ℕ} 0 1 = cc in omega arith)
    go no_section k =
        let s : section_of row ≡ no_section = section_above row next b e ∙ rw k in
        record { result = rw s; words = rw s (f.words ∙ rw k) }

  pub row_filled : (result : ℕ) (after : List ℕ) (choice : Option ℕ)
      → below ≡ Some result
      → choice ≡ carried_to row result
      → after ≡ sets between (main_width * at) (section_words (row_above row choice []))
      → Filled row at before after choice
  unfolding table_words
  row_filled result after choice v c w = go (section_of next) refl where
    stacked : (first : Row) (more : List Row) → section_of next ≡ rows first more → (d : Option ℕ) → choice ≡ d
        → section_of row ≡ row_above row d (first ∷ more) → Filled row at before after choice
    stacked first more k (Some u) q s = record {
      result = q ∙ rw s;
      words = rw s
          (row_over before between after at (row_words (filled_row row u)) (table_words (first ∷ more)) refl (f.words ∙ rw k) (w ∙ rw q));
    }
    stacked first more k None q s = absurd (no_section_lem (is_opcode row.ci) refl) where
      no_section_lem : (t : Bool) → is_opcode row.ci ≡ t → ⊥
      no_section_lem true o = value_known (carry_known row.ci row.copy_flag row.bits row.lhs.value row.rhs.value result o) (sym c ∙ q)
      no_section_lem false o =
          let u = section_unknown (rows_left next) (pending_of next) (ap (λ (q : Pending). is_opcode q.ci) b ∙ o) in
          let z : ◌≡◌ {A = ℕ} 0 1 = cc in
          omega arith

    go : (s : Section) → section_of next ≡ s → Filled row at before after choice
    go (rows first more) k =
        let r : first.result ≡ result = let t = f.result in cc in
        stacked first more k choice refl (section_above row next b e ∙ rw (k, r, c))
    go no_section k = absurd (let t = f.result in let z : ◌≡◌ {A = ℕ} 0 1 = cc in omega arith)
