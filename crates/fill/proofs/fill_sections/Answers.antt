-- `fill::fill_sections` meets its contract. The invariant: `row` is the height of the places before `place`, and the table is the old one
-- with the rows of their sections put in from row 0 on. Assumes nothing.
use Rattle.std.proofs.Common.{◌≡◌, ℕ, ◌+◌, ◌*◌, ◌≤◌, ◌<◌, List, refl, sym, ap, ◌∙◌, add-one, arith}
use Rattle.std.proofs.lemmas.List.Edits.{sets}
use Rattle.words.specs.Refusals.{Fine}
use Rattle.isa.specs.declared.U32TableEntry.{U32TableEntry}
use Rattle.isa.specs.Entries.{height}
use Rattle.isa.proofs.Entries.{height_bound}
use Rattle.list.specs.Lists.{U32List, used, entry_at, multiplicity_at, judge_list}
use Rattle.list.specs.Lent.{counts_in}
use Rattle.list.specs.Heights.{list_height}
use Rattle.list.proofs.JudgedLists.{entry_admissible, height_to, height_none, height_more}
use Rattle.table.specs.Columns.{main_width}
use Rattle.table.specs.RowWords.{table_words}
use Rattle.fill_sections.specs.Sections.{section, section_words}
use Rattle.fill.specs.Filling.{filled}
use Rattle.fill.proofs.ListSections.{rows_to, rows_none, room_at, words_turn}
use Rattle.fill.proofs.fill_sections.Goals as goal

no_words : (l : U32List) (table : List ℕ) → table ≡ sets table 0 (table_words (rows_to l 0))
unfolding table_words
no_words l table = rw (rows_none l)

-- a turn adds the height of the entry at its place
rows_turn : (l : U32List) (i : ℕ) {row h : ℕ} {x : U32TableEntry}
    → row ≡ height_to l i → h ≡ height x → x ≡ entry_at l i → row + h ≡ height_to l (i + 1)
rows_turn l i e f g = let d = height_more l i in rw (add-one i) (cc)

section_fits : (l : U32List) (i row n : ℕ) {x : U32TableEntry} → judge_list l ≡ Fine → i < used l → x ≡ entry_at l i → row ≡ height_to l i
    → main_width * list_height l ≤ n → (main_width * (row + height x) ≤ n) × (height x ≤ 33)
section_fits l i row n fine h e r room =
    let same = ap height e in
    (omega (arith, room_at l fine i h), omega (arith, height_bound (entry_at l i) (entry_admissible l fine i h)))

all_words : (l : U32List) (before after : List ℕ) (i : ℕ) → i ≡ used l → after ≡ sets before 0 (table_words (rows_to l i))
    → after ≡ filled l before
unfolding rows_to
all_words l before after i e f = f ∙ ap (λ (n : ℕ). sets before 0 (table_words (rows_to l n))) e

pub loop-place-init : goal.loop-place-init
loop-place-init c =
    let l = counts_in c.args.places.now.list in
    (refl, sym (height_none l), no_words l c.args.table.now)

pub fill_entry-requires : goal.fill_entry-requires
fill_entry-requires c =
    let i = c.loop-place.invariant in
    let f = section_fits _ _ _ _ c.requires.fine c.loop-place-test.true (c.entry_at-entry.ensures _ _) i.1 c.requires.room in
    record { e_in_bounds = omega (arith, f.0, i.0); e_bound = f.1 }

pub overflow_add-row : goal.overflow_add-row
overflow_add-row c =
    let f = section_fits _ _ _ _ c.requires.fine c.loop-place-test.true (c.entry_at-entry.ensures _ _) c.loop-place.invariant.1 c.requires.room in
    omega (arith, f.0, c.table_height_contribution.ensures.exact)

pub loop-place-preserved : goal.loop-place-preserved
unfolding multiplicity_at
loop-place-preserved c =
    let l = counts_in c.args.places.now.list in
    let i = c.loop-place.invariant in
    let x = c.entry_at-entry.ensures _ _ in
    let same = ap (λ (y : U32TableEntry). sets c.loop-place.table (main_width * c.loop-place.row) (section_words (section y (multiplicity_at l c.loop-place.place)))) x in (
      c.fill_entry.auto.table ∙ i.0,
      rows_turn l _ i.1 c.table_height_contribution.ensures.exact x,
      words_turn l c.requires.fine _ _ c.args.table.now _ _ c.loop-place-test.true i.1 i.2 (c.fill_entry.ensures.table_after ∙ same),
    )

pub returns : goal.returns
returns c =
    let l = counts_in c.args.places.now.list in
    let i = c.loop-place.invariant in
    let all : c.loop-place.place ≡ used l = omega arith in
    all_words l c.args.table.now _ _ all i.2
