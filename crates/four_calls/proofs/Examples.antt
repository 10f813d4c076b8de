-- The twelve proved examples of document 01, by one theorem (`twelve_examples`). Heights and plain functions are computed; the
-- Result of a section's first row is the plain function's, as for every admitted entry; the padding is that of the table after fill
-- and pad. And that a key with multiplicity 0 has no section, computed (`dropped_has_no_section`).
use Prim.Native.Nat.{ℕ, ◌+◌, ◌*◌}
use mathlib.Core.Path.{◌≡◌, refl, sym, ap, ◌∙◌, subst}
use mathlib.Core.List.{List, [], ◌∷◌, flat_map}
use native.Mathlib.Omega.{arith}
use lib.Dec.{lit<}
use lib.ListN.{length, get_or, replicate}
use Rattle.field.proofs.Powers.{pow_f_is}
use Rattle.xfield.proofs.Laws.{x_cubed}
use Rattle.words.specs.Answers.{done}
use Rattle.words.specs.Places.{places_from}
use Rattle.words.specs.Refusals.{first_reason, Fine}
use Rattle.isa.specs.Opcodes.{op_lt, op_log2_floor, op_pop_count, op_pow, is_opcode}
use Rattle.isa.specs.PlainFunctions.{plain_lt, floor_log2, plain_pow, one_bits, plain_result}
use Rattle.isa.specs.declared.U32TableEntry.{U32TableEntry}
use Rattle.isa.specs.Entries.{lhs, rhs, entry, judge_as_it_is, judge_entry, admitted, dominant, height_of, height}
use Rattle.isa.proofs.Entries.{Admissible, fine_admissible}
use Rattle.list.specs.Lists.{key_at, multiplicity_at, entry_at, list_shape, count_full, judge_entry_by, judge_place_by, judge_list}
use Rattle.list.specs.Heights.{section_places, entries_at, sum_heights, list_height}
use Rattle.list.specs.Counted.{counted_to, counted}
use Rattle.list.specs.Holds.{HeldList, hold_at, held_shape, judge_hold, open_hold, section_list, judge_held}
use Rattle.table.specs.Columns.{Row, main_width, row_at, table_shape}
use Rattle.table.specs.RowWords.{table_words}
use Rattle.std.specs.Prelude.{Some}
use Rattle.fill_results.specs.Results.{is_end, ending}
use Rattle.fill_sections.specs.Sections.{section_row, first_pending, section_from, section, top_result}
use Rattle.fill.specs.Filling.{sections_at}
use Rattle.fill_sections.specs.Sections.{first_row}
use Rattle.fill.specs.Filling.{fill_reason, fill_all}
use Rattle.fill.specs.Padding.{padding_row}
use Rattle.four_calls.specs.FourCalls.{first_rows_at, padded_table}
use Rattle.four_calls.specs.Examples.{one_entry, HasResult, HasPadding, AllHold, examples, DroppedHasNoSection}
use Rattle.four_calls.proofs.RowLists.{row_of_words}
use Rattle.four_calls.proofs.Sections.{honest_section}
use Rattle.four_calls.proofs.Tables.{front, padded_rows}
use Rattle.four_calls.proofs.Calls.{Filled, fill_done, final_rows, final_count, padded_is}

-- ---- results
-- of an entry that is judged fine and admitted as it is
has_result : (e : U32TableEntry) {result : ℕ} → judge_entry e ≡ Fine → admitted e ≡ e → plain_result e.opcode (lhs e) (rhs e) ≡ result
    → HasResult e result
unfolding first_row
has_result e fine same plain =
    let a : Admissible e = subst Admissible same (fine_admissible e fine) in
    record { plain = plain; first_row_lem = ap top_result (honest_section e 1 a (lit< tt)).section_is ∙ ap Some plain }

-- ---- padding below the one row of lt 0, 0
abbrev list : HeldList
list = one_entry (entry op_lt 0 0) 1

abbrev table : List ℕ
table = replicate 20 0

fills : (fill_all list table).answer ≡ done (1 ∷ [])
unfolding
    fill_all
    fill_reason
    table_shape
    judge_held
    held_shape
    open_hold
    judge_hold
    hold_at
    section_list
    counted
    counted_to
    flat_map
    judge_list
    list_shape
    first_reason
    judge_place_by
    judge_entry_by
    judge_entry
    judge_as_it_is
    is_opcode
    key_at
    multiplicity_at
    count_full
    places_from
    entry_at
    admitted
    entries_at
    sum_heights
    list_height
    height
    height_of
    dominant
    sections_at
    section
    section_from
    is_end
    ending
fills = refl

abbrev only_row : Row
only_row = section_row (first_pending (entry op_lt 0 0) 1) 0

one_row : sections_at (section_list list) (section_places (section_list list)) ≡ only_row ∷ []
unfolding section_list counted counted_to flat_map places_from sections_at entry_at admitted key_at multiplicity_at section section_from is_end ending
one_row = refl

row_below : (f : Filled list table 1) → (row_at (padded_table list table 1) 1).result ≡ 2
unfolding padding_row
row_below f =
    ap (λ (ws : List ℕ). (row_at ws 1).result) (padded_is f)
    ∙ ap (λ (row : Row). row.result) (row_of_words front (final_rows f) 1 (omega (arith, final_count f)))
    ∙ ap (λ (xs : List Row). (get_or (padded_rows xs 1) 1 front).result) (sym f.sections.sections_are ∙ one_row)

height_lt : height (entry op_lt 0 0) ≡ 1
unfolding height height_of dominant
height_lt = refl

padding_lt : HasPadding (entry op_lt 0 0) 2
padding_lt = record {
  padding =
      subst (λ (h : ℕ). (row_at (padded_table list (replicate (main_width * (h + 1)) 0) h) h).result ≡ 2) (sym height_lt)
      (row_below (fill_done list table 1 fills));
}

-- ---- the theorem
pub twelve_examples : (length examples ≡ 12) × AllHold examples
unfolding height height_of dominant judge_entry judge_as_it_is is_opcode admitted plain_result plain_lt plain_pow floor_log2 one_bits
twelve_examples = (
  refl,
  (
    refl,
    (
      refl,
      (
        refl,
        (
          refl,
          (
            (has_result (entry op_lt 0 0) refl refl refl, padding_lt),
            (
              has_result (entry op_lt 3 3) refl refl refl,
              (
                has_result (entry op_lt 2 3) refl refl refl,
                (
                  has_result (entry op_pow 0 0) refl refl (pow_f_is 0 0 (lit< tt) refl),
                  (
                    has_result (entry op_pow 2 64) refl refl (pow_f_is 2 64 (lit< tt) refl),
                    (
                      has_result (entry op_log2_floor 1 0) refl refl refl,
                      (
                        has_result (entry op_pop_count 4294967295 0) refl refl refl,
                        (x_cubed, tt),
                      ),
                    ),
                  ),
                ),
              ),
            ),
          ),
        ),
      ),
    ),
  ),
)

-- ---- a key with multiplicity 0
pub dropped_has_no_section : (e : U32TableEntry) → DroppedHasNoSection e 3
unfolding
    fill_all
    fill_reason
    table_shape
    judge_held
    held_shape
    open_hold
    judge_hold
    hold_at
    section_list
    counted
    counted_to
    flat_map
    judge_list
    list_shape
    first_reason
    multiplicity_at
    places_from
    entries_at
    sum_heights
    list_height
    sections_at
    table_words
    first_rows_at
dropped_has_no_section e = record { fills = refl; no_row = refl }
