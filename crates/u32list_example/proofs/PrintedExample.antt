-- Document 01's printed example on 256 rows, from the definitions (`printed_example`). Reading, the plan and the section of the one entry are
-- computed, down to literals. The 253 rows of padding are not: that pad and extend refuse nothing, what the last sum is, and that the
-- check's answer is zero come from the claim over the four calls, and the padding's lines from one line. An inverse is a power with an exponent of
-- 64 bits, which is not computed as it stands: the few that occur are rewritten first. Assumes nothing.
use Prim.Native.Nat.{ℕ}
use mathlib.Core.Path.{◌≡◌, refl, sym, ap, subst, ◌∙◌}
use mathlib.Core.List.{List, [], ◌∷◌, ◌++◌, flat_map}
use lib.Dec.{lit<}
use lib.ListN.{drop, replicate}
use Rattle.field.specs.Elements.{inv_f, add_f, sub_f, mul_f}
use Rattle.field.proofs.Powers.{inv_f_computed}
use Rattle.xfield.specs.Extension.{Ext, ext, zero_x, one_x, add_x, sub_x, mul_x, scale_x, equal_x, is_zero_x}
use Rattle.xfield.specs.Inverses.{inv_x}
use Rattle.xfield.proofs.Inverses.{inv_x_only, has_inverse_one}
use Rattle.xfield.proofs.RingLawsX.{reduce_x_reduced}
use Rattle.words.specs.Answers.{Answer, done}
use Rattle.words.specs.Refusals.{first_reason, Fine}
use Rattle.words.specs.LittleEndian.{le_at}
use Rattle.words.specs.Places.{places_from}
use Rattle.isa.specs.Opcodes.{is_opcode}
use Rattle.isa.specs.Entries.{judge_as_it_is, judge_entry, admit_stored, admitted, admit, dominant, height_of, height}
use Rattle.isa.specs.PlainFunctions.{floor_log2}
use Rattle.list.specs.Lists.{key_at, multiplicity_at, entry_at, list_shape, count_full, judge_entry_by, judge_place_by, judge_list}
use Rattle.list.specs.Heights.{section_places, entries_at, sum_heights, list_height}
use Rattle.list.specs.Counted.{counted_to, counted}
use Rattle.list.specs.Holds.{HeldList, held_list, hold_at, held_shape, judge_hold, open_hold, section_list, judge_held}
use Rattle.list_record.specs.Plan.{padded_height, plan_all}
use Rattle.list_bytes.specs.Packed.{stored_n, stored_height, stored_entry, width_of, stored_multiplicity}
use Rattle.list_repeats.specs.Repeats.{occurs, repeats}
use Rattle.list_stored.specs.Stored.{torn, tally, judge_stored, content_reason, read_reason, read_all}
use Rattle.table.specs.Columns.{Row, element_at, table_shape, aux_shape, all_reduced}
use Rattle.table.specs.Challenges.{challenges_of, challenges_shape, compressed_row, denominator}
use Rattle.air.specs.Check.{check_all}
use Rattle.fill_results.specs.Results.{is_end, ending, carry_and, carry}
use Rattle.table.specs.RowWords.{table_words}
use Rattle.fill_sections.specs.Sections.{bits_minus33_inverse, section_from, section}
use Rattle.fill.specs.Filling.{sections_at, fill_reason}
use Rattle.fill.specs.Padding.{padding_row}
use Rattle.sums.specs.RunningSum.{element_words}
use Rattle.fill.specs.Extending.{extend_all}
use Rattle.four_calls.specs.FourCalls.{first_rows_of, sum_from, none_zero, extend_refusals, copy_flag1, padded_table, extended_aux, NoneRefuses}
use Rattle.four_calls.proofs.Calls.{Filled, fill_filled, final_rows, padded_is}
use Rattle.four_calls.proofs.FourCalls.{four_calls, none_refuses}
use Rattle.text.specs.Lines.{ascii, digits_of, decimal, line_rest, line, head_line, row_line, sum_line, verdict_line}
use Rattle.transcript.specs.Transcript.{challenge_bytes, input_challenges, zeros, unused_places, unless_refused, row_lines, opening_text, result_text}
use Rattle.transcript.specs.Transcript.{checked_text, extended_text, padded_text, calls_text, height_text, list_text, read_text, transcript_of}
use Rattle.transcript.proofs.Steps.{text_made}
use Rattle.u32list_example.specs.PrintedExample.{input, repeated, printed}
use Rattle.u32list_example.proofs.Lines.{line_of, lines_join, lines_of_words, lines_same}

-- ---- reading
-- the list: one of 2,048 places in use
abbrev list : HeldList
list = held_list (record { capacity = 2048; used = 1 }) (14 ∷ 3 ∷ 1 ∷ replicate 6141 0) (2 ∷ replicate 2047 0) (0 ∷ replicate 2047 0)

abbrev challenges : List ℕ
challenges = 1 ∷ replicate 14 0

challenges_are : input_challenges input ≡ challenges
unfolding input_challenges le_at places_from
challenges_are = refl

reading_is : read_all unused_places (drop challenge_bytes input) ≡ record { answer = done (1 ∷ []); left = list }
unfolding read_all read_reason torn stored_n stored_height stored_entry width_of stored_multiplicity content_reason judge_stored judge_entry_by count_full admit_stored admit judge_entry judge_as_it_is is_opcode first_reason occurs repeats tally le_at held_shape list_shape height height_of dominant admitted floor_log2 places_from sum_heights flat_map
reading_is = refl

height_is_lem : list_height (section_list list) ≡ 3
unfolding section_list counted counted_to list_height places_from entries_at sum_heights height height_of dominant admitted entry_at key_at floor_log2 multiplicity_at flat_map
height_is_lem = refl

padded_height_is : padded_height 3 ≡ 256
unfolding padded_height
padded_height_is = refl

plan_is : plan_all list ≡ done (3 ∷ 256 ∷ [])
unfolding plan_all padded_height judge_held held_shape open_hold judge_hold hold_at section_list counted counted_to judge_list list_shape judge_place_by judge_entry_by count_full entry_at key_at multiplicity_at judge_entry judge_as_it_is is_opcode first_reason list_height places_from entries_at sum_heights height height_of dominant admitted floor_log2 flat_map
plan_is = refl

-- ---- the inverses that occur
inverse_0 : inv_f 0 ≡ 0
inverse_0 = inv_f_computed 0 refl

inverse_1 : inv_f 1 ≡ 1
inverse_1 = inv_f_computed 1 refl

inverse_3 : inv_f 3 ≡ 12297829379609722881
inverse_3 = inv_f_computed 3 refl

bits_0 : bits_minus33_inverse 0 ≡ 15651782846776010939
unfolding bits_minus33_inverse sub_f
bits_0 = inv_f_computed (sub_f 0 33) refl

bits_1 : bits_minus33_inverse 1 ≡ 576460752169205760
unfolding bits_minus33_inverse sub_f
bits_1 = inv_f_computed (sub_f 1 33) refl

bits_2 : bits_minus33_inverse 2 ≡ 7140675123644355221
unfolding bits_minus33_inverse sub_f
bits_2 = inv_f_computed (sub_f 2 33) refl

one_inverse : inv_x one_x ≡ one_x
unfolding mul_x add_f sub_f mul_f
one_inverse =
    sym
    (inv_x_only one_x one_x (record {
      below = reduce_x_reduced one_x;
      product = λ h. refl;
      none = λ f. absurd (f has_inverse_one);
    }))

-- ---- fill: the section's three rows, and padding below them
abbrev table : List ℕ
table = zeros 2560

abbrev aux : List ℕ
aux = zeros 768

fill_fine : fill_reason list table ≡ Fine
unfolding fill_reason table_shape judge_held held_shape open_hold judge_hold hold_at section_list counted counted_to judge_list list_shape judge_place_by judge_entry_by count_full entry_at key_at multiplicity_at judge_entry judge_as_it_is is_opcode first_reason list_height places_from entries_at sum_heights height height_of dominant admitted floor_log2 flat_map
fill_fine = refl

abbrev row : (a b c d e f g h i j : ℕ) → Row
row a b c d e f g h i j = record {
  copy_flag = a;
  bits = b;
  bits_minus33_inv = c;
  ci = d;
  lhs = e;
  lhs_inv = f;
  rhs = g;
  rhs_inv = h;
  result = i;
  lookup_multiplicity = j;
}

abbrev first_row_lem : Row
first_row_lem = row 1 0 15651782846776010939 14 3 12297829379609722881 1 1 1 2

abbrev section_rows : List Row
section_rows =
    first_row_lem
    ∷ row 0 1 576460752169205760 14 1 1 0 0 0 0
    ∷ row 0 2 7140675123644355221 14 0 0 0 0 0 0 ∷ []

abbrev padding : Row
padding = row 0 0 15651782846776010939 14 0 0 0 0 0 0

sections_are : sections_at (section_list list) (section_places (section_list list)) ≡ section_rows
unfolding section_list counted counted_to places_from entry_at key_at multiplicity_at admitted sections_at section section_from is_end ending carry carry_and add_f mul_f flat_map
sections_are = rw (bits_0, bits_1, bits_2, inverse_0, inverse_1, inverse_3) refl

filled : Filled list table (list_height (section_list list))
filled = fill_filled list table fill_fine

rows_are : filled.sections.all_rows_lem ≡ section_rows
rows_are = sym filled.sections.sections_are ∙ sections_are

final_rows_lem : final_rows filled ≡ section_rows ++ replicate 253 padding
unfolding padding_row
final_rows_lem = rw (rows_are, height_is_lem, bits_0) refl

-- ---- pad, extend, check: from the claim over the four calls, by the one first row
first_rows_are : first_rows_of (section_list list) ≡ first_row_lem ∷ []
unfolding copy_flag1
first_rows_are = sym filled.sections.first_rows ∙ ap copy_flag1 rows_are

refuses_nothing : extend_refusals (section_list list) table aux challenges ≡ Fine
unfolding extend_refusals aux_shape challenges_shape all_reduced none_zero challenges_of element_at denominator compressed_row add_x sub_x scale_x add_f sub_f mul_f is_zero_x equal_x
refuses_nothing = rw first_rows_are refl

sum_is : sum_from (challenges_of challenges) zero_x (first_rows_of (section_list list)) ≡ ext 2 0 0
unfolding sum_from challenges_of element_at denominator compressed_row add_x sub_x scale_x add_f sub_f mul_f
sum_is = rw (first_rows_are, one_inverse) refl

none : NoneRefuses list table aux challenges (list_height (section_list list)) (2 ∷ 0 ∷ 0 ∷ [])
none =
    subst (λ (x : Ext). NoneRefuses list table aux challenges (list_height (section_list list)) (element_words x)) sum_is
    (none_refuses list table aux challenges fill_fine refuses_nothing)

abbrev after : List ℕ
after = padded_table list table (list_height (section_list list))

check_is : check_all after (extended_aux list table (list_height (section_list list)) aux challenges) challenges ≡ done []
check_is = (four_calls list table aux challenges (list_height (section_list list)) (2 ∷ 0 ∷ 0 ∷ []) (lit< tt) none).zero

-- ---- the text
calls_text_lem : calls_text list challenges (list_height (section_list list)) 256 table aux ≡ result_text 1 (list_height (section_list list)) 256 after (2 ∷ 0 ∷ 0 ∷ []) []
unfolding calls_text padded_text extended_text checked_text
calls_text_lem =
    text_made _ _ none.fill ∙ text_made _ _ none.pad ∙ text_made _ _ none.extend
    ∙ ap (λ (a : Answer). unless_refused a (result_text 1 (list_height (section_list list)) 256 after (extend_all after aux challenges).answer.values a.values)) check_is
    ∙ text_made _ [] refl
    ∙ ap (λ (a : Answer). result_text 1 (list_height (section_list list)) 256 after a.values []) none.extend

lines_are : row_lines after 256 ≡ flat_map line_of section_rows ++ repeated 253 (line_of padding)
lines_are =
    ap (λ (t : List ℕ). row_lines t 256) (padded_is filled ∙ ap table_words final_rows_lem)
    ∙ lines_of_words (section_rows ++ replicate 253 padding)
    ∙ lines_join section_rows (replicate 253 padding)
    ∙ ap (λ (t : List ℕ). flat_map line_of section_rows ++ t) (lines_same 253 padding)

padding_line : line_of padding ≡ ascii "0 0 15651782846776010939 14 0 0 0 0 0 0\n"
unfolding line line_rest row_line decimal digits_of
padding_line = refl

calls_print : calls_text list challenges 3 256 table aux ≡ printed
unfolding result_text opening_text flat_map line line_rest head_line row_line sum_line verdict_line decimal digits_of
calls_print =
    ap (λ (h : ℕ). calls_text list challenges h 256 table aux) (sym height_is_lem) ∙ calls_text_lem
    ∙ ap (λ (text : List ℕ). (head_line 1 (list_height (section_list list)) 256 ++ (text ++ sum_line (2 ∷ 0 ∷ 0 ∷ []))) ++ verdict_line []) lines_are
    ∙ rw (height_is_lem, padding_line) refl

pub printed_example : transcript_of input ≡ printed
unfolding transcript_of read_text list_text height_text unless_refused
printed_example = rw (reading_is, challenges_are, plan_is, height_is_lem, padded_height_is) calls_print
