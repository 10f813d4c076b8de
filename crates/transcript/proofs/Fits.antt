-- No text is longer than max_text (transcript_fits), whatever the input. A refusal is one line; else there are at most 512 rows, three
-- words of a sum and six values of a verdict. Assumes nothing.
use Prim.Native.Nat.{ℕ, zero, suc, ◌+◌, ◌*◌, ◌≤◌}
use mathlib.Core.Path.{◌≡◌, refl}
use mathlib.Core.Bool.{Bool, true, false, cond}
use mathlib.Core.List.{List, [], ◌∷◌}
use native.Mathlib.Omega.{arith}
use borrow.Author.Tests.{ltb-false}
use lib.Dec.{eqb, ltb}
use lib.ListN.{length, drop, length-append}
use Rattle.words.specs.Answers.{Answer}
use Rattle.words.specs.Outcomes.{outcome}
use Rattle.words.specs.Refusals.{Judgement, Fine, Declined}
use Rattle.xfield.specs.Extension.{Ext, is_zero_x}
use Rattle.list.specs.Lists.{used}
use Rattle.list.specs.Heights.{list_height}
use Rattle.list.specs.Holds.{HeldList, section_list}
use Rattle.list_record.specs.Plan.{padded_height}
use Rattle.table.specs.Columns.{Row, row_at, row_count}
use Rattle.air.specs.Check.{nonzero, first_in, first_in_rows, first_nonzero, check_reason, checked_as, check_all}
use Rattle.table.specs.RowWords.{row_words}
use Rattle.sums.specs.RunningSum.{element_words, sum_words}
use Rattle.sums.specs.LookupSum.{summand_at, lookup_sum}
use Rattle.fill.specs.Filling.{fill_all}
use Rattle.fill.specs.Padding.{pad_all}
use Rattle.fill.specs.Extending.{extend_reason, extend_all}
use Rattle.text.specs.Lines.{row_line, verdict_line, refused_line}
use Rattle.text.specs.declared.Text.{Text}
use Rattle.text.specs.Put.{HasRoom, Adds}
use Rattle.text.proofs.Adding.{reached}
use Rattle.text.proofs.Lengths.{head_bound, row_bound, sum_bound, verdict_bound, refused_bound}
use Rattle.list_stored.specs.Stored.{read_all}
use Rattle.transcript.specs.Transcript.{max_input, max_printed_rows, challenge_bytes, input_challenges, unused_places, unless_refused}
use Rattle.transcript.specs.Transcript.{row_lines, opening_text, result_text}
use Rattle.transcript.specs.Transcript.{checked_text, extended_text, padded_text, calls_text, height_text, list_text, read_text}
use Rattle.transcript.specs.Transcript.{transcript_of, max_text}

-- ---- how many values the calls answer

extension_values : (table aux challenges : List ℕ) → length (extend_all table aux challenges).answer.values ≤ 3
unfolding extend_all
extension_values table aux challenges = go (extend_reason table aux challenges) where
  go : (j : Judgement)
      → length (outcome j (element_words (lookup_sum table challenges)) aux (sum_words (summand_at table challenges) (row_count table))).answer.values
      ≤ 3
  go Fine = omega arith
  go (Declined reason) = omega arith

first_in_values : (group row index : ℕ) (vs : List Ext) (next : Answer)
    → length next.values ≤ 6 → length (first_in group row index vs next).values ≤ 6
unfolding first_in
first_in_values group row index [] next h = h
first_in_values group row index (v ∷ vs) next h =
    go (is_zero_x v) (first_in group row (index + 1) vs next) (first_in_values group row (index + 1) vs next h) where
      go : (t : Bool) (a : Answer) → length a.values ≤ 6 → length (cond t a (nonzero group row index v)).values ≤ 6
      go true a l = l
      go false a l = omega arith

rows_values : (constraints : ℕ → List Ext) (group row left : ℕ) (next : Answer)
    → length next.values ≤ 6 → length (first_in_rows constraints group row left next).values ≤ 6
unfolding first_in_rows
rows_values constraints group row zero next h = h
rows_values constraints group row (suc left) next h =
    first_in_values group row 0 (constraints row) (first_in_rows constraints group (row + 1) left next)
    (rows_values constraints group (row + 1) left next h)

check_values : (table aux challenges : List ℕ) → length (check_all table aux challenges).values ≤ 6
unfolding check_all first_nonzero
check_values table aux challenges = go (check_reason table aux challenges) where
  go : (j : Judgement) → length (checked_as j (first_nonzero table aux challenges)).values ≤ 6
  go Fine =
      rows_values _ 0 0 1 _ (rows_values _ 1 0 _ _ (rows_values _ 2 0 _ _ (rows_values _ 3 _ 1 _ (omega arith))))
  go (Declined reason) = omega arith

-- ---- the parts of a text

pub row_ten : (r : Row) → length (row_line (row_words r)) ≤ 210
row_ten r =
    row_bound r.copy_flag
    (r.bits ∷ r.bits_minus33_inv ∷ r.ci ∷ r.lhs ∷ r.lhs_inv ∷ r.rhs ∷ r.rhs_inv ∷ r.result ∷ r.lookup_multiplicity ∷ [])

pub rows_bound : (table : List ℕ) (n : ℕ) → length (row_lines table n) ≤ 210 * n
unfolding row_lines
rows_bound table zero = omega arith
rows_bound table (suc n) =
    let row = row_words (row_at table n) in
    omega (arith, rows_bound table n, row_ten (row_at table n), length-append (row_lines table n) (row_line row))

refused_fits : (number : ℕ) → length (refused_line number) ≤ max_text
refused_fits number = omega (arith, refused_bound number)

unless_fits : (answer : Answer) (text : List ℕ) → length text ≤ max_text → length (unless_refused answer text) ≤ max_text
unfolding unless_refused
unless_fits answer text h = go (eqb answer.number 0) where
  go : (t : Bool) → length (cond t text (refused_line answer.number)) ≤ max_text
  go true = h
  go false = refused_fits answer.number

opening_length : (n height padded : ℕ) (table sum : List ℕ) → length sum ≤ 3
    → length (opening_text n height padded table sum) ≤ 83 + 210 * padded + 67
unfolding opening_text
opening_length n height padded table sum s =
    let h = head_bound n height padded in
    let r = rows_bound table padded in
    let b = sum_bound sum in
    simp length-append (omega arith)

-- there is room for the line of the verdict
module _ {old mid : Text} (n height padded : ℕ) (table sum : List ℕ) (three : length sum ≤ 3) (few : padded ≤ max_printed_rows)
    (room : HasRoom old max_text) (p : Adds old (opening_text n height padded table sum) mid) where
  pub room_after : HasRoom mid 134
  room_after =
      let r = reached p in
      omega (arith, room, r.len, r.size, opening_length n height padded table sum three)

  pub verdict_fits : (vs : List ℕ) → length vs ≤ 6 → HasRoom mid (length (verdict_line vs))
  verdict_fits vs h = omega (arith, room_after, verdict_bound vs)

result_fits : (n height padded : ℕ) (table sum verdict : List ℕ) → padded ≤ max_printed_rows → length sum ≤ 3 → length verdict ≤ 6
    → length (result_text n height padded table sum verdict) ≤ max_text
unfolding result_text
result_fits n height padded table sum verdict p s v =
    let o = opening_length n height padded table sum s in
    let d = verdict_bound verdict in
    simp length-append (omega arith)

module _ (n height padded : ℕ) (few : padded ≤ max_printed_rows) where
  checked_fits : (table aux challenges sum : List ℕ) → length sum ≤ 3
      → length (checked_text n height padded table aux challenges sum) ≤ max_text
  unfolding checked_text
  checked_fits table aux challenges sum s =
      let verdict = check_all table aux challenges in
      unless_fits _ _ (result_fits n height padded table sum verdict.values few s (check_values table aux challenges))

  extended_fits : (table aux challenges : List ℕ) → length (extended_text n height padded table aux challenges) ≤ max_text
  unfolding extended_text
  extended_fits table aux challenges =
      let extension = extend_all table aux challenges in
      unless_fits _ _ (checked_fits table extension.left challenges extension.answer.values (extension_values table aux challenges))

  padded_fits : (table aux challenges : List ℕ) → length (padded_text n height padded table aux challenges) ≤ max_text
  unfolding padded_text
  padded_fits table aux challenges = unless_fits _ _ (extended_fits (pad_all table height).left aux challenges)

calls_fit : (h : HeldList) (challenges : List ℕ) (height padded : ℕ) (table aux : List ℕ)
    → padded ≤ max_printed_rows → length (calls_text h challenges height padded table aux) ≤ max_text
unfolding calls_text
calls_fit h challenges height padded table aux few =
    unless_fits _ _ (padded_fits (used h.list) height padded few (fill_all h table).left aux challenges)

-- one of two texts
cond_fits : (t : Bool) (a b : List ℕ) → length a ≤ max_text → (t ≡ false → length b ≤ max_text) → length (cond t a b) ≤ max_text
cond_fits true a b h g = h
cond_fits false a b h g = g refl

height_fits : (h : HeldList) (challenges : List ℕ) (height padded : ℕ) → length (height_text h challenges height padded) ≤ max_text
unfolding height_text
height_fits h challenges height padded =
    cond_fits (ltb max_printed_rows padded) _ _ (refused_fits _)
    (λ e. calls_fit h challenges height padded _ _ (ltb-false max_printed_rows padded e))

list_fits : (h : HeldList) (challenges : List ℕ) → length (list_text h challenges) ≤ max_text
unfolding list_text
list_fits h challenges = unless_fits _ _ (height_fits h challenges (list_height (section_list h)) (padded_height (list_height (section_list h))))

-- ---- the whole text

read_fits : (bytes challenges : List ℕ) → length (read_text bytes challenges) ≤ max_text
unfolding read_text
read_fits bytes challenges = unless_fits _ _ (list_fits (read_all unused_places bytes).left challenges)

pub transcript_fits : (input : List ℕ) → length (transcript_of input) ≤ max_text
unfolding transcript_of
transcript_fits input =
    cond_fits (ltb (length input) challenge_bytes) _ _ (refused_fits _)
    (λ _. cond_fits (ltb max_input (length input)) _ _ (refused_fits _)
    (λ _. read_fits (drop challenge_bytes input) (input_challenges input)))
