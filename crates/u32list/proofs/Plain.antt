-- What `u32list` prints is `plain_text` (prints_plainly): of the calls, only reading and extension refuse, and the check's answer is zero. A list that
-- was read is admitted (list_round_trips: read_list_fine); so the plan and fill do not refuse, and the rest is the claim over the
-- four calls (crate four_calls). Assumes nothing.
use Prim.Native.Nat.{ℕ, ◌*◌, ◌%◌, ◌≤◌}
use mathlib.Core.Path.{◌≡◌, refl, ap, ◌∙◌}
use mathlib.Core.Bool.{Bool, true, false, cond}
use mathlib.Core.List.{List, [], ◌∷◌}
use native.Mathlib.Omega.{arith}
use borrow.Author.Tests.{ltb-false, le-ltb, eq-eqb, eqb-true}
use lib.Dec.{eqb, ltb}
use lib.ListN.{length, drop, length-replicate}
use Rattle.words.specs.Limits.{max_rows}
use Rattle.words.specs.Answers.{Answer, done}
use Rattle.words.specs.Refusals.{Fine}
use Rattle.words.proofs.Outcomes.{outcome_done}
use Rattle.list.specs.Heights.{list_height}
use Rattle.list.specs.Holds.{HeldList, section_list, judge_held}
use Rattle.list_record.specs.Plan.{padded_height, plan_all}
use Rattle.list_record.proofs.PaddedHeight.{padded_at_least, padded_positive}
use Rattle.list_stored.specs.Stored.{read_reason, read_all}
use Rattle.list_round_trips.proofs.RoundTrips.{read_list_fine}
use Rattle.table.specs.Columns.{main_width, aux_width, row_count, table_shape}
use Rattle.fill.specs.Filling.{fill_reason}
use Rattle.fill.specs.Extending.{extend_all}
use Rattle.four_calls.specs.FourCalls.{padded_table, NoneRefuses}
use Rattle.four_calls.proofs.Calls.{fill_answer}
use Rattle.four_calls.proofs.FourCalls.{four_calls, after_fill}
use Rattle.text.specs.Lines.{refused_line}
use Rattle.transcript.specs.Transcript.{max_input, max_printed_rows, challenge_bytes, input_challenges, zeros, unused_places, unless_refused}
use Rattle.transcript.specs.Transcript.{checked_text, extended_text, padded_text, calls_text, height_text, list_text, read_text, transcript_of}
use Rattle.transcript.proofs.Steps.{text_made}
use Rattle.u32list.specs.Plain.{plain_table, plain_list, plain_text}

-- ---- answers

-- texts that are the same wherever the call is not refused
unless_same : (a : Answer) (x y : List ℕ) → (a.number ≡ 0 → x ≡ y) → unless_refused a x ≡ unless_refused a y
unfolding unless_refused
unless_same a x y f = go (eqb a.number 0) refl where
  go : (t : Bool) → eqb a.number 0 ≡ t → cond t x (refused_line a.number) ≡ cond t y (refused_line a.number)
  go true e = f (eqb-true a.number 0 e)
  go false e = refl

answer_done : (a : Answer) → a.number ≡ 0 → a ≡ done a.values
answer_done a e = ap (λ (n : ℕ). record { number = n; values = a.values }) e

-- ---- a list that was read is admitted

module _ (s : List ℕ) where
  read_fine : (read_all unused_places s).answer.number ≡ 0 → read_reason unused_places s ≡ Fine
  unfolding read_all
  read_fine e = outcome_done (read_reason unused_places s) _ _ _ e

  list_fine : (read_all unused_places s).answer.number ≡ 0 → judge_held (read_all unused_places s).left ≡ Fine
  list_fine e = read_list_fine unused_places s (read_fine e)

-- ---- a table of as many rows as the padded height

abbrev fresh : ℕ → List ℕ
fresh padded = zeros (main_width * padded)

fresh_rows : (padded : ℕ) → row_count (fresh padded) ≡ padded
fresh_rows padded = let e : length (fresh padded) ≡ main_width * padded = length-replicate (main_width * padded) 0 in omega arith

fresh_shape : (padded : ℕ) → padded ≤ max_printed_rows → table_shape (fresh padded) ≡ true
unfolding table_shape
fresh_shape padded few =
    let e : length (fresh padded) ≡ main_width * padded = length-replicate (main_width * padded) 0 in
    let r = fresh_rows padded in
    rw (eq-eqb (length (fresh padded) % main_width) 0 (omega arith), le-ltb max_rows (row_count (fresh padded)) (omega arith))

module _ (h : HeldList) (fine : judge_held h ≡ Fine) (challenges : List ℕ) (padded : ℕ) (enough : list_height (section_list h) ≤ padded)
    (some : 1 ≤ padded) (few : padded ≤ max_printed_rows) where
  fill_fine : fill_reason h (fresh padded) ≡ Fine
  unfolding fill_reason
  fill_fine =
      let r = fresh_rows padded in
      rw (fresh_shape padded few, fine, le-ltb (row_count (fresh padded)) (list_height (section_list h)) (omega arith))

  calls_plainly : calls_text h challenges (list_height (section_list h)) padded (fresh padded) (zeros (aux_width * padded))
      ≡ plain_table h challenges (list_height (section_list h)) padded
  unfolding calls_text padded_text extended_text checked_text plain_table
  calls_plainly =
      let height = list_height (section_list h) in
      let table = fresh padded in
      let aux = zeros (aux_width * padded) in
      let filled = fill_answer h table fill_fine in
      let pads = (after_fill h table height filled).pad_done in
      let extension = extend_all (padded_table h table height) aux challenges in
      let r = fresh_rows padded in
      text_made _ (height ∷ []) filled
      ∙ text_made _ [] pads
      ∙ unless_same extension.answer _ _
      (λ e.
      let none : NoneRefuses h table aux challenges height extension.answer.values = record { fill = filled; pad = pads; extend = answer_done extension.answer e } in
      let zero = (four_calls h table aux challenges height extension.answer.values (omega arith) none).zero in
      rw zero (text_made _ [] refl))

-- ---- the text of a list, of stored bytes, of the input

-- two texts that are the same where the test is false
cond_same : (t : Bool) (a x y : List ℕ) → (t ≡ false → x ≡ y) → cond t a x ≡ cond t a y
cond_same true a x y f = refl
cond_same false a x y f = f refl

list_plainly : (h : HeldList) (challenges : List ℕ) → judge_held h ≡ Fine
    → list_text h challenges ≡ plain_list h challenges (list_height (section_list h)) (padded_height (list_height (section_list h)))
unfolding list_text height_text plan_all plain_list
list_plainly h challenges fine =
    let padded = padded_height (list_height (section_list h)) in
    text_made _ (list_height (section_list h) ∷ padded ∷ []) (rw fine)
    ∙ cond_same (ltb max_printed_rows padded) _ _ _
    (λ e.
    calls_plainly h fine challenges padded (padded_at_least (list_height (section_list h))) (padded_positive (list_height (section_list h))) (ltb-false max_printed_rows padded e))

read_plainly : (s challenges : List ℕ)
    → read_text s challenges
    ≡ unless_refused (read_all unused_places s).answer
    (plain_list (read_all unused_places s).left challenges (list_height (section_list (read_all unused_places s).left))
    (padded_height (list_height (section_list (read_all unused_places s).left))))
unfolding read_text
read_plainly s challenges =
    unless_same (read_all unused_places s).answer _ _ (λ e. list_plainly (read_all unused_places s).left challenges (list_fine s e))

pub prints_plainly : (input : List ℕ) → transcript_of input ≡ plain_text input
unfolding transcript_of plain_text
prints_plainly input =
    cond_same (ltb (length input) challenge_bytes) _ _ _
    (λ _. cond_same (ltb max_input (length input)) _ _ _
    (λ _. read_plainly (drop challenge_bytes input) (input_challenges input)))
