-- What `u32list` prints, in document 01's sentences alone. `transcript_of` of the crate transcript also names the answers of the plan, of fill, of
-- pad and of the check that cannot be here; proofs/Plain.antt shows that it is this text, for all bytes.
use Rattle.std.specs.Prelude.{ℕ, ◌*◌, cond, List, [], ltb, length, drop}
use Rattle.words.specs.Refusals.{refusal_number}
use Rattle.words.specs.declared.Refusal.TheVariants.{Shape, Short, Torn}
use Rattle.list.specs.Lists.{used}
use Rattle.list.specs.Heights.{list_height}
use Rattle.list.specs.Holds.{HeldList, section_list}
use Rattle.list_record.specs.Plan.{padded_height}
use Rattle.list_stored.specs.Stored.{read_all}
use Rattle.table.specs.Columns.{main_width, aux_width}
use Rattle.fill.specs.Extending.{extend_all}
use Rattle.four_calls.specs.FourCalls.{padded_table}
use Rattle.text.specs.Lines.{refused_line}
use Rattle.transcript.specs.Transcript.{max_input, max_printed_rows, challenge_bytes, input_challenges, zeros, unused_places, unless_refused, result_text}

-- "then extension refuses", and else all is printed, and the check's answer is `zero`. N is that of the stored list: keys with multiplicity 0 are in
-- it, though they have no row (request 11)
unfoldable pub plain_table : HeldList → (challenges : List ℕ) → (height padded : ℕ) → List ℕ
plain_table h challenges height padded =
    let table = padded_table h (zeros (main_width * padded)) height in
    let extension = extend_all table (zeros (aux_width * padded)) challenges in
    unless_refused extension.answer (result_text (used h.list) height padded table extension.answer.values [])

-- "then a padded height over 512 prints `refused 7`"
unfoldable pub plain_list : HeldList → (challenges : List ℕ) → (height padded : ℕ) → List ℕ
plain_list h challenges height padded =
    cond (ltb max_printed_rows padded) (refused_line (refusal_number Short)) (plain_table h challenges height padded)

-- "Input under 120 bytes prints `refused 1`, over" 51,328 "`refused 10`; then reading refuses"
unfoldable pub plain_text : List ℕ → List ℕ
plain_text input =
    let reading = read_all unused_places (drop challenge_bytes input) in
    let height = list_height (section_list reading.left) in
    cond (ltb (length input) challenge_bytes) (refused_line (refusal_number Shape))
    (cond (ltb max_input (length input)) (refused_line (refusal_number Torn))
    (unless_refused reading.answer (plain_list reading.left (input_challenges input) height (padded_height height))))
