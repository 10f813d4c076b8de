-- What `u32list` prints (document 01, "Recording and stored lists", from "The program `u32list`" on), as a function of its input bytes.
use Rattle.std.specs.Prelude.{ℕ, zero, suc, ◌+◌, ◌*◌, ◌≤◌, ◌≡◌, cond, List, [], ◌∷◌, ◌++◌, map, eqb, ltb, length, drop, replicate, Result, Ok, Err}
use Rattle.std.proofs.lemmas.List.Edits.{sets}
use Rattle.words.specs.Limits.{max_places}
use Rattle.words.specs.LittleEndian.{le_at}
use Rattle.words.specs.Answers.{Answer, done, declined}
use Rattle.words.specs.Outcomes.{Outcome, outcome}
use Rattle.words.specs.Refusals.{refusal_number, decline_if, Judgement}
use Rattle.words.specs.declared.Refusal.{Refusal}
use Rattle.words.specs.declared.Refusal.TheVariants.{Shape, Short, Torn}
use Rattle.words.specs.Places.{places}
use Rattle.list.specs.Lists.{used}
use Rattle.list.specs.Heights.{list_height}
use Rattle.list.specs.Holds.{HeldList, held_list, section_list}
use Rattle.list_record.specs.Plan.{padded_height, plan_all}
use Rattle.list_stored.specs.Stored.{read_all}
use Rattle.table.specs.Columns.{main_width, aux_width, row_at}
use Rattle.table.specs.Challenges.{challenge_words}
use Rattle.air.specs.Check.{check_all}
use Rattle.table.specs.RowWords.{row_words}
use Rattle.fill.specs.Filling.{fill_all}
use Rattle.fill.specs.Padding.{pad_all}
use Rattle.fill.specs.Extending.{extend_all}
use Rattle.text.specs.Lines.{head_line, row_line, sum_line, verdict_line, refused_line}
use Rattle.text.specs.declared.Text.{Text}
use Rattle.text.specs.Put.{HasRoom, Adds}

-- ---- limits of the program
-- "51,328 bytes become the most input": challenges and a stored list of 2,048 entries (proofs/Limits.antt: max_input_lem); more is refused with 10
abbrev pub max_input : ℕ
max_input = 51328

-- it refuses "a padded height over 512" with 7
abbrev pub max_printed_rows : ℕ
max_printed_rows = 512

-- ---- the input: "120 challenge bytes (fifteen 8-byte little-endian words) and a stored list"
abbrev pub challenge_bytes : ℕ
challenge_bytes = 8 * challenge_words

unfoldable pub input_challenges : List ℕ → List ℕ
input_challenges input = map (λ i. le_at input (8 * i) 8) (places challenge_words)

abbrev pub zeros : ℕ → List ℕ
zeros n = replicate n 0

-- "which it reads onto 2,048 places": none of them in use, and none held
abbrev pub unused_places : HeldList
unused_places = held_list (record { capacity = max_places; used = 0 }) (zeros (3 * max_places)) (zeros max_places) (zeros max_places)

-- ---- the text
-- "A refusal prints `refused` and the number alone": the text of a call that is refused, or else what it leads to
unfoldable pub unless_refused : Answer → List ℕ → List ℕ
unless_refused answer text = cond (eqb answer.number 0) text (refused_line answer.number)

-- the lines of the first n rows, the fields of each "the ten columns"
unfoldable pub row_lines : List ℕ → ℕ → List ℕ
row_lines table zero = []
row_lines table (suc n) = row_lines table n ++ row_line (row_words (row_at table n))

-- "The first line has N, height and padded height; then comes each row up to the padded height ..; then `sum` and the last sum's three
-- words; ..
unfoldable pub opening_text : (n height padded : ℕ) → (table sum : List ℕ) → List ℕ
opening_text n height padded table sum = head_line n height padded ++ (row_lines table padded ++ sum_line sum)

-- .. then the check's answer."
unfoldable pub result_text : (n height padded : ℕ) → (table sum verdict : List ℕ) → List ℕ
result_text n height padded table sum verdict = opening_text n height padded table sum ++ verdict_line verdict

-- Fill, pad, extend and check in a row, each on the arrays that the one before left. Pad is given the height that the plan answered, which
-- is the one that fill answers. The check's answer:
abbrev pub verdict_text : (n height padded : ℕ) → (table sum : List ℕ) → (verdict : Answer) → List ℕ
verdict_text n height padded table sum verdict =
    unless_refused verdict (result_text n height padded table sum verdict.values)

-- the check
unfoldable pub checked_text : (n height padded : ℕ) → (table aux challenges sum : List ℕ) → List ℕ
checked_text n height padded table aux challenges sum = verdict_text n height padded table sum (check_all table aux challenges)

-- extension, then the check
unfoldable pub extended_text : (n height padded : ℕ) → (table aux challenges : List ℕ) → List ℕ
extended_text n height padded table aux challenges =
    let extension = extend_all table aux challenges in
    unless_refused extension.answer (checked_text n height padded table extension.left challenges extension.answer.values)

-- padding, then those
unfoldable pub padded_text : (n height padded : ℕ) → (table aux challenges : List ℕ) → List ℕ
padded_text n height padded table aux challenges =
    let padding = pad_all table height in
    unless_refused padding.answer (extended_text n height padded padding.left aux challenges)

-- Filling, then those. The N of the first line is that of the stored list, keys with multiplicity 0 included: these take a place when read, and have
-- no row (request 11)
unfoldable pub calls_text : HeldList → (challenges : List ℕ) → (height padded : ℕ) → (table aux : List ℕ) → List ℕ
calls_text h challenges height padded table aux =
    let filling = fill_all h table in
    unless_refused filling.answer (padded_text (used h.list) height padded filling.left aux challenges)

-- "then a padded height over 512 prints `refused 7`". The table that is lent has the padded height
unfoldable pub height_text : HeldList → (challenges : List ℕ) → (height padded : ℕ) → List ℕ
height_text h challenges height padded =
    cond (ltb max_printed_rows padded)
    (refused_line (refusal_number Short))
    (calls_text h challenges height padded (zeros (main_width * padded)) (zeros (aux_width * padded)))

-- the plan, then those
unfoldable pub list_text : HeldList → (challenges : List ℕ) → List ℕ
list_text h challenges =
    unless_refused (plan_all h) (height_text h challenges (list_height (section_list h)) (padded_height (list_height (section_list h))))

-- reading, then those
unfoldable pub read_text : (bytes challenges : List ℕ) → List ℕ
read_text bytes challenges =
    let reading = read_all unused_places bytes in
    unless_refused reading.answer (list_text reading.left challenges)

-- "Input under 120 bytes prints `refused 1`, over" 51,328 "`refused 10`; then reading refuses"
unfoldable pub transcript_of : List ℕ → List ℕ
transcript_of input =
    cond (ltb (length input) challenge_bytes) (refused_line (refusal_number Shape))
    (cond (ltb max_input (length input)) (refused_line (refusal_number Torn))
    (read_text (drop challenge_bytes input) (input_challenges input)))

-- No text is longer (proofs/Fits.antt): a number has at most 20 digits, and a space or a newline follows it
abbrev pub max_text : ℕ
max_text = 83 + 210 * max_printed_rows + 67 + 134

-- ---- the call
-- 7 is "output bytes too few"
unfoldable pub transcribe_reason : List ℕ → Judgement
transcribe_reason out = decline_if (ltb (length out) max_text) Short

-- the text stands at the front of the lent bytes, the answer is its length, and the bytes past it are untouched
unfoldable pub transcribe_all : (input out : List ℕ) → Outcome (List ℕ)
transcribe_all input out =
    outcome (transcribe_reason out) (length (transcript_of input) ∷ []) out (sets out 0 (transcript_of input))

-- what the answer of `transcript` means
abbrev pub transcribed_answer : Result ℕ Refusal → Answer
transcribed_answer (Ok n) = done (n ∷ [])
transcribed_answer (Err reason) = declined reason

-- what is put fits in any bytes that are not refused
abbrev pub Fits : (input : List ℕ) → Type 0
Fits input = length (transcript_of input) ≤ max_text

-- ---- room: the text fits, and the table has the rows that are printed
abbrev pub Printable : Text → (table : List ℕ) → (padded : ℕ) → Type 0
Printable text table padded = HasRoom text max_text × (padded ≤ max_printed_rows) × (main_width * padded ≤ length table)

-- what a step leaves that prints: the text that is due was put; or a call refused, the text that is due is its line, and nothing was put yet
abbrev pub Prints : (before : Text) → (due : List ℕ) → Result (Unit {0}) Refusal → (after : Text) → Type 0
Prints before due (Ok put) after = Adds before due after
Prints before due (Err reason) after = (due ≡ refused_line (refusal_number reason)) × (after ≡ before)
