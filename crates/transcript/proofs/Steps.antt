-- The text that is due after each call: from what the call's contract says of its answer and of what it left, and the text that was put
-- then. Assumes nothing.
use Prim.Native.Nat.{ℕ, ◌-◌, ◌*◌, ◌≤◌, ◌<◌}
use mathlib.Core.Path.{◌≡◌, refl, sym, ap, ◌∙◌}
use mathlib.Core.List.{List, [], ◌∷◌, ◌++◌}
use native.Mathlib.Omega.{arith}
use borrow.Author.Tests.{ltb-false, lt-ltb, le-ltb}
use lib.Dec.{ltb}
use lib.ListN.{length, get_or, take, drop, length-replicate, length-drop}
use lib.Seq.{sets, length-sets, take_all}
use Rattle.std.proofs.lemmas.List.{take-replicate}
use Rattle.std.specs.Prelude.{Option, None, Some, Result, Ok, Err}
use Rattle.words.specs.Answers.{Answer, done, declined}
use Rattle.words.specs.Outcomes.{Outcome, Leaves, answered}
use Rattle.words.specs.Refusals.{refusal_number, Judgement, Fine, Declined}
use Rattle.words.specs.declared.Refusal.{Refusal}
use Rattle.words.specs.declared.Refusal.TheVariants.{Shape, Short, Torn}
use Rattle.words.proofs.Answers.{not_done}
use Rattle.words.proofs.Judgements.{decline_true, decline_false, decline_fine}
use Rattle.words.proofs.Outcomes.{outcome_fine, leaves_done, leaves_declined, done_fine}
use Rattle.xfield.specs.declared.XFieldElement.{XFieldElement}
use Rattle.xfield.specs.XFieldElements.{ext_of}
use Rattle.list.specs.Lists.{used}
use Rattle.list_record.specs.declared.Heights.{Heights}
use Rattle.list.specs.Heights.{list_height}
use Rattle.list.specs.Holds.{HeldList, section_list, judge_held}
use Rattle.list_record.specs.Plan.{padded_height, plan_all, planned_answer}
use Rattle.table.specs.Columns.{main_width, aux_width}
use Rattle.air.specs.Check.{nonzero, check_all}
use Rattle.check_search.specs.declared.Nonzero.{Nonzero}
use Rattle.check_search.specs.Nonzeros.{group_number}
use Rattle.check_table.specs.Verdicts.{Verdict, verdict_answer}
use Rattle.fill.specs.Filling.{fill_all}
use Rattle.fill.specs.Padding.{pad_all}
use Rattle.sums.specs.RunningSum.{element_words}
use Rattle.fill.specs.Extending.{extend_all}
use Rattle.list_stored.specs.Stored.{read_all, read_answer}
use Rattle.text.specs.Lines.{verdict_line, refused_line}
use Rattle.text.specs.declared.Text.{Text}
use Rattle.text.specs.Put.{Put, HasRoom, Adds}
use Rattle.text.proofs.Lengths.{refused_bound}
use Rattle.transcript.specs.Transcript.{max_input, max_printed_rows, challenge_bytes, input_challenges, zeros, unused_places, unless_refused}
use Rattle.transcript.specs.Transcript.{opening_text, result_text, verdict_text}
use Rattle.transcript.specs.Transcript.{checked_text, extended_text, padded_text, calls_text, height_text, list_text, read_text}
use Rattle.transcript.specs.Transcript.{transcript_of, max_text, transcribe_reason, transcribe_all, transcribed_answer, Fits, Prints}
use Rattle.transcript.proofs.Fits.{transcript_fits}

-- ---- a call that is refused, and one that is made

pub refused : {due : Answer} (text : List ℕ) (reason : Refusal) → declined reason ≡ due → unless_refused due text ≡ refused_line (refusal_number reason)
unfolding unless_refused
refused text reason e = rw (← e, not_done reason)

pub text_made : {a : Answer} (text vs : List ℕ) → a ≡ done vs → unless_refused a text ≡ text
unfolding unless_refused
text_made text vs e = rw e

-- ---- the check

-- the text after the verdict v
abbrev due : (n height padded : ℕ) (table sum : List ℕ) (v : Verdict) → List ℕ
due n height padded table sum v = verdict_text n height padded table sum (verdict_answer v)

module _ (n height padded : ℕ) (table sum : List ℕ) where
  pub result_refused : (reason : Refusal) → due n height padded table sum (Err reason) ≡ refused_line (refusal_number reason)
  result_refused reason = refused _ reason refl

  pub result_zero : {found : Option Nonzero} → found ≡ None
      → due n height padded table sum (Ok found) ≡ opening_text n height padded table sum ++ verdict_line []
  unfolding result_text
  result_zero e = rw e (text_made _ [] refl)

  pub result_nonzero : {found : Option Nonzero} (f : Nonzero) → found ≡ Some f
      → due n height padded table sum (Ok found)
      ≡ opening_text n height padded table sum ++ verdict_line (group_number f.group ∷ f.row ∷ f.index ∷ element_words (ext_of f.value))
  unfolding result_text
  result_nonzero f e = rw e (text_made _ (nonzero (group_number f.group) f.row f.index (ext_of f.value)).values refl)

-- ---- the other calls

module _ (n height padded : ℕ) (table aux challenges : List ℕ) where
  pub extension_refused : (reason : Refusal) {after : List ℕ} → Leaves (extend_all table aux challenges) (declined reason) after
      → extended_text n height padded table aux challenges ≡ refused_line (refusal_number reason)
  unfolding extended_text
  extension_refused reason e = refused _ reason e.answer

  pub extension_made : (sum : XFieldElement) {after : List ℕ} (v : Verdict)
      → Leaves (extend_all table aux challenges) (done (element_words (ext_of sum))) after → verdict_answer v ≡ check_all table after challenges
      → extended_text n height padded table aux challenges ≡ due n height padded table (element_words (ext_of sum)) v
  unfolding extended_text checked_text
  extension_made sum v e k =
      let values : element_words (ext_of sum) ≡ (extend_all table aux challenges).answer.values = ap (λ (a : Answer). a.values) e.answer in
      text_made _ (element_words (ext_of sum)) (sym e.answer) ∙ rw (← values, ← e.left, ← k)

  pub padding_refused : (reason : Refusal) {after : List ℕ} → Leaves (pad_all table height) (declined reason) after
      → padded_text n height padded table aux challenges ≡ refused_line (refusal_number reason)
  unfolding padded_text
  padding_refused reason e = refused _ reason e.answer

  pub padding_made : {after : List ℕ} → Leaves (pad_all table height) (done []) after
      → padded_text n height padded table aux challenges ≡ extended_text n height padded after aux challenges
  unfolding padded_text
  padding_made e = text_made _ [] (sym e.answer) ∙ rw (← e.left)

module _ (h : HeldList) (challenges : List ℕ) (height padded : ℕ) where
  module _ (table aux : List ℕ) where
    pub filling_refused : (reason : Refusal) {after : List ℕ} → Leaves (fill_all h table) (declined reason) after
        → calls_text h challenges height padded table aux ≡ refused_line (refusal_number reason)
    unfolding calls_text
    filling_refused reason e = refused _ reason e.answer

    pub filling_made : (rows : ℕ) {after : List ℕ} → Leaves (fill_all h table) (done (rows ∷ [])) after
        → calls_text h challenges height padded table aux ≡ padded_text (used h.list) height padded after aux challenges
    unfolding calls_text
    filling_made rows e = text_made _ (rows ∷ []) (sym e.answer) ∙ rw (← e.left)

  -- a padded height over 512, and one that is not
  pub height_refused : max_printed_rows < padded → height_text h challenges height padded ≡ refused_line (refusal_number Short)
  unfolding height_text
  height_refused k = rw (lt-ltb max_printed_rows padded k)

  pub height_printed : (table aux : List ℕ) → padded ≤ max_printed_rows
      → table ≡ zeros (main_width * padded) → aux ≡ zeros (aux_width * padded)
      → height_text h challenges height padded ≡ calls_text h challenges height padded table aux
  unfolding height_text
  height_printed table aux k t a = rw (le-ltb max_printed_rows padded k, ← t, ← a)

module _ (h : HeldList) (challenges : List ℕ) {plan : Result Heights Refusal} (planned : planned_answer plan ≡ plan_all h) where
  pub plan_refused : (reason : Refusal) → plan ≡ Err reason → list_text h challenges ≡ refused_line (refusal_number reason)
  unfolding list_text
  plan_refused reason k = refused _ reason (rw k at planned)

  pub plan_made : (heights : Heights) → plan ≡ Ok heights → list_text h challenges ≡ height_text h challenges heights.height heights.padded
  unfolding list_text plan_all
  plan_made heights k = text_made _ (height ∷ padded ∷ []) (sym (rw k at planned)) ∙ go (judge_held h) (rw k at planned) where
    height : ℕ
    height = heights.height

    padded : ℕ
    padded = heights.padded

    go : (j : Judgement) → done (height ∷ padded ∷ []) ≡ answered j (list_height (section_list h) ∷ padded_height (list_height (section_list h)) ∷ [])
        → height_text h challenges (list_height (section_list h)) (padded_height (list_height (section_list h))) ≡ height_text h challenges height padded
    go Fine k =
        let g : height ≡ list_height (section_list h) = ap (λ (a : Answer). get_or a.values 0 0) k in
        let q : padded ≡ padded_height (list_height (section_list h)) = ap (λ (a : Answer). get_or a.values 1 0) k in
        rw (← q, ← g)
    go (Declined reason) k = absurd (let v = ap (λ (a : Answer). length a.values) k in omega arith)

module _ (bytes challenges : List ℕ) {after : HeldList} where
  pub reading_refused : (reason : Refusal) → Leaves (read_all unused_places bytes) (read_answer (Err reason)) after
      → read_text bytes challenges ≡ refused_line (refusal_number reason)
  unfolding read_text
  reading_refused reason e = refused _ reason e.answer

  pub reading_made : (n : ℕ) → Leaves (read_all unused_places bytes) (read_answer (Ok n)) after
      → read_text bytes challenges ≡ list_text after challenges
  unfolding read_text
  reading_made n e = text_made _ (n ∷ []) (sym e.answer) ∙ rw (← e.left)

-- ---- the whole

-- what `transcript` ensures
abbrev pub Transcribes : (input out : List ℕ) → Result ℕ Refusal → (after : List ℕ) → Type 0
Transcribes input out r after = Leaves (transcribe_all input out) (transcribed_answer r) after × Fits input

module _ (input : List ℕ) where
  pub short_input : length input < challenge_bytes → transcript_of input ≡ refused_line (refusal_number Shape)
  unfolding transcript_of
  short_input h = rw (lt-ltb (length input) challenge_bytes h)

  pub long_input : challenge_bytes ≤ length input → max_input < length input → transcript_of input ≡ refused_line (refusal_number Torn)
  unfolding transcript_of
  long_input g h = rw (le-ltb (length input) challenge_bytes g, lt-ltb max_input (length input) h)

  pub stored_input : (challenges : List ℕ) → challenge_bytes ≤ length input → length input ≤ max_input → challenges ≡ input_challenges input
      → transcript_of input ≡ read_text (take (length input - challenge_bytes) (drop challenge_bytes input)) challenges
  unfolding transcript_of
  stored_input challenges g h e =
      let rest = take_all (length input - challenge_bytes) (drop challenge_bytes input) (omega (arith, length-drop challenge_bytes input)) in
      rw (le-ltb (length input) challenge_bytes g, le-ltb max_input (length input) h, ← e, rest)

-- what was put, and else the line of the reason
pub all_printed : (old mid : Text) (due : List ℕ) {r : Result (Unit {0}) Refusal} {u : Unit {0}} → Prints old due r mid → r ≡ Ok u → Adds old due mid
all_printed old mid due step e = rw e at step

module _ (old mid : Text) (due : List ℕ) {r : Result (Unit {0}) Refusal} (step : Prints old due r mid) (reason : Refusal) (e : r ≡ Err reason) where
  stopped : Prints old due (Err reason) mid
  stopped = rw e at step

  pub still_room : HasRoom old max_text → HasRoom mid (length (refused_line (refusal_number reason)))
  still_room h = rw stopped.1 (omega (arith, h, refused_bound (refusal_number reason)))

  pub reason_printed : {new : Text} → Adds mid (refused_line (refusal_number reason)) new → Adds old due new
  reason_printed p = rw stopped.0 (rw stopped.1 at p)

module _ (input out : List ℕ) where
  pub short_out : length out < max_text → Transcribes input out (Err Short) out
  unfolding transcribe_all transcribe_reason
  short_out h = (leaves_declined _ _ _ (decline_true Short (lt-ltb (length out) max_text h)), transcript_fits input)

  pub text_put : {after : List ℕ} {r : ℕ} → max_text ≤ length out → Put out 0 (transcript_of input) after r → Transcribes input out (Ok r) after
  unfolding transcribe_all transcribe_reason
  text_put {after} {r} room p =
      let e : r ≡ length (transcript_of input) = omega (arith, p.place) in (
        leaves_done _ _ _ (decline_false Short (le-ltb (length out) max_text room)) (ap (λ (n : ℕ). done (n ∷ [])) e) p.held,
        transcript_fits input,
      )

  -- an answer that is a length is within the bytes
  pub text_within : (n : ℕ) (after : List ℕ) → Transcribes input out (Ok n) after → n ≤ length after
  unfolding transcribe_all transcribe_reason
  text_within n after (t, f) =
      let fine = done_fine (transcribe_reason out) (length (transcript_of input) ∷ []) out (sets out 0 (transcript_of input)) (sym t.answer) in
      let k : length (transcript_of input) ≡ n = ap (λ (values : List ℕ). get_or values 0 0) fine.1 in
      let o : after ≡ sets out 0 (transcript_of input) = t.left ∙ ap (λ (due : Outcome (List ℕ)). due.left) (outcome_fine _ _ _ fine.0) in
      let l : length after ≡ length out = ap length o ∙ length-sets out 0 (transcript_of input) in
      omega (arith, ltb-false (length out) max_text (decline_fine (ltb (length out) max_text) Short fine.0), f)

-- ---- buffers

-- a part of a buffer of zeros
pub length_zeros : (n m : ℕ) → n ≤ m → length (take n (zeros m)) ≡ n
length_zeros n m h = ap length (take-replicate n m 0 h) ∙ length-replicate n 0
