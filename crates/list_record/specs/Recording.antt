-- Recording (document 01, "Recording and stored lists"): "The first equal key gains one; else the key is appended with 1; the answer is the
-- key's position, from 0." And holding (request 6): "A hold finds its key, or appends it with multiplicity 0; it then adds one hold and answers the
-- position." Both are one rule with two gains: a recording gains one count and no hold, a hold no count and one hold.
use Rattle.std.specs.Prelude.{ℕ, ◌+◌, ◌*◌, Bool, cond, not, List, [], ◌∷◌, eqb, ltb, set, Result, Ok, Err}
use Rattle.std.proofs.lemmas.List.Edits.{sets}
use Rattle.words.specs.Answers.{Answer, done, declined}
use Rattle.words.specs.Outcomes.{Outcome, outcome}
use Rattle.words.specs.Refusals.{decline_if, or_else, Judgement}
use Rattle.words.specs.declared.Refusal.{Refusal}
use Rattle.words.specs.declared.Refusal.TheVariants.{CountFull, ListFull}
use Rattle.isa.specs.declared.U32TableEntry.{U32TableEntry}
use Rattle.isa.specs.Entries.{entry_words, entry_width, judge_entry, admitted}
use Rattle.list.specs.Lists.{capacity, used, multiplicity_at, count_full}
use Rattle.list.specs.Keys.{find_key}
use Rattle.list.specs.Holds.{HeldList, held_list, hold_at, held_shape}

-- the first used place that holds the key, or `used`
abbrev pub place_in : HeldList → U32TableEntry → ℕ
place_in h e = find_key h.list e

abbrev pub known : HeldList → U32TableEntry → Bool
known h e = ltb (place_in h e) (used h.list)

-- 5: "in recording, only the first equal key's, if one more would pass that"; "'Count full' now looks at count plus holds". 6: "a new key and no
-- unused place"
unfoldable pub place_reason : HeldList → U32TableEntry → Judgement
place_reason h e =
    cond (known h e)
    (decline_if (count_full (multiplicity_at h.list (place_in h e) + hold_at h (place_in h e) + 1)) CountFull)
    (decline_if (not (ltb (used h.list) (capacity h.list))) ListFull)

-- "Order: record 1, 2, 3, 4, then 5 or 6"
unfoldable pub record_reason : HeldList → U32TableEntry → Judgement
record_reason h e = or_else (held_shape h) (or_else (judge_entry e) (place_reason h (admitted e)))

-- place i has this count and these holds
abbrev pub settled : HeldList → (i count hold : ℕ) → HeldList
settled h i count hold =
    held_list h.list.sizes h.list.keys (set h.list.multiplicities i count) (set h.holds i hold)

-- the key at place i gains so many counts and holds
abbrev pub raised : (count hold : ℕ) → HeldList → ℕ → HeldList
raised count hold h i = settled h i (multiplicity_at h.list i + count) (hold_at h i + hold)

-- the key is appended with so many: "any append set[s] a key's [holds] to 0", then the call adds its own
abbrev pub appended : (count hold : ℕ) → HeldList → U32TableEntry → HeldList
appended count hold h e =
    held_list (record { capacity = capacity h.list; used = used h.list + 1 })
    (sets h.list.keys (entry_width * used h.list) (entry_words e))
    (set h.list.multiplicities (used h.list) count)
    (set h.holds (used h.list) hold)

-- "The first equal key gains one; else the key is appended with 1"
abbrev pub recorded_into : (count hold : ℕ) → HeldList → U32TableEntry → HeldList
recorded_into count hold h e = cond (known h e) (raised count hold h (place_in h e)) (appended count hold h e)

-- "the answer is the key's position": find_key answers the first unused place, `used`, where no key is equal (proofs/RecordingCases.antt:
-- new_position). A refusal changes nothing lent
unfoldable pub record_with : (count hold : ℕ) → HeldList → U32TableEntry → Outcome HeldList
record_with count hold h e = outcome (record_reason h e) (place_in h (admitted e) ∷ []) h (recorded_into count hold h (admitted e))

-- a recording: one count
abbrev pub record_all : HeldList → U32TableEntry → Outcome HeldList
record_all h e = record_with 1 0 h e

-- "it then adds one hold and answers the position"
abbrev pub hold_all : HeldList → U32TableEntry → Outcome HeldList
hold_all h e = record_with 0 1 h e

-- recordings one after the other; the first that is refused is the last
unfoldable pub record_each : HeldList → List U32TableEntry → Outcome HeldList
record_each h [] = record { answer = done []; left = h }
record_each h (e ∷ es) = let a = record_all h e in cond (eqb a.answer.number 0) (record_each a.left es) a

-- what the answer of a recording means: the place, or the reason against it
abbrev pub Recorded : Type 0
Recorded = Result ℕ Refusal

abbrev pub recorded_answer : Recorded → Answer
recorded_answer (Ok i) = done (i ∷ [])
recorded_answer (Err reason) = declined reason
