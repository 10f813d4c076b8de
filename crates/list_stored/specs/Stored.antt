-- Stored lists (document 01, "Recording and stored lists" and "Reasons to decline"): reading and writing. Holds are "not stored in files" (request 6):
-- reading clears them, and a list with an open one is not written.
use Rattle.std.specs.Prelude.{ℕ, true, not, ◌||◌, eqb, ltb, ◌≡◌, length, replicate, Result, Ok, Err, MatchResult}
use mathlib.Core.List.{List, [], ◌∷◌, map, flat_map}
use Rattle.std.proofs.lemmas.List.Edits.{sets}
use Rattle.words.specs.Limits.{max_places}
use Rattle.words.specs.Answers.{Answer, done, declined}
use Rattle.words.specs.Outcomes.{Outcome, outcome}
use Rattle.words.specs.Refusals.{decline_if, or_else, first_reason, Judgement, Fine, Declined}
use Rattle.words.specs.declared.Refusal.{Refusal}
use Rattle.words.specs.declared.Refusal.TheVariants.{ListFull, Short, Torn, Repeat, Tally}
use Rattle.words.specs.Places.{places}
use Rattle.isa.specs.Entries.{entry_words}
use Rattle.list.specs.Lists.{U32List, u32_list, capacity, used, judge_counted}
use Rattle.list.specs.Heights.{entries_at, sum_heights}
use Rattle.list.specs.Holds.{HeldList, held_shape, section_list, judge_held}
use Rattle.list_bytes.specs.Packed.{stored_places, stored_length, old_length, stored_bytes, stored_n, stored_height, stored_entry, stored_multiplicity, stored_entries}
use Rattle.list_bytes.specs.declared.StoredList.{StoredList}
use Rattle.list_repeats.specs.Repeats.{repeats}

-- 10: "stored length wrong or N above 2,048". Two lengths are right: 8 + 25·N, and "Lists of the old length are still read". Bytes too few to
-- hold N have a wrong length too: none is shorter than 8
unfoldable pub torn : List ℕ → Judgement
torn s =
    decline_if
    (ltb max_places (stored_n s)
    || not (eqb (length s) (old_length (stored_n s)) || eqb (length s) (stored_length (stored_n s))))
    Torn

-- 12: "stored height is not the sum"
unfoldable pub tally : List ℕ → Judgement
tally s = decline_if (not (eqb (stored_height s) (sum_heights (stored_entries s)))) Tally

-- "Reading meets 5 after 4, entry by entry", 2 to 4 by the rule of stored bytes
unfoldable pub judge_stored : List ℕ → ℕ → Judgement
judge_stored s i = judge_counted true (stored_entry s i) (stored_multiplicity s i)

-- ".. then 2 to 5 entry by entry, 11, 12"
unfoldable pub content_reason : List ℕ → Judgement
content_reason s =
    or_else (first_reason (judge_stored s) 0 (stored_n s))
    (or_else (decline_if (repeats (stored_entries s)) Repeat)
    (tally s))

-- "Read 1, 10, 6, then 2 to 5 entry by entry, 11, 12"; 6 is "on reading, N over the capacity", and "reading onto a list with keys meets 6, in its
-- usual place" (request 11), also where N is 0. An open hold is no reason
unfoldable pub read_reason : HeldList → List ℕ → Judgement
read_reason h s =
    or_else (held_shape h)
    (or_else (torn s)
    (or_else (decline_if (ltb (capacity h.list) (stored_n s) || ltb 0 (used h.list)) ListFull)
    (content_reason s)))

-- the list of the entries that bytes hold
abbrev pub content_list : List ℕ → U32List
content_list s =
    u32_list (record { capacity = stored_n s; used = stored_n s })
    (flat_map (λ i. entry_words (stored_entry s i)) (places (stored_n s)))
    (map (stored_multiplicity s) (places (stored_n s)))

-- the bytes as a stored list where there is no reason against it, else the reason
abbrev pub TakenUnless : Judgement → List ℕ → Result StoredList Refusal → Type 0
TakenUnless reason s result = MatchResult result (λ stored. (stored.bytes.now ≡ s) × (reason ≡ Fine)) (λ k. reason ≡ Declined k)

-- "Reading .. sets used to N and answers N .. Destination places past N .. are untouched." It replaces nothing any more: no place was in use
abbrev pub replaced_list : U32List → List ℕ → U32List
replaced_list l s =
    u32_list (record { capacity = capacity l; used = stored_n s })
    (sets l.keys 0 (flat_map (λ i. entry_words (stored_entry s i)) (places (stored_n s))))
    (sets l.multiplicities 0 (map (stored_multiplicity s) (places (stored_n s))))

-- "reading and any append set a key's to 0": the holds at its N places, and no others
abbrev pub replaced : HeldList → List ℕ → HeldList
replaced h s = record { list = replaced_list h.list s; holds = sets h.holds 0 (replicate (stored_n s) 0) }

unfoldable pub read_all : HeldList → List ℕ → Outcome HeldList
read_all h s = outcome (read_reason h s) (stored_n s ∷ []) h (replaced h s)

-- what the answer of a reading means
abbrev pub read_answer : Result ℕ Refusal → Answer
read_answer (Ok n) = done (n ∷ [])
read_answer (Err reason) = declined reason

-- ".. 11, 7" of the list that is written; 7 is "output bytes too few"
unfoldable pub storing_reason : U32List → List ℕ → Judgement
storing_reason l out =
    or_else (decline_if (repeats (entries_at l (stored_places l))) Repeat)
    (decline_if (ltb (length out) (stored_length (length (stored_places l)))) Short)

-- "Write 1, 2 to 5 entry by entry, 11, 7"; 15 is "directly after 1 in fill, plan and write"
unfoldable pub write_reason : HeldList → List ℕ → Judgement
write_reason h out = or_else (judge_held h) (storing_reason (section_list h) out)

-- "writing .. answers the length. .. bytes past the end, are untouched.": what is due for a list, unless there is this reason
abbrev pub stored_as : Judgement → U32List → List ℕ → Outcome (List ℕ)
stored_as reason l out = outcome reason (stored_length (length (stored_places l)) ∷ []) out (sets out 0 (stored_bytes l))

-- "Stored lists carry one pad's counted keys" (request 11)
unfoldable pub write_all : HeldList → List ℕ → Outcome (List ℕ)
write_all h out = stored_as (write_reason h out) (section_list h) out

-- what the answer of a writing means
abbrev pub written_answer : Result ℕ Refusal → Answer
written_answer (Ok n) = done (n ∷ [])
written_answer (Err reason) = declined reason
