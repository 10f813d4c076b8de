-- Replay (request 1): the plain walk over the steps of a trace.
use Rattle.std.specs.Prelude.{ℕ, zero, suc, ◌/◌, ◌%◌, cond, not, List, [], ◌∷◌, ◌++◌, eqb, length, Result, Ok, Err}
use Rattle.words.specs.Answers.{Answer, done, declined}
use Rattle.words.specs.Outcomes.{Outcome}
use Rattle.words.specs.Refusals.{refusal_number, decline_if, or_else, Judgement, Fine, Declined}
use Rattle.words.specs.declared.Refusal.TheVariants.{Shape}
use Rattle.isa.specs.declared.U32TableEntry.{U32TableEntry}
use Rattle.list.specs.Holds.{HeldList, held_shape}
use Rattle.list_record.specs.Recording.{record_each}
use Rattle.list_replay.specs.declared.Step.{Step}
use Rattle.list_replay.specs.declared.StepEntries.TheVariants.{One, Two}
use Rattle.list_replay.specs.declared.Stopped.{Stopped}
use Rattle.list_replay.specs.Steps.{step_width, step_at, Entries, step_entries, entries_of}

-- "both or neither": recordings one after the other, and the list as it was where one is refused. "lt's refusal first": it is the first of them
unfoldable pub record_together : HeldList → List U32TableEntry → Outcome HeldList
record_together h es =
    let a = record_each h es in record { answer = a.answer; left = cond (eqb a.answer.number 0) a.left h }

-- what a step's entries do to a list; a refused step changes nothing
abbrev pub step_as : HeldList → Entries → Outcome HeldList
step_as h (Ok (One e)) = record_together h (e ∷ [])
step_as h (Ok (Two e f)) = record_together h (e ∷ f ∷ [])
step_as h (Err reason) = record { answer = declined reason; left = h }

unfoldable pub step_all : HeldList → Step → Outcome HeldList
step_all h s = step_as h (step_entries s)

-- "returns its number and how many were done"
abbrev pub stopped_at : (number done : ℕ) → HeldList → Outcome HeldList
stopped_at number done h = record { answer = record { number = number; values = done ∷ [] }; left = h }

-- The n steps from step i on: "The replay ends at the first refused step, with the list as the steps before it made it". Where none is refused the
-- number is 0, and all are done
unfoldable pub replay_from : HeldList → (trace : List ℕ) → (i n : ℕ) → Outcome HeldList
replay_from h trace i zero = stopped_at 0 i h
replay_from h trace i (suc n) =
    let a = step_all h (step_at trace i) in
    cond (eqb a.answer.number 0) (replay_from a.left trace (suc i) n) (stopped_at a.answer.number i h)

-- "1 comes before all steps": the shape of the list, or a trace that is not of whole steps
unfoldable pub replay_reason : HeldList → (trace : List ℕ) → Judgement
replay_reason h trace = or_else (held_shape h) (decline_if (not (eqb (length trace % step_width) 0)) Shape)

-- ".. with none done"
abbrev pub replayed_as : Judgement → HeldList → (trace : List ℕ) → Outcome HeldList
replayed_as Fine h trace = replay_from h trace 0 (length trace / step_width)
replayed_as (Declined reason) h trace = stopped_at (refusal_number reason) 0 h

unfoldable pub replay_all : HeldList → (trace : List ℕ) → Outcome HeldList
replay_all h trace = replayed_as (replay_reason h trace) h trace

-- what the answer of a replay means: all steps are done, this many; or the reason of the first refused one, and how many went before it
abbrev pub Replayed : Type 0
Replayed = Result ℕ Stopped

abbrev pub replayed_answer : Replayed → Answer
replayed_answer (Ok steps) = done (steps ∷ [])
replayed_answer (Err stopped) = record { number = refusal_number stopped.reason; values = stopped.done ∷ [] }

-- the entries of the n steps from step i on, and of a whole trace
unfoldable pub entries_from : (trace : List ℕ) → (i n : ℕ) → List U32TableEntry
entries_from trace i zero = []
entries_from trace i (suc n) = entries_of (step_entries (step_at trace i)) ++ entries_from trace (suc i) n

abbrev pub trace_entries : List ℕ → List U32TableEntry
trace_entries trace = entries_from trace 0 (length trace / step_width)
