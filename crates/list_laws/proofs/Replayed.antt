-- A replay, accepted or stopped, is the entries of the steps it did recorded one after the other, all accepted (replayed). Assumes nothing.
use Prim.Native.Nat.{ℕ, zero, suc, ◌-◌, ◌/◌, ◌≤◌}
use mathlib.Core.Path.{◌≡◌, refl, sym, ap, ◌∙◌}
use mathlib.Core.Bool.{Bool, true, false}
use mathlib.Core.List.{List, []}
use native.Mathlib.Nat.{sub-zero}
use native.Mathlib.Omega.{arith}
use lib.Dec.{eqb}
use lib.ListN.{length}
use borrow.Author.Tests.{eqb-true, eqb-false}
use Rattle.words.specs.Answers.{done}
use Rattle.words.specs.Outcomes.{Outcome}
use Rattle.words.specs.Refusals.{refusal_number, Judgement, Fine, Declined}
use Rattle.list.specs.Holds.{HeldList}
use Rattle.list_record.specs.Recording.{record_each}
use Rattle.list_record.proofs.RecordEach.{number_of, each_append}
use Rattle.list_replay.specs.Steps.{step_width, step_at, step_entries, entries_of}
use Rattle.list_replay.specs.Replay.{step_all, stopped_at, replay_from, replay_reason, replayed_as, replay_all, entries_from}
use Rattle.list_replay.proofs.Walks.{from_accepted, from_refused}
use Rattle.list_replay.proofs.Replays.{step_records}
use Rattle.list_laws.specs.Calls.{steps_done}

abbrev finished : HeldList → Outcome HeldList
finished h = record { answer = done []; left = h }

-- a walk from step i on that ended as `a` has recorded the entries of the steps before its end
record Walked (h : HeldList) (trace : List ℕ) (i : ℕ) (a : Outcome HeldList) : Type 0 where
  from : i ≤ steps_done a
  made : record_each h (entries_from trace i (steps_done a - i)) ≡ finished a.left

stopped_walked : (h : HeldList) (trace : List ℕ) (i number : ℕ) {a : Outcome HeldList} → a ≡ stopped_at number i h → Walked h trace i a
unfolding entries_from record_each
stopped_walked h trace i number q =
    let none : i - i ≡ 0 = omega arith in
    rw q (record { from = omega arith; made = rw none })

walked : (h : HeldList) (trace : List ℕ) (i n : ℕ) → Walked h trace i (replay_from h trace i n)
unfolding replay_from entries_from
walked h trace i zero = stopped_walked h trace i 0 refl
walked h trace i (suc n) = go (walked (step_all h (step_at trace i)).left trace (suc i) n) (eqb (number_of (step_all h (step_at trace i))) 0) refl where
  go : Walked (step_all h (step_at trace i)).left trace (suc i) (replay_from (step_all h (step_at trace i)).left trace (suc i) n)
      → (t : Bool) → eqb (number_of (step_all h (step_at trace i))) 0 ≡ t → Walked h trace i (replay_from h trace i (suc n))
  go rest true q =
      let z = eqb-true _ _ q in
      let step = step_records h (step_at trace i) z in
      let last = steps_done (replay_from (step_all h (step_at trace i)).left trace (suc i) n) in
      let d : last - i ≡ suc (last - suc i) = omega (arith, rest.from) in
      rw (from_accepted h trace i n z) (record {
        from = omega (arith, rest.from);
        made =
            ap (λ (m : ℕ). record_each h (entries_from trace i m)) d
            ∙ each_append h (entries_of (step_entries (step_at trace i))) (entries_from trace (suc i) (last - suc i)) (ap number_of step ∙ z)
            ∙ ap (λ (o : Outcome HeldList). record_each o.left (entries_from trace (suc i) (last - suc i))) step
            ∙ rest.made;
      })
  go rest false q = stopped_walked h trace i (number_of (step_all h (step_at trace i))) (from_refused h trace i n (eqb-false _ _ q))

whole : (h : HeldList) (trace : List ℕ) → Walked h trace 0 (replay_all h trace)
unfolding replay_all
whole h trace = go (replay_reason h trace) where
  go : (j : Judgement) → Walked h trace 0 (replayed_as j h trace)
  go Fine = walked h trace 0 (length trace / step_width)
  go (Declined k) = stopped_walked h trace 0 (refusal_number k) refl

pub replayed : (h : HeldList) (trace : List ℕ)
    → record_each h (entries_from trace 0 (steps_done (replay_all h trace))) ≡ record { answer = done []; left = (replay_all h trace).left }
replayed h trace = ap (λ (m : ℕ). record_each h (entries_from trace 0 m)) (sym (sub-zero _)) ∙ (whole h trace).made
