-- The answers of a replay, the five arrays of a call that is lent the other recorder's too, and the sizes of a list after each call, of which the C
-- functions hand over one number or none: what they leave out is known to the caller. Assumes nothing.
use Prim.Native.Nat.{ℕ, zero, suc, ◌/◌, ◌<◌, ◌≤◌}
use mathlib.Core.Path.{◌≡◌, refl, ap, ◌∙◌}
use mathlib.Core.Bool.{Bool, true, false, cond}
use mathlib.Core.List.{List, [], ◌∷◌}
use native.Mathlib.Omega.{arith}
use lib.Dec.{eqb}
use Rattle.std.specs.Prelude.{Ok, Err}
use lib.ListN.{length}
use Rattle.words.specs.Answers.{Answer, declined}
use Rattle.words.specs.Outcomes.{Outcome}
use Rattle.words.specs.Refusals.{Judgement, Fine, Declined}
use Rattle.words.specs.declared.Refusal.TheVariants.{Shape}
use Rattle.words.proofs.Outcomes.{outcome_done, outcome_keeps}
use Rattle.isa.specs.declared.U32TableEntry.{U32TableEntry}
use Rattle.isa.specs.Entries.{admitted}
use Rattle.list.specs.declared.Sizes.{Sizes}
use Rattle.list.specs.Lists.{capacity, used}
use Rattle.list.specs.Holds.{HeldList, held_list}
use Rattle.list_record.specs.Recording.{place_in, known, record_reason, raised, appended, recorded_into, record_with, record_all, record_each}
pub use Rattle.list_record.proofs.HoldingCases.{confirm_sizes, drop_sizes}
use Rattle.list_replay.specs.declared.Step.{Step}
use Rattle.list_replay.specs.declared.StepEntries.TheVariants.{One, Two}
use Rattle.list_replay.specs.Steps.{step_width, step_at, Entries, step_entries}
use Rattle.list_replay.specs.Replay.{record_together, step_as, step_all, stopped_at, replay_from, replay_reason, replayed_as, replay_all}
use Rattle.list_stored.specs.Stored.{read_reason, read_all}
use Rattle.list_shared.specs.Shared.{Counts, Shared, other_shape, beside_as, beside, record_shared, hold_shared, replay_shared, read_shared}
use Rattle.list_shared.specs.Lent.{shared}
use Rattle.c_answers.proofs.Exporting.{lent_short, lent_called, list_short, list_called}
use Rattle.c_lists.specs.ListAnswers.{with_used, SharedLeft}

-- a replay hands over its number, whatever it is, how many steps were done and the places used
pub told_with : (due : Outcome Shared) (number n : ℕ) (after : Shared)
    → record { number = number; values = n ∷ [] } ≡ due.answer → after ≡ due.left
    → (number ≡ (with_used due).number) × (n ∷ used after.own.list ∷ [] ≡ (with_used due).values)
told_with due number n after e f = (ap (λ (a : Answer). a.number) e, rw (← e, ← f))

-- ---- the five arrays afterwards: `answers` is too short, or the call was made
pub shared_short : (size : ℕ) (answers : List ℕ) (before due : Shared) → length answers < size
    → SharedLeft size answers before due before.own.list.keys before.own.list.multiplicities before.own.holds before.other
shared_short size answers before due h = record {
  own = list_short size answers _ _ h;
  other_multiplicities = lent_short size answers _ _ h;
  other_holds = lent_short size answers _ _ h;
}

pub shared_called : (size : ℕ) (answers : List ℕ) (before due : Shared) (s : Sizes) (ks ms hs : List ℕ) (other : Counts)
    → size ≤ length answers → shared (held_list s ks ms hs) other ≡ due → SharedLeft size answers before due ks ms hs other
shared_called size answers before due s ks ms hs other h e = record {
  own = list_called size answers _ _ s _ _ _ h (ap (λ (d : Shared). d.own) e);
  other_multiplicities = lent_called size answers _ _ _ h (ap (λ (d : Shared). d.other.multiplicities) e);
  other_holds = lent_called size answers _ _ _ h (ap (λ (d : Shared). d.other.holds) e);
}

-- ---- the sizes afterwards
-- the capacity stays, a reading's number of entries is the number of places used, and a confirm or drop leaves both sizes
abbrev pub places_of : HeldList → ℕ
places_of h = capacity h.list

-- a call of one of two recorders leaves the capacity where the call alone does
pub beside_capacity : (wrong : Answer) (a : Outcome HeldList) (h : HeldList) (other : Counts)
    → places_of a.left ≡ places_of h → places_of (beside wrong a h other).left.own ≡ places_of h
unfolding beside
beside_capacity wrong a h other e = go (other_shape h other) where
  go : (j : Judgement) → places_of (beside_as j wrong a h other).left.own ≡ places_of h
  go Fine = e
  go (Declined k) = refl

read_alone : (h : HeldList) (s : List ℕ)
    → (read_all h s).answer.number ≡ 0 → (read_all h s).answer.values ≡ used (read_all h s).left.list ∷ []
unfolding read_all
read_alone h s e = rw (outcome_done (read_reason h s) _ _ _ e)

pub read_used : (h : HeldList) (other : Counts) (s : List ℕ)
    → (read_shared h other s).answer.number ≡ 0 → (read_shared h other s).answer.values ≡ used (read_shared h other s).left.own.list ∷ []
unfolding read_shared beside
read_used h other s = go (other_shape h other) where
  go : (j : Judgement) → (beside_as j (declined Shape) (read_all h s) h other).answer.number ≡ 0
      → (beside_as j (declined Shape) (read_all h s) h other).answer.values
      ≡ used (beside_as j (declined Shape) (read_all h s) h other).left.own.list ∷ []
  go Fine e = read_alone h s e
  go (Declined k) e = absurd (omega arith)

pub read_capacity : (h : HeldList) (other : Counts) (s : List ℕ) → places_of (read_shared h other s).left.own ≡ places_of h
unfolding read_shared read_all
read_capacity h other s = beside_capacity _ _ h other (outcome_keeps places_of (read_reason h s) _ _ _ refl)

recorded_capacity : (count hold : ℕ) (h : HeldList) (e : U32TableEntry) → places_of (recorded_into count hold h e) ≡ places_of h
recorded_capacity count hold h e = go (known h e) where
  go : (t : Bool) → places_of (cond t (raised count hold h (place_in h e)) (appended count hold h e)) ≡ places_of h
  go true = refl
  go false = refl

with_capacity : (count hold : ℕ) (h : HeldList) (e : U32TableEntry) → places_of (record_with count hold h e).left ≡ places_of h
unfolding record_with
with_capacity count hold h e = outcome_keeps places_of (record_reason h e) _ h _ (recorded_capacity count hold h (admitted e))

pub record_capacity : (h : HeldList) (other : Counts) (e : U32TableEntry) → places_of (record_shared h other e).left.own ≡ places_of h
unfolding record_shared
record_capacity h other e = beside_capacity _ _ h other (with_capacity 1 0 h e)

pub hold_capacity : (h : HeldList) (other : Counts) (e : U32TableEntry) → places_of (hold_shared h other e).left.own ≡ places_of h
unfolding hold_shared
hold_capacity h other e = beside_capacity _ _ h other (with_capacity 0 1 h e)

-- and so it does with each step of a replay
each_capacity : (h : HeldList) (es : List U32TableEntry) → places_of (record_each h es).left ≡ places_of h
unfolding record_each
each_capacity h [] = refl
each_capacity h (e ∷ es) = go (each_capacity (record_all h e).left es) (eqb (record_all h e).answer.number 0) where
  go : places_of (record_each (record_all h e).left es).left ≡ places_of (record_all h e).left
      → (t : Bool) → places_of (cond t (record_each (record_all h e).left es) (record_all h e)).left ≡ places_of h
  go rest true = rest ∙ with_capacity 1 0 h e
  go rest false = with_capacity 1 0 h e

together_capacity : (h : HeldList) (es : List U32TableEntry) → places_of (record_together h es).left ≡ places_of h
unfolding record_together
together_capacity h es = go (eqb (record_each h es).answer.number 0) where
  go : (t : Bool) → places_of (cond t (record_each h es).left h) ≡ places_of h
  go true = each_capacity h es
  go false = refl

step_capacity : (h : HeldList) (s : Step) → places_of (step_all h s).left ≡ places_of h
unfolding step_all
step_capacity h s = go (step_entries s) where
  go : (es : Entries) → places_of (step_as h es).left ≡ places_of h
  go (Ok (One e)) = together_capacity h (e ∷ [])
  go (Ok (Two e f)) = together_capacity h (e ∷ f ∷ [])
  go (Err k) = refl

walk_capacity : (h : HeldList) (trace : List ℕ) (i n : ℕ) → places_of (replay_from h trace i n).left ≡ places_of h
unfolding replay_from
walk_capacity h trace i zero = refl
walk_capacity h trace i (suc n) =
    go (walk_capacity (step_all h (step_at trace i)).left trace (suc i) n) (eqb (step_all h (step_at trace i)).answer.number 0)
  where
    go : places_of (replay_from (step_all h (step_at trace i)).left trace (suc i) n).left ≡ places_of (step_all h (step_at trace i)).left
        → (t : Bool)
        → places_of
        (cond t (replay_from (step_all h (step_at trace i)).left trace (suc i) n) (stopped_at (step_all h (step_at trace i)).answer.number i h)).left
        ≡ places_of h
    go rest true = rest ∙ step_capacity h (step_at trace i)
    go rest false = refl

pub replay_capacity : (h : HeldList) (other : Counts) (trace : List ℕ) → places_of (replay_shared h other trace).left.own ≡ places_of h
unfolding replay_shared replay_all
replay_capacity h other trace = beside_capacity _ _ h other (go (replay_reason h trace)) where
  go : (j : Judgement) → places_of (replayed_as j h trace).left ≡ places_of h
  go Fine = walk_capacity h trace 0 (length trace / step_width)
  go (Declined k) = refl
