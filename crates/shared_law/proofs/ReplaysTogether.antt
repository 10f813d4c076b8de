-- A replay on the shared list and alone (replay_together): step by step, the entries of a step recorded one after the other (each_together); the first
-- refused step is the same on both, and so is what the replay answers. Assumes nothing.
use Prim.Native.Nat.{ℕ, zero, suc, ◌/◌, ◌%◌}
use mathlib.Core.Path.{◌≡◌, refl, sym, ap, ◌∙◌}
use mathlib.Core.Bool.{Bool, true, false, not}
use mathlib.Core.List.{List, [], ◌∷◌}
use mathlib.Core.Logic.{◌≢◌}
use native.Mathlib.Omega.{arith}
use lib.Dec.{eqb}
use lib.ListN.{length}
use borrow.Author.Tests.{eqb-true, eqb-false}
use Rattle.std.specs.Prelude.{Ok, Err}
use Rattle.words.specs.Outcomes.{Outcome}
use Rattle.words.specs.Refusals.{refusal_number, decline_if, Judgement, Fine, Declined}
use Rattle.words.specs.declared.Refusal.TheVariants.{Shape, ListFull}
use Rattle.words.proofs.Judgements.{or_next}
use Rattle.isa.specs.declared.U32TableEntry.{U32TableEntry}
use Rattle.list.specs.Holds.{HeldList, held_shape}
use Rattle.list.proofs.HeldLists.{held_shape_fine}
use Rattle.list_record.specs.Recording.{record_all, record_each}
use Rattle.list_record.proofs.RecordEach.{number_of, each_accepted, each_refused}
use Rattle.list_replay.specs.declared.Step.{Step}
use Rattle.list_replay.specs.declared.StepEntries.TheVariants.{One, Two}
use Rattle.list_replay.specs.Steps.{step_width, step_at, Entries, step_entries}
use Rattle.list_replay.specs.Replay.{record_together, step_as, step_all, stopped_at, replay_from, replay_reason, replayed_as, replay_all}
use Rattle.list_replay.proofs.Walks.{together_each, together_number, together_left, from_accepted, from_refused}
use Rattle.shared_law.proofs.Together.{Matched, Joined, joined_stay, joined_then, record_together_lem}

abbrev full : ℕ
full = refusal_number ListFull

-- an accepted call has not met it
not_full : {n : ℕ} → n ≡ 0 → n ≢ full
not_full z q = omega arith

-- ---- recordings one after the other

pub each_together : (S O : HeldList) (es : List U32TableEntry) → Matched S O → number_of (record_each S es) ≢ full
    → Joined S O (record_each S es) (record_each O es)
unfolding record_each
each_together S O [] m n = joined_stay (record_each S []) (record_each O []) refl refl refl m
each_together S O (e ∷ es) m n =
    go (λ k o. each_together (record_all S e).left (record_all O e).left es k o) (eqb (number_of (record_all S e)) 0) refl
  where
    go : (Matched (record_all S e).left (record_all O e).left → number_of (record_each (record_all S e).left es) ≢ full
        → Joined (record_all S e).left (record_all O e).left (record_each (record_all S e).left es) (record_each (record_all O e).left es))
        → (t : Bool) → eqb (number_of (record_all S e)) 0 ≡ t → Joined S O (record_each S (e ∷ es)) (record_each O (e ∷ es))
    go rest true q =
        let z = eqb-true _ _ q in
        let j = (record_together_lem 1 0 S O e m (not_full z)).0 in
        let s = each_accepted S e es z in
        let o = each_accepted O e es (sym j.number ∙ z) in
        rw (s, o) (joined_then j (rest j.matched (λ f. n (ap number_of s ∙ f))))
    go rest false q =
        let x = eqb-false _ _ q in
        let s = each_refused S e es x in
        let j = (record_together_lem 1 0 S O e m (λ f. n (ap number_of s ∙ f))).0 in
        let o = each_refused O e es (λ z. x (j.number ∙ z)) in
        rw (s, o) j

-- "both or neither"
pair_together : (S O : HeldList) (es : List U32TableEntry) → Matched S O → number_of (record_together S es) ≢ full
    → Joined S O (record_together S es) (record_together O es)
pair_together S O es m n = go (eqb (number_of (record_each S es)) 0) refl where
  j : Joined S O (record_each S es) (record_each O es)
  j = each_together S O es m (λ f. n (together_number S es ∙ f))

  numbers : number_of (record_together S es) ≡ number_of (record_together O es)
  numbers = together_number S es ∙ j.number ∙ sym (together_number O es)

  go : (t : Bool) → eqb (number_of (record_each S es)) 0 ≡ t → Joined S O (record_together S es) (record_together O es)
  go true q = let z = eqb-true _ _ q in rw (together_each S es z, together_each O es (sym j.number ∙ z)) j
  go false q =
      let x = eqb-false _ _ q in
      joined_stay (record_together S es) (record_together O es) numbers
      (together_left S es (λ z. x (sym (together_number S es) ∙ z)))
      (together_left O es (λ z. x (sym (together_number S es) ∙ numbers ∙ z))) m

-- ---- a step

step_together : (S O : HeldList) (s : Step) → Matched S O → number_of (step_all S s) ≢ full → Joined S O (step_all S s) (step_all O s)
unfolding step_all
step_together S O s m n = go (step_entries s) n where
  go : (es : Entries) → number_of (step_as S es) ≢ full → Joined S O (step_as S es) (step_as O es)
  go (Ok (One e)) n = pair_together S O (e ∷ []) m n
  go (Ok (Two e f)) n = pair_together S O (e ∷ f ∷ []) m n
  go (Err k) n = joined_stay (step_as S (Err k)) (step_as O (Err k)) refl refl refl m

-- ---- a walk

abbrev Walked : (S O : HeldList) (a b : Outcome HeldList) → Type 0
Walked S O a b = (a.answer ≡ b.answer) × Joined S O a b

stopped_together : (S O : HeldList) (i : ℕ) {x y : ℕ} → x ≡ y → Matched S O → Walked S O (stopped_at x i S) (stopped_at y i O)
stopped_together S O i q m = (
  ap (λ (n : ℕ). record { number = n; values = i ∷ [] }) q,
  joined_stay (stopped_at _ i S) (stopped_at _ i O) q refl refl m,
)

walk_together : (S O : HeldList) (trace : List ℕ) (i n : ℕ) → Matched S O → number_of (replay_from S trace i n) ≢ full
    → Walked S O (replay_from S trace i n) (replay_from O trace i n)
unfolding replay_from
walk_together S O trace i zero m n = stopped_together S O i refl m
walk_together S O trace i (suc k) m n =
    go (λ x o. walk_together (step_all S (step_at trace i)).left (step_all O (step_at trace i)).left trace (suc i) k x o)
    (eqb (number_of (step_all S (step_at trace i))) 0) refl
  where
    go : (Matched (step_all S (step_at trace i)).left (step_all O (step_at trace i)).left
        → number_of (replay_from (step_all S (step_at trace i)).left trace (suc i) k) ≢ full
        → Walked (step_all S (step_at trace i)).left (step_all O (step_at trace i)).left
        (replay_from (step_all S (step_at trace i)).left trace (suc i) k) (replay_from (step_all O (step_at trace i)).left trace (suc i) k))
        → (t : Bool) → eqb (number_of (step_all S (step_at trace i))) 0 ≡ t
        → Walked S O (replay_from S trace i (suc k)) (replay_from O trace i (suc k))
    go rest true q =
        let z = eqb-true _ _ q in
        let j = step_together S O (step_at trace i) m (not_full z) in
        let s = from_accepted S trace i k z in
        let o = from_accepted O trace i k (sym j.number ∙ z) in
        let r = rest j.matched (λ f. n (ap number_of s ∙ f)) in
        rw (s, o) (r.0, joined_then j r.1)
    go rest false q =
        let x = eqb-false _ _ q in
        let s = from_refused S trace i k x in
        let j = step_together S O (step_at trace i) m (λ f. n (ap number_of s ∙ f)) in
        let o = from_refused O trace i k (λ z. x (j.number ∙ z)) in
        rw (s, o) (stopped_together S O i j.number m)

-- ---- a replay

abbrev test : List ℕ → Judgement
test trace = decline_if (not (eqb (length trace % step_width) 0)) Shape

-- of a list of the right shape only the trace is asked
trace_alone : (h : HeldList) (trace : List ℕ) → held_shape h ≡ Fine → replay_reason h trace ≡ test trace
unfolding replay_reason
trace_alone h trace q = or_next _ q

pub replay_together : (S O : HeldList) (trace : List ℕ) → Matched S O → number_of (replay_all S trace) ≢ full
    → ((replay_all S trace).answer ≡ (replay_all O trace).answer) × Joined S O (replay_all S trace) (replay_all O trace)
unfolding replay_all
replay_together S O trace m n =
    let s = trace_alone S trace (held_shape_fine S m.shaped_s) in
    let o = trace_alone O trace (held_shape_fine O m.shaped_o) in
    rw (s, o) (go (test trace) (λ f. n (ap (λ (j : Judgement). number_of (replayed_as j S trace)) s ∙ f)))
  where
    go : (j : Judgement) → number_of (replayed_as j S trace) ≢ full → Walked S O (replayed_as j S trace) (replayed_as j O trace)
    go Fine n = walk_together S O trace 0 (length trace / step_width) m n
    go (Declined k) n = stopped_together S O 0 refl m
