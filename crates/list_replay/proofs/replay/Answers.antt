-- `list_replay::replay` meets its contract. The loop's invariant: the walk from the step that is reached on, over the list as it is, is the walk
-- from step 0 over the list as it was lent. Assumes nothing.
use mathlib.Core.Path.{◌≡◌, refl, sym, ap, ◌∙◌}
use mathlib.Core.Bool.{true≢false}
use Prim.Native.Nat.{ℕ}
use Rattle.std.specs.Prelude.{Result, Ok, Err, is_ok, IsErrAnd, MatchResult}
use Rattle.std.proofs.lemmas.Result.{err_from_is_err_and}
use native.Mathlib.Omega.{arith}
use borrow.Author.Rules.{rules}
use Rattle.words.specs.Answers.{Answer}
use Rattle.words.specs.Outcomes.{Leaves}
use Rattle.words.specs.Refusals.{Judgement, Fine}
use Rattle.words.specs.declared.Refusal.{Refusal}
use Rattle.list.specs.Holds.{HeldList, held_shape}
use Rattle.list.specs.Lent.{held_in_mut, SameArrays}
use Rattle.list.specs.declared.LentListMut.{LentListMut}
use Rattle.list_replay.specs.declared.Step.{Step}
use Rattle.list_replay.specs.declared.Stopped.{Stopped}
use Rattle.list_replay.specs.Replay.{step_all}
use Rattle.list_replay.proofs.Walks.{shape_stops, torn_stops, walks, walk_goes_on, walk_stopped, walk_ended}
use Rattle.list_replay.proofs.replay.Goals as goal

-- what is told of a list that is looked at holds of the list that was lent
lent : {view h : HeldList} {told : Judgement} → view ≡ h → told ≡ held_shape view → held_shape h ≡ told
lent q t = ap held_shape (sym q) ∙ sym t

-- the step that was taken is that of the trace
taken : (h : HeldList) {s t : Step} (a : Answer) {left : HeldList} → s ≡ t → Leaves (step_all h s) a left → Leaves (step_all h t) a left
taken h a q made = rw (← q) made

after : {a b c : LentListMut} → SameArrays a b → SameArrays b c → SameArrays a c
after s t = record {
  keys = t.keys ∙ s.keys;
  multiplicities = t.multiplicities ∙ s.multiplicities;
  holds = t.holds ∙ s.holds;
}

-- what leaves at the `?` of a step is its reason, and how many went before it
step_stopped : {Q : Refusal → Stopped → Type 0} (a : Judgement) {r : Result Unit Stopped} {s : Stopped} {i : ℕ}
    → MatchResult a (λ x. r ≡ Ok x) (λ k. IsErrAnd r (Q k)) → ((k : Refusal) (t : Stopped) → Q k t → t ≡ record { reason = k; done = i }) → r ≡ Err s
    → (k : Refusal) × (a ≡ Err k) × (s ≡ record { reason = k; done = i })
step_stopped (Ok x) m f e = absurd (cc)
step_stopped (Err k) {r} m f e = let p = err_from_is_err_and r m in (k, refl, (let q = f k p.0 p.2 in cc (q, p.1, e)))

-- a step that does not leave there is accepted
step_done : (a : Judgement) {r : Result Unit Stopped} {x : Unit} → is_ok r ≡ is_ok a → r ≡ Ok x → a ≡ Fine
step_done (Ok x) v e = refl
step_done (Err k) v e = let w = rw e at v in absurd (true≢false w)

pub returns-in_err-held_shape-clause-outcome : goal.returns-in_err-held_shape-clause-outcome
returns-in_err-held_shape-clause-outcome c =
    let p = err_from_is_err_and c.from_residual.result c.from_residual.ensures.1 in
    rw (p.1, p.2, shape_stops _ _ (lent c.view.ensures c.in_err-held_shape.ensures)) (record { answer = refl; left = refl })

pub returns-then-trace-ne0-clause-outcome : goal.returns-then-trace-ne0-clause-outcome
returns-then-trace-ne0-clause-outcome c =
    rw
    (c.from.ensures, torn_stops (held_in_mut c.args.list.now) c.args.trace.now (lent c.view.ensures c.in_ok-held_shape.ensures) c.if-trace-ne0.true)
    (record { answer = refl; left = refl })

pub returns-in_err-map_err-clause-outcome : goal.returns-in_err-map_err-clause-outcome
returns-in_err-map_err-clause-outcome c =
    let p = err_from_is_err_and c.from_residual-in_err-map_err.result c.from_residual-in_err-map_err.ensures.1 in
    let q = step_stopped c.replay_step.result {i = c.loop-done.done-counter} c.map_err.ensures.cases (λ k t met. search rules) c.in_err-map_err.was in
    rw (p.1, p.2, q.2)
    (walk_stopped _ _ _ _ _ c.loop-done-test.true (walks _ _ (lent c.view.ensures c.in_ok-held_shape.ensures) c.if-trace-ne0.false)
    c.loop-done.invariant.1 (taken _ _ c.at.ensures c.replay_step.ensures.outcome) q.1)

pub loop-done-preserved : goal.loop-done-preserved
loop-done-preserved c = (
  after c.loop-done.invariant.0 c.replay_step.ensures.same_arrays,
  walk_goes_on _ _ _ _ _ c.loop-done-test.true c.loop-done.invariant.1 (taken _ _ c.at.ensures c.replay_step.ensures.outcome)
      (step_done _ c.map_err.ensures.variant c.in_ok-map_err.was),
)

pub returns-clause-outcome : goal.returns-clause-outcome
returns-clause-outcome c =
    walk_ended _ _ _ _ _ (omega arith, omega arith) (walks _ _ (lent c.view.ensures c.in_ok-held_shape.ensures) c.if-trace-ne0.false) c.loop-done.invariant.1
