-- A recorder's own call, on the shared list (S) and alone (O), a confirm or a drop at positions of one earlier call (call_together): both tell the same, what
-- was kept between the lists is kept, and the positions that they answer have one key. Assumes nothing.
use Prim.Native.Nat.{ℕ}
use mathlib.Core.Path.{◌≡◌, refl, ap}
use mathlib.Core.Bool.{Bool, true, false, cond}
use mathlib.Core.List.{List, [], ◌∷◌, ◌++◌, map}
use mathlib.Core.Logic.{◌≢◌}
use lib.Dec.{eqb}
use lib.ListN.{get_or}
use borrow.Author.Tests.{eqb-true}
use Rattle.words.specs.Answers.{Answer}
use Rattle.words.specs.Outcomes.{Outcome}
use Rattle.words.specs.Refusals.{refusal_number}
use Rattle.words.specs.declared.Refusal.TheVariants.{ListFull}
use Rattle.isa.specs.declared.U32TableEntry.{U32TableEntry}
use Rattle.list.specs.Holds.{HeldList}
use Rattle.list_record.specs.Recording.{record_with}
use Rattle.list_record.specs.Holding.{confirm_all, drop_all}
use Rattle.list_record.proofs.RecordEach.{number_of}
use Rattle.list_record.proofs.RecordViews.{view_of}
use Rattle.list_replay.specs.Replay.{replay_all}
use Rattle.list_laws.specs.Calls.{Call, call_all}
use Rattle.shared_law.specs.Alone.{told, position, Takes, Position, noted, alone_at, alone_call}
use Rattle.shared_law.proofs.Together.{Matched, Joined, Positions, record_together_lem}
use Rattle.shared_law.proofs.HoldsTogether.{confirm_together, drop_together}
use Rattle.shared_law.proofs.ReplaysTogether.{replay_together}
use Rattle.shared_law.proofs.Logs.{Good, AllGood, shared_ones, good_grown, good_append, good_at}

-- two calls tell the same, and the lists and the log are as they should be afterwards
pub record Called (S O : HeldList) (log : List Position) (c d : Call) (a b : Outcome HeldList) : Type 0 where
  pub telling : told c a.answer ≡ told d b.answer
  pub matched : Matched a.left b.left
  pub good : AllGood a.left b.left (log ++ noted c a.answer b.answer)

-- the same number, no values
bare : {m n : ℕ} → m ≡ n → ◌≡◌ {A = Answer} (record { number = m; values = [] }) (record { number = n; values = [] })
bare q = ap (λ (n : ℕ). record { number = n; values = [] }) q

module _ (S O : HeldList) (log : List Position) (good : AllGood S O log) where
  -- the log so far stays good
  kept : (a b : Outcome HeldList) → Joined S O a b → AllGood a.left b.left log
  kept a b j = good_grown S O a.left b.left log j.grown_s j.grown_o good

  -- no position is answered
  none_noted : (a b : Outcome HeldList) → Joined S O a b → AllGood a.left b.left (log ++ [])
  none_noted a b j = good_append a.left b.left log [] (kept a b j) tt

  -- one is, where the call is accepted
  one_noted : (a b : Outcome HeldList) → Joined S O a b → (number_of a ≡ 0 → Positions a b)
      → AllGood a.left b.left
      (log ++ map (λ p. record { shared = p; alone = get_or b.answer.values 0 0 }) (cond (eqb (number_of a) 0) a.answer.values []))
  one_noted a b j place = go (eqb (number_of a) 0) refl where
    go : (t : Bool) → eqb (number_of a) 0 ≡ t
        → AllGood a.left b.left (log ++ map (λ p. record { shared = p; alone = get_or b.answer.values 0 0 }) (cond t a.answer.values []))
    go true q =
        let p = place (eqb-true _ _ q) in
        rw (p.shared_is, p.alone_is)
        (good_append a.left b.left log (record { shared = p.shared; alone = p.alone } ∷ []) (kept a b j)
        ((p.shared_used, p.alone_used, p.one_key), tt))
    go false q = none_noted a b j

  module _ (m : Matched S O) where
    records_called : (e : U32TableEntry) → number_of (record_with 1 0 S e) ≢ refusal_number ListFull
        → Called S O log (Call.records e) (Call.records e) (record_with 1 0 S e) (record_with 1 0 O e)
    unfolding told noted position
    records_called e n =
        let r = record_together_lem 1 0 S O e m n in
        record {
          telling = bare r.0.number;
          matched = r.0.matched;
          good = one_noted (record_with 1 0 S e) (record_with 1 0 O e) r.0 r.1;
        }

    holds_called : (e : U32TableEntry) → number_of (record_with 0 1 S e) ≢ refusal_number ListFull
        → Called S O log (Call.holds e) (Call.holds e) (record_with 0 1 S e) (record_with 0 1 O e)
    unfolding told noted position
    holds_called e n =
        let r = record_together_lem 0 1 S O e m n in
        record {
          telling = bare r.0.number;
          matched = r.0.matched;
          good = one_noted (record_with 0 1 S e) (record_with 0 1 O e) r.0 r.1;
        }

    confirms_called : (i j : ℕ) → Good S O (record { shared = i; alone = j })
        → Called S O log (Call.confirms i) (Call.confirms j) (confirm_all S i) (confirm_all O j)
    unfolding told noted position view_of
    confirms_called i j g =
        let r = confirm_together S O m i j g.0 g.1 g.2 in
        record { telling = bare r.number; matched = r.matched; good = none_noted (confirm_all S i) (confirm_all O j) r }

    drops_called : (i j : ℕ) → Good S O (record { shared = i; alone = j })
        → Called S O log (Call.drops i) (Call.drops j) (drop_all S i) (drop_all O j)
    unfolding told noted position view_of
    drops_called i j g =
        let r = drop_together S O m i j g.0 g.1 g.2 in
        record { telling = bare r.number; matched = r.matched; good = none_noted (drop_all S i) (drop_all O j) r }

    replays_called : (trace : List ℕ) → number_of (replay_all S trace) ≢ refusal_number ListFull
        → Called S O log (Call.replays trace) (Call.replays trace) (replay_all S trace) (replay_all O trace)
    unfolding told noted position
    replays_called trace n =
        let r = replay_together S O trace m n in
        record { telling = r.0; matched = r.1.matched; good = none_noted (replay_all S trace) (replay_all O trace) r.1 }

    pub call_together : (c : Call) → Takes (shared_ones log) c → number_of (call_all S c) ≢ refusal_number ListFull
        → Called S O log c (alone_call log c) (call_all S c) (call_all O (alone_call log c))
    unfolding call_all alone_call
    call_together (Call.records e) t n = records_called e n
    call_together (Call.holds e) t n = holds_called e n
    call_together (Call.confirms i) t n = confirms_called i (alone_at log i) (good_at S O log i good t)
    call_together (Call.drops i) t n = drops_called i (alone_at log i) (good_at S O log i good t)
    call_together (Call.replays trace) t n = replays_called trace n
