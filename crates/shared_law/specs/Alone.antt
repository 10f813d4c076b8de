-- A recorder's own calls, on the shared list and alone (request 11: ".. those of its own calls alone, in their order, on a fresh list of the same
-- capacity, each confirm or drop taking the position that the same earlier call answers there").
use Rattle.std.specs.Prelude.{ℕ, ◌≡◌, ◌≢◌, Bool, true, false, cond, ◌||◌, List, [], ◌∷◌, ◌++◌, map, eqb, get_or}
use Rattle.words.specs.Answers.{Answer}
use Rattle.words.specs.Refusals.{refusal_number}
use Rattle.words.specs.declared.Refusal.TheVariants.{ListFull}
use Rattle.list.specs.Holds.{HeldList}
use Rattle.list_laws.specs.Calls.{Call, call_all}
use Rattle.shared_law.specs.Recorders.{Recorder, SharedList, Made, made_all, made}

abbrev pub same : Recorder → Recorder → Bool
same Recorder.first Recorder.first = true
same Recorder.first Recorder.second = false
same Recorder.second Recorder.first = false
same Recorder.second Recorder.second = true

-- ---- what its calls answer

-- what a call tells but a position: its number, and of a replay how many steps were done
unfoldable pub told : Call → Answer → Answer
told (Call.records e) a = record { number = a.number; values = [] }
told (Call.holds e) a = record { number = a.number; values = [] }
told (Call.confirms i) a = record { number = a.number; values = [] }
told (Call.drops i) a = record { number = a.number; values = [] }
told (Call.replays trace) a = a

-- of a recorder's own calls, on the shared list
unfoldable pub own_answers : Recorder → SharedList → List Made → List Answer
own_answers r s [] = []
own_answers r s (m ∷ ms) =
    let rest = own_answers r (made s m) ms in
    let mine = told m.call (made_all s m).answer ∷ rest in
    cond (same r m.by) mine rest

-- of calls on a list of one recorder
unfoldable pub answers_of : HeldList → List Call → List Answer
answers_of h [] = []
answers_of h (c ∷ cs) = told c (call_all h c).answer ∷ answers_of (call_all h c).left cs

-- "none of a pad's calls met 'list full'"
abbrev pub NoneFull : List Answer → Type 0
NoneFull [] = Unit {0}
NoneFull (a ∷ rest) = (a.number ≢ refusal_number ListFull) × NoneFull rest

-- ---- positions

-- the position that a call answered, if it did: a recording or a hold that was accepted answers one
unfoldable pub position : Call → Answer → List ℕ
position (Call.records e) a = cond (eqb a.number 0) a.values []
position (Call.holds e) a = cond (eqb a.number 0) a.values []
position (Call.confirms i) a = []
position (Call.drops i) a = []
position (Call.replays trace) a = []

abbrev pub among : ℕ → List ℕ → Bool
among i [] = false
among i (p ∷ ps) = eqb p i || among i ps

-- "each confirm or drop at a position that an earlier call .. answered"
abbrev pub Takes : (answered : List ℕ) → Call → Type 0
Takes answered (Call.records e) = Unit {0}
Takes answered (Call.holds e) = Unit {0}
Takes answered (Call.confirms i) = among i answered ≡ true
Takes answered (Call.drops i) = among i answered ≡ true
Takes answered (Call.replays trace) = Unit {0}

-- ".. of its own pad": these positions were answered before
unfoldable pub TakesOwn : Recorder → (answered : List ℕ) → SharedList → List Made → Type 0
TakesOwn r answered s [] = Unit {0}
TakesOwn r answered s (m ∷ ms) =
    cond (same r m.by)
    (Takes answered m.call × TakesOwn r (answered ++ position m.call (made_all s m).answer) (made s m) ms)
    (TakesOwn r answered (made s m) ms)

-- ---- the calls alone

-- the position that one call answered on the shared list, and alone
pub record Position : Type 0 where
  pub shared : ℕ
  pub alone : ℕ

unfoldable pub noted : Call → (shared alone : Answer) → List Position
noted c shared alone = map (λ p. record { shared = p; alone = get_or alone.values 0 0 }) (position c shared)

-- the position alone of the first call that answered i on the shared list (any other that did has the same: proofs/Runs.antt: one_position)
unfoldable pub alone_at : List Position → ℕ → ℕ
alone_at [] i = i
alone_at (p ∷ ps) i = cond (eqb p.shared i) p.alone (alone_at ps i)

-- "each confirm or drop taking the position that the same earlier call answers there"
unfoldable pub alone_call : List Position → Call → Call
alone_call log (Call.records e) = Call.records e
alone_call log (Call.holds e) = Call.holds e
alone_call log (Call.confirms i) = Call.confirms (alone_at log i)
alone_call log (Call.drops i) = Call.drops (alone_at log i)
alone_call log (Call.replays trace) = Call.replays trace

-- Both runs side by side: the shared list, the list alone, and the positions that the recorder's calls answered on each
pub record Both : Type 0 where
  pub shared : SharedList
  pub lone : HeldList
  pub log : List Position

-- after one more call: only the recorder's own are made alone
unfoldable pub next : Recorder → Both → Made → Both
next r w m =
    let a = call_all w.lone (alone_call w.log m.call) in
    let mine : Both = record {
      shared = made w.shared m;
      lone = a.left;
      log = w.log ++ noted m.call (made_all w.shared m).answer a.answer;
    } in
    let theirs : Both = record { shared = made w.shared m; lone = w.lone; log = w.log } in
    cond (same r m.by) mine theirs

unfoldable pub both_after : Recorder → Both → List Made → Both
both_after r w [] = w
both_after r w (m ∷ ms) = both_after r (next r w m) ms

-- "its own calls alone, in their order"
unfoldable pub alone_from : Recorder → Both → List Made → List Call
alone_from r w [] = []
alone_from r w (m ∷ ms) = cond (same r m.by) (alone_call w.log m.call ∷ []) [] ++ alone_from r (next r w m) ms

-- from the two lists at first
abbrev pub started : SharedList → HeldList → Both
started s h = record { shared = s; lone = h; log = [] }

abbrev pub alone : Recorder → SharedList → HeldList → List Made → List Call
alone r s h ms = alone_from r (started s h) ms
