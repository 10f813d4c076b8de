-- Two recorders and their calls on one list (request 11: "Both record onto shared keys; each pad has its own multiplicities and holds"), one after the
-- other, in any order.
use Rattle.std.specs.Prelude.{ℕ, ◌≡◌, List, [], ◌∷◌}
use Rattle.words.specs.Outcomes.{Outcome}
use Rattle.words.specs.Refusals.{Fine}
use Rattle.list.specs.declared.Sizes.{Sizes}
use Rattle.list.specs.Holds.{HeldList, held_list, held_shape}
use Rattle.list_record.specs.Holding.{confirm_all, drop_all}
use Rattle.list_laws.specs.Calls.{Call}
use Rattle.list_shared.specs.Shared.{Counts, Shared, record_shared, hold_shared, replay_shared}

pub data Recorder : Type 0 where
  first : Recorder
  second : Recorder

-- one list of keys, and the arrays of each
pub record SharedList : Type 0 where
  pub sizes : Sizes
  pub keys : List ℕ
  pub firsts : Counts
  pub seconds : Counts

-- the list as a recorder has it
abbrev pub own : Recorder → SharedList → HeldList
own Recorder.first s = held_list s.sizes s.keys s.firsts.multiplicities s.firsts.holds
own Recorder.second s = held_list s.sizes s.keys s.seconds.multiplicities s.seconds.holds

abbrev pub others : Recorder → SharedList → Counts
others Recorder.first s = s.seconds
others Recorder.second s = s.firsts

-- the list that a recorder's call leaves
abbrev pub put : Recorder → Shared → SharedList
put Recorder.first a = record {
  sizes = a.own.list.sizes;
  keys = a.own.list.keys;
  firsts = record { multiplicities = a.own.list.multiplicities; holds = a.own.holds };
  seconds = a.other;
}
put Recorder.second a = record {
  sizes = a.own.list.sizes;
  keys = a.own.list.keys;
  firsts = a.other;
  seconds = record { multiplicities = a.own.list.multiplicities; holds = a.own.holds };
}

-- a call on the own arrays alone
abbrev pub beside_nothing : Outcome HeldList → Counts → Outcome Shared
beside_nothing a other = record { answer = a.answer; left = record { own = a.left; other = other } }

-- what a recorder's call leaves of its own list and of the other's arrays
unfoldable pub call_shared : HeldList → Counts → Call → Outcome Shared
call_shared h other (Call.records e) = record_shared h other e
call_shared h other (Call.holds e) = hold_shared h other e
call_shared h other (Call.confirms i) = beside_nothing (confirm_all h i) other
call_shared h other (Call.drops i) = beside_nothing (drop_all h i) other
call_shared h other (Call.replays trace) = replay_shared h other trace

-- "recordings, replays, holds, confirms and drops by both pads": a call, and whose it is
pub record Made : Type 0 where
  pub by : Recorder
  pub call : Call

abbrev pub makes : Recorder → Call → Made
makes r c = record { by = r; call = c }

abbrev pub made_all : SharedList → Made → Outcome Shared
made_all s m = call_shared (own m.by s) (others m.by s) m.call

abbrev pub made : SharedList → Made → SharedList
made s m = put m.by (made_all s m).left

-- the list after these calls, accepted or refused
unfoldable pub run : SharedList → List Made → SharedList
run s [] = s
run s (m ∷ ms) = run (made s m) ms

-- "a fresh list": of the right shape for both, and no place is used, whatever words the places hold
pub record FreshShared (s : SharedList) : Type 0 where
  pub firsts : held_shape (own Recorder.first s) ≡ Fine
  pub seconds : held_shape (own Recorder.second s) ≡ Fine
  pub unused : s.sizes.used ≡ 0
