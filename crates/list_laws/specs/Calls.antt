-- What calls count (request 6): "For every list of holds, confirms, drops and plain recordings from a fresh list, a key's multiplicity is the number of
-- its accepted confirms and plain recordings." The recordings that a replay makes are plain ones, those of a replay that stops too. Counted is proved of
-- every fresh list and all calls (proofs/Law.antt).
use Rattle.std.specs.Prelude.{ℕ, ◌+◌, ◌<◌, ◌≡◌, cond, List, [], ◌∷◌, ◌++◌, map, eqb, get_or}
use Rattle.words.specs.Outcomes.{Outcome}
use Rattle.words.specs.Refusals.{Fine}
use Rattle.isa.specs.declared.U32TableEntry.{U32TableEntry}
use Rattle.isa.specs.Entries.{admitted}
use Rattle.list.specs.Lists.{used, multiplicity_at, entry_at}
use Rattle.list.specs.Keys.{same_key}
use Rattle.list.specs.Holds.{HeldList, held_shape}
use Rattle.list_record.specs.Recording.{record_all, hold_all}
use Rattle.list_record.specs.Holding.{confirm_all, drop_all}
use Rattle.list_replay.specs.Replay.{replay_all, entries_from}

-- a call, with what it is asked: an entry, a position, a trace. Any of them, admitted or not
pub data Call : Type 0 where
  records : (e : U32TableEntry) → Call
  holds : (e : U32TableEntry) → Call
  confirms : (i : ℕ) → Call
  drops : (i : ℕ) → Call
  replays : (trace : List ℕ) → Call

unfoldable pub call_all : HeldList → Call → Outcome HeldList
call_all h (records e) = record_all h e
call_all h (holds e) = hold_all h e
call_all h (confirms i) = confirm_all h i
call_all h (drops i) = drop_all h i
call_all h (replays trace) = replay_all h trace

-- the list after these calls, accepted or refused
unfoldable pub after : HeldList → List Call → HeldList
after h [] = h
after h (c ∷ cs) = after (call_all h c).left cs

-- these, where the call is accepted
abbrev pub if_accepted : Outcome HeldList → List U32TableEntry → List U32TableEntry
if_accepted a es = cond (eqb a.answer.number 0) es []

-- how many steps a replay did: it tells so where it stops, too
abbrev pub steps_done : Outcome HeldList → ℕ
steps_done a = get_or a.answer.values 0 0

-- what a call counts, as admission hands it back: a recording its entry, a confirm the entry at its position, a replay the entries of the steps it did
unfoldable pub counts : HeldList → Call → List U32TableEntry
counts h (records e) = if_accepted (record_all h e) (admitted e ∷ [])
counts h (holds e) = []
counts h (confirms i) = if_accepted (confirm_all h i) (entry_at h.list i ∷ [])
counts h (drops i) = []
counts h (replays trace) = map admitted (entries_from trace 0 (steps_done (replay_all h trace)))

-- what these calls count, in their order
unfoldable pub counted : HeldList → List Call → List U32TableEntry
counted h [] = []
counted h (c ∷ cs) = counts h c ++ counted (call_all h c).left cs

-- how often a key is among these
unfoldable pub occurrences : U32TableEntry → List U32TableEntry → ℕ
occurrences k [] = 0
occurrences k (e ∷ es) = cond (same_key e k) 1 0 + occurrences k es

-- "a fresh list": of the right shape, and no place is used, whatever words the places hold
pub record Fresh (h : HeldList) : Type 0 where
  pub shape : held_shape h ≡ Fine
  pub unused : used h.list ≡ 0

-- THE LAW: "a key's multiplicity is the number of its accepted confirms and plain recordings", and a key that stands at no used place has none
pub record Counted (h : HeldList) (cs : List Call) : Type 0 where
  pub placed : (i : ℕ) → i < used (after h cs).list
      → multiplicity_at (after h cs).list i ≡ occurrences (entry_at (after h cs).list i) (counted h cs)
  pub absent : (k : U32TableEntry) → ((i : ℕ) → i < used (after h cs).list → entry_at (after h cs).list i ≡ k → ⊥)
      → occurrences k (counted h cs) ≡ 0
