-- The laws of requests 6 and 2 (request 11: "The laws of slips 2 and 6 are now said of each pad and its own calls"): of a recorder on the shared list, over any
-- calls of both, at any positions, whether some met "list full" or not (proofs/OwnLaws.antt).
use Rattle.std.specs.Prelude.{ℕ, ◌<◌, ◌≡◌, cond, List, [], ◌∷◌, ◌++◌}
use Rattle.words.specs.Refusals.{Fine}
use Rattle.isa.specs.declared.U32TableEntry.{U32TableEntry}
use Rattle.list.specs.Lists.{used, multiplicity_at, entry_at}
use Rattle.list.specs.Heights.{list_height}
use Rattle.list.specs.Holds.{open_hold, section_list}
use Rattle.list_laws.specs.Calls.{counts, occurrences}
use Rattle.table.specs.Challenges.{challenges_of}
use Rattle.client_law.specs.ClientLaw.{NoZeroDenominator, RightlyLent, SumsAgree}
use Rattle.shared_law.specs.Recorders.{Recorder, SharedList, own, Made, made, run, FreshShared}
use Rattle.shared_law.specs.Alone.{same}

-- What its own calls count, in their order: accepted recordings and confirms, and the entries of the steps that its replays did. A call on the shared list
-- answers what it answers on the recorder's own (proofs/SharedCalls.antt: shared_call)
unfoldable pub own_counted : Recorder → SharedList → List Made → List U32TableEntry
own_counted r s [] = []
own_counted r s (m ∷ ms) = cond (same r m.by) (counts (own r s) m.call) [] ++ own_counted r (made s m) ms

-- request 6: "a key's multiplicity is the number of its accepted confirms and plain recordings", and a key that stands at no used place has none
pub record CountedByOwn (r : Recorder) (s : SharedList) (ms : List Made) : Type 0 where
  pub placed : (i : ℕ) → i < used (own r (run s ms)).list
      → multiplicity_at (own r (run s ms)).list i ≡ occurrences (entry_at (own r (run s ms)).list i) (own_counted r s ms)
  pub absent : (k : U32TableEntry) → ((i : ℕ) → i < used (own r (run s ms)).list → entry_at (own r (run s ms)).list i ≡ k → ⊥)
      → occurrences k (own_counted r s ms) ≡ 0

-- request 2: "if no denominator lacks an inverse, the client's sum over the recordings equals the last running sum that demand 3's fill, pad and extend then
-- make under the same challenges, none refusing", where no hold of its own is open. No other denominator is asked for: not that of a key whose holds were all
-- dropped, nor that of a key which the other recorder alone counts
abbrev pub OwnCallsAreServer : Recorder → SharedList → List Made → (table aux challenges : List ℕ) → Type 0
OwnCallsAreServer r s ms table aux challenges =
    FreshShared s → open_hold (own r (run s ms)) ≡ Fine → NoZeroDenominator (challenges_of challenges) (own_counted r s ms)
    → RightlyLent (list_height (section_list (own r (run s ms)))) table aux challenges
    → SumsAgree (own r (run s ms)) (own_counted r s ms) table aux challenges
