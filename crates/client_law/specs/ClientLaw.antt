-- The client's sum is the table's (change request 2): "For every list of accepted recordings from a fresh list, if no denominator lacks an inverse, the
-- client's sum over the recordings equals the last running sum that demand 3's fill, pad and extend then make under the same challenges, none
-- refusing." The three statements below are proved for every list with its holds, table, aux and challenges (proofs/ClientLaw.antt). Their conditions
-- speak of the recordings, of lengths and of the challenges: that no call refuses, and that the client's does not, is a conclusion.
use Rattle.std.specs.Prelude.{ℕ, ◌-◌, ◌≤◌, ◌<◌, ◌≡◌, ◌≢◌, true}
use mathlib.Core.List.{List, [], ◌∷◌, flat_map}
use Rattle.words.specs.Answers.{done}
use Rattle.words.specs.Refusals.{Fine}
use Rattle.xfield.specs.Extension.{zero_x}
use Rattle.isa.specs.declared.U32TableEntry.{U32TableEntry}
use Rattle.isa.specs.Entries.{entry_words, admitted}
use Rattle.list.specs.Heights.{list_height}
use Rattle.list.specs.Holds.{HeldList, open_hold, section_list}
use Rattle.list_record.specs.Recording.{record_each}
use Rattle.list_replay.specs.Replay.{replay_all, trace_entries}
use Rattle.list_laws.specs.Calls.{Call, after, counted, Fresh}
use Rattle.table.specs.Columns.{row_count, aux_at, table_shape, aux_shape, all_reduced}
use Rattle.table.specs.Challenges.{Challenges, challenges_of, challenges_shape}
use Rattle.sums.specs.RunningSum.{element_words}
use Rattle.air.specs.Check.{zero_answer, check_all}
use Rattle.four_calls.specs.FourCalls.{padded_table, extended_aux, NoneRefuses}
use Rattle.client_sum.specs.Client.{entry_denominator, client_sum, client_all}

-- "if no denominator lacks an inverse": none is (0, 0, 0), the only element without one. A recording's is that of the entry that admission hands back
abbrev pub NoZeroDenominator : Challenges → List U32TableEntry → Type 0
NoZeroDenominator c [] = Unit {0}
NoZeroDenominator c (e ∷ es) = (entry_denominator c (admitted e) ≢ zero_x) × NoZeroDenominator c es

-- a table with room for the height, aux for its rows, and fifteen words below p: without these a call declines with 1, 7 or 8
pub record RightlyLent (height : ℕ) (table aux challenges : List ℕ) : Type 0 where
  pub table_shaped : table_shape table ≡ true
  pub room : height ≤ row_count table
  pub aux_shaped : aux_shape table aux ≡ true
  pub challenges_shaped : challenges_shape challenges ≡ true
  pub challenges_reduced : all_reduced challenges ≡ true

-- the recordings as the client's requests: the words that were recorded
abbrev pub request_words : List U32TableEntry → List ℕ
request_words es = flat_map entry_words es

-- The two sums agree: h is the list after the recordings es
pub record SumsAgree (h : HeldList) (es : List U32TableEntry) (table aux challenges : List ℕ) : Type 0 where
  -- the client's call answers its sum
  pub client : client_all (request_words es) challenges ≡ done (element_words (client_sum (request_words es) challenges))
  -- "none refusing": fill answers the height, pad answers done, extend answers the same sum
  pub server : NoneRefuses h table aux challenges (list_height (section_list h)) (element_words (client_sum (request_words es) challenges))
  -- where there is a row: the sum stands in the last one, and the check answers zero
  pub last : 0 < row_count table
      → aux_at (extended_aux h table (list_height (section_list h)) aux challenges) (row_count table - 1) ≡ client_sum (request_words es) challenges
  pub zero : 0 < row_count table
      → check_all (padded_table h table (list_height (section_list h))) (extended_aux h table (list_height (section_list h)) aux challenges) challenges
      ≡ zero_answer

-- THE LAW, for recordings one after the other, all accepted
abbrev pub ClientIsServer : HeldList → List U32TableEntry → (table aux challenges : List ℕ) → Type 0
ClientIsServer h es table aux challenges =
    Fresh h → (record_each h es).answer.number ≡ 0 → NoZeroDenominator (challenges_of challenges) es
    → RightlyLent (list_height (section_list (record_each h es).left)) table aux challenges
    → SumsAgree (record_each h es).left es table aux challenges

-- and for an accepted replay, over what its steps record
abbrev pub ReplayIsServer : HeldList → (trace table aux challenges : List ℕ) → Type 0
ReplayIsServer h trace table aux challenges =
    Fresh h → (replay_all h trace).answer.number ≡ 0 → NoZeroDenominator (challenges_of challenges) (trace_entries trace)
    → RightlyLent (list_height (section_list (replay_all h trace).left)) table aux challenges
    → SumsAgree (replay_all h trace).left (trace_entries trace) table aux challenges

-- and where recordings are "made in two parts" (request 6), among holds, drops, replays and refused calls: over what the calls count, if no hold is
-- open after them and no denominator of what they count is zero. No other denominator is asked for: a key that nothing counts, as one whose holds were all
-- dropped, has no section (request 11)
abbrev pub CallsAreServer : HeldList → List Call → (table aux challenges : List ℕ) → Type 0
CallsAreServer h cs table aux challenges =
    Fresh h → open_hold (after h cs) ≡ Fine → NoZeroDenominator (challenges_of challenges) (counted h cs)
    → RightlyLent (list_height (section_list (after h cs))) table aux challenges
    → SumsAgree (after h cs) (counted h cs) table aux challenges
