-- Two recorders on one list of keys (request 11): "Both record onto shared keys; each pad has its own multiplicities and holds." A call is lent the
-- caller's own arrays and, where it may append, the other's. What it does to its own is said elsewhere; this page says what it does to the other's, by
-- one rule.
use Rattle.std.specs.Prelude.{ℕ, ◌-◌, not, ◌&&◌, List, [], ◌∷◌, eqb, length, replicate}
use Rattle.std.proofs.lemmas.List.Edits.{sets}
use Rattle.words.specs.Answers.{Answer, declined}
use Rattle.words.specs.Outcomes.{Outcome}
use Rattle.words.specs.Refusals.{refusal_number, decline_if, Judgement, Fine, Declined}
use Rattle.words.specs.declared.Refusal.TheVariants.{Shape}
use Rattle.isa.specs.declared.U32TableEntry.{U32TableEntry}
use Rattle.list.specs.Lists.{capacity, used}
use Rattle.list.specs.Holds.{HeldList}
use Rattle.list_record.specs.Recording.{record_all, hold_all}
use Rattle.list_replay.specs.Replay.{replay_all}
use Rattle.list_stored.specs.Stored.{read_all}

-- the other recorder's arrays
pub record Counts : Type 0 where
  pub multiplicities : List ℕ
  pub holds : List ℕ

-- 1 for the other's arrays: not one word a place
unfoldable pub other_shape : HeldList → Counts → Judgement
other_shape h other =
    decline_if
    (not (eqb (length other.multiplicities) (capacity h.list) && eqb (length other.holds) (capacity h.list)))
    Shape

-- "set both pads' holds, and the other pad's multiplicity, at a key's place to 0": places `from` to `to` − 1
unfoldable pub cleared : (from to : ℕ) → Counts → Counts
cleared from to c = record {
  multiplicities = sets c.multiplicities from (replicate (to - from) 0);
  holds = sets c.holds from (replicate (to - from) 0);
}

-- a recorder's own list, and the other's arrays
pub record Shared : Type 0 where
  pub own : HeldList
  pub other : Counts

abbrev pub beside_as : Judgement → (wrong : Answer) → Outcome HeldList → HeldList → Counts → Outcome Shared
beside_as Fine wrong a h other = record {
  answer = a.answer;
  left = record { own = a.left; other = cleared (used h.list) (used a.left.list) other };
}
beside_as (Declined reason) wrong a h other = record { answer = wrong; left = record { own = h; other = other } }

-- A call of one recorder and what it does to the other's arrays: at the places that have come into use there is no count and no hold. Where the other's
-- arrays are not of the right shape the answer is `wrong`, and all is as it was
unfoldable pub beside : (wrong : Answer) → Outcome HeldList → HeldList → Counts → Outcome Shared
beside wrong a h other = beside_as (other_shape h other) wrong a h other

unfoldable pub record_shared : HeldList → Counts → U32TableEntry → Outcome Shared
record_shared h other e = beside (declined Shape) (record_all h e) h other

unfoldable pub hold_shared : HeldList → Counts → U32TableEntry → Outcome Shared
hold_shared h other e = beside (declined Shape) (hold_all h e) h other

-- "1 comes before all steps, with none done"
unfoldable pub replay_shared : HeldList → Counts → (trace : List ℕ) → Outcome Shared
replay_shared h other trace = beside (record { number = refusal_number Shape; values = 0 ∷ [] }) (replay_all h trace) h other

-- reading brings N places into use, of which "reading onto a list with keys meets 6" lets none be in use before
unfoldable pub read_shared : HeldList → Counts → (bytes : List ℕ) → Outcome Shared
read_shared h other bytes = beside (declined Shape) (read_all h bytes) h other
