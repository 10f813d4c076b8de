-- A list as the code lends it, as the list that the definitions speak of.
use Rattle.std.specs.Prelude.{◌≡◌, ◌*◌, take, Result, MatchResult}
use Rattle.words.specs.Refusals.{Judgement, Fine, Declined}
use Rattle.words.specs.declared.Refusal.{Refusal}
use Rattle.isa.specs.Entries.{entry_width}
use Rattle.list.specs.declared.LentCounts.{LentCounts}
use Rattle.list.specs.declared.UsedPlaces.{UsedPlaces}
use Rattle.list.specs.declared.Copied.{Copied}
use Rattle.list.specs.declared.LentList.{LentList}
use Rattle.list.specs.declared.LentListMut.{LentListMut}
use Rattle.list.specs.Lists.{U32List, u32_list}
use Rattle.list.specs.Holds.{HeldList, held_list}

abbrev pub counts_in : LentCounts → U32List
counts_in l = u32_list l.sizes l.keys.now l.multiplicities.now

-- the places of a list where there is no reason against it, else the reason
abbrev pub PlacesUnless : Judgement → U32List → Result UsedPlaces Refusal → Type 0
PlacesUnless reason l result = MatchResult result (λ places. (counts_in places.list ≡ l) × (reason ≡ Fine)) (λ k. reason ≡ Declined k)

-- places that are copied: as many as it says, from the front of its arrays on
abbrev pub copied_in : Copied → U32List
copied_in c =
    u32_list (record { capacity = c.used; used = c.used }) (take (entry_width * c.used) c.keys) (take c.used c.multiplicities)

abbrev pub held_in : LentList → HeldList
held_in l = held_list l.list.sizes l.list.keys.now l.list.multiplicities.now l.holds.now

abbrev pub held_in_mut : LentListMut → HeldList
held_in_mut l = held_list l.sizes l.keys.now l.multiplicities.now l.holds.now

-- a call leaves the lent arrays where they were: what is in them afterwards is in the caller's own
pub record SameArrays (old new : LentListMut) : Type 0 where
  pub keys : new.keys.ghost_name ≡ old.keys.ghost_name
  pub multiplicities : new.multiplicities.ghost_name ≡ old.multiplicities.ghost_name
  pub holds : new.holds.ghost_name ≡ old.holds.ghost_name
