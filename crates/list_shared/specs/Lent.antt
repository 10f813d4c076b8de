-- The arrays that a call of one of the two recorders is lent, as one thing: the other's two, and with them the caller's own list.
use Rattle.std.specs.Prelude.{◌≡◌, List, ℕ}
use Rattle.list.specs.Holds.{HeldList}
use Rattle.list_shared.specs.declared.OtherCounts.{OtherCounts}
use Rattle.list_shared.specs.Shared.{Counts, Shared}

abbrev pub counts : (multiplicities holds : List ℕ) → Counts
counts ms hs = record { multiplicities = ms; holds = hs }

abbrev pub shared : HeldList → Counts → Shared
shared h other = record { own = h; other = other }

-- the other's arrays as the code lends them
abbrev pub counts_in : OtherCounts → Counts
counts_in other = counts other.multiplicities.now other.holds.now

-- a call leaves them where they were
pub record SameCounts (old new : OtherCounts) : Type 0 where
  pub multiplicities : new.multiplicities.ghost_name ≡ old.multiplicities.ghost_name
  pub holds : new.holds.ghost_name ≡ old.holds.ghost_name
