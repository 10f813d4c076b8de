-- The tables as the code lends them, as those that the definitions speak of.
use Rattle.std.specs.Prelude.{◌≡◌}
use Rattle.lookup.specs.declared.LentCascade.{LentCascade}
use Rattle.lookup.specs.declared.LentLookupsMut.{LentLookupsMut}
use Rattle.lookup.specs.Cascades.{Cascade, cascade, Lookups, lookups}

abbrev pub cascade_in : LentCascade → Cascade
cascade_in c = cascade c.sizes c.keys.now c.multiplicities.now

abbrev pub lookups_in : LentLookupsMut → Lookups
lookups_in t = lookups t.sizes t.keys.now t.multiplicities.now t.byte_multiplicities.now

-- a call leaves the lent arrays where they were: what is in them afterwards is in the caller's own
pub record SameArrays (old new : LentLookupsMut) : Type 0 where
  pub keys : new.keys.ghost_name ≡ old.keys.ghost_name
  pub multiplicities : new.multiplicities.ghost_name ≡ old.multiplicities.ghost_name
  pub byte_multiplicities : new.byte_multiplicities.ghost_name ≡ old.byte_multiplicities.ghost_name
