-- The places that are stored are the used ones: how many they are, and their entries.
use mathlib.Core.Path.{◌≡◌}
use mathlib.Core.List.{map}
use lib.ListN.{length}
use Rattle.words.specs.Places.{places}
use Rattle.words.proofs.Places.{length_places}
use Rattle.list.specs.Lists.{U32List, used, entry_at}
use Rattle.list.specs.Heights.{entries_at}
use Rattle.list.proofs.Places.{entries_map}
use Rattle.list_bytes.specs.Packed.{stored_places}

pub length_stored_places : (l : U32List) → length (stored_places l) ≡ used l
unfolding stored_places
length_stored_places l = length_places 0 (used l)

-- the entries that are stored
pub stored_entries_lem : (l : U32List) → entries_at l (stored_places l) ≡ map (entry_at l) (places (used l))
unfolding stored_places
stored_entries_lem l = entries_map l (places (used l))
