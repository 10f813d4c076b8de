-- The counted places of a list (request 11): "A fill or plan for a pad leaves out keys whose count for that pad is 0 ..; left-out keys are not
-- examined, in writing neither." What is left is a list of its own.
use Rattle.std.specs.Prelude.{ℕ, zero, suc, cond, eqb, length}
use mathlib.Core.List.{List, [], ◌∷◌, ◌++◌, map, flat_map}
use Rattle.isa.specs.Entries.{entry_words}
use Rattle.list.specs.Lists.{U32List, u32_list, used, key_at, multiplicity_at}

-- the places among the first n whose multiplicity is not 0, in their order
unfoldable pub counted_to : U32List → ℕ → List ℕ
counted_to l zero = []
counted_to l (suc n) = counted_to l n ++ cond (eqb (multiplicity_at l n) 0) [] (n ∷ [])

abbrev pub counted_places : U32List → List ℕ
counted_places l = counted_to l (used l)

-- the list of the counted places: as many as they are, each in use, with their keys and multiplicities
unfoldable pub counted : U32List → U32List
counted l =
    u32_list (record { capacity = length (counted_places l); used = length (counted_places l) })
    (flat_map (λ i. entry_words (key_at l i)) (counted_places l))
    (map (multiplicity_at l) (counted_places l))
