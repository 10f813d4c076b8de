-- The check's search as one walk over the groups: the searches of the four, each before the next, are the whole search. Assumes nothing.
use Prim.Native.Nat.{ℕ}
use mathlib.Core.Path.{◌≡◌, refl}
use mathlib.Core.List.{List, [], ◌∷◌}
use Rattle.words.specs.Answers.{Answer}
use Rattle.air.specs.Check.{zero_answer, first_nonzero}
use Rattle.check_search.specs.declared.Group.{Group}
use Rattle.check_search.specs.declared.Group.TheVariants.{Initial, Consistency, Transition, Terminal}
use Rattle.check_table.specs.Groups.{search_group}

-- in the order in which they are searched
abbrev pub all_groups : List Group
all_groups = Initial ∷ Consistency ∷ Transition ∷ Terminal ∷ []

module _ (table aux challenges : List ℕ) where
  -- the search in these groups, in their order
  abbrev pub first_in_groups : List Group → Answer
  first_in_groups [] = zero_answer
  first_in_groups (group ∷ groups) = search_group table aux challenges group (first_in_groups groups)

  -- it is the whole search
  abbrev pub AreLeft : List Group → Type 0
  AreLeft groups = first_nonzero table aux challenges ≡ first_in_groups groups

  pub groups_are_all : AreLeft all_groups
  unfolding first_nonzero
  groups_are_all = refl
