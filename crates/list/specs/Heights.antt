-- The height of a list (document 01, "Entry and height": "its height is the sum").
use Rattle.std.specs.Prelude.{ℕ, ◌+◌, Bool, List, [], ◌∷◌, Result, Ok, Err}
use Rattle.words.specs.declared.Refusal.{Refusal}
use Rattle.words.specs.Places.{places}
use Rattle.words.specs.Refusals.{first_reason, Judgement, Fine, Declined}
use Rattle.isa.specs.declared.U32TableEntry.{U32TableEntry}
use Rattle.isa.specs.Entries.{height}
use Rattle.list.specs.Lists.{U32List, used, entry_at, judge_place_by, judge_list}

-- the places that get a section, in list order: every used one. Which list it is that is filled stands in Holds.antt: section_list
abbrev pub section_places : U32List → List ℕ
section_places l = places (used l)

-- the entries at these places
unfoldable pub entries_at : U32List → List ℕ → List U32TableEntry
entries_at l [] = []
entries_at l (i ∷ is) = entry_at l i ∷ entries_at l is

abbrev pub section_entries : U32List → List U32TableEntry
section_entries l = entries_at l (section_places l)

unfoldable pub sum_heights : List U32TableEntry → ℕ
sum_heights [] = 0
sum_heights (e ∷ es) = height e + sum_heights es

-- "its height is the sum"
unfoldable pub list_height : U32List → ℕ
list_height l = sum_heights (section_entries l)

-- a list judged: its height, or the first reason against it
abbrev pub Judged : Type 0
Judged = Result ℕ Refusal

abbrev pub judged_as : Judgement → ℕ → Judged
judged_as Fine h = Ok h
judged_as (Declined reason) h = Err reason

-- its used places alone, by one of the two rules of entries
unfoldable pub judged_places : (stored : Bool) → U32List → Judged
judged_places stored l = judged_as (first_reason (judge_place_by stored l) 0 (used l)) (list_height l)

unfoldable pub judged_list : U32List → Judged
judged_list l = judged_as (judge_list l) (list_height l)
