-- Lists (document 01, "Recording and stored lists" and "Reasons to decline"): what a list is, and when it is admitted.
use Rattle.std.specs.Prelude.{ℕ, ◌*◌, Bool, true, false, not, ◌||◌, List, eqb, ltb, length, get_or}
use Rattle.words.specs.Limits.{max_places, multiplicity_limit}
use Rattle.words.specs.Refusals.{decline_if, or_else, first_reason, Judgement}
use Rattle.words.specs.declared.Refusal.TheVariants.{Shape, CountFull}
use Rattle.isa.specs.declared.U32TableEntry.{U32TableEntry}
use Rattle.isa.specs.Entries.{entry_in, entry_width, judge_entry, admit_stored, admitted}
use Rattle.list.specs.declared.Sizes.{Sizes}

-- "A list is sizes, then two parallel arrays: keys (three words each) and multiplicities."
pub record U32List : Type 0 where
  pub sizes : Sizes
  pub keys : List ℕ
  pub multiplicities : List ℕ

abbrev pub u32_list : Sizes → List ℕ → List ℕ → U32List
u32_list s ks ms = record { sizes = s; keys = ks; multiplicities = ms }

abbrev pub capacity : U32List → ℕ
capacity l = l.sizes.capacity

-- the places in use: the first `used`; no other place is examined
abbrev pub used : U32List → ℕ
used l = l.sizes.used

-- the three words at place i
unfoldable pub key_at : U32List → ℕ → U32TableEntry
key_at l i = entry_in l.keys i

unfoldable pub multiplicity_at : U32List → ℕ → ℕ
multiplicity_at l i = get_or l.multiplicities i 0

-- the entry at place i as admission hands it back
unfoldable pub entry_at : U32List → ℕ → U32TableEntry
entry_at l i = admitted (key_at l i)

-- 1: "keys not 3 words a place, multiplicities not one a place (capacity places), used > capacity or capacity > 2,048"
unfoldable pub list_shape : U32List → Judgement
list_shape l =
    decline_if
    (ltb max_places (capacity l) || (ltb (capacity l) (used l)
    || (not (eqb (length l.keys) (entry_width * capacity l)) || not (eqb (length l.multiplicities) (capacity l)))))
    Shape

-- 5: "multiplicity above" the limit, which is p − 1
unfoldable pub count_full : ℕ → Bool
count_full m = ltb multiplicity_limit m

-- 2 to 4 by one of the two rules: true for an entry that stands in stored bytes, false for every other
unfoldable pub judge_entry_by : (stored : Bool) → U32TableEntry → Judgement
judge_entry_by true e = admit_stored e
judge_entry_by false e = judge_entry e

-- 2 to 5 for an entry with its multiplicity
abbrev pub judge_counted : (stored : Bool) → U32TableEntry → ℕ → Judgement
judge_counted stored e multiplicity = or_else (judge_entry_by stored e) (decline_if (count_full multiplicity) CountFull)

-- 2 to 5 at one place
unfoldable pub judge_place_by : (stored : Bool) → U32List → ℕ → Judgement
judge_place_by stored l i = judge_counted stored (key_at l i) (multiplicity_at l i)

abbrev pub judge_place : U32List → ℕ → Judgement
judge_place l i = judge_place_by false l i

-- "1, then 2 to 5 entry by entry"
unfoldable pub judge_list : U32List → Judgement
judge_list l = or_else (list_shape l) (first_reason (judge_place l) 0 (used l))
