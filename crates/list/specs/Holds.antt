-- Holds (request 6: "The list gains a third parallel array of holds, not stored in files"). They stand beside the list: what a list and its entries are
-- is said without them (Lists.antt).
use Rattle.std.specs.Prelude.{ℕ, not, List, eqb, length, get_or}
use Rattle.words.specs.Refusals.{decline_if, or_else, first_reason, Judgement}
use Rattle.words.specs.declared.Refusal.TheVariants.{Shape, OpenHold}
use Rattle.list.specs.declared.Sizes.{Sizes}
use Rattle.list.specs.Lists.{U32List, u32_list, capacity, used, list_shape, judge_list}
use Rattle.list.specs.Heights.{Judged, list_height, judged_as}
use Rattle.list.specs.Counted.{counted}

pub record HeldList : Type 0 where
  pub list : U32List
  pub holds : List ℕ

abbrev pub held_list : Sizes → (keys multiplicities holds : List ℕ) → HeldList
held_list s ks ms hs = record { list = u32_list s ks ms; holds = hs }

-- the open holds of the key at place i
unfoldable pub hold_at : HeldList → ℕ → ℕ
hold_at h i = get_or h.holds i 0

-- 1: the list's own; and "Holds not one a place are 1."
unfoldable pub held_shape : HeldList → Judgement
held_shape h = or_else (list_shape h.list) (decline_if (not (eqb (length h.holds) (capacity h.list))) Shape)

-- 15 at place i
unfoldable pub judge_hold : HeldList → ℕ → Judgement
judge_hold h i = decline_if (not (eqb (hold_at h i) 0)) OpenHold

-- 15: "an open hold at a used place"
unfoldable pub open_hold : HeldList → Judgement
open_hold h = first_reason (judge_hold h) 0 (used h.list)

-- 15 "directly after 1"
unfoldable pub judge_closed : HeldList → Judgement
judge_closed h = or_else (held_shape h) (open_hold h)

-- the list whose entries get sections and are stored: that of the counted places
unfoldable pub section_list : HeldList → U32List
section_list h = counted h.list

-- 15 "directly after 1 in fill, plan and write", at every used place, "left-out keys' too" (request 11); then 2 to 5 entry by entry
unfoldable pub judge_held : HeldList → Judgement
judge_held h = or_else (held_shape h) (or_else (open_hold h) (judge_list (section_list h)))

-- the same with the height, where there is no reason
unfoldable pub judged_held : HeldList → Judged
judged_held h = judged_as (judge_held h) (list_height (section_list h))
