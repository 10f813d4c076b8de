-- The plan (document 01, "Recording and stored lists": "The plan answers height and padded height").
use Rattle.std.specs.Prelude.{ℕ, zero, suc, ◌*◌, cond, [], ◌∷◌, ltb, Result, Ok, Err}
use Rattle.words.specs.Limits.{min_padded_height}
use Rattle.words.specs.declared.Refusal.{Refusal}
use Rattle.words.specs.Answers.{Answer, done, declined}
use Rattle.words.specs.Outcomes.{answered}
use Rattle.list.specs.Heights.{list_height}
use Rattle.list.specs.Holds.{HeldList, section_list, judge_held}
use Rattle.list_record.specs.declared.Heights.{Heights}

-- The first of q, 2q, 4q, .. that is at least h
abbrev pub doubled_to : ℕ → ℕ → ℕ → ℕ
doubled_to zero q h = q
doubled_to (suc fuel) q h = cond (ltb q h) (doubled_to fuel (2 * q) h) q

-- "the smallest power of two that is at least the list's height and at least 256"; h doublings are enough (proofs/PaddedHeight.antt)
unfoldable pub padded_height : ℕ → ℕ
padded_height h = doubled_to h min_padded_height h

-- "The plan answers height and padded height": 1, 15, then 2 to 5 entry by entry
unfoldable pub plan_all : HeldList → Answer
plan_all h = answered (judge_held h) (list_height (section_list h) ∷ padded_height (list_height (section_list h)) ∷ [])

-- what the answer of `plan` means
abbrev pub Planned : Type 0
Planned = Result Heights Refusal

abbrev pub planned_answer : Planned → Answer
planned_answer (Ok heights) = done (heights.height ∷ heights.padded ∷ [])
planned_answer (Err reason) = declined reason
