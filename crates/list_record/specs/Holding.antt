-- A hold's end (request 6): "Confirm turns one hold into one count; drop removes one hold."
use Rattle.std.specs.Prelude.{ℕ, ◌+◌, ◌-◌, not, ◌&&◌, [], eqb, ltb}
use Rattle.words.specs.Outcomes.{Outcome, outcome}
use Rattle.words.specs.Refusals.{decline_if, or_else, Judgement}
use Rattle.words.specs.declared.Refusal.TheVariants.{CountFull, NoHold}
use Rattle.list.specs.Lists.{used, multiplicity_at, count_full}
use Rattle.list.specs.Holds.{HeldList, hold_at, held_shape}
use Rattle.list_record.specs.Recording.{settled}

-- 16: "confirm or drop at an unused position or one without a hold, after 1"
unfoldable pub drop_reason : HeldList → ℕ → Judgement
drop_reason h i =
    or_else (held_shape h)
    (decline_if (not (ltb i (used h.list) && not (eqb (hold_at h i) 0))) NoHold)

-- "confirm then meets 5 if its count can't rise"
unfoldable pub confirm_reason : HeldList → ℕ → Judgement
confirm_reason h i = or_else (drop_reason h i) (decline_if (count_full (multiplicity_at h.list i + 1)) CountFull)

unfoldable pub confirm_all : HeldList → ℕ → Outcome HeldList
confirm_all h i = outcome (confirm_reason h i) [] h (settled h i (multiplicity_at h.list i + 1) (hold_at h i - 1))

unfoldable pub drop_all : HeldList → ℕ → Outcome HeldList
drop_all h i = outcome (drop_reason h i) [] h (settled h i (multiplicity_at h.list i) (hold_at h i - 1))
