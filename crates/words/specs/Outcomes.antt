-- What a call leaves (document 01, "Reasons to decline": "Each returns its number and changes nothing lent").
use Rattle.std.specs.Prelude.{ℕ, ◌≡◌, List, []}
use Rattle.words.specs.Answers.{Answer, done, declined}
use Rattle.words.specs.Refusals.{Judgement, Fine, Declined}

-- a call's answer, and what was lent to it as the call leaves it
pub record Outcome (L : Type 0) : Type 0 where
  pub answer : Answer
  pub left : L

-- the work, where nothing speaks against it: these values, and `after` in place of `before`; else the reason, and all as it was
abbrev pub outcome : {L : Type 0} → Judgement → (values : List ℕ) → (before after : L) → Outcome L
outcome Fine values before after = record { answer = done values; left = after }
outcome (Declined reason) values before after = record { answer = declined reason; left = before }

-- the answer alone, of a call that is lent nothing to write
abbrev pub answered : Judgement → (values : List ℕ) → Answer
answered j values = (outcome {L = Unit {0}} j values tt tt).answer

-- an answer and what is left are those that are due
pub record Leaves {L : Type 0} (due : Outcome L) (given : Answer) (after : L) : Type 0 where
  pub answer : given ≡ due.answer
  pub left : after ≡ due.left

-- what the answer of a call that has no value to give means
abbrev pub completed_answer : Judgement → Answer
completed_answer Fine = done []
completed_answer (Declined reason) = declined reason

-- two calls, the second only where the first did its work; else the reason of the first, and what would be lent to the second as it was
abbrev pub unless_declined : {L : Type 0} → (first : Judgement) → (before : L) → (second : Outcome L) → Outcome L
unless_declined Fine before second = second
unless_declined (Declined reason) before second = record { answer = declined reason; left = before }
