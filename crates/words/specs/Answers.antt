-- What a call answers in document 01's terms: a number, 0 for done and else the reason's, and the values that come with it.
use Rattle.std.specs.Prelude.{ℕ, List, []}
use Rattle.words.specs.declared.Refusal.{Refusal}
use Rattle.words.specs.Refusals.{refusal_number}

pub record Answer : Type 0 where
  pub number : ℕ
  pub values : List ℕ

-- the work is done; a call that is given no other answer has no values
abbrev pub done : List ℕ → Answer
done vs = record { number = 0; values = vs }

-- "Each returns its number"
abbrev pub declined : Refusal → Answer
declined reason = record { number = refusal_number reason; values = [] }
