-- Laws of what a call leaves: the values and the work done where nothing speaks against it, else the reason and all as it was; and what a call
-- that is done tells. Assumes nothing.
use Prim.Native.Nat.{ℕ}
use mathlib.Core.Path.{◌≡◌, refl, ap, ◌∙◌}
use mathlib.Core.List.{List}
use native.Mathlib.Omega.{arith}
use Rattle.words.specs.Answers.{Answer, done, declined}
use Rattle.words.specs.Outcomes.{Outcome, outcome, answered, Leaves, unless_declined}
use Rattle.words.specs.Refusals.{Judgement, Fine, Declined}
use Rattle.words.specs.declared.Refusal.{Refusal}
use Rattle.words.proofs.Answers.{number_positive, declined_not_done}

pub outcome_fine : {L : Type 0} {j : Judgement} (values : List ℕ) (before after : L)
    → j ≡ Fine → outcome j values before after ≡ record { answer = done values; left = after }
outcome_fine values before after e = rw e

pub outcome_declined : {L : Type 0} {j : Judgement} {reason : Refusal} (values : List ℕ) (before after : L)
    → j ≡ Declined reason → outcome j values before after ≡ record { answer = declined reason; left = before }
outcome_declined values before after e = rw e

-- ---- an answer and what is left, against what is due
module _ {L : Type 0} {j : Judgement} (values : List ℕ) (before after : L) where
  pub leaves_done : {given : Answer} {left : L} → j ≡ Fine → given ≡ done values → left ≡ after
      → Leaves (outcome j values before after) given left
  leaves_done e a l = rw e (record { answer = a; left = l })

  pub leaves_declined : {reason : Refusal} → j ≡ Declined reason → Leaves (outcome j values before after) (declined reason) before
  leaves_declined e = rw e (record { answer = refl; left = refl })

-- the same answer, said otherwise
pub leaves_said : {L : Type 0} {due : Outcome L} {said given : Answer} {left : L} → given ≡ said → Leaves due said left → Leaves due given left
leaves_said e k = record { answer = e ∙ k.answer; left = k.left }

-- ---- what an answer tells of the judgement
pub done_fine : {L : Type 0} (j : Judgement) (values : List ℕ) (before after : L) {given : List ℕ}
    → (outcome j values before after).answer ≡ done given → (j ≡ Fine) × (values ≡ given)
done_fine Fine values before after e = (refl, ap (λ (a : Answer). a.values) e)
done_fine (Declined reason) values before after e = absurd (declined_not_done reason e)

-- a call that answers 0 found nothing
pub outcome_done : {L : Type 0} (j : Judgement) (values : List ℕ) (before after : L)
    → (outcome j values before after).answer.number ≡ 0 → j ≡ Fine
outcome_done Fine values before after e = refl
outcome_done (Declined reason) values before after e = absurd (omega (arith, number_positive reason))

-- what the work keeps, the call keeps
pub outcome_keeps : {L A : Type 0} (f : L → A) (j : Judgement) (values : List ℕ) (before after : L)
    → f after ≡ f before → f (outcome j values before after).left ≡ f before
outcome_keeps f Fine values before after e = e
outcome_keeps f (Declined reason) values before after e = refl

pub answered_fine : {j : Judgement} (values : List ℕ) → j ≡ Fine → answered j values ≡ done values
answered_fine values e = rw e

pub answered_declined : {j : Judgement} {reason : Refusal} (values : List ℕ) → j ≡ Declined reason → answered j values ≡ declined reason
answered_declined values e = rw e

-- two calls, the second of which is made, and is not made
pub unless_fine : {L : Type 0} {j : Judgement} (before : L) (second : Outcome L) → j ≡ Fine → unless_declined j before second ≡ second
unless_fine before second e = rw e

pub unless_declined_lem : {L : Type 0} {j : Judgement} {reason : Refusal} (before : L) (second : Outcome L)
    → j ≡ Declined reason → unless_declined j before second ≡ record { answer = declined reason; left = before }
unless_declined_lem before second e = rw e

-- ---- a first call that answered a reason

module _ {K : Type 0} (j : Judgement) (values : List ℕ) (before after : K) (reason : Refusal)
    (told : declined reason ≡ (outcome j values before after).answer) where
  pub reason_told : j ≡ Fine → ⊥
  reason_told e = declined_not_done reason (told ∙ ap (λ (x : Outcome K). x.answer) (outcome_fine values before after e))

  -- the second call is not made, and that reason is the answer
  pub unless_told : {L : Type 0} (lent : L) (second : Outcome L) → Leaves (unless_declined j lent second) (declined reason) lent
  unless_told {L} lent second = go j refl where
    go : (i : Judgement) → j ≡ i → Leaves (unless_declined j lent second) (declined reason) lent
    go Fine e = absurd (reason_told e)
    go (Declined other) e =
        rw (unless_declined_lem lent second e)
        (record { answer = told ∙ ap (λ (x : Outcome K). x.answer) (outcome_declined values before after e); left = refl })
