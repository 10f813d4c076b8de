-- What `extend` answers, in document 01's terms. What is due is `extend_all` of the crate fill.
use Rattle.std.specs.Prelude.{ℕ, ◌≡◌, Result, Ok, Err, List}
use Rattle.words.specs.Answers.{Answer, done, declined}
use Rattle.words.specs.Refusals.{Fine, Declined}
use Rattle.words.specs.declared.Refusal.{Refusal}
use Rattle.xfield.specs.declared.XFieldElement.{XFieldElement}
use Rattle.xfield.specs.XFieldElements.{ext_of}
use Rattle.table.specs.Columns.{row_at}
use Rattle.table.specs.Challenges.{challenges_of}
use Rattle.table.specs.Layouts.{challenges_in}
use Rattle.sums.specs.RunningSum.{Summand, element_words}
use Rattle.sums.specs.LookupSum.{summand_of}
use Rattle.fill.specs.Extending.{extend_reason}
use Rattle.extend.specs.declared.Rows.{Rows}

-- the summands of rows as the code has them
abbrev pub summands_in : Rows → ℕ → Summand
summands_in rows i = summand_of (challenges_in rows.challenges) (row_at rows.table.now i)

-- the rows of these words, against which there is no reason, or the reason
abbrev pub Judged : (table aux challenges : List ℕ) → Result Rows Refusal → Type 0
Judged table aux challenges (Ok rows) =
    (rows.table.now ≡ table) × (challenges_in rows.challenges ≡ challenges_of challenges) × (extend_reason table aux challenges ≡ Fine)
Judged table aux challenges (Err reason) = extend_reason table aux challenges ≡ Declined reason

-- the sum, or why the call is declined
abbrev pub Extended : Type 0
Extended = Result XFieldElement Refusal

-- "The answer is the last sum": the sum's three words, or the reason's number
abbrev pub extended_answer : Extended → Answer
extended_answer (Ok x) = done (element_words (ext_of x))
extended_answer (Err reason) = declined reason
