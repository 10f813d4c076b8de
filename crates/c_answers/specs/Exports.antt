-- What a C function returns and leaves, by the answer that is due: the number of the documents, and its values in the first words of the lent array
-- `answers`. `size` is how many words of `answers` the function states.
use Rattle.std.specs.Prelude.{ℕ, ◌≤◌, ◌≡◌, Bool, cond, List, eqb, ltb, length, Result, Ok, Err}
use Rattle.std.proofs.lemmas.List.Edits.{sets}
use Rattle.std.specs.declared.cmp.Ordering.{Ordering}
use Rattle.std.specs.declared.cmp.Ordering.TheVariants.{Less, Equal, Greater}
use Rattle.words.specs.Answers.{Answer, done, declined}
use Rattle.words.specs.Refusals.{refusal_number}
use Rattle.words.specs.declared.Refusal.{Refusal}
use Rattle.words.specs.declared.Refusal.TheVariants.{Shape}
use Rattle.list.specs.Holds.{HeldList, held_list}

-- what the result of a call answers: its values, or the reason
abbrev pub stated_answer : Result (List ℕ) Refusal → Answer
stated_answer (Ok values) = done values
stated_answer (Err reason) = declined reason

-- a call's answer, and the same with its words: `Converts` says how an answer converts to words
abbrev pub InWords : {A : Type 0} → (Converts : A → List ℕ → Type 0) → Result A Refusal → Result (List ℕ) Refusal → Type 0
InWords Converts (Ok given) (Ok words) = Converts given words
InWords Converts (Err reason) (Err due) = due ≡ reason
InWords Converts (Ok given) (Err due) = ⊥
InWords Converts (Err reason) (Ok words) = ⊥

-- "less, equal or greater": 0, 1 or 2
abbrev pub order_number : Ordering → ℕ
order_number Less = 0
order_number Equal = 1
order_number Greater = 2

-- a list whose sizes are handed over as two numbers
abbrev pub lent_list : ℕ → ℕ → (keys multiplicities holds : List ℕ) → HeldList
lent_list capacity used keys multiplicities holds = held_list (record { capacity = capacity; used = used }) keys multiplicities holds

-- `answers` has fewer words than stated: the function refuses with 1 before anything else is looked at
abbrev pub too_short : ℕ → List ℕ → Bool
too_short size answers = ltb (length answers) size

-- the number returned: 0 for done, else the reason's
abbrev pub number_due : ℕ → List ℕ → Answer → ℕ
number_due size answers due = cond (too_short size answers) (refusal_number Shape) due.number

-- the words of `answers` afterwards: where the work is done the values stand first; a refusal leaves them as they were
abbrev pub answers_due : ℕ → List ℕ → Answer → List ℕ
answers_due size answers due =
    cond (too_short size answers) answers (cond (eqb due.number 0) (sets answers 0 due.values) answers)

-- the words of `answers` after a call that reports on a refusal too ("returns its number and how many were done"): the values stand first,
-- whatever the number is
abbrev pub report_due : ℕ → List ℕ → Answer → List ℕ
report_due size answers due = cond (too_short size answers) answers (sets answers 0 due.values)

-- another lent array afterwards, or the sizes that are lent with it: as they were where `answers` is too short, else as the call leaves them
unfoldable pub lent_due : {A : Type 0} → ℕ → List ℕ → A → A → A
lent_due size answers before after = cond (too_short size answers) before after

-- the three arrays of a lent list afterwards
pub record ListLeft (size : ℕ) (answers : List ℕ) (before due : HeldList) (ks ms hs : List ℕ) : Type 0 where
  pub keys : ks ≡ lent_due size answers before.list.keys due.list.keys
  pub multiplicities : ms ≡ lent_due size answers before.list.multiplicities due.list.multiplicities
  pub holds : hs ≡ lent_due size answers before.holds due.holds

-- the number and the words of `answers` are those that are due, and all values have a word among those stated
pub record Exported (size : ℕ) (due : Answer) (before : List ℕ) (r : ℕ) (after : List ℕ) : Type 0 where
  pub number : r ≡ number_due size before due
  pub answers : after ≡ answers_due size before due
  pub fits : size ≤ length before → due.number ≡ 0 → length due.values ≤ size

-- the same for a call that reports on a refusal too
pub record Reported (size : ℕ) (due : Answer) (before : List ℕ) (r : ℕ) (after : List ℕ) : Type 0 where
  pub number : r ≡ number_due size before due
  pub answers : after ≡ report_due size before due
  pub fits : size ≤ length before → length due.values ≤ size
