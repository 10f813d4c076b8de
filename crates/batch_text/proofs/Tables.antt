-- The lines of the table: how long they are, and which of them is due. A setting's line is that of its totals or of its refusal; the table is put line by
-- line. Assumes nothing.
use Prim.Native.Nat.{ℕ, ◌+◌, ◌*◌, ◌-◌, ◌/◌, ◌%◌, ◌≤◌}
use mathlib.Core.Path.{◌≡◌, refl, sym, ◌∙◌}
use mathlib.Core.Bool.{Bool, true, false, cond}
use mathlib.Core.List.{List, [], ◌∷◌}
use Rattle.std.specs.List.{flat_map}
use native.Mathlib.Omega.{arith}
use borrow.Author.Tests.{eq-eqb, ne_eqb}
use lib.Dec.{eqb}
use lib.ListN.{length, get_or, length-append, length-replicate}
use Rattle.words.specs.Answers.{Answer, done, declined}
use Rattle.words.specs.Refusals.{refusal_number}
use Rattle.words.specs.declared.Refusal.{Refusal}
use Rattle.words.specs.declared.Refusal.TheVariants.{Shape, Stranger, Wide, BareLog, CountFull, ListFull}
use Rattle.words.specs.declared.Refusal.TheVariants.{Short, Unreduced, Flat, Torn, Repeat, Tally, ZeroDivisor, CascadeFull, OpenHold, NoHold, JobAbove}
use Rattle.words.proofs.Answers.{number_positive}
use Rattle.batches.specs.Batches.{trial_all}
use Rattle.text.specs.Lines.{ascii, decimal, spaces, column}
use Rattle.text.specs.declared.Text.{Text}
use Rattle.text.specs.Put.{Adds}
use Rattle.text.proofs.Decimal.{length_decimal}
use Rattle.batch_text.specs.Sheet.{most_settings, Stage, end_number, IsFed}
use Rattle.batch_text.specs.Table.{share_of, share_text, totals_line, reason_text, refusal_line, setting_line, head_text, line_for, table_text, sheet_text}
use Rattle.batch_text.specs.Table.{too_many_text, taken_text, answer_text, max_line}

-- ---- how long the lines are

pub column_bound : (width n : ℕ) → length (column width n) ≤ width + 20
unfolding column spaces
column_bound width n =
    omega (arith, length-append (spaces (width - length (decimal n))) (decimal n), length-replicate {A = ℕ} (width - length (decimal n)) 32, length_decimal n)

share_bound : (thousandths : ℕ) → length (share_text thousandths) ≤ 50
unfolding share_text
share_bound t = simp length-append (omega (arith, column_bound 5 (t / 10), column_bound 1 (t % 10)))

totals_bound : (setting count rows padding : ℕ) → length (totals_line setting count rows padding) ≤ max_line
unfolding totals_line
totals_bound setting count rows padding =
    simp length-append
    (omega (arith, column_bound 11 setting, column_bound 11 count, column_bound 11 rows, column_bound 11 padding, share_bound (share_of rows padding)))

reason_bound : (number : ℕ) → length (reason_text number) ≤ 60
unfolding reason_text
reason_bound number = go (eqb number 1) where
  go : (t : Bool) → length (cond t (ascii ": a setting is a number of rows from 1 to 131072\n") (ascii ": a job has more rows than the setting\n")) ≤ 60
  go true = omega arith
  go false = omega arith

refusal_bound : (setting number : ℕ) → length (refusal_line setting number) ≤ max_line
unfolding refusal_line
refusal_bound setting number = simp length-append (omega (arith, column_bound 11 setting, column_bound 1 number, reason_bound number))

pub setting_bound : (setting : ℕ) (answer : Answer) → length (setting_line setting answer) ≤ max_line
unfolding setting_line
setting_bound setting answer = go (eqb answer.number 0) where
  go : (t : Bool)
      → length (cond t (totals_line setting (get_or answer.values 0 0) (get_or answer.values 1 0) (get_or answer.values 2 0)) (refusal_line setting answer.number)) ≤ max_line
  go true = totals_bound setting (get_or answer.values 0 0) (get_or answer.values 1 0) (get_or answer.values 2 0)
  go false = refusal_bound setting answer.number

pub head_bound : (jobs : ℕ) → length (head_text jobs) ≤ max_line
unfolding head_text
head_bound jobs = simp length-append (omega (arith, column_bound 1 jobs))

pub lines_bound : (jobs settings : List ℕ) → length (flat_map (line_for jobs) settings) ≤ max_line * length settings
lines_bound jobs [] = omega arith
lines_bound jobs (s ∷ settings) =
    omega (arith, lines_bound jobs settings, setting_bound s (trial_all jobs s), length-append (line_for jobs s) (flat_map (line_for jobs) settings))

-- ---- which line is due

pub reason_setting : (number : ℕ) → number ≡ 1 → ascii ": a setting is a number of rows from 1 to 131072\n" ≡ reason_text number
unfolding reason_text
reason_setting number e = rw (eq-eqb number 1 e)

pub reason_job : (number : ℕ) → (number ≡ 1 → ⊥) → ascii ": a job has more rows than the setting\n" ≡ reason_text number
unfolding reason_text
reason_job number n = rw (ne_eqb number 1 n)

-- no other reason has the setting's number
pub other_number : (reason : Refusal) → (reason ≡ Shape → ⊥) → refusal_number reason ≡ 1 → ⊥
other_number Shape n e = n refl
other_number Stranger n e = omega (arith, e)
other_number Wide n e = omega (arith, e)
other_number BareLog n e = omega (arith, e)
other_number CountFull n e = omega (arith, e)
other_number ListFull n e = omega (arith, e)
other_number Short n e = omega (arith, e)
other_number Unreduced n e = omega (arith, e)
other_number Flat n e = omega (arith, e)
other_number Torn n e = omega (arith, e)
other_number Repeat n e = omega (arith, e)
other_number Tally n e = omega (arith, e)
other_number ZeroDivisor n e = omega (arith, e)
other_number CascadeFull n e = omega (arith, e)
other_number OpenHold n e = omega (arith, e)
other_number NoHold n e = omega (arith, e)
other_number JobAbove n e = omega (arith, e)

module _ {s t : Text} (jobs : List ℕ) (setting : ℕ) where
  pub totals_due : {count rows pad : ℕ} → done (count ∷ rows ∷ pad ∷ []) ≡ trial_all jobs setting
      → Adds s (totals_line setting count rows pad) t → Adds s (setting_line setting (trial_all jobs setting)) t
  unfolding setting_line
  totals_due e p = rw (← e) p

  pub refusal_due : (reason : Refusal) {number : ℕ} → declined reason ≡ trial_all jobs setting → number ≡ refusal_number reason
      → Adds s (refusal_line setting number) t → Adds s (setting_line setting (trial_all jobs setting)) t
  unfolding setting_line
  refusal_due reason e n p =
      rw (← e, ne_eqb (refusal_number reason) 0 (λ z. omega (arith, number_positive reason))) (rw n at p)

-- ---- what a text leads to

module _ (settings jobs : List ℕ) {n : ℕ} (is : length settings ≡ n) where
  pub sheet_none : n ≡ 0 → ascii "no setting in the first line\n" ≡ sheet_text settings jobs
  unfolding sheet_text
  sheet_none e = rw (eq-eqb (length settings) 0 (is ∙ e))

  pub sheet_some : (n ≡ 0 → ⊥) → table_text settings jobs ≡ sheet_text settings jobs
  unfolding sheet_text
  sheet_some e = rw (ne_eqb (length settings) 0 (λ z. e (sym is ∙ z)))

pub too_many_settings : (most : ℕ) → most ≡ most_settings → ascii "too many settings: at most 16\n" ≡ too_many_text most
unfolding too_many_text
too_many_settings most e = rw (eq-eqb most most_settings e)

pub too_many_jobs : (most : ℕ) → (most ≡ most_settings → ⊥) → ascii "too many jobs: at most 65536\n" ≡ too_many_text most
unfolding too_many_text
too_many_jobs most e = rw (ne_eqb most most_settings e)

pub answer_put : {s t : Text} {after : List ℕ} (stage : Stage) (words : List ℕ) {end : Stage} → IsFed (end_number stage words) end after
    → Adds s (taken_text end after) t → Adds s (answer_text stage words) t
unfolding answer_text
answer_put stage words ended p = rw (← ended.stage, ← ended.words) p
