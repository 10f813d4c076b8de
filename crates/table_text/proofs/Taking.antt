-- A text whose numbers are those of a table is taken as this table (table_taken): as many rows as its sixteenth number says, and each number at its place among
-- the words. By induction on the text's bytes. With numbers/proofs/Printed.antt: what is printed is taken. Assumes nothing.
use Prim.Native.Nat.{ℕ, suc, ◌+◌, ◌*◌, ◌-◌, ◌/◌, ◌≤◌, ◌<◌}
use mathlib.Core.Path.{◌≡◌, refl, ap, ◌∙◌}
use mathlib.Core.List.{List, [], ◌∷◌}
use native.Mathlib.Numerals.{add-one}
use native.Mathlib.Omega.{arith}
use borrow.Author.Tests.{le-leb}
use lib.ListN.{set}
use lib.Seq.{sets}
use Rattle.numbers.specs.declared.Place.{Place}
use Rattle.numbers.specs.declared.Step.{Step}
use Rattle.std.specs.Prelude.{Option, None, Some, Result, Ok, Err, option_to_list}
use Rattle.numbers.specs.Numbers.{start_place, step_of, Reading, numbers, fault, before, before_if, read_after, read_from, read_text}
use Rattle.numbers.specs.Sheets as sheets
use Rattle.table_text.specs.TableText.{rows_at, head_numbers, most_rows, Stage, Fed, sheet, start_stage, takes, feed_all, end_number, taken_of}
use Rattle.table_text.proofs.Feeding.{rows_fed, word_fed}

-- the numbers that follow, where `count` of `due` were read, make a table of so many rows
pub data Completes : (count due : ℕ) → List ℕ → (rows : ℕ) → Type 0 where
  over : {count due k : ℕ} → count ≡ due → head_numbers ≤ due → (due - head_numbers) / 10 ≡ k → Completes count due [] k
  word : {count due n k : ℕ} {ns : List ℕ} → count < due → (count ≡ rows_at → ⊥) → Completes (count + 1) due ns k → Completes count due (n ∷ ns) k
  rows : {count due n k : ℕ} {ns : List ℕ} → count ≡ rows_at → count < due → n ≤ most_rows → Completes head_numbers (head_numbers + 10 * n) ns k
      → Completes count due (n ∷ ns) k

-- a text that was read to its end
abbrev pub finished : Stage → (text words : List ℕ) → Fed
finished stage text words = end_number (feed_all stage text words).stage (feed_all stage text words).words

-- it is a table of so many rows, and these are the words
pub record TakenAs (k : ℕ) (due : List ℕ) (f : Fed) : Type 0 where
  pub taken : taken_of f.stage ≡ Ok k
  pub words : f.words ≡ due

abbrev at_work : Place → (count due : ℕ) → Stage
at_work p count due = Ok (sheets.reader p (sheet count due))

-- a number that ended at this place is taken
abbrev number_fed : Place → (n count due : ℕ) → (words : List ℕ) → Fed
number_fed p n count due words = sheets.take_ended takes p (Some n) (sheet count due) words

numbers_in : Reading → List ℕ
numbers_in (numbers ns) = ns
numbers_in (fault line) = []

no_fault : {line : ℕ} {ns : List ℕ} → fault line ≡ numbers ns → ⊥
no_fault e = let z : ◌≡◌ {A = ℕ} 0 1 = cc in omega arith

-- ---- the end of the text
module _ (p : Place) (k : ℕ) (words : List ℕ) where
  all_taken : (count due : ℕ) → count ≡ due → head_numbers ≤ due → (due - head_numbers) / 10 ≡ k → TakenAs k words (sheets.fed (at_work p count due) words)
  all_taken count due c h e = record { taken = rw (le-leb due count (omega arith), le-leb head_numbers due h, e); words = refl }

  none_left : (count due : ℕ) → Completes count due [] k → TakenAs k words (sheets.fed (at_work p count due) words)
  none_left count due (over c h e) = all_taken count due c h e

-- a number that the end of the text ends is the last
last_taken : (p : Place) (n count due k : ℕ) (words : List ℕ) → Completes count due (n ∷ []) k
    → TakenAs k (set words count n) (number_fed p n count due words)
last_taken p n count due k words (word m e c) =
    rw (word_fed p.line count due n words m e) (none_left p k (set words count n) (count + 1) due c)
last_taken p n count due k words (rows e m h c) =
    rw (rows_fed p.line count due n words m e h) (none_left p k (set words count n) head_numbers (head_numbers + 10 * n) c)

end_taken : (p : Place) (count due k : ℕ) (ns words : List ℕ) (number : Option ℕ) → numbers (option_to_list number) ≡ numbers ns
    → Completes count due ns k → TakenAs k (sets words count ns) (sheets.take_ended takes p number (sheet count due) words)
unfolding numbers_in
end_taken p count due k ns words (Some n) e c =
    let q : n ∷ [] ≡ ns = ap numbers_in e in
    rw (← q) (last_taken p n count due k words (rw (← q) at c))
end_taken p count due k ns words None e c =
    let q : [] ≡ ns = ap numbers_in e in
    rw (← q) (none_left p k words count due (rw (← q) at c))

-- ---- one byte more
abbrev Takes : (k : ℕ) (text : List ℕ) → Type 0
Takes k text = (p : Place) (count due : ℕ) (ns words : List ℕ) → read_from p text ≡ numbers ns → Completes count due ns k
    → TakenAs k (sets words count ns) (finished (at_work p count due) text words)

module _ (k : ℕ) (text : List ℕ) (t : Takes k text) (q : Place) (n count due : ℕ) (words : List ℕ) where
  number_taken : (ns : List ℕ) → read_from q text ≡ numbers ns → Completes count due (n ∷ ns) k
      → TakenAs k (sets words count (n ∷ ns)) (finished (number_fed q n count due words).stage text (number_fed q n count due words).words)
  number_taken ns e (word m d c) =
      let w = t q (count + 1) due ns (set words count n) e c in
      rw (word_fed q.line count due n words m d) (record { taken = w.taken; words = w.words ∙ rw (add-one count) })
  number_taken ns e (rows d m h c) =
      let w = t q head_numbers (head_numbers + 10 * n) ns (set words count n) e c in
      let s : suc count ≡ head_numbers = omega arith in
      rw (rows_fed q.line count due n words m d h) (record { taken = w.taken; words = w.words ∙ rw s })

  before_taken : (ns : List ℕ) (x : Reading) → read_from q text ≡ x → before n x ≡ numbers ns → Completes count due ns k
      → TakenAs k (sets words count ns) (finished (number_fed q n count due words).stage text (number_fed q n count due words).words)
  unfolding numbers_in
  before_taken ns (numbers ms) h e c =
      let z : n ∷ ms ≡ ns = ap numbers_in e in
      rw (← z) (number_taken ms h (rw (← z) at c))
  before_taken ns (fault line) h e c = absurd (no_fault e)

place_taken : (k : ℕ) (text : List ℕ) → Takes k text → (count due : ℕ) (ns words : List ℕ) (number : Option ℕ) (q : Place)
    → before_if number (read_from q text) ≡ numbers ns → Completes count due ns k
    → TakenAs k (sets words count ns)
    (finished (sheets.take_ended takes q number (sheet count due) words).stage text (sheets.take_ended takes q number (sheet count due) words).words)
place_taken k text t count due ns words None q e c = t q count due ns words e c
place_taken k text t count due ns words (Some n) q e c = before_taken k text t q n count due words ns (read_from q text) refl e c

step_taken : (k : ℕ) (text : List ℕ) → Takes k text → (count due : ℕ) (ns words : List ℕ) (s : Result Step ℕ)
    → read_after s (λ next. read_from next text) ≡ numbers ns → Completes count due ns k
    → TakenAs k (sets words count ns)
    (finished (sheets.after_step takes (sheet count due) s words).stage text (sheets.after_step takes (sheet count due) s words).words)
step_taken k text t count due ns words (Ok s) e c = place_taken k text t count due ns words s.number s.place e c
step_taken k text t count due ns words (Err line) e c = absurd (no_fault e)

-- ---- the whole text
text_taken : (k : ℕ) (text : List ℕ) → Takes k text
unfolding read_from sheets.feed_all
text_taken k [] p count due ns words e c = end_taken p count due k ns words p.number e c
text_taken k (byte ∷ text) p count due ns words e c = step_taken k text (text_taken k text) count due ns words (step_of p byte) e c

-- the text of a table of k rows is taken as this table, whatever the lent words held
pub table_taken : (k : ℕ) (text ns words : List ℕ) → read_text text ≡ numbers ns → Completes 0 head_numbers ns k
    → TakenAs k (sets words 0 ns) (finished start_stage text words)
unfolding read_text
table_taken k text ns words e c = text_taken k text start_place 0 head_numbers ns words e c
