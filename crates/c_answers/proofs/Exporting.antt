-- The three ways out of a C function: `answers` is too short; the work is done; the call refuses. Each gives the number, `answers` and the
-- other lent arrays that are due. A call that reports on a refusal too has two: `answers` is too short, or the call was made. Assumes nothing.
use Prim.Native.Nat.{ℕ, ◌<◌, ◌≤◌}
use mathlib.Core.Path.{◌≡◌, ap, ◌∙◌}
use mathlib.Core.Bool.{false}
use mathlib.Core.List.{List}
use native.Mathlib.Omega.{arith}
use borrow.Author.Tests.{lt-ltb, le-ltb, ne_eqb}
use lib.Dec.{eqb}
use lib.ListN.{length}
use lib.Seq.{sets}
use Rattle.words.specs.Answers.{Answer, done, declined}
use Rattle.words.specs.Refusals.{refusal_number}
use Rattle.words.specs.declared.Refusal.{Refusal}
use Rattle.words.proofs.Answers.{number_positive}
use Rattle.list.specs.declared.Sizes.{Sizes}
use Rattle.list.specs.Holds.{HeldList, held_list}
use Rattle.c_answers.specs.Exports.{lent_due, ListLeft, Exported, Reported}

-- `answers` is too short: number 1, and nothing lent is touched
pub short : (size : ℕ) (due : Answer) (answers : List ℕ) → length answers < size → Exported size due answers 1 answers
short size due answers h = record {
  number = rw (lt-ltb (length answers) size h);
  answers = rw (lt-ltb (length answers) size h);
  fits = λ l. absurd (omega arith);
}

pub lent_short : (size : ℕ) (answers before after : List ℕ) → length answers < size → before ≡ lent_due size answers before after
unfolding lent_due
lent_short size answers before after h = rw (lt-ltb (length answers) size h)

-- the work is done: number 0, and the values in the first words
pub work_done : {size : ℕ} {due : Answer} {answers values : List ℕ}
    → size ≤ length answers → done values ≡ due → length values ≤ size → Exported size due answers 0 (sets answers 0 values)
work_done {size} {due} {answers} {values} h e f =
    rw (← e)
    (record { number = rw (le-ltb (length answers) size h); answers = rw (le-ltb (length answers) size h); fits = λ l z. f })

-- the call refuses: its number, and `answers` is untouched
pub refused_by_number : {size r : ℕ} {due : Answer} {answers : List ℕ} (reason : Refusal)
    → size ≤ length answers → r ≡ refusal_number reason → refusal_number reason ≡ due.number → Exported size due answers r answers
refused_by_number {size} {r} {due} {answers} reason h n e =
    let positive : eqb due.number 0 ≡ false = ne_eqb due.number 0 (λ z. omega (arith, number_positive reason)) in
    record {
      number = rw (le-ltb (length answers) size h) (n ∙ e);
      answers = rw (le-ltb (length answers) size h, positive);
      fits = λ l z. omega (arith, number_positive reason);
    }

pub refused : {size r : ℕ} {due : Answer} {answers : List ℕ} (reason : Refusal)
    → size ≤ length answers → r ≡ refusal_number reason → declined reason ≡ due → Exported size due answers r answers
refused reason h n e = refused_by_number reason h n (ap (λ (a : Answer). a.number) e)

-- a call that reports on a refusal too
pub short_reported : (size : ℕ) (due : Answer) (answers : List ℕ) → length answers < size → Reported size due answers 1 answers
short_reported size due answers h = record {
  number = rw (lt-ltb (length answers) size h);
  answers = rw (lt-ltb (length answers) size h);
  fits = λ l. absurd (omega arith);
}

pub reported : {size r : ℕ} {due : Answer} {answers values : List ℕ}
    → size ≤ length answers → r ≡ due.number → values ≡ due.values → length values ≤ size → Reported size due answers r (sets answers 0 values)
reported {size} {r} {due} {answers} {values} h n e f =
    record {
      number = rw (le-ltb (length answers) size h) n;
      answers = rw (le-ltb (length answers) size h, ← e);
      fits = λ l. rw (← e) f;
    }

-- the call was made: another lent array is as the call leaves it
pub lent_called : (size : ℕ) (answers before due after : List ℕ)
    → size ≤ length answers → after ≡ due → after ≡ lent_due size answers before due
unfolding lent_due
lent_called size answers before due after h e = rw (le-ltb (length answers) size h) e

-- and so the three arrays of a lent list
pub list_short : (size : ℕ) (answers : List ℕ) (before due : HeldList)
    → length answers < size → ListLeft size answers before due before.list.keys before.list.multiplicities before.holds
list_short size answers before due h = record {
  keys = lent_short size answers _ _ h;
  multiplicities = lent_short size answers _ _ h;
  holds = lent_short size answers _ _ h;
}

pub list_called : (size : ℕ) (answers : List ℕ) (before due : HeldList) (s : Sizes) (ks ms hs : List ℕ)
    → size ≤ length answers → held_list s ks ms hs ≡ due → ListLeft size answers before due ks ms hs
list_called size answers before due s ks ms hs h e = record {
  keys = lent_called size answers _ _ _ h (ap (λ (l : HeldList). l.list.keys) e);
  multiplicities = lent_called size answers _ _ _ h (ap (λ (l : HeldList). l.list.multiplicities) e);
  holds = lent_called size answers _ _ _ h (ap (λ (l : HeldList). l.holds) e);
}
