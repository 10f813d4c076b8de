-- No reason to decline has the number 0, so a refusal is never the answer of a call that did its work.
use Prim.Native.Nat.{ℕ, ◌<◌}
use mathlib.Core.Path.{◌≡◌, ap}
use mathlib.Core.Bool.{false}
use mathlib.Core.List.{List}
use native.Mathlib.Omega.{arith}
use lib.Dec.{lit<, eqb}
use borrow.Author.Tests.{ne_eqb}
use Rattle.words.specs.Answers.{Answer, done, declined}
use Rattle.words.specs.Refusals.{refusal_number}
use Rattle.words.specs.declared.Refusal.{Refusal}
use Rattle.words.specs.declared.Refusal.TheVariants.{Shape, Stranger, Wide, BareLog, CountFull, ListFull, Short, Unreduced, Flat, Torn, Repeat, Tally, ZeroDivisor, CascadeFull, OpenHold, NoHold, JobAbove}

pub number_positive : (reason : Refusal) → 0 < refusal_number reason
number_positive Shape = lit< tt
number_positive Stranger = lit< tt
number_positive Wide = lit< tt
number_positive BareLog = lit< tt
number_positive CountFull = lit< tt
number_positive ListFull = lit< tt
number_positive Short = lit< tt
number_positive Unreduced = lit< tt
number_positive Flat = lit< tt
number_positive Torn = lit< tt
number_positive Repeat = lit< tt
number_positive Tally = lit< tt
number_positive ZeroDivisor = lit< tt
number_positive CascadeFull = lit< tt
number_positive OpenHold = lit< tt
number_positive NoHold = lit< tt
number_positive JobAbove = lit< tt

pub not_done : (reason : Refusal) → eqb (refusal_number reason) 0 ≡ false
not_done reason = ne_eqb (refusal_number reason) 0 (λ e. omega (arith, number_positive reason))

pub declined_not_done : (reason : Refusal) {values : List ℕ} → declined reason ≡ done values → ⊥
declined_not_done reason e =
    let z : refusal_number reason ≡ 0 = ap (λ (a : Answer). a.number) e in
    omega (arith, number_positive reason)
