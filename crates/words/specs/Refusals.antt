-- Reasons to decline (document 01, the table under that heading).
use Rattle.std.specs.Prelude.{ℕ, zero, suc, Bool, true, false, Result, Ok, Err}
use Rattle.words.specs.declared.Refusal.{Refusal}
use Rattle.words.specs.declared.Refusal.TheVariants.{Shape, Stranger, Wide, BareLog, CountFull, ListFull}
use Rattle.words.specs.declared.Refusal.TheVariants.{Short, Unreduced, Flat, Torn, Repeat, Tally, ZeroDivisor, CascadeFull, OpenHold, NoHold, JobAbove}

-- the column "No."; 13 is request 1's: "div_mod with d = 0"; 14 is request 3's: "a new value and no unused cascade place"; 15 and 16 are
-- request 6's: "an open hold at a used place", "confirm or drop at an unused position or one without a hold"; 17 is request 12's: "a job above the
-- setting"
abbrev pub refusal_number : Refusal → ℕ
refusal_number Shape = 1
refusal_number Stranger = 2
refusal_number Wide = 3
refusal_number BareLog = 4
refusal_number CountFull = 5
refusal_number ListFull = 6
refusal_number Short = 7
refusal_number Unreduced = 8
refusal_number Flat = 9
refusal_number Torn = 10
refusal_number Repeat = 11
refusal_number Tally = 12
refusal_number ZeroDivisor = 13
refusal_number CascadeFull = 14
refusal_number OpenHold = 15
refusal_number NoHold = 16
refusal_number JobAbove = 17

-- what a test of the input finds: nothing against it, or the reason to decline
abbrev pub Judgement : Type 0
Judgement = Result (Unit {0}) Refusal

pattern abbrev pub Fine : Judgement
Fine = Ok tt

pattern abbrev pub Declined : Refusal → Judgement
Declined reason = Err reason

-- declined for this reason where the test is true
abbrev pub decline_if : Bool → Refusal → Judgement
decline_if true reason = Declined reason
decline_if false reason = Fine

-- "Order": the first reason counts, the second only where the first finds nothing
abbrev pub or_else : Judgement → Judgement → Judgement
or_else Fine next = next
or_else (Declined reason) next = Declined reason

-- "entry by entry": the first reason among n places from i on
unfoldable pub first_reason : (ℕ → Judgement) → ℕ → ℕ → Judgement
first_reason judge i zero = Fine
first_reason judge i (suc n) = or_else (judge i) (first_reason judge (suc i) n)
