-- The answers of the calls on lists, as the C functions hand them over, and the arrays that they leave.
use Rattle.std.specs.Prelude.{ℕ, ◌≡◌, List, [], ◌∷◌, ◌++◌}
use Rattle.words.specs.Answers.{Answer, done}
use Rattle.words.specs.Outcomes.{Outcome}
use Rattle.isa.specs.declared.U32TableEntry.{U32TableEntry}
use Rattle.isa.specs.Entries.{compare_entries}
use Rattle.list.specs.Lists.{used}
use Rattle.list.specs.Holds.{HeldList}
use Rattle.list_record.specs.Plan.{plan_all}
use Rattle.list_record.specs.Holding.{confirm_all, drop_all}
use Rattle.list_stored.specs.Stored.{write_all}
use Rattle.list_shared.specs.Shared.{Counts, Shared, record_shared, hold_shared, replay_shared, read_shared}
use Rattle.list_shared.specs.Lent.{shared}
use Rattle.c_answers.specs.Exports.{order_number, lent_due, ListLeft, Exported, Reported}

-- "the answer is the key's position", or "how many were done"; then the places used afterwards, which "change with a recording"
abbrev pub with_used : Outcome Shared → Answer
with_used due =
    record { number = due.answer.number; values = due.answer.values ++ (used due.left.own.list ∷ []) }

-- the arrays of a call that is lent a recorder's own list and the other's arrays, afterwards: the own three, and the other's two
pub record SharedLeft (size : ℕ) (answers : List ℕ) (before due : Shared) (ks ms hs : List ℕ) (other : Counts) : Type 0 where
  pub own : ListLeft size answers before.own due.own ks ms hs
  pub other_multiplicities : other.multiplicities ≡ lent_due size answers before.other.multiplicities due.other.multiplicities
  pub other_holds : other.holds ≡ lent_due size answers before.other.holds due.other.holds

abbrev pub compare_all : U32TableEntry → U32TableEntry → Answer
compare_all x y = done (order_number (compare_entries x y) ∷ [])

-- ---- what the functions hand over, each by the number of words of `answers` that it states, and what they leave
-- record: the position, and the places used
abbrev pub RecordAnswers : HeldList → (other : Counts) → U32TableEntry → (answers : List ℕ) → (r : ℕ) → (after : List ℕ) → Type 0
RecordAnswers h other e answers r after = Exported 2 (with_used (record_shared h other e)) answers r after

abbrev pub RecordLeaves : HeldList → (other : Counts) → U32TableEntry → (answers keys multiplicities holds : List ℕ) → (other_after : Counts) → Type 0
RecordLeaves h other e answers keys multiplicities holds other_after =
    SharedLeft 2 answers (shared h other) (record_shared h other e).left keys multiplicities holds other_after

-- hold: the same
abbrev pub HoldAnswers : HeldList → (other : Counts) → U32TableEntry → (answers : List ℕ) → (r : ℕ) → (after : List ℕ) → Type 0
HoldAnswers h other e answers r after = Exported 2 (with_used (hold_shared h other e)) answers r after

abbrev pub HoldLeaves : HeldList → (other : Counts) → U32TableEntry → (answers keys multiplicities holds : List ℕ) → (other_after : Counts) → Type 0
HoldLeaves h other e answers keys multiplicities holds other_after =
    SharedLeft 2 answers (shared h other) (hold_shared h other e).left keys multiplicities holds other_after

-- confirm and drop: the number alone
abbrev pub ConfirmLeaves : HeldList → (position r : ℕ) → (multiplicities holds : List ℕ) → Type 0
ConfirmLeaves h position r multiplicities holds =
    (r ≡ (confirm_all h position).answer.number)
    × ((multiplicities ≡ (confirm_all h position).left.list.multiplicities) × (holds ≡ (confirm_all h position).left.holds))

abbrev pub DropLeaves : HeldList → (position r : ℕ) → (holds : List ℕ) → Type 0
DropLeaves h position r holds = (r ≡ (drop_all h position).answer.number) × (holds ≡ (drop_all h position).left.holds)

-- replay: the steps done, and the places used, on a refusal too
abbrev pub ReplayAnswers : HeldList → (other : Counts) → (trace answers : List ℕ) → (r : ℕ) → (after : List ℕ) → Type 0
ReplayAnswers h other trace answers r after = Reported 2 (with_used (replay_shared h other trace)) answers r after

abbrev pub ReplayLeaves : HeldList → (other : Counts) → (trace answers keys multiplicities holds : List ℕ) → (other_after : Counts) → Type 0
ReplayLeaves h other trace answers keys multiplicities holds other_after =
    SharedLeft 2 answers (shared h other) (replay_shared h other trace).left keys multiplicities holds other_after

-- plan: the height and the padded height
abbrev pub PlanAnswers : HeldList → (answers : List ℕ) → (r : ℕ) → (after : List ℕ) → Type 0
PlanAnswers h answers r after = Exported 2 (plan_all h) answers r after

-- read: the number of entries
abbrev pub ReadAnswers : HeldList → (other : Counts) → (bytes answers : List ℕ) → (r : ℕ) → (after : List ℕ) → Type 0
ReadAnswers h other bytes answers r after = Exported 1 (read_shared h other bytes).answer answers r after

abbrev pub ReadLeaves : HeldList → (other : Counts) → (bytes answers keys multiplicities holds : List ℕ) → (other_after : Counts) → Type 0
ReadLeaves h other bytes answers keys multiplicities holds other_after =
    SharedLeft 1 answers (shared h other) (read_shared h other bytes).left keys multiplicities holds other_after

-- write: the number of bytes
abbrev pub WriteAnswers : HeldList → (out answers : List ℕ) → (r : ℕ) → (after : List ℕ) → Type 0
WriteAnswers h out answers r after = Exported 1 (write_all h out).answer answers r after

abbrev pub WriteLeaves : HeldList → (out answers out_after : List ℕ) → Type 0
WriteLeaves h out answers out_after = out_after ≡ lent_due 1 answers out (write_all h out).left
