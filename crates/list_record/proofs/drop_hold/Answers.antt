-- `list_record::drop_hold` meets its contract: each way out is one of the cases of a hold's end (proofs/HoldingCases.antt). Assumes nothing.
use Prim.Native.Nat.{ℕ, ◌-◌}
use mathlib.Core.Path.{◌≡◌, refl, sym, ap, ◌∙◌}
use mathlib.Core.List.{[]}
use lib.ListN.{set}
use lib.Seq.{set-get_or}
use Rattle.words.specs.Answers.{done, declined}
use Rattle.words.specs.Outcomes.{Leaves, completed_answer}
use Rattle.words.specs.Refusals.{Fine, Declined}
use Rattle.words.specs.declared.Refusal.{Refusal}
use Rattle.words.proofs.Judgements.{handed_on}
use Rattle.words.proofs.Outcomes.{leaves_done, leaves_declined, leaves_said}
use Rattle.list.specs.Lists.{multiplicity_at}
use Rattle.list.specs.Holds.{HeldList, held_list, hold_at}
use Rattle.list_record.specs.Recording.{settled}
use Rattle.list_record.specs.Holding.{drop_reason, drop_all}
use Rattle.list_record.proofs.drop_hold.Goals as goal

refused : (h : HeldList) (i : ℕ) {k : Refusal} → drop_reason h i ≡ Declined k → Leaves (drop_all h i) (declined k) h
unfolding drop_all
refused h i e = leaves_declined [] h _ e

-- the multiplicities stay
kept : (h : HeldList) (i hold : ℕ)
    → held_list h.list.sizes h.list.keys h.list.multiplicities (set h.holds i hold) ≡ settled h i (multiplicity_at h.list i) hold
unfolding multiplicity_at
kept h i hold = rw (set-get_or h.list.multiplicities i 0)

dropped : (h : HeldList) (i : ℕ) {left : HeldList} → drop_reason h i ≡ Fine
    → left ≡ held_list h.list.sizes h.list.keys h.list.multiplicities (set h.holds i (hold_at h i - 1))
    → Leaves (drop_all h i) (done []) left
unfolding drop_all
dropped h i e q = leaves_done [] h _ e refl (q ∙ kept h i (hold_at h i - 1))

pub returns-in_err-judge_drop : goal.returns-in_err-judge_drop
returns-in_err-judge_drop c = leaves_said (ap completed_answer (handed_on _ c.from_residual.ensures.1)) (refused _ _ (sym (rw c.new.ensures at c.in_err-judge_drop.ensures.reason)))

pub returns : goal.returns
unfolding hold_at
returns c =
    dropped _ _ (sym (rw c.new.ensures at c.in_ok-judge_drop.ensures.reason)) refl
