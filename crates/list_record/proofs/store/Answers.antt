-- `list_record::store` meets its contract: what is found is one of two places or a reason, and what is required of a place makes room. Assumes
-- nothing.
use Prim.Native.Nat.{ℕ, ◌+◌, ◌≤◌, ◌<◌}
use mathlib.Core.Path.{◌≡◌, refl, ap, ◌∙◌}
use borrow.Author.Rules.{rules}
use lib.ListN.{length}
use Rattle.std.specs.Prelude.{Ok}
use Rattle.words.specs.Answers.{Answer}
use Rattle.words.specs.Limits.{multiplicity_limit}
use Rattle.words.specs.Outcomes.{Leaves}
use Rattle.words.proofs.Judgements.{handed_on}
use Rattle.list.specs.Lists.{multiplicity_at}
use Rattle.list.specs.Holds.{HeldList, hold_at}
use Rattle.list.specs.Lent.{held_in_mut}
use Rattle.list.proofs.JudgedLists.{count_within}
use Rattle.list_record.specs.declared.Place.TheVariants.{Known}
use Rattle.list_record.specs.Recording.{recorded_answer}
use Rattle.list_record.specs.Placing.{Placed, stored_at, Fits}
use Rattle.list_record.proofs.store.Goals as goal

-- what is required, where the place is known
fits_known : (h : HeldList) {p : Placed} {i : ℕ} → p ≡ Ok (Known i) → Fits h p
    → (i < length h.list.multiplicities) × (i < length h.holds) × (multiplicity_at h.list i + hold_at h i + 1 ≤ multiplicity_limit)
fits_known h e f = let g = rw e at f in (g.0, g.1, count_within _ g.2)

stored_as_lem : (count hold : ℕ) (h : HeldList) {p q : Placed} {a : Answer} {after : HeldList}
    → p ≡ q → Leaves (stored_at count hold h q) a after → Leaves (stored_at count hold h p) a after
stored_as_lem count hold h e k = rw e k

pub returns-in_err-at-clause-outcome : goal.returns-in_err-at-clause-outcome
returns-in_err-at-clause-outcome c =
    stored_as_lem _ _ _ c.in_err-at.was (record { answer = ap recorded_answer (handed_on _ c.from_residual.ensures.1); left = refl })

pub overflow_add-list : goal.overflow_add-list
unfolding multiplicity_at hold_at
overflow_add-list c = let f = fits_known (held_in_mut c.args.list.now) (c.in_ok-at.was ∙ ap Ok c.in-Known.is) c.requires.2 in search rules

pub overflow_add-list-in-Known : goal.overflow_add-list-in-Known
unfolding multiplicity_at hold_at
overflow_add-list-in-Known c =
    let f = fits_known (held_in_mut c.args.list.now) (c.in_ok-at.was ∙ ap Ok c.in-Known.is) c.requires.2 in search rules

pub returns-in-Known-clause-outcome : goal.returns-in-Known-clause-outcome
unfolding multiplicity_at hold_at
returns-in-Known-clause-outcome c = stored_as_lem _ _ _ (c.in_ok-at.was ∙ ap Ok c.in-Known.is) (record { answer = refl; left = refl })
