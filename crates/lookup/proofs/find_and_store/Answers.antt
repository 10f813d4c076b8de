-- `lookup::find_and_store` meets its contract: what is found has room (place_fits), and storing there is the recording (looked_up_at). Assumes nothing.
use Prim.Native.Nat.{ℕ}
use mathlib.Core.Path.{◌≡◌, refl, ap}
use Rattle.words.specs.Answers.{Answer}
use Rattle.words.specs.Outcomes.{Leaves, completed_answer}
use Rattle.words.proofs.Judgements.{handed_on}
use Rattle.lookup.specs.Cascades.{Lookups, look_up_all}
use Rattle.lookup.specs.Placing.{Placed, place_of, stored_at, Fits}
use Rattle.lookup.proofs.LookupCases.{looked_up_at, place_fits}
use Rattle.lookup.proofs.find_and_store.Goals as goal

has_room : (t : Lookups) (v : ℕ) {p : Placed} → p ≡ place_of t v → Fits t v p
has_room t v q = rw q (place_fits t v)

is_looked_up : (t : Lookups) (v : ℕ) {p : Placed} {a : Answer} {after : Lookups}
    → p ≡ place_of t v → Leaves (stored_at t v p) a after → Leaves (look_up_all t v) a after
is_looked_up t v q h = rw (looked_up_at t v, ← q) h

pub returns-in_err-place-clause-outcome : goal.returns-in_err-place-clause-outcome
returns-in_err-place-clause-outcome c =
    is_looked_up _ _ c.in_err-place.ensures (record { answer = ap completed_answer (handed_on _ c.from_residual.ensures.1); left = refl })

pub store_limb-requires : goal.store_limb-requires
store_limb-requires c = has_room _ _ c.in_ok-place.ensures

pub returns-clause-outcome : goal.returns-clause-outcome
returns-clause-outcome c = is_looked_up _ _ c.in_ok-place.ensures c.store_limb.ensures.outcome
