-- The sizes of a cascade after a recording, of which the C function hands over one number: what it leaves out is known to the caller. Assumes
-- nothing.
use Prim.Native.Nat.{ℕ}
use mathlib.Core.Path.{◌≡◌, refl}
use mathlib.Core.Bool.{Bool, true, false, cond}
use Rattle.words.proofs.Outcomes.{outcome_keeps}
use Rattle.lookup.specs.Cascades.{Lookups, capacity, find_value, known, lookup_reason, raised, appended, look_up_all}

-- the capacity stays
pub look_up_capacity : (t : Lookups) (v : ℕ) → capacity (look_up_all t v).left.values ≡ capacity t.values
unfolding look_up_all
look_up_capacity t v = outcome_keeps (λ (u : Lookups). capacity u.values) (lookup_reason t v) _ t _ (go (known t.values v)) where
  go : (b : Bool) → capacity (cond b (raised t (find_value t.values v)) (appended t v)).values ≡ capacity t.values
  go true = refl
  go false = refl
