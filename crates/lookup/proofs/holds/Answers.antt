-- `lookup::holds` meets its contract: the keys' tests joined from the left are the definition's. Assumes nothing.
use Rattle.std.proofs.Common.{◌≡◌, ℕ, Bool, true, false, ◌||◌, List, [], ◌∷◌, refl, ◌∙◌, rules, eqb}
use Rattle.std.specs.List.{fold}
use Rattle.std.proofs.lemmas.Iterator.{YieldsList-from_slice}
use Rattle.std.proofs.lemmas.Iterator.Consumers.{fold_from_yields_List}
use Rattle.lookup.specs.Recordings.{occurs}
use Rattle.lookup.proofs.holds.Goals as goal

from_the_left : (v : ℕ) (ws : List ℕ) (b : Bool) → fold (λ found w. found || eqb w v) b ws ≡ (b || occurs v ws)
unfolding occurs
from_the_left v [] true = refl
from_the_left v [] false = refl
from_the_left v (w ∷ ws) true = from_the_left v ws true
from_the_left v (w ∷ ws) false = from_the_left v ws (eqb w v)

pub returns : goal.returns
returns c =
    fold_from_yields_List _ (λ found w. found || eqb w c.args.value) _ _ c.fold.ensures.ran (YieldsList-from_slice c.args.keys.now cc) (λ a x b q k. search rules)
    ∙ from_the_left c.args.value c.args.keys.now false
