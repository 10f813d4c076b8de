-- `table::are_ten_reduced` meets its contract: the words' tests joined from the left are the definition's. Assumes nothing.
use Rattle.std.proofs.Common.{◌≡◌, ℕ, Bool, true, false, ◌&&◌, List, [], ◌∷◌, refl, ◌∙◌, rules, ltb}
use Rattle.std.specs.List.{fold}
use Rattle.std.proofs.lemmas.Iterator.{YieldsList-from_slice}
use Rattle.std.proofs.lemmas.Iterator.Consumers.{fold_from_yields_List}
use Rattle.field.specs.Elements.{p}
use Rattle.table.specs.Columns.{all_reduced}
use Rattle.table.proofs.are_ten_reduced.Goals as goal

from_the_left : (ws : List ℕ) (b : Bool) → fold (λ all w. all && ltb w p) b ws ≡ (b && all_reduced ws)
unfolding all_reduced
from_the_left [] true = refl
from_the_left [] false = refl
from_the_left (w ∷ ws) true = from_the_left ws (ltb w p)
from_the_left (w ∷ ws) false = from_the_left ws false

pub returns : goal.returns
returns c =
    fold_from_yields_List _ (λ all w. all && ltb w p) _ _ c.fold.ensures.ran (YieldsList-from_slice c.args.ten.now cc) (λ a x b q k. search rules)
    ∙ from_the_left c.args.ten.now true
