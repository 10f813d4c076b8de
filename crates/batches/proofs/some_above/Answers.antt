-- `batches::some_above` meets its contract: `any` tells whether a job's test holds. Assumes nothing.
use Rattle.std.proofs.Common.{◌≡◌, ℕ, Bool, List, [], ◌∷◌, refl, ap, ◌∙◌, rules, tests, ltb, ◌||◌}
use Rattle.std.specs.List.{list_any}
use Rattle.std.proofs.lemmas.Iterator.{YieldsList-from_slice}
use Rattle.std.proofs.lemmas.Iterator.Search.{any_from_yields_List}
use Rattle.batches.specs.Batches.{some_above}
use Rattle.batches.proofs.some_above.Goals as goal

any_above : (setting : ℕ) (jobs : List ℕ) → list_any (ltb setting) jobs ≡ some_above setting jobs
unfolding some_above
any_above setting [] = refl
any_above setting (height ∷ jobs) = ap (λ (b : Bool). ltb setting height || b) (any_above setting jobs)

pub returns : goal.returns
returns c =
    any_from_yields_List (ltb c.args.setting) _ _ _ c.any.ensures.ran (YieldsList-from_slice c.args.jobs.now cc) (λ x b q k. search (rules, tests))
    ∙ any_above _ _
