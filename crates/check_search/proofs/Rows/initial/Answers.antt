-- `check_search::Rows::initial` meets its contract: the one value of row 0 decides. Assumes nothing.
use Rattle.std.proofs.Common.{List, ap, ◌∙◌}
use Rattle.xfield.specs.Extension.{Ext}
use Rattle.table.specs.Columns.{Row}
use Rattle.table.specs.Layouts.{sum_of, challenges_in}
use Rattle.air.specs.Constraints.{initial_constraints}
use Rattle.air.specs.Check.{first_in}
use Rattle.check_search.proofs.Rows.initial.Goals as goal

pub returns : goal.returns
returns c =
    let e = c.initial_constraints-values.ensures
    ∙ ap (λ (r : Row). initial_constraints (challenges_in c.args.weights) r (sum_of c.args.sum)) c.at.ensures
    in
    λ next. c.first_nonzero.ensures next ∙ ap (λ (vs : List Ext). first_in 0 0 0 vs next) e
