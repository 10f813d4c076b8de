-- `check_search::Rows::terminal` meets its contract: the values of the last row are searched. Assumes nothing.
use Rattle.std.proofs.Common.{ap, ◌∙◌}
use Rattle.air.specs.Constraints.{terminal_constraints}
use Rattle.check_search.proofs.Steps.{row_alone}
use Rattle.check_search.proofs.Rows.terminal.Goals as goal

pub returns : goal.returns
returns c =
    let e = c.terminal_constraints-values.ensures ∙ ap terminal_constraints c.at.ensures in
    λ next. row_alone _ 3 _ next (c.first_nonzero.ensures next) e
