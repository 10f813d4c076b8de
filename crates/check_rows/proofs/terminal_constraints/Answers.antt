-- `check_rows::terminal_constraints` meets its contract: each value is made as its definition says. Assumes nothing.
use Rattle.std.proofs.Common.{◌∙◌, rules, tests}
use Rattle.air.specs.Constraints.{terminal_constraints}
use Rattle.air.specs.Constraints.{lhs_is_0_or_ci_is_pow}
use Rattle.air.specs.Constraints.{rhs_is_0}
use Rattle.table.specs.Layouts.{row_of}
use Rattle.check_rows.proofs.BaseValues.{base_values}
use Rattle.check_rows.proofs.terminal_constraints.Goals as goal

pub returns : goal.returns
unfolding row_of terminal_constraints lhs_is_0_or_ci_is_pow rhs_is_0
returns c = base_values _ _ c.map.ensures.items (λ p x y q k. search (rules, tests)) ∙ search rules
