-- `check_plain::is_plain_row` meets its contract: the tests are the parts of a plain row, in which every constraint is zero
-- (proofs/PlainRows.antt). Assumes nothing.
use Rattle.std.proofs.Common.{rules}
use Rattle.table.specs.Layouts.{row_of}
use Rattle.check_plain.proofs.PlainRows.{plain_row}
use Rattle.check_plain.proofs.is_plain_row.Goals as goal

pub returns-then-is_inverted-2 : goal.returns-then-is_inverted-2
unfolding row_of
returns-then-is_inverted-2 c =
    λ e. plain_row _ (search rules) (search rules) (search rules) (search rules) (c.is_ended.ensures e)
