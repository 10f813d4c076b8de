-- What falls with each call of `PendingRow::fill_section`: the number of rows that are left, which is the bit length of the dominant operand and
-- one more.
use Rattle.fill_sections.specs.PendingRows.{rows_left}
use Rattle.fill_sections.proofs.PendingRow.+fill_section.Given as goal

abbrev pub decreases-fill_section : goal.decreases-fill_section
decreases-fill_section l = rows_left l.self
