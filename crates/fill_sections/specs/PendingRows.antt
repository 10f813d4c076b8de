-- A pending row as the recursion of section filling has it: its operands carry their inverses down the section. No contract of a call cites
-- this page.
use Rattle.std.specs.Prelude.{ℕ}
use Rattle.isa.specs.Entries.{entry, height}
use Rattle.fill_sections.specs.declared.PendingRow.{PendingRow}
use Rattle.fill_sections.specs.Sections.{Pending, Section, section_from}

abbrev pub pending_of : PendingRow → Pending
pending_of row = record {
  copy_flag = row.copy_flag;
  bits = row.bits;
  ci = row.ci;
  lhs = row.lhs.value;
  rhs = row.rhs.value;
  multiplicity = row.multiplicity;
}

-- the rows from this one to the section's end, this one included
abbrev pub rows_left : PendingRow → ℕ
rows_left row = height (entry row.ci row.lhs.value row.rhs.value)

abbrev pub section_of : PendingRow → Section
section_of row = section_from (rows_left row) (pending_of row)
