-- `table_input::read_text` meets its contract. The invariant: the numbers that are due have places.
use Prim.Native.Nat.{◌≤◌}
use lib.ListN.{length}
use Rattle.numbers.specs.Sheets.{Within}
use Rattle.table_input.proofs.read_text.Given as goal

abbrev pub invariant-loop : goal.invariant-loop
invariant-loop g l = (g.S.Sheet.room ≤ length l.words) × Within g.S.Sheet.Fits l.stage
