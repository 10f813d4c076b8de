-- What the loop of `put_table` keeps.
use lib.ListN.{take}
use Rattle.std.specs.List.{flat_map}
use Rattle.text.specs.Put.{Adds}
use Rattle.batch_text.specs.Table.{line_for}
use Rattle.batch_text.proofs.put_table.Given as goal

abbrev pub invariant-loop-setting : goal.invariant-loop-setting
invariant-loop-setting l = Adds l.initial.text (flat_map (line_for l.jobs) (take l.setting-index l.settings)) l.text
