-- What the loop of `check` keeps.
use Rattle.std.proofs.Common.{drop}
use Rattle.check_table.proofs.Groups.{AreLeft}
use Rattle.check_table.proofs.check.Given as goal

abbrev pub invariant-groups : goal.invariant-groups
invariant-groups l = AreLeft l.judged.rows.table.now l.judged.aux.now l.judged.challenges.now (drop l.group-index l.group-items)
