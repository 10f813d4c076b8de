-- `list_record::judge_drop` reads within the holds: a list of the right shape has one a place. Where nothing speaks against the end of a hold, its place is
-- within both arrays (drop_room). Assumes nothing.
use mathlib.Core.Path.{sym}
use Rattle.std.proofs.Common.{rules, tests}
use Rattle.list.specs.Holds.{hold_at}
use Rattle.list.specs.Lent.{held_in}
use Rattle.list.proofs.HeldLists.{held_shaped}
use Rattle.list_record.specs.Holding.{drop_reason}
use Rattle.list_record.proofs.HoldingCases.{drop_room}
use Rattle.list_record.proofs.judge_drop.Goals as goal

pub offset_bounds-held-position : goal.offset_bounds-held-position
offset_bounds-held-position c = let fits = held_shaped _ (sym c.in_ok-held_shape.ensures) in search rules

pub bounds-held-position : goal.bounds-held-position
bounds-held-position c = let fits = held_shaped _ (sym c.in_ok-held_shape.ensures) in search rules

pub returns-else-held-position-eq0-clause-room : goal.returns-else-held-position-eq0-clause-room
unfolding drop_reason hold_at
returns-else-held-position-eq0-clause-room c = drop_room (held_in c.args.held.now) c.args.position (search (rules, tests))
