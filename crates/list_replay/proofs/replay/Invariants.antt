-- What the loop of `replay` keeps: the arrays that were lent; and the walk that goes on from the step that is reached is the walk from step 0.
use Prim.Native.Nat.{◌-◌}
use mathlib.Core.Path.{◌≡◌}
use Rattle.list.specs.Lent.{held_in_mut, SameArrays}
use Rattle.list_replay.specs.Replay.{replay_from}
use Rattle.list_replay.proofs.replay.Given as goal

abbrev pub invariant-loop-done : goal.invariant-loop-done
invariant-loop-done l =
    SameArrays l.initial.list l.list
    × (replay_from (held_in_mut l.initial.list) l.trace 0 l.steps ≡ replay_from (held_in_mut l.list) l.trace l.done-counter (l.steps - l.done-counter))
