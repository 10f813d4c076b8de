-- `list_shared::replay_shared` meets its contract: what the call alone does, and what `call_beside` adds (Beside). Assumes nothing.
use Rattle.std.proofs.Common.{ap}
use borrow.Author.Rules.{rules}
use Rattle.std.specs.Prelude.{Err}
use Rattle.list_replay.specs.declared.Stopped.{Stopped}
use Rattle.list_replay.specs.Replay.{replayed_answer}
use Rattle.list_shared.specs.Shared.{replay_shared}
use Rattle.list_shared.proofs.Beside.{called_beside, same_beside}
use Rattle.list_shared.proofs.replay_shared.Goals as goal

pub returns-clause-outcome : goal.returns-clause-outcome
unfolding replay_shared
returns-clause-outcome c =
    called_beside _ _ _ c.call_beside.new.list _ _ c.call_beside.result replayed_answer _ _ c.call_beside.ensures.refused c.call_beside.ensures.called
    (λ e p. ap (λ (s : Stopped). replayed_answer (Err s)) p) (λ r. search rules)

pub returns-clause-same_arrays : goal.returns-clause-same_arrays
returns-clause-same_arrays c =
    same_beside _ _ _ c.call_beside.new.list _ _ c.call_beside.result c.call_beside.ensures.refused c.call_beside.ensures.called (λ r. search rules)
