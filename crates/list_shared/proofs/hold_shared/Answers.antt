-- `list_shared::hold_shared` meets its contract: what the call alone does, and what `call_beside` adds (Beside). Assumes nothing.
use Rattle.std.proofs.Common.{ap}
use borrow.Author.Rules.{rules}
use Rattle.words.specs.Answers.{declined}
use Rattle.list_record.specs.Recording.{recorded_answer}
use Rattle.list_shared.specs.Shared.{hold_shared}
use Rattle.list_shared.proofs.Beside.{called_beside, same_beside}
use Rattle.list_shared.proofs.hold_shared.Goals as goal

pub returns-clause-outcome : goal.returns-clause-outcome
unfolding hold_shared
returns-clause-outcome c =
    called_beside _ _ _ c.call_beside.new.list _ _ c.call_beside.result recorded_answer _ _ c.call_beside.ensures.refused c.call_beside.ensures.called
    (λ e p. ap declined p) (λ r. search rules)

pub returns-clause-same_arrays : goal.returns-clause-same_arrays
returns-clause-same_arrays c =
    same_beside _ _ _ c.call_beside.new.list _ _ c.call_beside.result c.call_beside.ensures.refused c.call_beside.ensures.called (λ r. search rules)
