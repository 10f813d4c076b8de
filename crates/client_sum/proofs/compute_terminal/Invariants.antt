-- What the loop of `compute_terminal` keeps.
use Rattle.std.proofs.Common.{◌≡◌, ◌-◌}
use Rattle.words.specs.Refusals.{first_reason}
use Rattle.xfield.specs.XFieldElements.{ext_of}
use Rattle.sums.specs.RunningSum.{running_sum}
use Rattle.client_sum.specs.Client.{request_count, request_summand, request_reason, client_reason}
use Rattle.client_sum.proofs.compute_terminal.Given as goal

abbrev pub invariant-loop-i : goal.invariant-loop-i
invariant-loop-i l =
    (client_reason l.requests l.challenges
    ≡ first_reason (request_reason l.requests l.challenges) l.i (request_count l.requests - l.i))
    × (ext_of l.sum ≡ running_sum (request_summand l.requests l.challenges) l.i)
