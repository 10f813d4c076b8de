-- What the loop of `write_sums` keeps: `sum` is the sum of the summands passed, and the words of their sums stand in front of the aux words,
-- which are as many as at first.
use Rattle.std.proofs.Common.{◌≡◌, length}
use Rattle.std.proofs.lemmas.List.Edits.{sets}
use Rattle.xfield.specs.XFieldElements.{ext_of}
use Rattle.sums.specs.RunningSum.{running_sum, sum_words}
use Rattle.sums.proofs.write_sums.Given as goal

abbrev pub invariant-loop-place : goal.invariant-loop-place
invariant-loop-place g l =
    (length l.aux ≡ length l.initial.aux) × (ext_of l.sum ≡ running_sum (g.S.Summands.summand l.summands) l.place)
    × (l.aux ≡ sets l.initial.aux 0 (sum_words (g.S.Summands.summand l.summands) l.place))
