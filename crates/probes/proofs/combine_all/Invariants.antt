-- What the loop of `combine_all` keeps: the words of the elements passed stand in front, and no place is lost.
use Rattle.std.proofs.Common.{◌≡◌, ℕ, length}
use lib.Seq.{sets}
use Rattle.table.specs.Columns.{element_at}
use Rattle.probes.specs.ExtensionProbes.{words_of_first}
use Rattle.probes.proofs.combine_all.Given as goal

abbrev pub invariant-loop-i : goal.invariant-loop-i
invariant-loop-i g l =
    (length l.out ≡ length l.initial.out)
    × (l.out ≡ sets l.initial.out 0 (words_of_first (λ (k : ℕ). g.operation (element_at l.left k) (element_at l.right k)) l.i))
