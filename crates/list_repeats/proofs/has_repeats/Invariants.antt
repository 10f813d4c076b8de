-- What the loops of `has_repeats` keep, and what falls with each turn of the inner one.
use Prim.Native.Nat.{ℕ, ◌≤◌}
use mathlib.Core.Path.{◌≡◌}
use mathlib.Core.List.{List}
use lib.ListN.{length, get_or}
use Rattle.std.specs.Prelude.{None}
use Rattle.words.specs.Limits.{max_places}
use Rattle.list.specs.declared.Sizes.{Sizes}
use Rattle.list.specs.Lists.{u32_list, entry_at}
use Rattle.list_repeats.proofs.Repeats.{Distinct}
use Rattle.list_repeats.proofs.Chains.{buckets, from_one, Back, Chained, bucket_of, Ahead}
use Rattle.list_repeats.proofs.has_repeats.Given as goal

abbrev pub invariant-loop-next : goal.invariant-loop-next
invariant-loop-next l =
    (from_one l.next ≤ l.i) × ((s : Sizes) (ms : List ℕ) → Ahead (entry_at (u32_list s l.keys ms)) l.key l.links l.initial.next l.next)

abbrev pub decreases-loop-next : goal.decreases-loop-next
decreases-loop-next l = from_one l.next

abbrev pub invariant-loop-i : goal.invariant-loop-i
invariant-loop-i l =
    (length l.heads ≡ buckets) × (length l.links ≡ max_places) × ((k : ℕ) → from_one (get_or l.heads k None) ≤ l.i) × Back l.links
    × ((s : Sizes) (ms : List ℕ) → Chained (λ j. bucket_of (entry_at (u32_list s l.keys ms) j)) l.heads l.links l.i)
    × ((s : Sizes) (ms : List ℕ) → Distinct (entry_at (u32_list s l.keys ms)) l.i)
