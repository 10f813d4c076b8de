-- What the loop of `judge_places` keeps.
use Prim.Native.Nat.{◌*◌, ◌-◌, ◌≤◌}
use mathlib.Core.Path.{◌≡◌}
use Rattle.words.specs.Refusals.{first_reason}
use Rattle.list.specs.Lists.{used, judge_place_by}
use Rattle.list.specs.Lent.{counts_in}
use Rattle.list.proofs.JudgedLists.{height_to}
use Rattle.list.proofs.UsedPlaces.judge_places.Given as goal

abbrev pub invariant-loop-place : goal.invariant-loop-place
invariant-loop-place l =
    let judge = judge_place_by l.fn.stored (counts_in l.self.list) in
    let n = used (counts_in l.self.list) in
    (l.height ≤ 65 * l.place) × (first_reason judge 0 n ≡ first_reason judge l.place (n - l.place)) × (l.height ≡ height_to (counts_in l.self.list) l.place)
