-- `batches::EachBatch::write` meets its contract: a turn writes the first of the batches that are left at the next place. Assumes nothing.
use mathlib.Core.Path.{◌≡◌, ap, ◌∙◌}
use mathlib.Core.Logic.{inl}
use mathlib.Core.List.{List}
use Prim.Native.Nat.{ℕ, ◌*◌}
use native.Mathlib.Omega.{arith}
use lib.ListN.{length}
use lib.Seq.{sets}
use Rattle.std.specs.declared.iter.Enumerate.{Enumerate}
use Rattle.batches.specs.declared.EachBatch.{EachBatch}
use Rattle.batches.specs.Left.{batches_left}
use Rattle.batches.proofs.Walking.{all_small, write_starts, write_step, write_room, write_ends}
use Rattle.batches.proofs.EachBatch.write.Goals as goal

-- the walk begins with all batches, and place 0
begins : {items : Enumerate EachBatch} {it : Enumerate EachBatch} {s : EachBatch} → it ≡ items → items.iter ≡ s → it.iter ≡ s
begins e f = ap (λ (i : Enumerate EachBatch). i.iter) e ∙ f

from_place_0 : {items : Enumerate EachBatch} {it : Enumerate EachBatch} → it ≡ items → items.count ≡ 0 → it.count ≡ 0
from_place_0 e f = ap (λ (i : Enumerate EachBatch). i.count) e ∙ f

pub loop-place-init : goal.loop-place-init
loop-place-init c =
    let small = all_small _ _ c.args.self.fine in
    let is = begins c.into_iter-place-iterator.ensures.into_iter_gives c.enumerate-place-items.ensures.source in
    let zero = from_place_0 c.into_iter-place-iterator.ensures.into_iter_gives c.enumerate-place-items.ensures.count in
    let many = ap (λ (s : EachBatch). length (batches_left s)) is in (
      (tt, tt, inl (omega arith)),
      write_starts (ap batches_left is) zero,
    )

pub words-requires : goal.words-requires
words-requires c =
    (write_room c.loop-place.invariant.1 (all_small _ _ c.args.self.fine) c.in-Some.ensures.steps.0 c.in-Some.ensures.steps.1 c.loop-place.auto.results c.requires).1

pub loop-place-preserved : goal.loop-place-preserved
loop-place-preserved c =
    let room = write_room c.loop-place.invariant.1 (all_small _ _ c.args.self.fine) c.in-Some.ensures.steps.0 c.in-Some.ensures.steps.1 c.loop-place.auto.results c.requires in
    let put = c.put_record.ensures ∙ ap (λ (words : List ℕ). sets c.loop-place.results (3 * c.in-Some.place) words) c.words.ensures in
    (c.in-Some.ensures.goes.keeps, write_step c.loop-place.invariant.1 c.in-Some.ensures.steps.0 c.in-Some.ensures.steps.1 c.in-Some.ensures.steps.2 put)

pub returns : goal.returns
returns c = write_ends c.loop-place.invariant.1 c.in-None.ensures.steps.0.0
