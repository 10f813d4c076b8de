-- `list_repeats::has_repeats` meets its contract. Outer loop: no two of the keys passed are equal, and each one's place is on the chain of its bucket.
-- Inner loop: a place on the chain whose key may be equal to the key at place i is still ahead. A chain leads back, so it ends. Assumes nothing.
use Prim.Native.Nat.{ℕ, ◌/◌, ◌<◌}
use mathlib.Core.Path.{◌≡◌, refl, sym, ap, ◌∙◌}
use mathlib.Core.List.{List}
use native.Mathlib.Omega.{arith}
use borrow.Author.Rules.{rules}
use lib.ListN.{length, get_or, length-set}
use Rattle.std.specs.Prelude.{Option, None, Some}
use Rattle.words.specs.Limits.{max_places}
use Rattle.isa.specs.Entries.{entry_width}
use Rattle.list.specs.declared.Sizes.{Sizes}
use Rattle.list.specs.Lists.{u32_list, entry_at}
use Rattle.list.proofs.Finding.{equal_is_same}
use Rattle.list_repeats.proofs.Repeats.{distinct_none, distinct_more, no_repeat, repeat_at}
use Rattle.list_repeats.proofs.Chains.{buckets, nones, some_below, chained_more, back_more, low_more, bucket_of, ahead_more, new_key, same_told}
use Rattle.list_repeats.proofs.has_repeats.Goals as goal

-- the place that is reached, as an index
placed : {next : Option ℕ} {last j : ℕ} → next ≡ Some last → j ≡ last → next ≡ Some j
placed e f = e ∙ ap Some (sym f)

pub loop-i-init : goal.loop-i-init
loop-i-init c = (refl, refl, (λ k. nones buckets k 0), (λ j. nones max_places j j), (λ s ms j p. absurd (omega arith)), λ s ms. distinct_none _)

pub loop-next-init : goal.loop-next-init
loop-next-init c = (c.loop-i.invariant.2 c.bucket-b.result, λ s ms j r e. r)

pub entry_at-requires : goal.entry_at-requires
entry_at-requires c = let below = some_below (placed c.in-Some.is c.from-j.ensures) c.loop-next.invariant.0 in omega arith

pub returns-then-eq : goal.returns-then-eq
returns-then-eq c = λ s ms.
    sym
    (repeat_at (entry_at (u32_list s c.args.keys.now ms)) _ _ _ (some_below (placed c.in-Some.is c.from-j.ensures) c.loop-next.invariant.0) c.loop-i-test.true
    (same_told (c.entry_at.ensures s ms) (c.entry_at-key.ensures s ms) (equal_is_same _ _ c.eq.ensures) c.if-eq.true))

pub offset_bounds-links-j : goal.offset_bounds-links-j
offset_bounds-links-j c = let below = some_below (placed c.in-Some.is c.from-j.ensures) c.loop-next.invariant.0 in search rules

pub bounds-links-j : goal.bounds-links-j
bounds-links-j c = let below = some_below (placed c.in-Some.is c.from-j.ensures) c.loop-next.invariant.0 in omega arith

pub loop-next-smaller : goal.loop-next-smaller
loop-next-smaller c =
    let back = c.loop-i.invariant.3 c.from-j.result in
    rw (placed c.in-Some.is c.from-j.ensures) (omega arith)

pub loop-next-preserved : goal.loop-next-preserved
loop-next-preserved c = (
  let back = c.loop-i.invariant.3 c.from-j.result in
      let below = some_below (placed c.in-Some.is c.from-j.ensures) c.loop-next.invariant.0 in
      omega arith,
  λ s ms.
      ahead_more (entry_at (u32_list s c.args.keys.now ms)) _ _ _ _ _ (placed c.in-Some.is c.from-j.ensures)
      (same_told (c.entry_at.ensures s ms) refl (equal_is_same _ _ c.eq.ensures) c.if-eq.false) (c.loop-next.invariant.1 s ms),
)

pub loop-i-preserved : goal.loop-i-preserved
loop-i-preserved c =
    let ks = c.args.keys.now in
    let heads = c.loop-i.heads in
    let links = c.loop-i.links in
    let i = c.loop-i.i in
    let b = c.bucket-b.result in
    let low = c.loop-i.invariant.2 in
    let back = c.loop-i.invariant.3 in
    let hb : b < length heads = (let e = c.bucket-b.ensures in omega arith) in
    let hi : i < length links = omega arith in
    let is : (s : Sizes) (ms : List ℕ) → bucket_of (entry_at (u32_list s ks ms) i) ≡ b = λ s ms. sym (c.bucket-b.ensures ∙ ap bucket_of (c.entry_at-key.ensures s ms)) in (
      length-set heads b (Some i) ∙ c.loop-i.invariant.0,
      length-set links i (get_or heads b None) ∙ c.loop-i.invariant.1,
      low_more heads links i b back low hb hi,
      back_more heads links i b back low hb hi,
      (λ s ms. chained_more heads links i b back low hb hi (λ j. bucket_of (entry_at (u32_list s ks ms) j)) (is s ms) (c.loop-i.invariant.4 s ms)),
      λ s ms.
          let f = entry_at (u32_list s ks ms) in
          distinct_more f i (c.loop-i.invariant.5 s ms)
          (new_key f heads links i b c.loop-next.next (c.loop-i.invariant.4 s ms) (is s ms) c.in_default.is
          (rw (c.entry_at-key.ensures s ms) at (c.loop-next.invariant.1 s ms))),
    )

pub returns : goal.returns
returns c = λ s ms.
    sym
    (no_repeat (entry_at (u32_list s c.args.keys.now ms)) (length c.args.keys.now / entry_width)
    (λ a b p q. c.loop-i.invariant.5 s ms a b p (let h = c.loop-i-test.false in omega arith)))
