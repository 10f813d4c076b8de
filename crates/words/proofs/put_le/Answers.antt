-- `words::put_le` meets its contract: at most eight bytes are those that std makes, the others 0, and both runs are one. Assumes nothing.
use mathlib.Core.Path.{◌≡◌, refl, sym, ap, ◌∙◌}
use mathlib.Core.List.{List}
use mathlib.Core.Logic.{⊎_elim}
use Prim.Native.Nat.{ℕ, ◌+◌, ◌-◌, ◌/◌, ◌^◌, ◌≤◌, ◌<◌, min}
use native.Mathlib.Omega.{arith}
use lib.ListN.{length, take, drop, replicate, length-drop}
use lib.Seq.{sets, length-sets, length-take-le}
use borrow.Rule.Slice.PartMut.{put_mid}
use Rattle.std.proofs.Math.Nat.{div-one}
use Rattle.std.proofs.lemmas.Bool.{cases_lt}
use Rattle.words.specs.LittleEndian.{le}
use Rattle.words.proofs.LittleEndian.{length_le, le_parts, take_le, le_zero, bytes_are_le}
use Rattle.words.proofs.Sets.{part_sets, sets_then}
use Rattle.words.proofs.put_le.Goals as goal

-- the bytes past the eighth
le_past : (k n : ℕ) → n < 2 ^ 64 → le (k - min k 8) (n / 256 ^ min k 8) ≡ replicate (k - min k 8) 0
unfolding le
le_past k n h = ⊎_elim few many (cases_lt k 8)
  where
    few : k < 8 → le (k - min k 8) (n / 256 ^ min k 8) ≡ replicate (k - min k 8) 0
    few p = let e : k - min k 8 ≡ 0 = omega arith in rw e refl

    many : 8 ≤ k → le (k - min k 8) (n / 256 ^ min k 8) ≡ replicate (k - min k 8) 0
    many p = let e : min k 8 ≡ 8 = omega arith in let z : n / 256 ^ 8 ≡ 0 = omega arith in rw (e, z) (le_zero (k - 8))

module _ (d first past : List ℕ) (at k n low : ℕ) where
  two_runs : low ≤ k → at + k ≤ length d → first ≡ le low n → le (k - low) (n / 256 ^ low) ≡ replicate (k - low) 0
      → past ≡ replicate (length (take (at + k - (at + low)) (drop (at + low) (put_mid at (at + low - at) d first)))) 0
      → put_mid (at + low) (at + k - (at + low)) (put_mid at (at + low - at) d first) past ≡ sets d at (le k n)
  two_runs g h e z f =
      let xs = le low n in
      let ys = le (k - low) (n / 256 ^ low) in
      let l = length_le low n in
      let r = length_le (k - low) (n / 256 ^ low) in
      let same = length-sets d at xs in
      let whole : k ≡ low + (k - low) = omega arith in
      let first_run = part_sets d first xs at (at + low - at) e (omega (arith, l)) (omega (arith, l)) in
      let room : at + k - (at + low) ≤ length (drop (at + low) (sets d at xs)) = rw (length-drop, same) (omega arith) in
      let many : at + k - (at + low) ≡ k - low = omega arith in
      let zeros : past ≡ ys = f ∙ rw (first_run, length-take-le _ _ room, many) (sym z) in
      rw (first_run, part_sets (sets d at xs) past ys (at + low) (at + k - (at + low)) zeros (omega (arith, r)) (omega (arith, r, same)))
      (sym (ap (λ (j : ℕ). sets d at (le j n)) whole ∙ ap (sets d at) (le_parts low (k - low) n) ∙ sets_then xs ys d _ at _ refl (omega (arith, l))))

pub returns : goal.returns
returns c =
    let k = c.args.k in
    let n = c.args.n in
    let low = c.min-low.result in
    let m : low ≡ min k 8 = c.min-low.ensures in
    let whole : c.to_le_bytes.result ≡ le 8 n = c.to_le_bytes.ensures ∙ bytes_are_le 0 8 n ∙ rw div-one in
    let first : c.copy_from_slice.new.self ≡ le low n = c.copy_from_slice.ensures.after ∙ ap (take low) whole ∙ take_le low 8 n (omega arith) in
    two_runs c.args.bytes.now c.copy_from_slice.new.self c.fill.new.self c.args.at k n low (omega arith) c.requires first
    (rw m (le_past k n c.ranges.n.fits)) (c.fill.ensures.after (λ y e. e))
