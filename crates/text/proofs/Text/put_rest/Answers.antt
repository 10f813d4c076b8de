-- `Text::put_rest` meets its contract. The invariant: the numbers passed have been put, each after a space.
use Prim.Native.Nat.{ℕ, ◌+◌}
use mathlib.Core.Path.{◌≡◌, refl}
use mathlib.Core.List.{List, [], ◌∷◌, ◌++◌, map, append_assoc}
use native.Mathlib.Omega.{arith}
use lib.ListN.{length, length-append}
use Rattle.std.specs.List.{flat_map}
use Rattle.text.specs.Lines.{decimal, line_rest}
use Rattle.text.proofs.Adding.{adds_none, adds_then, reached, one_more, all_put, room_for_one}
use Rattle.text.proofs.Text.put_rest.Invariants.{spaced}
use Rattle.text.proofs.Text.put_rest.Goals as goal

rest_is : (words : List ℕ) → line_rest (map decimal words) ≡ flat_map spaced words ++ (10 ∷ [])
unfolding line_rest
rest_is [] = refl
rest_is (w ∷ words) = rw (rest_is words, append_assoc)

rest_length : (words : List ℕ) → length (line_rest (map decimal words)) ≡ length (flat_map spaced words) + 1
rest_length words = rw (rest_is words) (length-append (flat_map spaced words) (10 ∷ []))

pub put_labelled-requires : goal.put_labelled-requires
put_labelled-requires c =
    let words = c.args.words.now in
    let r = room_for_one spaced words _ c.loop-word.invariant 0 1 c.loop-word-test.true (omega (arith, c.requires, rest_length words)) in
    omega arith

pub put_str-requires : goal.put_str-requires
put_str-requires c =
    let words = c.args.words.now in
    let r = reached (all_put spaced words _ c.loop-word.invariant c.loop-word-test.false) in
    omega (arith, c.requires, r.len, r.size, rest_length words)

pub loop-word-init : goal.loop-word-init
loop-word-init c =
    adds_none _ (omega (arith, c.requires))

pub loop-word-preserved : goal.loop-word-preserved
loop-word-preserved c =
    one_more spaced _ _ c.loop-word.invariant 0 c.loop-word-test.true c.put_labelled.ensures

pub returns : goal.returns
returns c =
    rw (rest_is c.args.words.now)
    (adds_then (all_put spaced c.args.words.now _ c.loop-word.invariant c.loop-word-test.false) c.put_str.ensures)
