-- `Text::put_spaces` meets its contract: the part behind the text so far is filled.
use Prim.Native.Nat.{ℕ, ◌+◌, ◌≤◌}
use mathlib.Core.Path.{◌≡◌, refl, ◌∙◌}
use mathlib.Core.List.{List}
use native.Mathlib.Omega.{arith}
use lib.ListN.{length, take, drop, replicate, length-drop, length-replicate}
use lib.Seq.{length-take-le}
use Rattle.words.proofs.Sets.{part_sets}
use Rattle.text.specs.Lines.{spaces}
use Rattle.text.proofs.Text.put_spaces.Goals as goal

module _ (d : List ℕ) (a k n : ℕ) (e : k ≡ n) (room : a + n ≤ length d) where
  part_length : length (take k (drop a d)) ≡ n
  part_length = length-take-le k (drop a d) (omega (arith, length-drop a d)) ∙ e

  filled : {part : List ℕ} → part ≡ replicate (length (take k (drop a d))) 32 → part ≡ spaces n
  unfolding spaces
  filled f = f ∙ rw part_length

spaces_length : (n : ℕ) → length (spaces n) ≡ n
unfolding spaces
spaces_length n = rw length-replicate

pub returns : goal.returns
returns c =
    let n = c.args.count in
    let part = filled _ _ _ n (omega arith) c.requires (c.fill.ensures.after (λ y e. e)) in
    let l = spaces_length n in
    record {
      put = record {
        place = omega (arith, l);
        fits = c.requires;
        held = part_sets _ _ _ _ _ part (omega (arith, l)) (omega (arith, l, c.requires));
      };
      same = refl;
    }
