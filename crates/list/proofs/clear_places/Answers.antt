-- `list::clear_places` meets its contract: the part that is filled is written into the array (filled), and past the array's end there is nothing to clear
-- (clear_to_end). Assumes nothing.
use Rattle.std.proofs.Common.{◌≡◌, ℕ, ◌+◌, ◌-◌, ◌≤◌, List, ◌++◌, length, take, drop, replicate, refl, sym, ap, ◌∙◌, arith}
use Rattle.std.proofs.lemmas.List.{length-replicate, length-take-le, length-drop}
use Rattle.std.proofs.lemmas.List.Edits.{sets, sets-eq, paste_all}
use Rattle.std.proofs.lemmas.Slice.{put_mid-paste}
use mathlib.Core.List.{append_assoc}
use borrow.Rule.Slice.PartMut.{put_mid}
use Rattle.list.proofs.Cleared.{clear_to_end}
use Rattle.list.proofs.clear_places.Goals as goal

filled : (xs : List ℕ) (a k : ℕ) (ys zeros : List ℕ) → zeros ≡ replicate k 0 → ys ≡ replicate (length (take k (drop a xs))) 0 → a + k ≤ length xs
    → put_mid a k xs ys ≡ sets xs a zeros
filled xs a k ys zeros z e h =
    let many : length (take k (drop a xs)) ≡ k = length-take-le k (drop a xs) (omega (arith, length-drop a xs)) in
    let long : k ≡ length zeros = sym (ap (λ (ws : List ℕ). length ws) z ∙ length-replicate k 0) in
    put_mid-paste a k xs ys zeros k (e ∙ ap (λ (n : ℕ). replicate n 0) many ∙ sym z) refl long
    ∙ paste_all xs a zeros k long
    ∙ ap (λ (n : ℕ). take a xs ++ (zeros ++ drop (a + n) xs)) long
    ∙ sym (append_assoc (take a xs) zeros (drop (a + length zeros) xs))
    ∙ sym (sets-eq zeros xs a (omega (arith, long)))

pub returns-then-from-end : goal.returns-then-from-end
returns-then-from-end c =
    clear_to_end _ _ _ c.min-end.ensures
    (filled c.args.counts.now c.args.from (c.min-end.result - c.args.from) c.fill.new.self _ refl (c.fill.ensures.after (λ y e. e)) (omega arith))

pub returns-else-from-end : goal.returns-else-from-end
returns-else-from-end c =
    let none : 0 ≡ c.min-end.result - c.args.from = omega arith in
    clear_to_end _ _ _ c.min-end.ensures (ap (λ (n : ℕ). sets c.args.counts.now c.args.from (replicate n 0)) none)
