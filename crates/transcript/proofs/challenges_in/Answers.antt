-- `transcript::challenges_in` meets its contract: no call of the closure changes it, so the array has the word at each place.
use Prim.Native.Nat.{ℕ, zero, suc, ◌+◌, ◌*◌, ◌<◌}
use mathlib.Core.Path.{◌≡◌, refl, sym, subst, ◌∙◌}
use mathlib.Core.List.{List, map}
use native.Mathlib.Nat.{add-zero}
use native.Mathlib.Omega.{arith}
use borrow.Author.Rules.{rules}
use lib.ListN.{get_or}
use Rattle.std.specs.Fn.{Mut, Called}
use Rattle.std.specs.Array.{IsFromFnResultFrom, IsFromFnResult}
use Rattle.std.proofs.lemmas.Grind.{same_number_lists}
use Rattle.words.specs.LittleEndian.{le_at}
use Rattle.words.specs.Places.{places}
use Rattle.words.proofs.Places.{length-map, get_d_map}
use Rattle.transcript.specs.Transcript.{input_challenges}
use Rattle.transcript.proofs.challenges_in.Goals as goal

module _ {F : Type 0} (g : Mut F (ℕ × Unit {0}) ℕ) (m : ℕ → ℕ) (f : F) (step : (i y : ℕ) (q : F) → Called g f (i, tt) y q → (y ≡ m i) × (q ≡ f)) where
  made_from : (ys : List ℕ) (i n : ℕ) (p : F) → p ≡ f → IsFromFnResultFrom g p ys i n → (j : ℕ) → j < n → get_or ys (i + j) 0 ≡ m (i + j)
  made_from ys i zero p e t j h = absurd (omega arith)
  made_from ys i (suc n) p e t zero h =
      let one = step i t.1 t.0 (subst (λ (z : F). Called g z (i, tt) t.1 t.0) e t.3) in
      rw add-zero (t.2.1 0 ∙ one.0)
  made_from ys i (suc n) p e t (suc j) h =
      let one = step i t.1 t.0 (subst (λ (z : F). Called g z (i, tt) t.1 t.0) e t.3) in
      let s : i + suc j ≡ i + 1 + j = omega arith in
      rw s (made_from ys (i + 1) n t.0 one.1 t.4 j (omega arith))

  made : (ys : List ℕ) (n : ℕ) → IsFromFnResult g f ys n → ys ≡ map m (places n)
  made ys n t =
      same_number_lists ys (map m (places n)) (t.long ∙ sym (length-map m 0 n)) (λ j h.
      let within : j < n = omega (arith, h, t.long) in
      let from : 0 + j ≡ j = omega arith in
      rw from at (made_from ys 0 n f refl t.each j within ∙ sym (get_d_map m 0 n j within)))

pub returns : goal.returns
unfolding input_challenges
returns c =
    made _ (λ i. le_at c.args.input.now (8 * i) 8) _ (λ i y q k. search rules) _ _ c.from_fn.ensures.items
