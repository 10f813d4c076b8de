-- Laws of `Put`: nothing, and one text after another. Assumes nothing.
use Prim.Native.Nat.{ℕ, ◌≤◌}
use mathlib.Core.Path.{◌≡◌, refl, sym, ap, ◌∙◌}
use mathlib.Core.List.{List, [], ◌++◌}
use native.Mathlib.Nat.{add-zero}
use native.Mathlib.Omega.{arith}
use lib.ListN.{length, length-append}
use lib.Seq.{length-sets}
use Rattle.words.proofs.Sets.{sets_append}
use Rattle.text.specs.Put.{Put}

pub put_length : {d d1 xs : List ℕ} {a a1 : ℕ} → Put d a xs d1 a1 → length d1 ≡ length d
put_length p = ap length p.held ∙ simp length-sets

-- nothing
pub put_none : (d : List ℕ) (a : ℕ) → a ≤ length d → Put d a [] d a
put_none d a h = record { place = sym (add-zero a); fits = h; held = refl }

-- a text after another is the two joined
pub put_then : {d d1 d2 xs ys : List ℕ} {a a1 a2 : ℕ} → Put d a xs d1 a1 → Put d1 a1 ys d2 a2 → Put d a (xs ++ ys) d2 a2
put_then {d} {d1} {d2} {xs} {ys} {a} {a1} {a2} p q = record {
  place = rw length-append (omega (arith, p.place, q.place));
  fits = omega (arith, q.fits, put_length p);
  held = q.held ∙ sym (sets_append xs ys d a ∙ rw (← p.held, ← p.place));
}
