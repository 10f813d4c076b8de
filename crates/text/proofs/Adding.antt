-- Laws of `Adds`: one part after another, where the text then ends, and a part for each item of a list. Assumes nothing.
use Prim.Native.Nat.{ℕ, ◌+◌, ◌≤◌, ◌<◌}
use mathlib.Core.Path.{◌≡◌, refl, ◌∙◌}
use mathlib.Core.List.{List, [], ◌++◌}
use native.Mathlib.Omega.{arith}
use lib.ListN.{length, get_or, take}
use lib.Seq.{take_all}
use Rattle.std.specs.List.{flat_map}
use Rattle.std.proofs.lemmas.List.{take_more, flat_map_more}
use Rattle.std.proofs.lemmas.List.Folds.{length-flat_map-take}
use Rattle.text.specs.declared.Text.{Text}
use Rattle.text.specs.Put.{Put, HasRoom, Adds}
use Rattle.text.proofs.Putting.{put_length, put_none, put_then}

-- nothing
pub adds_none : (t : Text) → HasRoom t 0 → Adds t [] t
adds_none t h = record { put = put_none t.out.now t.len (omega arith); same = refl }

-- a part after another is the two joined
pub adds_then : {s t u : Text} {xs ys : List ℕ} → Adds s xs t → Adds t ys u → Adds s (xs ++ ys) u
adds_then p q = record { put = put_then p.put q.put; same = q.same ∙ p.same }

pub adds_same : {s t : Text} {xs ys : List ℕ} → xs ≡ ys → Adds s xs t → Adds s ys t
adds_same e p = rw e at p

-- where the text ends then, in a buffer of the same length
pub record Reached (s : Text) (count : ℕ) (t : Text) : Type 0 where
  pub len : t.len ≡ s.len + count
  pub size : length t.out.now ≡ length s.out.now

pub reached : {s t : Text} {xs : List ℕ} → Adds s xs t → Reached s (length xs) t
reached p = record { len = p.put.place; size = put_length p.put }

-- a loop that puts a part for each item of a list, once it has passed i of them
module _ {X : Type 0} (f : X → List ℕ) (xs : List X) (i : ℕ) {s t : Text} (p : Adds s (flat_map f (take i xs)) t) where
  pub one_more : {u : Text} (d : X) → i < length xs → Adds t (f (get_or xs i d)) u → Adds s (flat_map f (take (i + 1) xs)) u
  one_more d h q =
      rw (take_more xs i d h) (adds_same (flat_map_more f [] (take i xs) (get_or xs i d)) (adds_then p q))

  pub all_put : length xs ≤ i → Adds s (flat_map f xs) t
  all_put h = rw (take_all i xs h) at p

  pub room_for_one : (d : X) (n : ℕ) → i < length xs → HasRoom s (length (flat_map f xs) + n) → HasRoom t (length (f (get_or xs i d)) + n)
  room_for_one d n h room =
      omega (arith, room, (reached p).len, (reached p).size, length-flat_map-take f xs i d h)

-- a text from the front of a buffer is in the buffer once the text is let go
pub whole_text : {d d1 xs : List ℕ} {a1 : ℕ} {s t : Text} → Adds s xs t → s.out.now ≡ d → s.len ≡ 0 → d1 ≡ t.out.now → a1 ≡ t.len → Put d 0 xs d1 a1
whole_text p e z f g = rw (← e, ← z, f, g) p.put
