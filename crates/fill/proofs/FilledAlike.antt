-- Lists that hold the same admitted entries, and have the same holds, are filled alike: the same answer, and the same table. So the sections are
-- those of the reduced entries.
use Prim.Native.Nat.{ℕ, zero, suc, ◌+◌, ◌≤◌}
use mathlib.Core.Path.{◌≡◌, refl, ap, ◌∙◌}
use mathlib.Core.List.{List}
use native.Mathlib.Omega.{arith}
use Rattle.words.specs.Places.{places_from, places}
use Rattle.list.specs.Lists.{U32List, used}
use Rattle.list.specs.Holds.{HeldList, section_list}
use Rattle.list.proofs.Alike.{Alike, alike_used, alike_count, alike_height}
use Rattle.list.proofs.HeldAlike.{alike_sections, alike_held}
use Rattle.fill.specs.Filling.{sections_at, sections, fill_reason, fill_all}

module _ (l m : U32List) (a : Alike l m) where
  sections_from : (i n : ℕ) → i + n ≤ used l → sections_at l (places_from i n) ≡ sections_at m (places_from i n)
  unfolding sections_at places_from
  sections_from i zero h = refl
  sections_from i (suc n) h = rw (a.entries i (omega arith), alike_count l m a i, sections_from (suc i) n (omega arith)) refl

  pub sections_alike : sections l ≡ sections m
  sections_alike = sections_from 0 (used l) (omega arith) ∙ ap (λ (n : ℕ). sections_at m (places n)) (alike_used l m a)

module _ (g h : HeldList) (a : Alike g.list h.list) (same : g.holds ≡ h.holds) where
  pub fill_alike : (table : List ℕ) → fill_all g table ≡ fill_all h table
  unfolding fill_all fill_reason
  fill_alike table =
      let s = alike_sections g h a same in
      rw (alike_held g h a same, alike_height (section_list g) (section_list h) s, sections_alike (section_list g) (section_list h) s)
