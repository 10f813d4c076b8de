-- Two lists that hold the same entries as admission hands them back, in whatever words: they differ at most in which word stands for LHS of pow. They
-- are judged alike, have one height, and a search finds a key at the same place: each of these looks at the admitted entries alone. Assumes nothing.
use Prim.Native.Nat.{ℕ, zero, suc, ◌+◌, ◌≤◌, ◌<◌}
use mathlib.Core.Path.{◌≡◌, refl, sym, ap, ◌∙◌}
use mathlib.Core.List.{map}
use native.Mathlib.Omega.{arith}
use lib.ListN.{length}
use Rattle.words.specs.Refusals.{first_reason}
use Rattle.words.specs.Places.{places}
use Rattle.words.proofs.Judgements.{first_cong}
use Rattle.words.proofs.Places.{map_cong}
use Rattle.isa.specs.declared.U32TableEntry.{U32TableEntry}
use Rattle.isa.specs.Entries.{judge_entry}
use Rattle.list.specs.Lists.{U32List, used, multiplicity_at, entry_at, list_shape, judge_entry_by, judge_place_by, judge_place, judge_list}
use Rattle.list.specs.Heights.{sum_heights, list_height}
use Rattle.list.specs.Keys.{find_from, find_key}
use Rattle.list.proofs.Places.{section_entries_map}

pub record Alike (l m : U32List) : Type 0 where
  pub sizes : l.sizes ≡ m.sizes
  pub words : length l.keys ≡ length m.keys
  pub entries : (i : ℕ) → i < used l → entry_at l i ≡ entry_at m i
  pub multiplicities : l.multiplicities ≡ m.multiplicities

module _ (l m : U32List) (a : Alike l m) where
  pub alike_used : used l ≡ used m
  alike_used = rw a.sizes refl

  pub alike_count : (i : ℕ) → multiplicity_at l i ≡ multiplicity_at m i
  unfolding multiplicity_at
  alike_count i = rw a.multiplicities refl

  pub alike_shape : list_shape l ≡ list_shape m
  unfolding list_shape
  alike_shape = rw (a.sizes, a.words, a.multiplicities) refl

  alike_place : (i : ℕ) → i < used l → judge_place l i ≡ judge_place m i
  unfolding judge_place_by judge_entry_by judge_entry entry_at
  alike_place i h = rw (a.entries i h, alike_count i) refl

  pub alike_judged : judge_list l ≡ judge_list m
  unfolding judge_list
  alike_judged =
      let f : first_reason (judge_place l) 0 (used l) ≡ first_reason (judge_place m) 0 (used l)
      = first_cong (judge_place l) (judge_place m) 0 (used l) (λ i p q. alike_place i (omega arith)) in
      rw (alike_shape, f, alike_used) refl

  pub alike_height : list_height l ≡ list_height m
  unfolding list_height
  alike_height =
      ap sum_heights
      (section_entries_map l
      ∙ map_cong (entry_at l) (entry_at m) 0 (used l) (λ i p q. a.entries i (omega arith))
      ∙ ap (λ (n : ℕ). map (entry_at m) (places n)) alike_used
      ∙ sym (section_entries_map m))

  alike_from : (e : U32TableEntry) (i n : ℕ) → i + n ≤ used l → find_from l e i n ≡ find_from m e i n
  unfolding find_from
  alike_from e i zero h = refl
  alike_from e i (suc n) h = rw (a.entries i (omega arith), alike_from e (suc i) n (omega arith)) refl

  pub alike_found : (e : U32TableEntry) → find_key l e ≡ find_key m e
  unfolding find_key
  alike_found e = alike_from e 0 (used l) (omega arith) ∙ ap (find_from m e 0) alike_used
