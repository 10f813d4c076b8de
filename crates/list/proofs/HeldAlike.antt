-- Two lists that hold the same admitted entries (Alike.antt) and have the same holds: what gets sections is alike (alike_sections), and they are
-- judged alike with their holds (alike_held_shape, alike_held). Assumes nothing.
use Prim.Native.Nat.{ℕ, zero, suc, ◌*◌, ◌<◌}
use mathlib.Core.Path.{◌≡◌, refl, sym, ap, ap₂, ◌∙◌}
use mathlib.Core.Bool.{not}
use mathlib.Core.List.{List, map}
use native.Mathlib.Omega.{arith}
use lib.Dec.{eqb}
use lib.ListN.{length, get_or}
use Rattle.words.specs.Refusals.{decline_if, first_reason}
use Rattle.words.specs.declared.Refusal.TheVariants.{OpenHold}
use Rattle.isa.specs.Entries.{entry_width}
use Rattle.list.specs.Lists.{U32List, used, key_at, multiplicity_at, entry_at}
use Rattle.list.specs.Counted.{counted_to, counted_places, counted}
use Rattle.list.specs.Holds.{HeldList, hold_at, held_shape, judge_hold, open_hold, section_list, judge_held}
use Rattle.list.proofs.Alike.{Alike, alike_used, alike_count, alike_shape, alike_judged}
use Rattle.list.proofs.CountedLists.{words_length, counted_used, counted_each, counted_entry}

-- ---- the counted places are the same ones

module _ (l m : U32List) (a : Alike l m) where
  same_to : (n : ℕ) → counted_to l n ≡ counted_to m n
  unfolding counted_to
  same_to zero = refl
  same_to (suc n) = rw (same_to n, alike_count l m a n)

  same_places : counted_places l ≡ counted_places m
  same_places = same_to (used l) ∙ ap (counted_to m) (alike_used l m a)

  same_sizes : (counted l).sizes ≡ (counted m).sizes
  unfolding counted
  same_sizes = rw same_places

  same_words : length (counted l).keys ≡ length (counted m).keys
  unfolding counted
  same_words =
      words_length (key_at l) (counted_places l)
      ∙ ap (λ (ps : List ℕ). entry_width * length ps) same_places
      ∙ sym (words_length (key_at m) (counted_places m))

  same_entries : (i : ℕ) → i < used (counted l) → entry_at (counted l) i ≡ entry_at (counted m) i
  same_entries i h =
      let b : i < length (counted_places l) = rw (counted_used l) at h in
      let n : length (counted_places l) ≡ length (counted_places m) = ap (λ (ps : List ℕ). length ps) same_places in
      counted_entry l i b
      ∙ a.entries _ (counted_each l (used l) i b).0
      ∙ ap (λ (ps : List ℕ). entry_at m (get_or ps i 0)) same_places
      ∙ sym (counted_entry m i (omega (arith, n, b)))

  same_counts : (counted l).multiplicities ≡ (counted m).multiplicities
  unfolding counted multiplicity_at
  same_counts =
      ap (λ (ms : List ℕ). map (λ (i : ℕ). get_or ms i 0) (counted_places l)) a.multiplicities ∙ ap (map (multiplicity_at m)) same_places

  pub alike_counted : Alike (counted l) (counted m)
  alike_counted = record { sizes = same_sizes; words = same_words; entries = same_entries; multiplicities = same_counts }

module _ (g h : HeldList) (a : Alike g.list h.list) (same : g.holds ≡ h.holds) where
  pub alike_sections : Alike (section_list g) (section_list h)
  unfolding section_list
  alike_sections = alike_counted g.list h.list a

  pub alike_hold : (i : ℕ) → hold_at g i ≡ hold_at h i
  unfolding hold_at
  alike_hold i = rw same

  pub alike_held_shape : held_shape g ≡ held_shape h
  unfolding held_shape
  alike_held_shape = rw (alike_shape g.list h.list a, same, a.sizes)

  alike_open : open_hold g ≡ open_hold h
  unfolding open_hold judge_hold hold_at
  alike_open =
      ap₂ (λ (hs : List ℕ) (n : ℕ). first_reason (λ (i : ℕ). decline_if (not (eqb (get_or hs i 0) 0)) OpenHold) 0 n) same
      (alike_used g.list h.list a)

  pub alike_held : judge_held g ≡ judge_held h
  unfolding judge_held
  alike_held = rw (alike_held_shape, alike_open, alike_judged (section_list g) (section_list h) alike_sections)
