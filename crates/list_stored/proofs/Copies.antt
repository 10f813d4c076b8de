-- What bytes hold, as a list, which is what a copy of their entries is (unpacked): judging its places by the rule of stored bytes is judging what the bytes hold. Where that rule finds nothing,
-- admission hands each entry back as it stands.
use mathlib.Core.Path.{◌≡◌, refl, sym, ap, ◌∙◌}
use mathlib.Core.Bool.{true, false}
use mathlib.Core.List.{List, map}
use Prim.Native.Nat.{ℕ, ◌*◌, ◌≤◌, ◌<◌}
use native.Mathlib.Omega.{arith}
use borrow.Author.Tests.{eq-eqb, ne_eqb}
use lib.ListN.{length, take}
use lib.Seq.{sets}
use Rattle.words.specs.Limits.{max_places}
use Rattle.words.specs.Refusals.{first_reason, Judgement, Fine, Declined}
use Rattle.words.specs.declared.Refusal.{Refusal}
use Rattle.words.specs.declared.Refusal.TheVariants.{Repeat, Tally}
use Rattle.words.specs.Places.{places}
use Rattle.words.proofs.Judgements.{or_first, or_next, decline_true, decline_false, first_fine, first_cong}
use Rattle.words.proofs.Places.{map_cong, length-map}
use Rattle.words.proofs.Sets.{take_sets_front}
use Rattle.isa.specs.Entries.{entry_width, admitted}
use Rattle.isa.proofs.Entries.{as_it_is}
use Rattle.list.specs.Lists.{U32List, u32_list, used, key_at, multiplicity_at, entry_at, judge_entry_by, judge_place_by}
use Rattle.list.specs.Heights.{sum_heights, list_height}
use Rattle.list.proofs.JudgedLists.{place_told}
use Rattle.list.proofs.Places.{section_entries_map}
use Rattle.list_repeats.specs.Repeats.{repeats}
use Rattle.list_bytes.specs.Packed.{stored_n, stored_height, stored_entry, stored_multiplicity, stored_entries}
use Rattle.list_stored.specs.Stored.{judge_stored, tally, content_list, content_reason}
use Rattle.list_bytes.proofs.Format.{sets_whole}
use Rattle.list_bytes.proofs.Replaced.{keys_of, length_keys_of, key_put, multiplicity_put}

-- the first reason against its places
abbrev pub copy_reason : List ℕ → Judgement
copy_reason s = first_reason (judge_place_by true (content_list s)) 0 (stored_n s)

module _ (s : List ℕ) where
  -- the fronts of arrays onto which the bytes are unpacked are that list
  pub unpacked : (n : ℕ) (ks₀ ms₀ : List ℕ) {ks ms : List ℕ} → n ≡ stored_n s → n ≤ max_places → length ks₀ ≡ entry_width * max_places → length ms₀ ≡ max_places
      → ks ≡ sets ks₀ 0 (keys_of (stored_entry s) n) → ms ≡ sets ms₀ 0 (map (stored_multiplicity s) (places n))
      → u32_list (record { capacity = n; used = n }) (take (entry_width * n) ks) (take n ms) ≡ content_list s
  unpacked n ks₀ ms₀ is few lk lm ek em =
      rw (
        ek,
        em,
        take_sets_front (keys_of (stored_entry s) n) ks₀ (entry_width * n) (length_keys_of (stored_entry s) n) (omega arith),
        take_sets_front (map (stored_multiplicity s) (places n)) ms₀ n (length-map (stored_multiplicity s) 0 n) (omega arith),
        is,
      )
      refl

  pub copy_repeats : {l : U32List} → l ≡ content_list s
      → repeats (map (entry_at l) (places (used l))) ≡ repeats (map (entry_at (content_list s)) (places (stored_n s)))
  copy_repeats e = ap (λ (l : U32List). repeats (map (entry_at l) (places (used l)))) e

  copy_key : (i : ℕ) → i < stored_n s → key_at (content_list s) i ≡ stored_entry s i
  copy_key i p =
      let ks = keys_of (stored_entry s) (stored_n s) in
      ap (λ (ws : List ℕ). key_at (u32_list (content_list s).sizes ws (content_list s).multiplicities) i) (sym (sets_whole ks ks refl))
      ∙ key_put (stored_entry s) (stored_n s) ks (omega (arith, length_keys_of (stored_entry s) (stored_n s))) (content_list s).sizes (content_list s).multiplicities i p

  copy_multiplicity : (i : ℕ) → i < stored_n s → multiplicity_at (content_list s) i ≡ stored_multiplicity s i
  copy_multiplicity i p =
      let ms = map (stored_multiplicity s) (places (stored_n s)) in
      ap (λ (ws : List ℕ). multiplicity_at (u32_list (content_list s).sizes (content_list s).keys ws) i) (sym (sets_whole ms ms refl))
      ∙ multiplicity_put (stored_multiplicity s) (stored_n s) ms (omega (arith, length-map (stored_multiplicity s) 0 (stored_n s))) (content_list s).sizes (content_list s).keys i p

  copy_place : (i : ℕ) → i < stored_n s → judge_place_by true (content_list s) i ≡ judge_stored s i
  unfolding judge_place_by judge_stored
  copy_place i p = rw (copy_key i p, copy_multiplicity i p)

  copy_judged : copy_reason s ≡ first_reason (judge_stored s) 0 (stored_n s)
  copy_judged =
      first_cong (judge_place_by true (content_list s)) (judge_stored s) 0 (stored_n s) (λ i p q. copy_place i (omega arith))

  -- reason by reason
  pub content_declined : {k : Refusal} → copy_reason s ≡ Declined k → content_reason s ≡ Declined k
  unfolding content_reason
  content_declined e = or_first _ (sym copy_judged ∙ e)

  module _ (fine : copy_reason s ≡ Fine) where
    copy_entry : (i : ℕ) → i < stored_n s → entry_at (content_list s) i ≡ stored_entry s i
    unfolding entry_at judge_entry_by
    copy_entry i p =
        let told = (place_told true (content_list s) i (first_fine (judge_place_by true (content_list s)) 0 (stored_n s) fine i (omega arith) (omega arith))).0 in
        ap admitted (copy_key i p) ∙ (as_it_is (stored_entry s i) (rw (copy_key i p) at told)).1

    copy_entries : map (entry_at (content_list s)) (places (stored_n s)) ≡ stored_entries s
    copy_entries =
        map_cong (entry_at (content_list s)) (stored_entry s) 0 (stored_n s) (λ i p q. copy_entry i (omega arith))

    copy_height : list_height (content_list s) ≡ sum_heights (stored_entries s)
    unfolding list_height
    copy_height = ap sum_heights (section_entries_map (content_list s) ∙ copy_entries)

    pub content_repeat : repeats (map (entry_at (content_list s)) (places (stored_n s))) ≡ true → content_reason s ≡ Declined Repeat
    unfolding content_reason
    content_repeat e = or_next _ (sym copy_judged ∙ fine) ∙ or_first _ (decline_true Repeat (ap repeats (sym copy_entries) ∙ e))

    module _ (none : repeats (map (entry_at (content_list s)) (places (stored_n s))) ≡ false) where
      content_tally : content_reason s ≡ tally s
      unfolding content_reason
      content_tally = or_next _ (sym copy_judged ∙ fine) ∙ or_next _ (decline_false Repeat (ap repeats (sym copy_entries) ∙ none))

      pub content_other : (stored_height s ≡ list_height (content_list s) → ⊥) → content_reason s ≡ Declined Tally
      unfolding tally
      content_other h = content_tally ∙ rw (ne_eqb (stored_height s) (sum_heights (stored_entries s)) (λ e. h (e ∙ sym copy_height)))

      pub content_fine : stored_height s ≡ list_height (content_list s) → content_reason s ≡ Fine
      unfolding tally
      content_fine h = content_tally ∙ rw (eq-eqb (stored_height s) (sum_heights (stored_entries s)) (h ∙ copy_height))
