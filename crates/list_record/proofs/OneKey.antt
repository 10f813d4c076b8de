-- Which entries are one key. A search finds a key exactly where some used place holds an entry that admission hands back as that key
-- (known_found, found_known), so raw words at a place count as their reduced form. A recording or a hold goes by the admitted entry alone
-- (recorded_alike): two raw words of one element are one key (pow_recorded). An appended key is the admitted one, which admission hands back as it is
-- (new_key_reduced); a key that gains keeps its words, raw or not (known_key_stays). Lists that hold the same admitted entries get the same plan
-- (plan_alike) and the same answer of a recording or a hold, which leaves such lists again (record_alike). Assumes nothing.
use Prim.Native.Nat.{ℕ, ◌+◌, ◌*◌, ◌%◌, ◌<◌}
use mathlib.Core.Path.{◌≡◌, refl, sym, ap, ◌∙◌}
use mathlib.Core.Bool.{Bool, true, false}
use mathlib.Core.List.{List, [], ◌∷◌}
use mathlib.Core.Logic.{⊎_elim}
use native.Mathlib.Nat.{mod-lt, add-zero, eq-or-lt_of_le}
use native.Mathlib.Omega.{arith}
use lib.ListN.{get_or}
use lib.Seq.{length-sets}
use borrow.Author.Tests.{ltb-true, ltb-false}
use Rattle.field.specs.Elements.{p}
use Rattle.words.specs.Answers.{done}
use Rattle.words.specs.Outcomes.{Outcome, outcome}
use Rattle.words.specs.Refusals.{Judgement, Fine, Declined}
use Rattle.words.specs.declared.Refusal.TheVariants.{ListFull}
use Rattle.words.proofs.Judgements.{decline_not_fine, or_both}
use Rattle.words.proofs.Outcomes.{outcome_fine}
use Rattle.words.proofs.Sets.{get_d_sets_in, get_d_sets_below}
use Rattle.isa.specs.Opcodes.{op_pow}
use Rattle.isa.specs.declared.U32TableEntry.{U32TableEntry}
use Rattle.isa.specs.Entries.{entry, entry_words, entry_width, judge_entry, admitted}
use Rattle.isa.proofs.Entries.{admitted_pow, admitted_same, admitted_again}
use Rattle.isa.proofs.Comparing.{entries_same}
use Rattle.list.specs.Lists.{capacity, used, key_at, entry_at, multiplicity_at}
use Rattle.list.specs.Keys.{same_key}
use Rattle.list.specs.Holds.{HeldList, hold_at, held_shape, section_list}
use Rattle.list.proofs.Finding.{same_key_equal, same_key_self, find_holds, find_first}
use Rattle.list.proofs.JudgedLists.{Shaped}
use Rattle.list.proofs.HeldLists.{held_shaped}
use Rattle.list.proofs.Alike.{Alike, alike_used, alike_count, alike_height, alike_found}
use Rattle.list.proofs.HeldAlike.{alike_hold, alike_sections, alike_held_shape, alike_held}
use Rattle.list_record.specs.Plan.{plan_all}
use Rattle.list_record.specs.Recording.{place_in, known, place_reason, record_reason, settled, appended, recorded_into, record_with}

-- ---- a key is known where some used place holds it, reduced

pub known_found : (h : HeldList) (e : U32TableEntry) → known h e ≡ true → (i : ℕ) × (i < used h.list) × (entry_at h.list i ≡ e)
known_found h e k =
    let b = ltb-true (place_in h e) (used h.list) k in
    (place_in h e, b, same_key_equal (entry_at h.list (place_in h e)) e (find_holds h.list e b))

pub found_known : (h : HeldList) (e : U32TableEntry) (i : ℕ) → i < used h.list → entry_at h.list i ≡ e → known h e ≡ true
found_known h e i b q = go (known h e) refl where
  same : same_key (entry_at h.list i) e ≡ true
  same = rw q (same_key_self e)

  go : (t : Bool) → known h e ≡ t → known h e ≡ true
  go true k = k
  go false k =
      let n = ltb-false (place_in h e) (used h.list) k in
      let f = find_first h.list e i (omega arith) in
      absurd (let z : ◌≡◌ {A = Bool} true false = sym same ∙ f in let w : ◌≡◌ {A = ℕ} 0 1 = cc in omega arith)

-- ---- a recording or a hold goes by the admitted entry

module _ (count hold : ℕ) where
  pub recorded_alike : (h : HeldList) (e f : U32TableEntry) → admitted e ≡ admitted f → record_with count hold h e ≡ record_with count hold h f
  unfolding record_with record_reason judge_entry
  recorded_alike h e f q = rw q

  -- "also to tell equal keys": the raw word and its residue are recorded as one key
  pub pow_recorded : (h : HeldList) (a r : ℕ) → record_with count hold h (entry op_pow a r) ≡ record_with count hold h (entry op_pow (a % p) r)
  pow_recorded h a r =
      recorded_alike h _ _
      (admitted_pow (entry op_pow a r) refl ∙ sym (admitted_same (entry op_pow (a % p) r) (λ k. mod-lt a (omega arith))))

  -- ---- what the keys are afterwards

  appended_key : (h : HeldList) (e : U32TableEntry) → Shaped h.list → used h.list < capacity h.list
      → key_at (appended count hold h e).list (used h.list) ≡ e
  unfolding key_at
  appended_key h e s b =
      entries_same
      (ap (λ (a : ℕ). get_or (appended count hold h e).list.keys a 0) (sym (add-zero (entry_width * used h.list))) ∙ word 0 (omega arith))
      (word 1 (omega arith))
      (word 2 (omega arith))
    where
      word : (k : ℕ) → k < 3 → get_or (appended count hold h e).list.keys (entry_width * used h.list + k) 0 ≡ get_or (entry_words e) k 0
      word k q = get_d_sets_in (entry_words e) h.list.keys (entry_width * used h.list) k 0 q (omega (arith, s.keys))

  module _ (h : HeldList) (e : U32TableEntry) (fine : record_reason h e ≡ Fine) where
    pub recorded_left : (record_with count hold h e).left ≡ recorded_into count hold h (admitted e)
    unfolding record_with
    recorded_left = ap (λ (o : Outcome HeldList). o.left) (outcome_fine _ _ _ fine)

    pub new_key_reduced : known h (admitted e) ≡ false
        → (key_at (record_with count hold h e).left.list (used h.list) ≡ admitted e) × (admitted (admitted e) ≡ admitted e)
    unfolding record_reason place_reason
    new_key_reduced k =
        let a = or_both (held_shape h) _ fine in
        let b = or_both (judge_entry e) _ a.1 in
        let room = ltb-true (used h.list) (capacity h.list) (decline_not_fine _ ListFull (rw k at b.1)) in
        (rw (recorded_left, k) (appended_key h (admitted e) (held_shaped h a.0).list room), admitted_again e b.0)

    pub known_key_stays : known h (admitted e) ≡ true → (record_with count hold h e).left.list.keys ≡ h.list.keys
    known_key_stays k = rw (recorded_left, k) refl

-- ---- lists alike, with the same holds

pub record HeldAlike (h k : HeldList) : Type 0 where
  pub list : Alike h.list k.list
  pub holds : h.holds ≡ k.holds

pub plan_alike : (h k : HeldList) → HeldAlike h k → plan_all h ≡ plan_all k
unfolding plan_all
plan_alike h k a =
    rw (alike_held h k a.list a.holds, alike_height (section_list h) (section_list k) (alike_sections h k a.list a.holds)) refl

-- storing leaves lists alike
settled_alike : (h k : HeldList) → HeldAlike h k → (i count hold : ℕ) → HeldAlike (settled h i count hold) (settled k i count hold)
unfolding entry_at key_at
settled_alike h k a i count hold = record {
  list = record {
    sizes = a.list.sizes;
    words = a.list.words;
    entries = a.list.entries;
    multiplicities = rw a.list.multiplicities refl;
  };
  holds = rw a.holds refl;
}

module _ (count hold : ℕ) where
  -- the places before the new one keep their keys
  kept_key : (h : HeldList) (e : U32TableEntry) (i : ℕ) → i < used h.list → key_at (appended count hold h e).list i ≡ key_at h.list i
  unfolding key_at
  kept_key h e i b =
      entries_same (word (entry_width * i) (omega arith)) (word (entry_width * i + 1) (omega arith)) (word (entry_width * i + 2) (omega arith))
    where
      word : (j : ℕ) → j < entry_width * used h.list → get_or (appended count hold h e).list.keys j 0 ≡ get_or h.list.keys j 0
      word j q = get_d_sets_below (entry_words e) h.list.keys (entry_width * used h.list) j 0 q

  module _ (h k : HeldList) (a : HeldAlike h k) (s : Shaped h.list) (t : Shaped k.list) (room : used h.list < capacity h.list) where
    same_used : used h.list ≡ used k.list
    same_used = alike_used h.list k.list a.list

    appended_alike : (e : U32TableEntry) → HeldAlike (appended count hold h e) (appended count hold k e)
    unfolding entry_at
    appended_alike e = record {
      list = record {
        sizes = rw a.list.sizes refl;
        words = length-sets h.list.keys _ (entry_words e) ∙ a.list.words ∙ sym (length-sets k.list.keys _ (entry_words e));
        entries = λ i b. ⊎_elim
            (λ (q : i ≡ used h.list). ap admitted (at_new i q ∙ sym (at_new_too i (q ∙ same_used))))
            (λ (q : i < used h.list).
            ap admitted (kept_key h e i q) ∙ a.list.entries i q ∙ ap admitted (sym (kept_key k e i (rw (← same_used) q))))
            (eq-or-lt_of_le (omega arith));
        multiplicities = rw (a.list.sizes, a.list.multiplicities) refl;
      };
      holds = rw (a.list.sizes, a.holds) refl;
    }
      where
        at_new : (i : ℕ) → i ≡ used h.list → key_at (appended count hold h e).list i ≡ e
        at_new i q = rw q (appended_key count hold h e s room)

        at_new_too : (i : ℕ) → i ≡ used k.list → key_at (appended count hold k e).list i ≡ e
        at_new_too i q = rw q (appended_key count hold k e t (rw (← a.list.sizes) room))

outcome_left : (j : Judgement) (v w : List ℕ) {l m k n : HeldList} → HeldAlike l m → (j ≡ Fine → HeldAlike k n)
    → HeldAlike (outcome j v l k).left (outcome j w m n).left
outcome_left Fine v w a b = b refl
outcome_left (Declined r) v w a b = a

outcome_answer : (j : Judgement) {v w : List ℕ} (l m k n : HeldList) → v ≡ w → (outcome j v l k).answer ≡ (outcome j w m n).answer
outcome_answer Fine l m k n q = ap done q
outcome_answer (Declined r) l m k n q = refl

module _ (h k : HeldList) (a : HeldAlike h k) where
  found : (e : U32TableEntry) → place_in h e ≡ place_in k e
  found e = alike_found h.list k.list a.list e

  place_alike : (e : U32TableEntry) → place_reason h e ≡ place_reason k e
  unfolding place_reason multiplicity_at hold_at
  place_alike e = rw (found e, a.list.sizes, a.list.multiplicities, a.holds) refl

  reason_alike : (e : U32TableEntry) → record_reason h e ≡ record_reason k e
  unfolding record_reason
  reason_alike e = rw (alike_held_shape h k a.list a.holds, place_alike (admitted e)) refl

  module _ (count hold : ℕ) where
    into_alike : (e : U32TableEntry) → record_reason h e ≡ Fine
        → HeldAlike (recorded_into count hold h (admitted e)) (recorded_into count hold k (admitted e))
    unfolding record_reason place_reason
    into_alike e fine = go (known h (admitted e)) refl where
      same : known h (admitted e) ≡ known k (admitted e)
      same = rw (found (admitted e), a.list.sizes) refl

      go : (t : Bool) → known h (admitted e) ≡ t → HeldAlike (recorded_into count hold h (admitted e)) (recorded_into count hold k (admitted e))
      go true q =
          rw (q, sym same ∙ q, found (admitted e), alike_count h.list k.list a.list (place_in k (admitted e)), alike_hold h k a.list a.holds (place_in k (admitted e)))
          (settled_alike h k a (place_in k (admitted e)) (multiplicity_at k.list (place_in k (admitted e)) + count) (hold_at k (place_in k (admitted e)) + hold))
      go false q =
          let c = or_both (held_shape h) _ fine in
          let b = or_both (judge_entry e) _ c.1 in
          let room = ltb-true (used h.list) (capacity h.list) (decline_not_fine _ ListFull (rw q at b.1)) in
          rw (q, sym same ∙ q)
          (appended_alike count hold h k a (held_shaped h c.0).list (held_shaped k (sym (alike_held_shape h k a.list a.holds) ∙ c.0)).list room (admitted e))

    pub record_alike : (e : U32TableEntry)
        → ((record_with count hold h e).answer ≡ (record_with count hold k e).answer)
        × (HeldAlike (record_with count hold h e).left (record_with count hold k e).left)
    unfolding record_with
    record_alike e =
        rw (← reason_alike e) (
          outcome_answer (record_reason h e) h k _ _ (ap (λ (i : ℕ). i ∷ []) (found (admitted e))),
          outcome_left (record_reason h e) _ _ a (into_alike e),
        )
