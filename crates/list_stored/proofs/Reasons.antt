-- Reading and writing, reason by reason: when each reason is given, what it tells that none is, and what is due then.
use mathlib.Core.Path.{◌≡◌, refl, sym, ap, ◌∙◌, subst}
use mathlib.Core.Bool.{Bool, true, false, not, ◌||◌, or-true}
use mathlib.Core.Logic.{◌⊎◌, inl, inr}
use native.Mathlib.Decide.{ℕ_discrete}
use mathlib.Core.List.{List, map, flat_map}
use Prim.Native.Nat.{ℕ, ◌-◌, ◌≤◌, ◌<◌, zero-le}
use native.Mathlib.Nat.{zero-add, sub-zero}
use native.Mathlib.Omega.{arith}
use borrow.Author.Tests.{ltb-false, lt-ltb, le-ltb, eqb-true, eq-eqb, ne_eqb}
use lib.Dec.{eqb, ltb}
use lib.ListN.{length, replicate}
use lib.Seq.{sets}
use Rattle.std.proofs.lemmas.Bool.{or_parts}
use Rattle.words.specs.Answers.{Answer}
use Rattle.words.specs.Refusals.{Judgement, Fine, Declined}
use Rattle.words.specs.declared.Refusal.{Refusal}
use Rattle.words.specs.declared.Refusal.TheVariants.{CountFull, ListFull, Short, Torn, Repeat, Tally}
use Rattle.words.specs.Limits.{max_places, multiplicity_limit}
use Rattle.words.specs.Outcomes.{Leaves}
use Rattle.words.specs.Places.{places}
use Rattle.words.proofs.Judgements.{or_first, or_next, or_both, decline_fine, decline_true, decline_false, decline_not_fine, first_fine, first_none}
use Rattle.isa.specs.Entries.{entry_words, admit_stored}
use Rattle.list.specs.Lists.{U32List, capacity, used, entry_at, count_full, judge_entry_by}
use Rattle.list.specs.Heights.{sum_heights, list_height}
use Rattle.list.specs.Holds.{HeldList, held_list, held_shape, section_list, judge_held}
use Rattle.list.proofs.HeldLists.{HeldShaped, held_shaped, held_shape_fine}
use Rattle.std.specs.Prelude.{Result, Ok, Err}
use Rattle.list_bytes.specs.Packed.{head_width, stored_places, length_with, stored_length, old_length, width_of, bytes_with, stored_bytes}
use Rattle.list_bytes.specs.Packed.{stored_n, stored_height, stored_entry, stored_multiplicity, stored_entries}
use Rattle.list_bytes.specs.declared.StoredList.{StoredList}
use Rattle.list_repeats.specs.Repeats.{repeats}
use Rattle.list_stored.specs.Stored.{torn, judge_stored, tally, content_reason, read_reason, TakenUnless, read_all, read_answer}
use Rattle.list_stored.specs.Stored.{storing_reason, write_reason, stored_as, write_all, written_answer}
use Rattle.list_bytes.proofs.StoredPlaces.{length_stored_places, stored_entries_lem}
use Rattle.list_bytes.proofs.Format.{width_old, width_other}

pub taken_refused : {reason : Judgement} {k : Refusal} (s : List ℕ) (r : Result StoredList Refusal) → r ≡ Err k → reason ≡ Declined k → TakenUnless reason s r
taken_refused s r e q = rw e q

-- ---- bytes that are whole

pub record Whole (s : List ℕ) : Type 0 where
  pub few : stored_n s ≤ max_places
  pub long : length s ≡ length_with (width_of s) (stored_n s)

both_not : (a b : Bool) → not (a || b) ≡ false → (a ≡ true) ⊎ (b ≡ true)
both_not true b e = inl refl
both_not false true e = inr refl
both_not false false e = absurd (let z : ◌≡◌ {A = ℕ} 0 1 = cc in omega arith)

module _ (s : List ℕ) where
  -- of the old length
  pub old_long : length s ≡ old_length (stored_n s) → length s ≡ length_with (width_of s) (stored_n s)
  old_long e = e ∙ ap (λ (w : ℕ). length_with w (stored_n s)) (sym (width_old s e))

  -- of the new one, which is the old one where there is no entry
  pub new_long : length s ≡ stored_length (stored_n s) → length s ≡ length_with (width_of s) (stored_n s)
  new_long e = go (ℕ_discrete (length s) (old_length (stored_n s)))
    where
      go : Dec (length s ≡ old_length (stored_n s)) → length s ≡ length_with (width_of s) (stored_n s)
      go (yes f) = old_long f
      go (no f) = e ∙ ap (λ (w : ℕ). length_with w (stored_n s)) (sym (width_other s f))

pub whole_room : (s : List ℕ) (n : ℕ) → n ≡ stored_n s → Whole s → length_with (width_of s) n ≤ length s
whole_room s n e h = subst (λ (k : ℕ). length_with (width_of s) k ≤ length s) (sym e) (omega (arith, h.long))

pub whole : (s : List ℕ) → torn s ≡ Fine → Whole s
unfolding torn
whole s e =
    let a = or_parts _ _ (decline_fine _ Torn e) in
    record { few = ltb-false max_places (stored_n s) a.0; long = go (both_not _ _ a.1) }
  where
    go : (eqb (length s) (old_length (stored_n s)) ≡ true) ⊎ (eqb (length s) (stored_length (stored_n s)) ≡ true)
        → length s ≡ length_with (width_of s) (stored_n s)
    go (inl h) = old_long s (eqb-true _ _ h)
    go (inr h) = new_long s (eqb-true _ _ h)

module _ (s : List ℕ) where
  whole_right : Whole s → eqb (length s) (old_length (stored_n s)) || eqb (length s) (stored_length (stored_n s)) ≡ true
  whole_right h = go (ℕ_discrete (length s) (old_length (stored_n s)))
    where
      go : Dec (length s ≡ old_length (stored_n s)) → eqb (length s) (old_length (stored_n s)) || eqb (length s) (stored_length (stored_n s)) ≡ true
      go (yes f) = rw (eq-eqb _ _ f)
      go (no f) =
          let e : length s ≡ stored_length (stored_n s) = h.long ∙ ap (λ (w : ℕ). length_with w (stored_n s)) (width_other s f) in
          rw (ne_eqb _ _ f, eq-eqb _ _ e)

  pub whole_fine : Whole s → torn s ≡ Fine
  unfolding torn
  whole_fine h = rw (le-ltb max_places (stored_n s) h.few, whole_right h)

  pub torn_many : max_places < stored_n s → torn s ≡ Declined Torn
  unfolding torn
  torn_many h = rw (lt-ltb max_places (stored_n s) h)

  pub torn_length : (length s ≡ old_length (stored_n s) → ⊥) → (length s ≡ stored_length (stored_n s) → ⊥) → torn s ≡ Declined Torn
  unfolding torn
  torn_length f g = rw (ne_eqb (length s) (old_length (stored_n s)) f, ne_eqb (length s) (stored_length (stored_n s)) g, or-true)

  -- bytes too few for the number of entries and the height
  pub torn_short : length s < head_width → torn s ≡ Declined Torn
  torn_short h = torn_length (λ e. omega arith) (λ e. omega arith)

-- ---- reading

stored_told : (s : List ℕ) (i : ℕ) → judge_stored s i ≡ Fine → (admit_stored (stored_entry s i) ≡ Fine) × (stored_multiplicity s i ≤ multiplicity_limit)
unfolding judge_stored judge_entry_by count_full
stored_told s i e =
    let a = or_both _ _ e in
    (a.0, ltb-false multiplicity_limit (stored_multiplicity s i) (decline_fine _ CountFull a.1))

stored_fine : (s : List ℕ) (i : ℕ) → admit_stored (stored_entry s i) ≡ Fine → stored_multiplicity s i ≤ multiplicity_limit → judge_stored s i ≡ Fine
unfolding judge_stored judge_entry_by count_full
stored_fine s i e m = or_next _ e ∙ decline_false CountFull (le-ltb multiplicity_limit (stored_multiplicity s i) m)

pub record Readable (h : HeldList) (s : List ℕ) : Type 0 where
  pub shape : HeldShaped h
  pub complete : Whole s
  pub room : stored_n s ≤ capacity h.list
  pub none_used : used h.list ≡ 0
  pub entries : (i : ℕ) → i < stored_n s → admit_stored (stored_entry s i) ≡ Fine
  pub counts : (i : ℕ) → i < stored_n s → stored_multiplicity s i ≤ multiplicity_limit
  pub distinct : repeats (stored_entries s) ≡ false
  pub tallied : stored_height s ≡ sum_heights (stored_entries s)

pub readable : (h : HeldList) (s : List ℕ) → read_reason h s ≡ Fine → Readable h s
unfolding read_reason content_reason tally
readable h s e =
    let a = or_both _ _ e in
    let b = or_both _ _ a.1 in
    let c = or_both _ _ b.1 in
    let d = or_both _ _ c.1 in
    let f = or_both _ _ d.1 in
    let full = or_parts (ltb (capacity h.list) (stored_n s)) _ (decline_fine _ ListFull c.0) in
    record {
      shape = held_shaped h a.0;
      complete = whole s b.0;
      room = ltb-false (capacity h.list) (stored_n s) full.0;
      none_used = let n = ltb-false 0 (used h.list) full.1 in omega arith;
      entries = λ i k. (stored_told s i (first_fine (judge_stored s) 0 (stored_n s) d.0 i zero-le (rw zero-add k))).0;
      counts = λ i k. (stored_told s i (first_fine (judge_stored s) 0 (stored_n s) d.0 i zero-le (rw zero-add k))).1;
      distinct = decline_fine _ Repeat f.0;
      tallied = eqb-true (stored_height s) (sum_heights (stored_entries s)) (decline_not_fine _ Tally f.1);
    }

-- 6: too many entries, or keys in the list
module _ (h : HeldList) (s : List ℕ) where
  too_many : capacity h.list < stored_n s → (ltb (capacity h.list) (stored_n s) || ltb 0 (used h.list)) ≡ true
  too_many k = rw (lt-ltb (capacity h.list) (stored_n s) k)

  has_keys : 0 < used h.list → (ltb (capacity h.list) (stored_n s) || ltb 0 (used h.list)) ≡ true
  has_keys k = rw (lt-ltb 0 (used h.list) k) (or-true (ltb (capacity h.list) (stored_n s)))

  has_room : stored_n s ≤ capacity h.list → used h.list ≡ 0 → (ltb (capacity h.list) (stored_n s) || ltb 0 (used h.list)) ≡ false
  has_room k n = rw (le-ltb (capacity h.list) (stored_n s) k, le-ltb 0 (used h.list) (omega arith))

pub readable_fine : (h : HeldList) (s : List ℕ) → Readable h s → read_reason h s ≡ Fine
unfolding read_reason content_reason tally
readable_fine h s w =
    or_next _ (held_shape_fine h w.shape)
    ∙ or_next _ (whole_fine s w.complete)
    ∙ or_next _ (decline_false ListFull (has_room h s w.room w.none_used))
    ∙ or_next _ (first_none _ 0 (stored_n s) (λ i p q. stored_fine s i (w.entries i (omega arith)) (w.counts i (omega arith))))
    ∙ or_next _ (decline_false Repeat w.distinct)
    ∙ rw (eq-eqb (stored_height s) (sum_heights (stored_entries s)) w.tallied)

-- reason by reason
module _ (h : HeldList) (s : List ℕ) where
  pub read_shape : {k : Refusal} → held_shape h ≡ Declined k → read_reason h s ≡ Declined k
  unfolding read_reason
  read_shape e = or_first _ e

  module _ (sh : held_shape h ≡ Fine) where
    pub read_torn : {k : Refusal} → torn s ≡ Declined k → read_reason h s ≡ Declined k
    unfolding read_reason
    read_torn e = or_next _ sh ∙ or_first _ e

    module _ (e : torn s ≡ Fine) where
      pub read_full : capacity h.list < stored_n s → read_reason h s ≡ Declined ListFull
      unfolding read_reason
      read_full k = or_next _ sh ∙ or_next _ e ∙ or_first _ (decline_true ListFull (too_many h s k))

      -- "reading onto a list with keys meets 6"
      pub read_used : 0 < used h.list → read_reason h s ≡ Declined ListFull
      unfolding read_reason
      read_used k = or_next _ sh ∙ or_next _ e ∙ or_first _ (decline_true ListFull (has_keys h s k))

      pub read_content : stored_n s ≤ capacity h.list → used h.list ≡ 0 → read_reason h s ≡ content_reason s
      unfolding read_reason
      read_content k n = or_next _ sh ∙ or_next _ e ∙ or_next _ (decline_false ListFull (has_room h s k n))

  -- what is due then
  pub read_refused : {k : Refusal} → read_reason h s ≡ Declined k → Leaves (read_all h s) (read_answer (Err k)) h
  unfolding read_all
  read_refused e = rw e (record { answer = refl; left = refl })

  pub read_done : (n : ℕ) (ks ms hs : List ℕ) → read_reason h s ≡ Fine → n ≡ stored_n s
      → ks ≡ sets h.list.keys 0 (flat_map (λ i. entry_words (stored_entry s i)) (places n))
      → ms ≡ sets h.list.multiplicities 0 (map (stored_multiplicity s) (places n))
      → hs ≡ sets h.holds 0 (replicate (n - 0) 0)
      → Leaves (read_all h s) (read_answer (Ok n)) (held_list (record { capacity = capacity h.list; used = n }) ks ms hs)
  unfolding read_all
  read_done n ks ms hs e en ek em eh = rw (e, ek, em, eh, sub-zero, en) (record { answer = refl; left = refl })

-- ---- writing

pub record Writable (h : HeldList) (out : List ℕ) : Type 0 where
  pub judged : judge_held h ≡ Fine
  pub distinct : repeats (map (entry_at (section_list h)) (places (used (section_list h)))) ≡ false
  pub room : stored_length (used (section_list h)) ≤ length out

pub writable : (h : HeldList) (out : List ℕ) → write_reason h out ≡ Fine → Writable h out
unfolding write_reason storing_reason
writable h out e =
    let a = or_both _ _ e in
    let b = or_both _ _ a.1 in
    let r = ltb-false (length out) (stored_length (length (stored_places (section_list h)))) (decline_fine _ Short b.1) in
    record {
      judged = a.0;
      distinct = ap repeats (sym (stored_entries_lem (section_list h))) ∙ decline_fine _ Repeat b.0;
      room = rw length_stored_places at r;
    }

-- reason by reason, of the list that is stored
module _ (l : U32List) (out : List ℕ) where
  pub store_repeat : repeats (map (entry_at l) (places (used l))) ≡ true → storing_reason l out ≡ Declined Repeat
  unfolding storing_reason
  store_repeat e = or_first _ (decline_true Repeat (ap repeats (stored_entries_lem l) ∙ e))

  module _ (none : repeats (map (entry_at l) (places (used l))) ≡ false) where
    pub store_short : length out < stored_length (used l) → storing_reason l out ≡ Declined Short
    unfolding storing_reason
    store_short k =
        or_next _ (decline_false Repeat (ap repeats (stored_entries_lem l) ∙ none))
        ∙ rw (length_stored_places l, lt-ltb (length out) (stored_length (used l)) k)

    pub store_fine : stored_length (used l) ≤ length out → storing_reason l out ≡ Fine
    unfolding storing_reason
    store_fine k =
        or_next _ (decline_false Repeat (ap repeats (stored_entries_lem l) ∙ none))
        ∙ rw (length_stored_places l, le-ltb (length out) (stored_length (used l)) k)

  -- what is due then
  module _ (reason : Judgement) where
    pub stored_refused : {k : Refusal} → reason ≡ Declined k → Leaves (stored_as reason l out) (written_answer (Err k)) out
    stored_refused e = rw e (record { answer = refl; left = refl })

    pub stored_done : (n m : ℕ) (after : List ℕ) → reason ≡ Fine → n ≡ stored_length (used l) → m ≡ list_height l
        → after ≡ sets out 0 (bytes_with m l) → Leaves (stored_as reason l out) (written_answer (Ok n)) after
    unfolding stored_bytes
    stored_done n m after e en em eb = rw (e, length_stored_places l, en, eb, em) (record { answer = refl; left = refl })

module _ (h : HeldList) (out : List ℕ) where
  pub write_judged : {k : Refusal} → judge_held h ≡ Declined k → write_reason h out ≡ Declined k
  unfolding write_reason
  write_judged e = or_first _ e

  pub write_refused : {k : Refusal} → judge_held h ≡ Declined k → Leaves (write_all h out) (written_answer (Err k)) out
  unfolding write_all
  write_refused e = stored_refused (section_list h) out (write_reason h out) (write_judged e)

  module _ (fine : judge_held h ≡ Fine) where
    -- what is left is the list that is stored
    pub write_reason_lem : write_reason h out ≡ storing_reason (section_list h) out
    unfolding write_reason
    write_reason_lem = or_next _ fine

    pub write_fine : repeats (map (entry_at (section_list h)) (places (used (section_list h)))) ≡ false → stored_length (used (section_list h)) ≤ length out
        → write_reason h out ≡ Fine
    write_fine none k = write_reason_lem ∙ store_fine (section_list h) out none k

    pub write_stores : (l : U32List) → l ≡ section_list h → {given : Answer} {after : List ℕ}
        → Leaves (stored_as (storing_reason l out) l out) given after → Leaves (write_all h out) given after
    unfolding write_all
    write_stores l e w = rw (write_reason_lem, ← e) w
