-- The two round trips, over `write_all` and `read_all`, which the contracts of writing and reading cite. That the second call does not refuse is a
-- conclusion of each. What was written holds the list's entries and multiplicities, since these fit the bytes that are given to them; what was
-- read is the stored form of what the bytes hold, and none of it is held, so that writing it does not meet 15. Where no multiplicity is 0, every place
-- that was read is counted, and all of it is written.
use mathlib.Core.Path.{◌≡◌, refl, sym, ap, ap₂, ◌∙◌}
use mathlib.Core.Bool.{false}
use mathlib.Core.Logic.{◌≢◌}
use mathlib.Core.List.{List, [], ◌∷◌, map, flat_map}
use native.Mathlib.Decide.{ℕ_discrete}
use Prim.Native.Nat.{ℕ, ◌≤◌, ◌<◌}
use native.Mathlib.Nat.{zero-add}
use native.Mathlib.Omega.{arith}
use lib.ListN.{length, get_or, take, replicate, length-replicate, get_or-replicate}
use lib.Seq.{sets, length-sets}
use Rattle.words.specs.Limits.{max_places}
use Rattle.words.specs.Answers.{Answer, done}
use Rattle.words.specs.Outcomes.{Outcome}
use Rattle.words.specs.Refusals.{Fine}
use Rattle.words.specs.LittleEndian.{le}
use Rattle.words.specs.Places.{places, places_from}
use Rattle.words.proofs.Outcomes.{outcome_fine, outcome_done}
use Rattle.words.proofs.Sets.{sets_front, take_sets_front, get_d_sets_in}
use Rattle.words.proofs.Places.{map_cong, flat_cong}
use Rattle.isa.specs.Entries.{admit_stored, admitted}
use Rattle.isa.proofs.Entries.{admissible_as_it_is, as_it_is}
use Rattle.list.specs.Lists.{U32List, capacity, used, key_at, multiplicity_at, entry_at, judge_list}
use Rattle.list.specs.Heights.{section_entries, sum_heights, list_height}
use Rattle.list.specs.Counted.{counted}
use Rattle.list.specs.Holds.{HeldList, hold_at, held_shape, section_list, judge_held}
use Rattle.list.proofs.JudgedLists.{list_admitted, admitted_fine, entry_admissible, list_height_small}
use Rattle.list.proofs.HeldLists.{HeldShaped, held_shaped, held_shape_fine, closed, held_fine, held_judged}
use Rattle.list.proofs.CountedLists.{fine_counted, all_used, all_entry, all_count, all_entries, all_height}
use Rattle.list.proofs.Places.{section_entries_map}
use Rattle.list_bytes.specs.Packed.{multiplicity_width, key_bytes, width_of, stored_length, stored_bytes, stored_n, stored_height, stored_entry, stored_multiplicity, stored_entries}
use Rattle.list_repeats.specs.Repeats.{repeats}
use Rattle.list_stored.specs.Stored.{read_reason, read_all, replaced_list, replaced, write_reason, write_all}
use Rattle.list_round_trips.specs.RoundTrips.{ReadsBack, NewForm, NoneZero, WrittenAgain}
use Rattle.list_bytes.proofs.StoredPlaces.{length_stored_places}
use Rattle.list_stored.proofs.Reasons.{new_long, Readable, readable, readable_fine, writable, write_fine}
use Rattle.list_bytes.proofs.Replaced.{keys_of, key_put, multiplicity_put}
use Rattle.list_stored.proofs.Fits.{length_stored}
use Rattle.list_bytes.proofs.Format.{keys_form, counts_form, formed, width_new, stored_formed, holds_n, holds_height, holds_entry, holds_multiplicity, formed_again}

-- ---- an answer other than a refusal

pub read_answered : (h : HeldList) (s : List ℕ) (n : ℕ) → (read_all h s).answer ≡ done (n ∷ []) → read_reason h s ≡ Fine
unfolding read_all
read_answered h s n e = outcome_done (read_reason h s) _ _ _ (ap (λ (a : Answer). a.number) e)

pub write_answered : (h : HeldList) (out : List ℕ) (n : ℕ) → (write_all h out).answer ≡ done (n ∷ []) → write_reason h out ≡ Fine
unfolding write_all
write_answered h out n e = outcome_done (write_reason h out) _ _ _ (ap (λ (a : Answer). a.number) e)

-- what is due then
pub read_is : (h : HeldList) (s : List ℕ) → read_reason h s ≡ Fine → read_all h s ≡ record { answer = done (stored_n s ∷ []); left = replaced h s }
unfolding read_all
read_is h s e = outcome_fine _ _ _ e

pub written_is : (h : HeldList) (out : List ℕ) → write_reason h out ≡ Fine
    → write_all h out ≡ record { answer = done (stored_length (used (section_list h)) ∷ []); left = sets out 0 (stored_bytes (section_list h)) }
unfolding write_all
written_is h out e = outcome_fine _ _ _ e ∙ rw (length_stored_places (section_list h))

pub written_length : (h : HeldList) (out : List ℕ) (n : ℕ) → (write_all h out).answer ≡ done (n ∷ []) → n ≡ stored_length (used (section_list h))
written_length h out n a =
    ap (λ (x : Answer). get_or x.values 0 0) (sym a ∙ ap (λ (w : Outcome (List ℕ)). w.answer) (written_is h out (write_answered h out n a)))

-- ---- what a list that was read holds

module _ (h : HeldList) (s : List ℕ) (w : Readable h s) where
  replaced_key : (i : ℕ) → i < stored_n s → key_at (replaced_list h.list s) i ≡ stored_entry s i
  replaced_key i p =
      let f = w.shape in
      let l = replaced_list h.list s in
      key_put (stored_entry s) (stored_n s) h.list.keys (omega (arith, w.room)) l.sizes l.multiplicities i p

  replaced_multiplicity : (i : ℕ) → i < stored_n s → multiplicity_at (replaced_list h.list s) i ≡ stored_multiplicity s i
  replaced_multiplicity i p =
      let f = w.shape in
      let l = replaced_list h.list s in
      multiplicity_put (stored_multiplicity s) (stored_n s) h.list.multiplicities (omega (arith, w.room)) l.sizes l.keys i p

  replaced_entry : (i : ℕ) → i < stored_n s → entry_at (replaced_list h.list s) i ≡ stored_entry s i
  unfolding entry_at
  replaced_entry i p = ap admitted (replaced_key i p) ∙ (as_it_is (stored_entry s i) (w.entries i p)).1

  replaced_entries : map (entry_at (replaced_list h.list s)) (places (stored_n s)) ≡ stored_entries s
  replaced_entries = map_cong (entry_at (replaced_list h.list s)) (stored_entry s) 0 (stored_n s) (λ i p q. replaced_entry i (omega arith))

  -- none of it is held
  replaced_hold : (i : ℕ) → i < stored_n s → hold_at (replaced h s) i ≡ 0
  unfolding hold_at
  replaced_hold i p =
      let f = w.shape in
      let e = length-replicate {A = ℕ} (stored_n s) 0 in
      ap (λ (a : ℕ). get_or (sets h.holds 0 (replicate (stored_n s) 0)) a 0) (sym (zero-add i))
      ∙ get_d_sets_in (replicate (stored_n s) 0) h.holds 0 i 0 (omega arith) (omega (arith, w.room))
      ∙ get_or-replicate (stored_n s) i 0 0 p

height_sum : (l : U32List) → list_height l ≡ sum_heights (map (entry_at l) (places (used l)))
unfolding list_height
height_sum l = ap sum_heights (section_entries_map l)

-- every place counts: the counted list has the same bytes
all_bytes : (l : U32List) → ((i : ℕ) → i < used l → multiplicity_at l i ≢ 0) → stored_bytes (counted l) ≡ stored_bytes l
all_bytes l f =
    let m = counted l in
    let K : keys_form (entry_at m) (used l) ≡ keys_form (entry_at l) (used l)
    = flat_cong _ _ 0 (used l) (λ i p q. ap key_bytes (all_entry l f i (omega arith))) in
    let C : counts_form multiplicity_width (multiplicity_at m) (used l) ≡ counts_form multiplicity_width (multiplicity_at l) (used l)
    = flat_cong _ _ 0 (used l) (λ i p q. ap (le multiplicity_width) (all_count l f i (omega arith))) in
    stored_formed m
    ∙ ap (λ (n : ℕ). formed multiplicity_width (entry_at m) (multiplicity_at m) n (list_height m)) (all_used l f)
    ∙ rw (K, C, all_height l f) refl
    ∙ sym (stored_formed l)

-- ---- what was written reads back

module _ (l : U32List) (fine : judge_list l ≡ Fine) where
  few : used l ≤ max_places
  few = let f = (list_admitted l fine).shape in omega arith

  stored_n_lem : stored_n (stored_bytes l) ≡ used l
  stored_n_lem = let u = few in rw (stored_formed l) (holds_n multiplicity_width (entry_at l) (multiplicity_at l) (used l) (list_height l) (omega arith))

  stored_height_lem : stored_height (stored_bytes l) ≡ list_height l
  stored_height_lem =
      let h = list_height_small l fine in
      rw (stored_formed l) (holds_height multiplicity_width (entry_at l) (multiplicity_at l) (used l) (list_height l) (omega arith))

  stored_entry_lem : (i : ℕ) → i < used l → stored_entry (stored_bytes l) i ≡ entry_at l i
  stored_entry_lem i p =
      rw (stored_formed l) (holds_entry multiplicity_width (entry_at l) (multiplicity_at l) (used l) (list_height l) i p (entry_admissible l fine i p))

  stored_multiplicity_lem : (i : ℕ) → i < used l → stored_multiplicity (stored_bytes l) i ≡ multiplicity_at l i
  stored_multiplicity_lem i p =
      let u = few in
      let m = (list_admitted l fine).multiplicity i p in
      rw (stored_formed l) (holds_multiplicity (entry_at l) (multiplicity_at l) (used l) (list_height l) i (omega arith) p (omega arith))

  stored_list_lem : stored_entries (stored_bytes l) ≡ map (entry_at l) (places (used l))
  stored_list_lem = rw stored_n_lem (map_cong (stored_entry (stored_bytes l)) (entry_at l) 0 (used l) (λ i p q. stored_entry_lem i (omega arith)))

  stored_admitted : (i : ℕ) → i < used l → admit_stored (entry_at l i) ≡ Fine
  stored_admitted i p = admissible_as_it_is (entry_at l i) (entry_admissible l fine i p)

  module _ (none : repeats (map (entry_at l) (places (used l))) ≡ false) (to : HeldList) (sh : HeldShaped to) (unused : used to.list ≡ 0)
      (room : used l ≤ capacity to.list) where
    stored_readable : Readable to (stored_bytes l)
    stored_readable = record {
      shape = sh;
      complete = record { few = rw stored_n_lem few; long = new_long (stored_bytes l) (length_stored l ∙ ap stored_length (sym stored_n_lem)) };
      room = rw stored_n_lem room;
      none_used = unused;
      entries = λ i p. let q : i < used l = rw stored_n_lem at p in rw (stored_entry_lem i q) (stored_admitted i q);
      counts = λ i p. let q : i < used l = rw stored_n_lem at p in rw (stored_multiplicity_lem i q) ((list_admitted l fine).multiplicity i q);
      distinct = rw stored_list_lem none;
      tallied = rw stored_list_lem (stored_height_lem ∙ height_sum l);
    }

    stored_reads : ReadsBack l (read_all to (stored_bytes l))
    stored_reads =
        let r = stored_readable in
        rw (read_is to (stored_bytes l) (readable_fine to (stored_bytes l) r))
        (record {
          answer = rw stored_n_lem;
          list = record {
            count = stored_n_lem;
            keys = λ i p. replaced_key to (stored_bytes l) r i (rw stored_n_lem p) ∙ stored_entry_lem i p;
            multiplicities = λ i p. replaced_multiplicity to (stored_bytes l) r i (rw stored_n_lem p) ∙ stored_multiplicity_lem i p;
          };
          holds = λ i p. replaced_hold to (stored_bytes l) r i (rw stored_n_lem p);
        })

-- Writing has answered n: the first n bytes, read onto any list of right shape with no key and room for the entries, give the counted list
pub written_reads_back : (h to : HeldList) (out : List ℕ) (n : ℕ)
    → (write_all h out).answer ≡ done (n ∷ []) → held_shape to ≡ Fine → used to.list ≡ 0 → used (section_list h) ≤ capacity to.list
    → ReadsBack (section_list h) (read_all to (take n (write_all h out).left))
written_reads_back h to out n a sh unused room =
    let e = write_answered h out n a in
    let w = writable h out e in
    let k = written_length h out n a in
    let l = section_list h in
    let b : take n (write_all h out).left ≡ stored_bytes l
    = rw (written_is h out e) (take_sets_front (stored_bytes l) out n (length_stored l ∙ sym k) (omega (arith, w.room))) in
    rw b (stored_reads l (held_judged h w.judged) w.distinct to (held_shaped to sh) unused room)

-- ---- what was accepted is written again

module _ (h : HeldList) (s : List ℕ) (w : Readable h s) where
  replaced_shape : HeldShaped (replaced h s)
  replaced_shape =
      let f = w.shape in
      record {
        list = record {
          small = f.list.small;
          within = w.room;
          keys = length-sets h.list.keys 0 (keys_of (stored_entry s) (stored_n s)) ∙ f.list.keys;
          multiplicities = length-sets h.list.multiplicities 0 (map (stored_multiplicity s) (places (stored_n s))) ∙ f.list.multiplicities;
        };
        holds = length-sets h.holds 0 (replicate (stored_n s) 0) ∙ f.holds;
      }

  replaced_fine : judge_list (replaced_list h.list s) ≡ Fine
  replaced_fine =
      admitted_fine (replaced_list h.list s)
      (record {
        shape = replaced_shape.list;
        entry = λ i p. rw (replaced_key h s w i p) (as_it_is (stored_entry s i) (w.entries i p)).0;
        multiplicity = λ i p. rw (replaced_multiplicity h s w i p) (w.counts i p);
      })

  -- what gets sections of it: its counted places
  replaced_sections : section_list (replaced h s) ≡ counted (replaced_list h.list s)
  unfolding section_list
  replaced_sections = refl

  replaced_judged : judge_held (replaced h s) ≡ Fine
  replaced_judged =
      held_fine (replaced h s) (held_shape_fine (replaced h s) replaced_shape) (closed (replaced h s) (replaced_hold h s w))
      (rw replaced_sections (fine_counted (replaced_list h.list s) replaced_fine))

  replaced_height : list_height (replaced_list h.list s) ≡ stored_height s
  replaced_height = height_sum (replaced_list h.list s) ∙ ap sum_heights (replaced_entries h s w) ∙ sym w.tallied

  -- the bytes of the list that was read: the same, with multiplicities of eight bytes
  replaced_form : stored_bytes (replaced_list h.list s) ≡ formed multiplicity_width (stored_entry s) (stored_multiplicity s) (stored_n s) (stored_height s)
  replaced_form =
      let l = replaced_list h.list s in
      let K : keys_form (entry_at l) (stored_n s) ≡ keys_form (stored_entry s) (stored_n s)
      = flat_cong _ _ 0 (stored_n s) (λ i p q. rw (replaced_entry h s w i (omega arith))) in
      let C : counts_form multiplicity_width (multiplicity_at l) (stored_n s) ≡ counts_form multiplicity_width (stored_multiplicity s) (stored_n s)
      = flat_cong _ _ 0 (stored_n s) (λ i p q. rw (replaced_multiplicity h s w i (omega arith))) in
      stored_formed l ∙ rw (K, C, replaced_height)

  replaced_distinct : repeats (map (entry_at (replaced_list h.list s)) (places (stored_n s))) ≡ false
  replaced_distinct = ap repeats (replaced_entries h s w) ∙ w.distinct

  module _ (none : NoneZero s) where
    each_counted : (i : ℕ) → i < stored_n s → multiplicity_at (replaced_list h.list s) i ≢ 0
    each_counted i p e = none i p (sym (replaced_multiplicity h s w i p) ∙ e)

    sections_used : used (section_list (replaced h s)) ≡ stored_n s
    sections_used = ap (λ (l : U32List). used l) replaced_sections ∙ all_used (replaced_list h.list s) each_counted

    sections_bytes : stored_bytes (section_list (replaced h s)) ≡ stored_bytes (replaced_list h.list s)
    sections_bytes = ap stored_bytes replaced_sections ∙ all_bytes (replaced_list h.list s) each_counted

    sections_distinct : repeats (map (entry_at (section_list (replaced h s))) (places (used (section_list (replaced h s))))) ≡ false
    sections_distinct =
        ap repeats
        (sym (section_entries_map (section_list (replaced h s)))
        ∙ ap (λ (l : U32List). section_entries l) replaced_sections
        ∙ all_entries (replaced_list h.list s) each_counted
        ∙ section_entries_map (replaced_list h.list s))
        ∙ replaced_distinct

    -- no reason is left against writing it, 15 neither
    replaced_written : (out : List ℕ) → stored_length (stored_n s) ≤ length out → write_reason (replaced h s) out ≡ Fine
    replaced_written out r = write_fine (replaced h s) out replaced_judged sections_distinct (rw sections_used r)

    -- all of it is written
    again_is : (out : List ℕ) → stored_length (stored_n s) ≤ length out
        → write_all (replaced h s) out ≡ record { answer = done (stored_length (stored_n s) ∷ []); left = sets out 0 (stored_bytes (replaced_list h.list s)) }
    again_is out r =
        written_is (replaced h s) out (replaced_written out r)
        ∙ ap₂ (λ (n : ℕ) (b : List ℕ). record { answer = done (stored_length n ∷ []); left = sets out 0 b }) sections_used sections_bytes

  -- they hold the list that s holds
  again_readable : Readable h (stored_bytes (replaced_list h.list s))
  again_readable = stored_readable (replaced_list h.list s) replaced_fine replaced_distinct h w.shape w.none_used w.room

  again_list : replaced h (stored_bytes (replaced_list h.list s)) ≡ replaced h s
  again_list =
      let l = replaced_list h.list s in
      let t = stored_bytes l in
      let n : stored_n t ≡ stored_n s = stored_n_lem l replaced_fine in
      let K : keys_of (stored_entry t) (stored_n s) ≡ keys_of (stored_entry s) (stored_n s)
      = flat_cong _ _ 0 (stored_n s) (λ i p q. rw (stored_entry_lem l replaced_fine i (omega arith), replaced_entry h s w i (omega arith))) in
      let M : map (stored_multiplicity t) (places (stored_n s)) ≡ map (stored_multiplicity s) (places (stored_n s))
      = map_cong _ _ 0 (stored_n s) (λ i p q. stored_multiplicity_lem l replaced_fine i (omega arith) ∙ replaced_multiplicity h s w i (omega arith)) in
      rw (n, K, M)

module _ (h : HeldList) (s : List ℕ) (bytes : (j : ℕ) → get_or s j 0 < 256) (w : Readable h s) where
  -- where s has the new length, they are s
  replaced_bytes : length s ≡ stored_length (stored_n s) → stored_bytes (replaced_list h.list s) ≡ s
  unfolding places_from flat_map
  replaced_bytes long = replaced_form h s w ∙ go (ℕ_discrete (stored_n s) 0) ∙ formed_again s bytes (stored_n s) (stored_height s) w.complete.long refl refl
    where
      go : Dec (stored_n s ≡ 0)
          → formed multiplicity_width (stored_entry s) (stored_multiplicity s) (stored_n s) (stored_height s)
          ≡ formed (width_of s) (stored_entry s) (stored_multiplicity s) (stored_n s) (stored_height s)
      go (yes z) = rw z refl
      go (no f) = ap (λ (v : ℕ). formed v (stored_entry s) (stored_multiplicity s) (stored_n s) (stored_height s)) (sym (width_new s long (omega arith)))

  new_form : NewForm h s (stored_bytes (replaced_list h.list s))
  new_form =
      let t = stored_bytes (replaced_list h.list s) in
      record {
        long = length_stored (replaced_list h.list s);
        same_list =
            read_is h t (readable_fine h t (again_readable h s w))
            ∙ ap₂ (λ (n : ℕ) (r : HeldList). record { answer = done (n ∷ []); left = r })
            (stored_n_lem (replaced_list h.list s) (replaced_fine h s w)) (again_list h s w)
            ∙ sym (read_is h s (readable_fine h s w));
        same_bytes = replaced_bytes;
      }

-- Reading has answered n, and no multiplicity is 0: the list that it left is written in the new form, wherever there is room for it
pub read_writes_back : (h : HeldList) (s out : List ℕ) (n : ℕ) → ((j : ℕ) → get_or s j 0 < 256)
    → (read_all h s).answer ≡ done (n ∷ []) → NoneZero s → stored_length (stored_n s) ≤ length out
    → (t : List ℕ) × NewForm h s t × WrittenAgain t out (write_all (read_all h s).left out)
read_writes_back h s out n bytes a none room =
    let e = read_answered h s n a in
    let w = readable h s e in
    let t = stored_bytes (replaced_list h.list s) in
    let k = length_stored (replaced_list h.list s) in (
      t,
      new_form h s bytes w,
      rw (read_is h s e, again_is h s w none out room)
          (record { answer = ap (λ (k : ℕ). done (k ∷ [])) (sym k); bytes = sets_front t out (omega arith) }),
    )

-- a list that was read is admitted, and none of it is held
pub read_list_fine : (h : HeldList) (s : List ℕ) → read_reason h s ≡ Fine → judge_held (read_all h s).left ≡ Fine
read_list_fine h s e = rw (read_is h s e) (replaced_judged h s (readable h s e))
