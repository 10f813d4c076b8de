-- THE LAW of the client's sum: for every list of accepted recordings from a fresh list (client_is_server), for an accepted replay (replay_is_server), and
-- for any calls after which no hold is open (calls_are_server). From a fresh list the sum over the places is (0, 0, 0), and each accepted recording and
-- confirm adds the inverse of its denominator, as the client does, while a hold and a drop add nothing; the sum over the places is the sum over the first
-- rows, which is what fill, pad and extend make. The list stays admitted and no hold is open, so fill does not decline; a key that gets a section has a
-- count, so it was counted, and the denominators of what was counted are not zero: extend does not decline. Assumes nothing.
use Prim.Native.Nat.{ℕ, ◌<◌}
use mathlib.Core.Path.{◌≡◌, refl, sym, ap, ◌∙◌, subst}
use mathlib.Core.Logic.{◌≢◌}
use mathlib.Core.Bool.{Bool, true, false}
use mathlib.Core.List.{List, [], ◌∷◌, ◌++◌, flat_map}
use native.Mathlib.Nat.{zero-add}
use native.Mathlib.Omega.{arith}
use lib.ListN.{length}
use Rattle.words.specs.Outcomes.{Outcome}
use Rattle.words.specs.Refusals.{Fine}
use Rattle.words.proofs.Outcomes.{answered_fine}
use Rattle.xfield.specs.Extension.{Ext, zero_x, add_x}
use Rattle.xfield.specs.Inverses.{inv_x}
use Rattle.isa.specs.declared.U32TableEntry.{U32TableEntry}
use Rattle.isa.specs.Entries.{judge_as_it_is, judge_entry, admitted}
use Rattle.isa.proofs.Entries.{judged_admissible, admissible_same, admissible_fine}
use Rattle.list.specs.Lists.{U32List, used, multiplicity_at, entry_at, judge_list}
use Rattle.list.specs.Keys.{same_key}
use Rattle.list.specs.Heights.{list_height}
use Rattle.list.specs.Counted.{counted_places}
use Rattle.list.specs.Holds.{HeldList, open_hold, section_list, judge_held}
use Rattle.list.proofs.JudgedLists.{ListAdmitted, admitted_fine}
use Rattle.list.proofs.Finding.{same_key_equal}
use Rattle.list.proofs.CountedLists.{counted_used, counted_each, counted_entry, counted_admitted}
use Rattle.list.proofs.HeldLists.{HeldShaped, held_shaped, held_shape_fine, held_fine}
use Rattle.list_record.specs.Recording.{record_each}
use Rattle.list_record.proofs.RecordEach.{number_of}
use Rattle.list_record.proofs.Views.{View, EachPlace, changed_each, appended_each}
use Rattle.list_record.proofs.RecordViews.{view_of, PlaceAdmitted, PlaceClosed, places_admitted, places_closed, EachEntry}
use Rattle.list_record.proofs.RecordViews.{each_shaped, each_keeps_admitted, each_keeps_closed, each_entry, each_key}
use Rattle.list_replay.specs.Replay.{replay_all, trace_entries}
use Rattle.list_replay.proofs.Replays.{replay_records}
use Rattle.list_laws.specs.Calls.{Call, after, counted, occurrences, Fresh}
use Rattle.list_laws.proofs.Law.{multiplicity_is}
use Rattle.list_laws.proofs.Carried.{Carried, calls_carry, calls_shaped}
use Rattle.list_laws.proofs.Placed.{StandsIn, counted_placed}
use Rattle.table.specs.Challenges.{Challenges, challenges_of}
use Rattle.sums.specs.RunningSum.{element_words}
use Rattle.sums.proofs.PlainSums.{sum_x}
use Rattle.fill.specs.Filling.{fill_reason}
use Rattle.four_calls.specs.FourCalls.{first_rows_of, sum_from, extend_refusals, NoneRefuses}
use Rattle.four_calls.proofs.FourCalls.{none_refuses, four_calls}
use Rattle.client_sum.specs.Client.{entry_denominator, client_sum, client_reason, client_all}
use Rattle.client_sum.proofs.Sums.{client_none}
use Rattle.client_law.specs.ClientLaw.{NoZeroDenominator, RightlyLent, request_words, SumsAgree}
use Rattle.client_law.specs.ClientLaw.{ClientIsServer, ReplayIsServer, CallsAreServer}
use Rattle.client_law.proofs.TermSums.{term_sum, counted_sum, kept_sum, new_sum, none_sum, client_more, recordings_sum}
use Rattle.client_law.proofs.Requests.{client_fine, not_zero}
use Rattle.client_law.proofs.Servers.{server_sum, NoZeroSection, none_zero_lem, fill_fine, extend_fine, last_sum}

-- ---- what the law needs of a list h and of what was counted, es: both ends' calls do their work, and the sums are one

module _ (h : HeldList) (es : List U32TableEntry) (table aux challenges : List ℕ) (judged : judge_held h ≡ Fine)
    (same : term_sum (challenges_of challenges) (view_of h) ≡ client_sum (request_words es) challenges)
    (asks : client_reason (request_words es) challenges ≡ Fine) (n : NoZeroSection (challenges_of challenges) (section_list h))
    (lent : RightlyLent (list_height (section_list h)) table aux challenges) where
  abbrev c : Challenges
  c = challenges_of challenges

  abbrev l : U32List
  l = section_list h

  abbrev the_sum : Ext
  the_sum = client_sum (request_words es) challenges

  -- the two sums
  sums_same : sum_from c zero_x (first_rows_of l) ≡ the_sum
  sums_same = server_sum c h ∙ same

  fills : fill_reason h table ≡ Fine
  fills = fill_fine h table aux challenges lent judged

  extends : extend_refusals l table aux challenges ≡ Fine
  extends = extend_fine h table aux challenges lent (none_zero_lem c l n)

  none : NoneRefuses h table aux challenges (list_height l) (element_words the_sum)
  none =
      subst (λ (x : Ext). NoneRefuses h table aux challenges (list_height l) (element_words x)) sums_same
      (none_refuses h table aux challenges fills extends)

  pub sums_agree : SumsAgree h es table aux challenges
  unfolding client_all
  sums_agree = record {
    client = answered_fine (element_words the_sum) asks;
    server = none;
    last = λ some. last_sum h table aux challenges lent fills extends some ∙ sums_same;
    zero = λ some. (four_calls h table aux challenges (list_height l) (element_words the_sum) some none).zero;
  }

-- what gets sections of an admitted list is judged fine, and so is the list, where no hold is open
section_fine : (h : HeldList) → ListAdmitted h.list → judge_list (section_list h) ≡ Fine
unfolding section_list
section_fine h a = admitted_fine (section_list h) (counted_admitted h.list a)

pub section_judged : (h : HeldList) → HeldShaped h → EachPlace PlaceAdmitted (view_of h) → judge_list (section_list h) ≡ Fine
section_judged h s each = section_fine h (places_admitted h s.list each)

pub judged_fine : (h : HeldList) → HeldShaped h → open_hold h ≡ Fine → EachPlace PlaceAdmitted (view_of h) → judge_held h ≡ Fine
judged_fine h s o each = held_fine h (held_shape_fine h s) o (section_judged h s each)

-- ---- a fresh list

fresh_each : (P : U32TableEntry → ℕ → ℕ → Type 0) (h : HeldList) → Fresh h → EachPlace P (view_of h)
unfolding view_of
fresh_each P h f i b = absurd (omega (arith, f.unused))

fresh_admitted : (h : HeldList) → Fresh h → ListAdmitted h.list
fresh_admitted h f = places_admitted h (held_shaped h f.shape).list (fresh_each PlaceAdmitted h f)

fresh_sum : (challenges : List ℕ) (h : HeldList) → Fresh h → term_sum (challenges_of challenges) (view_of h) ≡ client_sum (request_words []) challenges
unfolding term_sum sum_x view_of flat_map
fresh_sum challenges h f = rw f.unused (sym (client_none challenges))

-- ---- recordings one after the other

keys_section : (c : Challenges) (h : HeldList) → EachPlace (λ k m g. entry_denominator c k ≢ zero_x) (view_of h)
    → NoZeroSection c (section_list h)
unfolding view_of section_list
keys_section c h each i u =
    let b : i < length (counted_places h.list) = rw (counted_used h.list) at u in
    subst (λ (k : U32TableEntry). entry_denominator c k ≢ zero_x) (sym (counted_entry h.list i b)) (each _ (counted_each h.list (used h.list) i b).0)

pub client_is_server : (h : HeldList) (es : List U32TableEntry) (table aux challenges : List ℕ) → ClientIsServer h es table aux challenges
client_is_server h es table aux challenges fresh z n lent =
    let c = challenges_of challenges in
    let m = (record_each h es).left in
    let s = each_shaped h es z (held_shaped h fresh.shape) in
    let o = places_closed m (each_keeps_closed h es z (fresh_each PlaceClosed h fresh)) in
    let a = each_keeps_admitted h es z (fresh_admitted h fresh) in
    sums_agree m es table aux challenges
    (held_fine m (held_shape_fine m s) o (section_fine m a))
    (recordings_sum challenges h [] es z (fresh_sum challenges h fresh))
    (client_fine challenges es lent.challenges_shaped lent.challenges_reduced (each_entry h es z) n)
    (keys_section c m
    (each_key (λ k. entry_denominator c k ≢ zero_x) h es z (fresh_each (λ k m g. entry_denominator c k ≢ zero_x) h fresh) (not_zero challenges es n)))
    lent

-- an accepted replay is its steps' entries recorded one after the other
pub replay_is_server : (h : HeldList) (trace table aux challenges : List ℕ) → ReplayIsServer h trace table aux challenges
replay_is_server h trace table aux challenges fresh z n lent =
    let same = replay_records h trace z in
    let left : (record_each h (trace_entries trace)).left ≡ (replay_all h trace).left = ap (λ (o : Outcome HeldList). o.left) same in
    subst (λ (m : HeldList). SumsAgree m (trace_entries trace) table aux challenges) left
    (client_is_server h (trace_entries trace) table aux challenges fresh (ap number_of same) n
    (subst (λ (m : HeldList). RightlyLent (list_height (section_list m)) table aux challenges) (sym left) lent))

-- ---- any calls

pub as_it_is : (k : U32TableEntry) → judge_as_it_is k ≡ Fine → admitted k ≡ k
as_it_is k q = admissible_same k (judged_admissible k q)

module _ (challenges : List ℕ) where
  -- the keys are admitted, and the sum over the places is the client's over what was counted
  abbrev pub Priced : View → List U32TableEntry → Type 0
  Priced v es = EachPlace PlaceAdmitted v × (term_sum (challenges_of challenges) v ≡ client_sum (request_words es) challenges)

  -- one more of an admitted key
  priced_more : (a b : View) (k : U32TableEntry) (es : List U32TableEntry) → judge_as_it_is k ≡ Fine
      → term_sum (challenges_of challenges) a ≡ client_sum (request_words es) challenges
      → term_sum (challenges_of challenges) b ≡ add_x (term_sum (challenges_of challenges) a) (inv_x (entry_denominator (challenges_of challenges) k))
      → term_sum (challenges_of challenges) b ≡ client_sum (request_words (es ++ (k ∷ []))) challenges
  priced_more a b k es fine same more =
      let c = challenges_of challenges in
      more
      ∙ ap (λ (x : Ext). add_x x (inv_x (entry_denominator c k))) same
      ∙ ap (λ (g : U32TableEntry). add_x (client_sum (request_words es) challenges) (inv_x (entry_denominator c g))) (sym (as_it_is k fine))
      ∙ client_more challenges es k

  pub priced_carried : Carried Priced
  priced_carried =
      let c = challenges_of challenges in
      record {
        counted = λ a b i g es m r s.
            let fine = (s.0 i r.inside).0 in
            (changed_each PlaceAdmitted r s.0 (fine, m), priced_more a b (a.key i) es fine s.1 (counted_sum c r));
        kept = λ a b i g es r s. (changed_each PlaceAdmitted r s.0 (s.0 i r.inside), kept_sum c r ∙ s.1);
        new = λ a b k g es fine u r s. (appended_each PlaceAdmitted r s.0 (fine, omega arith), priced_more a b k es fine s.1 (new_sum c r));
        none = λ a b k g es fine u r s. (appended_each PlaceAdmitted r s.0 (fine, omega arith), none_sum c r ∙ s.1);
      }

-- what is counted stands at a used place of an admitted list
module _ (h : HeldList) (each : EachPlace PlaceAdmitted (view_of h)) where
  standing_fine : (e : U32TableEntry) → StandsIn h e → judge_as_it_is e ≡ Fine
  unfolding view_of
  standing_fine e s = subst (λ (k : U32TableEntry). judge_as_it_is k ≡ Fine) s.2 (each s.0 s.1).0

  standing_entries : (es : List U32TableEntry) → EachEntry (StandsIn h) es → EachEntry (λ e. judge_entry e ≡ Fine) es
  standing_entries [] s = tt
  standing_entries (e ∷ es) s = (admissible_fine e (judged_admissible e (standing_fine e s.0)), standing_entries es s.1)

-- a key that occurs among entries without a zero denominator has none
occurs_denominator : (c : Challenges) (k : U32TableEntry) → admitted k ≡ k → (es : List U32TableEntry) → occurrences k es ≢ 0
    → NoZeroDenominator c es → entry_denominator c k ≢ zero_x
unfolding occurrences
occurs_denominator c k q [] f n = absurd (f refl)
occurs_denominator c k q (e ∷ es) f n = go (occurs_denominator c k q es) (same_key e k) refl where
  go : (occurrences k es ≢ 0 → NoZeroDenominator c es → entry_denominator c k ≢ zero_x) → (t : Bool) → same_key e k ≡ t → entry_denominator c k ≢ zero_x
  go rest true s = subst (λ (x : U32TableEntry). entry_denominator c x ≢ zero_x) (ap admitted (same_key_equal e k s) ∙ q) n.0
  go rest false s = rest (λ o. f (rw s (zero-add (occurrences k es) ∙ o))) n.1

-- a key that gets a section has a count, so it is among what was counted
pub counted_section : (c : Challenges) (h : HeldList) → EachPlace PlaceAdmitted (view_of h) → (es : List U32TableEntry)
    → ((i : ℕ) → i < used h.list → multiplicity_at h.list i ≡ occurrences (entry_at h.list i) es)
    → NoZeroDenominator c es → NoZeroSection c (section_list h)
unfolding view_of section_list
counted_section c h each es placed n i u =
    let b : i < length (counted_places h.list) = rw (counted_used h.list) at u in
    let at = counted_each h.list (used h.list) i b in
    subst (λ (k : U32TableEntry). entry_denominator c k ≢ zero_x) (sym (counted_entry h.list i b))
    (occurs_denominator c _ (as_it_is _ (each _ at.0).0) es (λ o. at.1 (placed _ at.0 ∙ o)) n)

pub calls_are_server : (h : HeldList) (cs : List Call) (table aux challenges : List ℕ) → CallsAreServer h cs table aux challenges
calls_are_server h cs table aux challenges fresh closed n lent =
    let m = after h cs in
    let es = counted h cs in
    let s = calls_shaped h cs (held_shaped h fresh.shape) in
    let t = calls_carry (Priced challenges) (priced_carried challenges) h cs []
    (fresh_each PlaceAdmitted h fresh, fresh_sum challenges h fresh) in
    let at = counted_placed h cs fresh in
    let c = challenges_of challenges in
    sums_agree m es table aux challenges (judged_fine m s closed t.0) t.1
    (client_fine challenges es lent.challenges_shaped lent.challenges_reduced (standing_entries m t.0 es at) n)
    (counted_section c m t.0 es (multiplicity_is h cs fresh).placed n)
    lent
