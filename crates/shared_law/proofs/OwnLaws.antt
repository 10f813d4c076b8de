-- The laws of requests 6 and 2 of a recorder on the shared list, over any calls of both (own_multiplicity, own_calls_are_server). What is true of the places of
-- its list and of what its calls counted stays so by each kind of change that its own calls make (Carried), and where the other's keys come to stand there
-- without count and holds; so it is true after any calls (own_run). Assumes nothing.
use Prim.Native.Nat.{ℕ, ◌≤◌, ◌<◌}
use mathlib.Core.Path.{◌≡◌, refl, sym, ap, ◌∙◌, subst}
use mathlib.Core.Bool.{true, false, cond}
use mathlib.Core.List.{List, [], ◌∷◌, ◌++◌, append-nil, append_assoc, flat_map}
use mathlib.Core.Logic.{◌⊎◌, inl, inr}
use native.Mathlib.Decide.{dec_lt}
use native.Mathlib.Omega.{arith}
use Rattle.words.specs.Refusals.{Fine}
use Rattle.isa.specs.declared.U32TableEntry.{U32TableEntry}
use Rattle.isa.specs.Entries.{judge_as_it_is, judge_entry}
use Rattle.isa.proofs.Entries.{judged_admissible, admissible_fine}
use Rattle.list_record.proofs.Views.{View, EachPlace}
use Rattle.list_record.proofs.RecordViews.{view_of, EachEntry}
use Rattle.list_laws.specs.Calls.{Call, counts, occurrences}
use Rattle.list_laws.proofs.Distinct.{Distinct}
use Rattle.list_laws.proofs.Tallies.{Tallied}
use Rattle.list_laws.proofs.Carried.{Carried, call_carries}
use Rattle.list_laws.proofs.Law.{Lawful, lawful_carried}
use Rattle.table.specs.Challenges.{challenges_of}
use Rattle.sums.proofs.PlainSums.{sum_x}
use Rattle.client_sum.specs.Client.{client_sum}
use Rattle.client_sum.proofs.Sums.{client_none}
use Rattle.client_law.specs.ClientLaw.{request_words}
use Rattle.client_law.proofs.TermSums.{term_sum}
use Rattle.client_law.proofs.Requests.{client_fine}
use Rattle.client_law.proofs.ClientLaw.{judged_fine, Priced, priced_carried, counted_section, sums_agree}
use Rattle.list_shared.specs.Shared.{Shared}
use Rattle.shared_law.specs.Recorders.{Recorder, SharedList, own, call_shared, Made, made, run, FreshShared}
use Rattle.shared_law.specs.Alone.{same}
use Rattle.shared_law.specs.OwnCalls.{own_counted, CountedByOwn, OwnCallsAreServer}
use Rattle.shared_law.proofs.Weighed.{Longer}
use Rattle.shared_law.proofs.TermWeights.{longer_sum}
use Rattle.shared_law.proofs.SharedCalls.{turned, BothShaped, turned_shaped, shared_shaped, AsItIs, Spared, call_lasting, shared_call, other_spares, spared_admitted}
use Rattle.shared_law.proofs.Runs.{seen, opposite, seen_own, seen_other, same_self, same_opposite, whose, fresh_shaped, none_used}

-- ---- any calls of both

-- what is kept of the list as the recorder has it, with what its calls counted
pub record Kept (P : View → List U32TableEntry → Type 0) (a : Shared) (es : List U32TableEntry) : Type 0 where
  pub shaped : BothShaped a
  pub distinct : Distinct (view_of a.own)
  pub keys : EachPlace AsItIs (view_of a.own)
  pub holds : P (view_of a.own) es

module _ (P : View → List U32TableEntry → Type 0) (carry : Carried P) (spare : (a b : View) (es : List U32TableEntry) → Spared a b → P a es → P b es) where
  own_kept : (a : Shared) (c : Call) (es : List U32TableEntry) → Kept P a es → Kept P (call_shared a.own a.other c).left (es ++ counts a.own c)
  own_kept a c es k =
      let l = call_lasting a.own c k.distinct k.keys in
      rw (shared_call a c k.shaped).1 (record {
        shaped = shared_shaped a c k.shaped;
        distinct = l.distinct;
        keys = l.keys;
        holds = call_carries P carry a.own c es k.holds;
      })

  other_kept : (a : Shared) (c : Call) (es : List U32TableEntry) → Kept P a es
      → Kept P (turned (call_shared (turned a).own (turned a).other c).left) es
  other_kept a c es k =
      let s = other_spares a c k.shaped k.distinct k.keys in
      rw (shared_call (turned a) c (turned_shaped k.shaped)).1 (record {
        shaped = turned_shaped (shared_shaped (turned a) c (turned_shaped k.shaped));
        distinct = s.distinct;
        keys = s.keys;
        holds = spare _ _ es s k.holds;
      })

  pub own_run : (r : Recorder) (s : SharedList) (ms : List Made) (es : List U32TableEntry) → Kept P (seen r s) es
      → Kept P (seen r (run s ms)) (es ++ own_counted r s ms)
  unfolding run own_counted
  own_run r s [] es k = subst (Kept P (seen r s)) (sym (append-nil es)) k
  own_run r s (m ∷ ms) es k = go (λ xs x. own_run r (made s m) ms xs x) (whose r m.by) where
    rest : List U32TableEntry
    rest = own_counted r (made s m) ms

    go : ((xs : List U32TableEntry) → Kept P (seen r (made s m)) xs → Kept P (seen r (run (made s m) ms)) (xs ++ own_counted r (made s m) ms))
        → (m.by ≡ r) ⊎ (m.by ≡ opposite r)
        → Kept P (seen r (run (made s m) ms)) (es ++ (cond (same r m.by) (counts (own r s) m.call) [] ++ own_counted r (made s m) ms))
    go next (inl q) =
        let mine : same r m.by ≡ true = ap (same r) q ∙ same_self r in
        let now : Kept P (seen r (made s m)) (es ++ counts (own r s) m.call)
        = subst (λ (x : Recorder). Kept P (seen r (made s (record { by = x; call = m.call }))) (es ++ counts (own r s) m.call)) (sym q)
        (subst (λ (x : Shared). Kept P x (es ++ counts (own r s) m.call)) (sym (seen_own r s m.call)) (own_kept (seen r s) m.call es k)) in
        rw mine
        (subst (Kept P (seen r (run (made s m) ms))) (append_assoc es (counts (own r s) m.call) rest) (next (es ++ counts (own r s) m.call) now))
    go next (inr q) =
        let theirs : same r m.by ≡ false = ap (same r) q ∙ same_opposite r in
        let now : Kept P (seen r (made s m)) es
        = subst (λ (x : Recorder). Kept P (seen r (made s (record { by = x; call = m.call }))) es) (sym q)
        (subst (λ (x : Shared). Kept P x es) (sym (seen_other r s m.call)) (other_kept (seen r s) m.call es k)) in
        rw theirs (next es now)

-- from a fresh list
fresh_kept : (P : View → List U32TableEntry → Type 0) (r : Recorder) (s : SharedList) → FreshShared s → P (view_of (own r s)) [] → Kept P (seen r s) []
fresh_kept P r s f h = record {
  shaped = fresh_shaped r s f;
  distinct = λ i j a b q. absurd (omega (arith, none_used r s f));
  keys = λ i a. absurd (omega (arith, none_used r s f));
  holds = h;
}

-- ---- request 6

-- a key that the other brought was not counted
tally_longer : (a b : View) (es : List U32TableEntry) → Longer a b → Distinct b → Tallied a es → Tallied b es
tally_longer a b es r d t = record {
  placed = λ j h. at j h (dec_lt j a.used);
  absent = λ k n. t.absent k (λ j h q. n j (omega (arith, r.more)) (r.keys j h ∙ q));
}
  where
    at : (j : ℕ) → j < b.used → Dec (j < a.used) → b.count j ≡ occurrences (b.key j) es
    at j h (yes k) = rw (r.keys j k) (r.count_old j k ∙ t.placed j k)
    at j h (no k) =
        let m : a.used ≤ j = omega arith in
        r.count_new j m h
        ∙ sym (t.absent (b.key j) (λ i l q.
        let e : i ≡ j = d i j (omega (arith, r.more)) h (r.keys i l ∙ q) in omega arith))

lawful_spared : (a b : View) (es : List U32TableEntry) → Spared a b → Lawful a es → Lawful b es
lawful_spared a b es s l = (s.distinct, tally_longer a b es s.longer s.distinct l.1)

fresh_lawful : (r : Recorder) (s : SharedList) → FreshShared s → Lawful (view_of (own r s)) []
unfolding occurrences
fresh_lawful r s f = (
  λ i j a b q. absurd (omega (arith, none_used r s f)),
  record { placed = λ i a. absurd (omega (arith, none_used r s f)); absent = λ k n. refl },
)

pub own_multiplicity : (r : Recorder) (s : SharedList) (ms : List Made) → FreshShared s → CountedByOwn r s ms
unfolding view_of
own_multiplicity r s ms f =
    let k = own_run Lawful lawful_carried lawful_spared r s ms [] (fresh_kept Lawful r s f (fresh_lawful r s f)) in
    record { placed = k.holds.1.placed; absent = k.holds.1.absent }

-- ---- request 2

-- what was counted is as admission hands it back
entries_more : (es : List U32TableEntry) (e : U32TableEntry) → EachEntry (λ x. judge_as_it_is x ≡ Fine) es → judge_as_it_is e ≡ Fine
    → EachEntry (λ x. judge_as_it_is x ≡ Fine) (es ++ (e ∷ []))
entries_more [] e each fine = (fine, tt)
entries_more (x ∷ es) e each fine = (each.0, entries_more es e each.1 fine)

entries_fine : (es : List U32TableEntry) → EachEntry (λ x. judge_as_it_is x ≡ Fine) es → EachEntry (λ x. judge_entry x ≡ Fine) es
entries_fine [] each = tt
entries_fine (x ∷ es) each = (admissible_fine x (judged_admissible x each.0), entries_fine es each.1)

module _ (challenges : List ℕ) where
  -- the tallies, and the client's sum
  record Paid (v : View) (es : List U32TableEntry) : Type 0 where
    pub lawful : Lawful v es
    pub priced : Priced challenges v es
    pub entries : EachEntry (λ x. judge_as_it_is x ≡ Fine) es

  paid_carried : Carried Paid
  paid_carried =
      let l = lawful_carried in
      let p = priced_carried challenges in
      record {
        counted = λ a b i g es m r s. record {
          lawful = l.counted a b i g es m r s.lawful;
          priced = p.counted a b i g es m r s.priced;
          entries = entries_more es (a.key i) s.entries (s.priced.0 i r.inside).0;
        };
        kept = λ a b i g es r s. record { lawful = l.kept a b i g es r s.lawful; priced = p.kept a b i g es r s.priced; entries = s.entries };
        new = λ a b k g es f u r s. record {
          lawful = l.new a b k g es f u r s.lawful;
          priced = p.new a b k g es f u r s.priced;
          entries = entries_more es k s.entries f;
        };
        none = λ a b k g es f u r s. record {
          lawful = l.none a b k g es f u r s.lawful;
          priced = p.none a b k g es f u r s.priced;
          entries = s.entries;
        };
      }

  paid_spared : (a b : View) (es : List U32TableEntry) → Spared a b → Paid a es → Paid b es
  paid_spared a b es s p = record {
    lawful = lawful_spared a b es s p.lawful;
    priced = (spared_admitted s p.priced.0, longer_sum (challenges_of challenges) s.longer ∙ p.priced.1);
    entries = p.entries;
  }

  fresh_sum : (r : Recorder) (s : SharedList) → FreshShared s
      → term_sum (challenges_of challenges) (view_of (own r s)) ≡ client_sum (request_words []) challenges
  unfolding term_sum sum_x flat_map
  fresh_sum r s f = rw (none_used r s f) (sym (client_none challenges))

  fresh_paid : (r : Recorder) (s : SharedList) → FreshShared s → Paid (view_of (own r s)) []
  fresh_paid r s f = record {
    lawful = fresh_lawful r s f;
    priced = (λ i a. absurd (omega (arith, none_used r s f)), fresh_sum r s f);
    entries = tt;
  }

  pub own_calls_are_server : (r : Recorder) (s : SharedList) (ms : List Made) (table aux : List ℕ) → OwnCallsAreServer r s ms table aux challenges
  unfolding view_of
  own_calls_are_server r s ms table aux fresh shut n lent =
      let h = own r (run s ms) in
      let es = own_counted r s ms in
      let k = own_run Paid paid_carried paid_spared r s ms [] (fresh_kept Paid r s fresh (fresh_paid r s fresh)) in
      sums_agree h es table aux challenges (judged_fine h k.shaped.own shut k.holds.priced.0) k.holds.priced.1
      (client_fine challenges es lent.challenges_shaped lent.challenges_reduced (entries_fine es k.holds.entries) n)
      (counted_section (challenges_of challenges) h k.holds.priced.0 es k.holds.lawful.1.placed n)
      lent
