-- The sum of multiplicity × inverse of the denominator over the used places of a list (term_sum). Each accepted recording adds the inverse of its
-- denominator once, whether its key gains one (counted_sum) or is appended (new_sum), and so does the client; so the two sums stay equal over recordings
-- one after the other (recordings_sum). A change of holds alone adds nothing (kept_sum, none_sum). Assumes nothing.
use Prim.Native.Nat.{ℕ, ◌+◌}
use mathlib.Core.Path.{◌≡◌, refl, sym, ap, ◌∙◌}
use mathlib.Core.List.{List, [], ◌∷◌, ◌++◌, flat_map, append-nil, append_assoc}
use Rattle.words.specs.Outcomes.{Outcome}
use Rattle.xfield.specs.Extension.{Ext, add_x, scale_x, Reduced}
use Rattle.xfield.specs.Inverses.{inv_x}
use Rattle.xfield.proofs.Laws.{add_x_assoc, add_x_reduced, add_x_of_red, add_x_exchange, add_x_cancel, add_x_zero_right, scale_x_zero, scale_x_one, scale_x_suc, reduced_eq}
use Rattle.isa.specs.declared.U32TableEntry.{U32TableEntry}
use Rattle.isa.specs.Entries.{entry_words, admitted}
use Rattle.list.specs.Holds.{HeldList}
use Rattle.table.specs.Challenges.{Challenges, challenges_of}
use Rattle.sums.proofs.PlainSums.{sum_x, sum_x_reduced, sum_x_cong, sum_one}
use Rattle.list_record.specs.Recording.{record_all, record_each}
use Rattle.list_record.proofs.RecordEach.{number_of, each_first}
use Rattle.list_record.proofs.Views.{View, Changed, Appended, Recorded}
use Rattle.list_record.proofs.RecordViews.{view_of, record_view}
use Rattle.client_sum.specs.Client.{entry_denominator, client_sum}
use Rattle.client_sum.proofs.Sums.{client_adds}
use Rattle.client_law.specs.ClientLaw.{request_words}
use Rattle.client_law.proofs.Requests.{whole_entries}

abbrev pub term_of : Challenges → ℕ → U32TableEntry → Ext
term_of c count k = scale_x count (inv_x (entry_denominator c k))

abbrev pub term_at : Challenges → View → ℕ → Ext
term_at c v i = term_of c (v.count i) (v.key i)

unfoldable pub term_sum : Challenges → View → Ext
term_sum c v = sum_x (term_at c v) v.used

pub term_sum_reduced : (c : Challenges) (v : View) → Reduced (term_sum c v)
unfolding term_sum
term_sum_reduced c v = sum_x_reduced (term_at c v) v.used

-- ---- one call

module _ (c : Challenges) where
  pub changed_sum : {a b : View} {i m g : ℕ} → Changed a b i m g
      → add_x (term_sum c b) (term_of c (a.count i) (a.key i)) ≡ add_x (term_sum c a) (term_of c m (a.key i))
  unfolding term_sum
  changed_sum {a} {b} {i} {m} {g} r =
      let here : term_at c b i ≡ term_of c m (a.key i) = rw (r.count_here, r.keys i r.inside) in
      rw (r.same_used, ← here)
      (sum_one (term_at c a) (term_at c b) a.used i r.inside (λ j h n. rw (r.count_there j h n, r.keys j h)))

  pub appended_sum : {a b : View} {k : U32TableEntry} {m g : ℕ} → Appended a b k m g → term_sum c b ≡ add_x (term_sum c a) (term_of c m k)
  unfolding term_sum sum_x
  appended_sum {a} {b} {k} {m} {g} r =
      let new : term_at c b a.used ≡ term_of c m k = rw (r.count_new, r.key_new) in
      let old = sum_x_cong (term_at c b) (term_at c a) a.used (λ j h. rw (r.count_old j h, r.keys j h)) in
      rw (r.more_used, old, new)

  -- a count more adds the inverse of the denominator once
  pub counted_sum : {a b : View} {i g : ℕ} → Changed a b i (a.count i + 1) g
      → term_sum c b ≡ add_x (term_sum c a) (inv_x (entry_denominator c (a.key i)))
  counted_sum {a} {b} {i} {g} r =
      let t = term_of c (a.count i) (a.key i) in
      let y = inv_x (entry_denominator c (a.key i)) in
      reduced_eq (term_sum c b) (add_x (term_sum c a) y) (term_sum_reduced c b) (add_x_reduced (term_sum c a) y)
      (add_x_cancel (term_sum c b) (add_x (term_sum c a) y) t
      (changed_sum r ∙ ap (add_x (term_sum c a)) (scale_x_suc (a.count i) y) ∙ sym (add_x_assoc (term_sum c a) t y) ∙ add_x_exchange (term_sum c a) t y))

  pub new_sum : {a b : View} {k : U32TableEntry} {g : ℕ} → Appended a b k 1 g → term_sum c b ≡ add_x (term_sum c a) (inv_x (entry_denominator c k))
  new_sum {a} {b} {k} {g} r =
      appended_sum r ∙ ap (add_x (term_sum c a)) (scale_x_one (inv_x (entry_denominator c k))) ∙ add_x_of_red (term_sum c a) (inv_x (entry_denominator c k))

  -- a change of holds alone
  pub kept_sum : {a b : View} {i g : ℕ} → Changed a b i (a.count i) g → term_sum c b ≡ term_sum c a
  kept_sum {a} {b} {i} {g} r =
      reduced_eq (term_sum c b) (term_sum c a) (term_sum_reduced c b) (term_sum_reduced c a)
      (add_x_cancel (term_sum c b) (term_sum c a) (term_of c (a.count i) (a.key i)) (changed_sum r))

  pub none_sum : {a b : View} {k : U32TableEntry} {g : ℕ} → Appended a b k 0 g → term_sum c b ≡ term_sum c a
  none_sum {a} {b} {k} {g} r =
      appended_sum r ∙ ap (add_x (term_sum c a)) (scale_x_zero (inv_x (entry_denominator c k))) ∙ add_x_zero_right (term_sum c a) (term_sum_reduced c a)

  pub recorded_sum : {a b : View} {k : U32TableEntry} → Recorded 1 0 a b k → term_sum c b ≡ add_x (term_sum c a) (inv_x (entry_denominator c k))
  recorded_sum {a} (Recorded.gains i q m r) = counted_sum r ∙ ap (λ (k : U32TableEntry). add_x (term_sum c a) (inv_x (entry_denominator c k))) q
  recorded_sum (Recorded.appends u r) = new_sum r

-- ---- recordings one after the other

-- as the client's requests, with one more
words_more : (es : List U32TableEntry) (e : U32TableEntry) → request_words (es ++ (e ∷ [])) ≡ request_words es ++ entry_words e
unfolding flat_map
words_more [] e = refl
words_more (x ∷ es) e = ap (λ (ws : List ℕ). entry_words x ++ ws) (words_more es e) ∙ sym (append_assoc (entry_words x) (request_words es) (entry_words e))

-- the client's sum with one request more
pub client_more : (challenges : List ℕ) (before : List U32TableEntry) (e : U32TableEntry)
    → add_x (client_sum (request_words before) challenges) (inv_x (entry_denominator (challenges_of challenges) (admitted e)))
    ≡ client_sum (request_words (before ++ (e ∷ []))) challenges
client_more challenges before e =
    sym (client_adds (request_words before) challenges e (whole_entries before)) ∙ ap (λ (ws : List ℕ). client_sum ws challenges) (sym (words_more before e))

-- The sum over the places goes with the client's: where it is that over some requests, it is that over these and the recordings after an accepted run
pub recordings_sum : (challenges : List ℕ) (h : HeldList) (before es : List U32TableEntry) → number_of (record_each h es) ≡ 0
    → term_sum (challenges_of challenges) (view_of h) ≡ client_sum (request_words before) challenges
    → term_sum (challenges_of challenges) (view_of (record_each h es).left) ≡ client_sum (request_words (before ++ es)) challenges
unfolding record_each
recordings_sum challenges h before [] z same = same ∙ ap (λ (es : List U32TableEntry). client_sum (request_words es) challenges) (sym (append-nil before))
recordings_sum challenges h before (e ∷ es) z same =
    let c = challenges_of challenges in
    let first = each_first h e es z in
    let next : term_sum c (view_of (record_all h e).left) ≡ client_sum (request_words (before ++ (e ∷ []))) challenges
    = recorded_sum c (record_view 1 0 h e first.0)
    ∙ ap (λ (x : Ext). add_x x (inv_x (entry_denominator c (admitted e)))) same
    ∙ client_more challenges before e in
    ap (λ (o : Outcome HeldList). term_sum c (view_of o.left)) first.1
    ∙ recordings_sum challenges (record_all h e).left (before ++ (e ∷ [])) es (sym (ap number_of first.1) ∙ z) next
    ∙ ap (λ (xs : List U32TableEntry). client_sum (request_words xs) challenges) (append_assoc before (e ∷ []) es)
