-- One call of a recorder on the shared list (S) and on the list that its own calls alone make (O): both are refused with one number, or neither is, and what
-- was kept between the lists is kept (Joined). This page: a recording or a hold (record_together_lem), in all combinations of the ways that it goes on the two.
-- "List full" enters here alone: where the shared list does not meet it, the other does not, since it has fewer keys. Assumes nothing.
use Prim.Native.Nat.{ℕ, ◌≤◌, ◌<◌}
use mathlib.Core.Path.{◌≡◌, refl, sym, ap, ◌∙◌}
use mathlib.Core.Bool.{Bool, true, false, cond}
use mathlib.Core.List.{[], ◌∷◌}
use mathlib.Core.Logic.{◌≢◌}
use native.Mathlib.Nat.{zero-add}
use native.Mathlib.Omega.{arith}
use Rattle.words.specs.Answers.{Answer, done, declined}
use Rattle.words.specs.Outcomes.{Outcome, outcome}
use Rattle.words.specs.Refusals.{refusal_number, Judgement, Fine, Declined}
use Rattle.words.specs.declared.Refusal.{Refusal}
use Rattle.words.specs.declared.Refusal.TheVariants.{CountFull, ListFull}
use Rattle.words.proofs.Answers.{number_positive}
use Rattle.isa.specs.declared.U32TableEntry.{U32TableEntry}
use Rattle.isa.specs.Entries.{judge_entry, admitted}
use Rattle.list.specs.Lists.{capacity}
use Rattle.list.specs.Holds.{HeldList, held_shape}
use Rattle.list.proofs.HeldLists.{HeldShaped, held_shape_fine}
use Rattle.list_record.specs.Recording.{place_in, known, record_reason, raised, appended, record_with}
use Rattle.list_record.proofs.RecordEach.{number_of}
use Rattle.list_record.proofs.Views.{View, Unknown, Changed, Appended}
use Rattle.list_record.proofs.RecordViews.{view_of, record_shaped}
use Rattle.shared_law.proofs.Covering.{Covers, both_changed, changed_and_new, both_new, no_more, fewer}
use Rattle.shared_law.proofs.Ways.{Way, way}

-- ---- places come into use, and the keys at used places stay

pub record Grown (a b : View) : Type 0 where
  pub more : a.used ≤ b.used
  pub keys : (j : ℕ) → j < a.used → b.key j ≡ a.key j

pub grown_none : (a : View) → Grown a a
grown_none a = record { more = omega arith; keys = λ j h. refl }

pub grown_twice : {a b c : View} → Grown a b → Grown b c → Grown a c
grown_twice g k = record {
  more = omega (arith, g.more, k.more);
  keys = λ j h. k.keys j (omega (arith, g.more)) ∙ g.keys j h;
}

pub changed_grown : {a b : View} {i c g : ℕ} → Changed a b i c g → Grown a b
changed_grown r = record { more = omega (arith, r.same_used); keys = r.keys }

pub appended_grown : {a b : View} {k : U32TableEntry} {c g : ℕ} → Appended a b k c g → Grown a b
appended_grown r = record { more = omega (arith, r.more_used); keys = r.keys }

-- ---- what is kept

pub record Matched (S O : HeldList) : Type 0 where
  pub shaped_s : HeldShaped S
  pub shaped_o : HeldShaped O
  pub capacities : capacity S.list ≡ capacity O.list
  pub covers : Covers (view_of S) (view_of O)

pub record Joined (S O : HeldList) (a b : Outcome HeldList) : Type 0 where
  pub number : number_of a ≡ number_of b
  pub matched : Matched a.left b.left
  pub grown_s : Grown (view_of S) (view_of a.left)
  pub grown_o : Grown (view_of O) (view_of b.left)

-- nothing is changed
pub joined_stay : {S O : HeldList} (a b : Outcome HeldList) → number_of a ≡ number_of b → a.left ≡ S → b.left ≡ O → Matched S O → Joined S O a b
joined_stay {S} {O} a b n p q m = record {
  number = n;
  matched = rw (p, q) m;
  grown_s = rw p (grown_none (view_of S));
  grown_o = rw q (grown_none (view_of O));
}

pub joined_then : {S O : HeldList} {a b c d : Outcome HeldList} → Joined S O a b → Joined a.left b.left c d → Joined S O c d
joined_then x y = record {
  number = y.number;
  matched = y.matched;
  grown_s = grown_twice x.grown_s y.grown_s;
  grown_o = grown_twice x.grown_o y.grown_o;
}

-- the positions that two accepted calls answer hold one key
pub record Positions (a b : Outcome HeldList) : Type 0 where
  pub shared : ℕ
  pub alone : ℕ
  pub shared_is : a.answer.values ≡ shared ∷ []
  pub alone_is : b.answer.values ≡ alone ∷ []
  pub shared_used : shared < (view_of a.left).used
  pub alone_used : alone < (view_of b.left).used
  pub one_key : (view_of a.left).key shared ≡ (view_of b.left).key alone

-- ---- a recording or a hold

pub record_capacity : (count hold : ℕ) (h : HeldList) (e : U32TableEntry) → capacity (record_with count hold h e).left.list ≡ capacity h.list
unfolding record_with
record_capacity count hold h e = go (record_reason h e) (known h (admitted e)) where
  go : (j : Judgement) (t : Bool)
      → capacity (outcome j (place_in h (admitted e) ∷ []) h (cond t (raised count hold h (place_in h (admitted e))) (appended count hold h (admitted e)))).left.list
      ≡ capacity h.list
  go Fine true = refl
  go Fine false = refl
  go (Declined k) t = refl

entry_refused : (count hold : ℕ) (h : HeldList) (e : U32TableEntry) {k : Refusal} → held_shape h ≡ Fine → judge_entry e ≡ Declined k
    → record_with count hold h e ≡ record { answer = declined k; left = h }
unfolding record_with record_reason
entry_refused count hold h e shape q = rw (shape, q)

module _ (count hold : ℕ) (S O : HeldList) (e : U32TableEntry) (m : Matched S O) where
  abbrev a : Outcome HeldList
  a = record_with count hold S e

  abbrev b : Outcome HeldList
  b = record_with count hold O e

  abbrev Result : Type 0
  Result = Joined S O a b × (number_of a ≡ 0 → Positions a b)

  both_refused : (reason : Refusal) → a ≡ record { answer = declined reason; left = S } → b ≡ record { answer = declined reason; left = O } → Result
  both_refused reason p q = (
    joined_stay a b (ap number_of p ∙ sym (ap number_of q)) (ap (λ (o : Outcome HeldList). o.left) p) (ap (λ (o : Outcome HeldList). o.left) q) m,
    λ z. absurd (let n = sym (ap number_of p) ∙ z in omega (arith, number_positive reason)),
  )

  both_accepted : (i j : ℕ) → a.answer ≡ done (i ∷ []) → b.answer ≡ done (j ∷ []) → Covers (view_of a.left) (view_of b.left)
      → Grown (view_of S) (view_of a.left) → Grown (view_of O) (view_of b.left) → i < (view_of a.left).used → j < (view_of b.left).used
      → (view_of a.left).key i ≡ (view_of b.left).key j → Result
  both_accepted i j p q covers gs go hi hj key =
      let za = ap (λ (x : Answer). x.number) p in
      let zb = ap (λ (x : Answer). x.number) q in (
        record {
          number = za ∙ sym zb;
          matched = record {
            shaped_s = record_shaped count hold S e za;
            shaped_o = record_shaped count hold O e zb;
            capacities = record_capacity count hold S e ∙ m.capacities ∙ sym (record_capacity count hold O e);
            covers = covers;
          };
          grown_s = gs;
          grown_o = go;
        },
        λ z. record {
          shared = i;
          alone = j;
          shared_is = ap (λ (x : Answer). x.values) p;
          alone_is = ap (λ (x : Answer). x.values) q;
          shared_used = hi;
          alone_used = hj;
          one_key = key;
        },
      )

  -- S has the key and O has not: it has no count and no holds there
  zero_there : (k : U32TableEntry) (i : ℕ) → i < (view_of S).used → (view_of S).key i ≡ k → Unknown (view_of O) k
      → ((view_of S).count i ≡ 0) × ((view_of S).hold i ≡ 0)
  zero_there k i h f u = m.covers.rest i h (λ j l q. u j l (q ∙ f))

  within : (view_of S).used ≤ capacity S.list
  unfolding view_of
  within = m.shaped_s.list.within

  join : (k : U32TableEntry) → Way S k count hold a → Way O k count hold b → number_of a ≢ refusal_number ListFull → Result
  join k (Way.full_count i h f n r) (Way.full_count j l g o s) full = both_refused CountFull r s
  join k (Way.full_count i h f n r) (Way.changes j l g o s t) full =
      let q = m.covers.agree i j h l (f ∙ sym g) in absurd (omega (arith, q.0, q.1))
  join k (Way.full_count i h f n r) (Way.full_list u o s) full = let q = zero_there k i h f u in absurd (omega (arith, q.0, q.1))
  join k (Way.full_count i h f n r) (Way.appends u o s t) full = let q = zero_there k i h f u in absurd (omega (arith, q.0, q.1))
  join k (Way.changes i h f n r t) (Way.full_count j l g o s) full =
      let q = m.covers.agree i j h l (f ∙ sym g) in absurd (omega (arith, q.0, q.1))
  join k (Way.changes i h f n r t) (Way.changes j l g o s v) full =
      let q = m.covers.agree i j h l (f ∙ sym g) in
      both_accepted i j r s (both_changed m.covers t (rw (q.0, q.1) v) (f ∙ sym g)) (changed_grown t) (changed_grown v)
      (omega (arith, t.same_used)) (omega (arith, v.same_used)) (t.keys i h ∙ f ∙ sym g ∙ sym (v.keys j l))
  join k (Way.changes i h f n r t) (Way.full_list u o s) full =
      absurd (let z = fewer m.covers (i, (h, f)) u in omega (arith, within, m.capacities))
  join k (Way.changes i h f n r t) (Way.appends u o s v) full =
      let q = zero_there k i h f u in
      both_accepted i (view_of O).used r s (changed_and_new m.covers (rw (q.0, q.1, zero-add count, zero-add hold) at t) v f u)
      (changed_grown t) (appended_grown v)
      (omega (arith, t.same_used)) (omega (arith, v.more_used)) (t.keys i h ∙ f ∙ sym v.key_new)
  join k (Way.full_list u n r) other full = absurd (full (ap number_of r))
  join k (Way.appends u n r t) (Way.full_count j l g o s) full =
      absurd (let w = m.covers.into j l in u w.0 w.1.0 (w.1.1 ∙ g))
  join k (Way.appends u n r t) (Way.changes j l g o s v) full =
      absurd (let w = m.covers.into j l in u w.0 w.1.0 (w.1.1 ∙ g))
  join k (Way.appends u n r t) (Way.full_list w o s) full = absurd (let z = no_more m.covers in omega (arith, m.capacities))
  join k (Way.appends u n r t) (Way.appends w o s v) full =
      both_accepted (view_of S).used (view_of O).used r s (both_new m.covers t v u) (appended_grown t) (appended_grown v)
      (omega (arith, t.more_used)) (omega (arith, v.more_used)) (t.key_new ∙ sym v.key_new)

  pub record_together_lem : number_of a ≢ refusal_number ListFull → Result
  record_together_lem full = go (judge_entry e) refl where
    go : (j : Judgement) → judge_entry e ≡ j → Result
    go Fine q =
        join (admitted e) (way count hold S e (held_shape_fine S m.shaped_s) q) (way count hold O e (held_shape_fine O m.shaped_o) q) full
    go (Declined k) q =
        both_refused k (entry_refused count hold S e (held_shape_fine S m.shaped_s) q) (entry_refused count hold O e (held_shape_fine O m.shaped_o) q)
