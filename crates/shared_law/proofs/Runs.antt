-- Both runs from beginning to end (runs_together): where a recorder's confirms and drops take positions that its own earlier calls answered, and none of its
-- calls meets "list full" on the shared list, its calls tell the same on both, and what was kept between the lists is kept. One step is the recorder's own
-- call, made on both (own_step), or the other's, which alone is not made (other_step). Assumes nothing.
use Prim.Native.Nat.{ℕ, ◌<◌}
use mathlib.Core.Path.{◌≡◌, refl, sym, ap, ap₂, ◌∙◌, subst}
use mathlib.Core.Bool.{Bool, true, false, cond}
use mathlib.Core.List.{List, [], ◌∷◌, ◌++◌, map}
use mathlib.Core.Logic.{◌≢◌, ◌⊎◌, inl, inr}
use native.Mathlib.Omega.{arith}
use lib.ListN.{length, get_or}
use Rattle.words.specs.Answers.{Answer}
use Rattle.words.specs.Refusals.{refusal_number}
use Rattle.words.specs.declared.Refusal.TheVariants.{ListFull}
use Rattle.list.specs.declared.Sizes.{Sizes}
use Rattle.list.specs.Lists.{capacity}
use Rattle.list.specs.Holds.{HeldList}
use Rattle.list.proofs.HeldLists.{HeldShaped, held_shaped}
use Rattle.list_record.proofs.Views.{EachPlace}
use Rattle.list_record.proofs.RecordViews.{view_of, PlaceAdmitted}
use Rattle.list_laws.specs.Calls.{Call, call_all, after, Fresh}
use Rattle.list_shared.specs.Shared.{Shared}
use Rattle.shared_law.specs.Recorders.{Recorder, SharedList, own, others, call_shared, Made, made_all, made, run, FreshShared}
use Rattle.shared_law.specs.Alone.{same, told, own_answers, answers_of, NoneFull, position, Takes, TakesOwn, Position, noted, alone_call}
use Rattle.shared_law.specs.Alone.{Both, next, both_after, alone_from, started, alone}
use Rattle.shared_law.proofs.Sums.{sum_to}
use Rattle.shared_law.proofs.Weighed.{weigh}
use Rattle.shared_law.proofs.Covering.{Covers, covers_longer}
use Rattle.shared_law.proofs.Together.{grown_none, Matched}
use Rattle.shared_law.proofs.Logs.{AllGood, shared_ones, good_grown, good_nth, good_same}
use Rattle.shared_law.proofs.OwnCalls.{call_together}
use Rattle.shared_law.proofs.SharedCalls.{call_capacity, turned, BothShaped, turned_shaped, called, shared_shaped, shared_call}
use Rattle.shared_law.proofs.SharedCalls.{call_admitted, Spared, other_spares, spared_admitted}

-- ---- what is kept: a is the shared list as the recorder has it, with the other's arrays; O the list alone

pub record Beside (a : Shared) (O : HeldList) (log : List Position) : Type 0 where
  pub matched : Matched a.own O
  pub other : HeldShaped (turned a).own
  pub admitted : EachPlace PlaceAdmitted (view_of a.own)
  pub good : AllGood a.own O log

both_shaped : {a : Shared} {O : HeldList} {log : List Position} → Beside a O log → BothShaped a
both_shaped b = record { own = b.matched.shaped_s; other = b.other }

-- ---- the recorder's own call

module _ (a : Shared) (O : HeldList) (log : List Position) (c : Call) (b : Beside a O log) where
  pub own_step : Takes (shared_ones log) c → (call_shared a.own a.other c).answer.number ≢ refusal_number ListFull
      → (told c (call_shared a.own a.other c).answer ≡ told (alone_call log c) (call_all O (alone_call log c)).answer)
      × Beside (call_shared a.own a.other c).left (call_all O (alone_call log c)).left
      (log ++ noted c (call_shared a.own a.other c).answer (call_all O (alone_call log c)).answer)
  own_step t n =
      let s = both_shaped b in
      let q = shared_call a c s in
      let r = call_together a.own O log b.good b.matched c t
      (λ f. n (ap (λ (x : Answer). x.number) q.0 ∙ f)) in
      rw (q.0, q.1) (
        r.telling,
        record {
          matched = r.matched;
          other = (shared_shaped a c s).other;
          admitted = call_admitted a.own c b.admitted;
          good = r.good;
        },
      )

  -- ---- the other's call

  spared : Spared (view_of a.own) (view_of (turned (called (turned a) c)).own)
  spared = other_spares a c (both_shaped b) b.matched.covers.distinct_s (λ i h. (b.admitted i h).0)

  now_beside : Beside (turned (called (turned a) c)) O log
  now_beside =
      let s = shared_shaped (turned a) c (turned_shaped (both_shaped b)) in
      record {
        matched = record {
          shaped_s = s.other;
          shaped_o = b.matched.shaped_o;
          capacities = call_capacity (turned a).own c ∙ b.matched.capacities;
          covers = covers_longer b.matched.covers spared.longer spared.distinct;
        };
        other = s.own;
        admitted = spared_admitted spared b.admitted;
        good =
            good_grown a.own O (turned (called (turned a) c)).own O log
            (record { more = spared.longer.more; keys = spared.longer.keys }) (grown_none (view_of O)) b.good;
      }

  pub other_step : Beside (turned (call_shared (turned a).own (turned a).other c).left) O log
  other_step = rw (shared_call (turned a) c (turned_shaped (both_shaped b))).1 now_beside

-- ---- the shared list as a recorder has it

abbrev pub seen : Recorder → SharedList → Shared
seen r s = record { own = own r s; other = others r s }

abbrev pub opposite : Recorder → Recorder
opposite Recorder.first = Recorder.second
opposite Recorder.second = Recorder.first

pub seen_own : (r : Recorder) (s : SharedList) (c : Call)
    → seen r (made s (record { by = r; call = c })) ≡ (call_shared (own r s) (others r s) c).left
seen_own Recorder.first s c = refl
seen_own Recorder.second s c = refl

pub seen_other : (r : Recorder) (s : SharedList) (c : Call)
    → seen r (made s (record { by = opposite r; call = c })) ≡ turned (call_shared (turned (seen r s)).own (turned (seen r s)).other c).left
seen_other Recorder.first s c = refl
seen_other Recorder.second s c = refl

pub same_self : (r : Recorder) → same r r ≡ true
same_self Recorder.first = refl
same_self Recorder.second = refl

pub same_opposite : (r : Recorder) → same r (opposite r) ≡ false
same_opposite Recorder.first = refl
same_opposite Recorder.second = refl

pub whose : (r b : Recorder) → (b ≡ r) ⊎ (b ≡ opposite r)
whose Recorder.first Recorder.first = inl refl
whose Recorder.first Recorder.second = inr refl
whose Recorder.second Recorder.first = inr refl
whose Recorder.second Recorder.second = inl refl

-- ---- all calls

abbrev pub BesideIn : Recorder → Both → Type 0
BesideIn r w = Beside (seen r w.shared) w.lone w.log

-- both runs of these calls tell the same, and what was kept is kept
abbrev pub Runs : Recorder → Both → List Made → Type 0
Runs r w ms = (own_answers r w.shared ms ≡ answers_of w.lone (alone_from r w ms)) × BesideIn r (both_after r w ms)

abbrev Claim : Recorder → Both → List Made → Type 0
Claim r w ms = BesideIn r w → TakesOwn r (shared_ones w.log) w.shared ms → NoneFull (own_answers r w.shared ms) → Runs r w ms

told_number : (c : Call) (a : Answer) → (told c a).number ≡ a.number
unfolding told
told_number (Call.records e) a = refl
told_number (Call.holds e) a = refl
told_number (Call.confirms i) a = refl
told_number (Call.drops i) a = refl
told_number (Call.replays trace) a = refl

-- what is noted keeps to what was answered
ones_append : (xs ys : List Position) → shared_ones (xs ++ ys) ≡ shared_ones xs ++ shared_ones ys
ones_append [] ys = refl
ones_append (x ∷ xs) ys = ap (λ (ps : List ℕ). x.shared ∷ ps) (ones_append xs ys)

ones_noted : (c : Call) (a b : Answer) → shared_ones (noted c a b) ≡ position c a
unfolding noted
ones_noted c a b = go (position c a) where
  go : (ps : List ℕ) → shared_ones (map (λ p. record { shared = p; alone = get_or b.values 0 0 }) ps) ≡ ps
  go [] = refl
  go (p ∷ ps) = ap (λ (qs : List ℕ). p ∷ qs) (go ps)

module _ (r : Recorder) (w : Both) (c : Call) (ms : List Made) where
  abbrev S : Shared
  S = seen r w.shared

  -- ---- by the recorder

  abbrev mine : Made
  mine = record { by = r; call = c }

  abbrev d : Call
  d = alone_call w.log c

  abbrev answered : Answer
  answered = (call_shared S.own S.other c).answer

  abbrev next_mine : Both
  next_mine = record {
    shared = made w.shared mine;
    lone = (call_all w.lone d).left;
    log = w.log ++ noted c answered (call_all w.lone d).answer;
  }

  next_mine_lem : next r w mine ≡ next_mine
  unfolding next
  next_mine_lem = rw (same_self r)

  own_claim : Claim r next_mine ms → Claim r w (mine ∷ ms)
  unfolding own_answers answers_of alone_from both_after TakesOwn
  own_claim rest b t n =
      let takes : Takes (shared_ones w.log) c × TakesOwn r (shared_ones w.log ++ position c answered) (made w.shared mine) ms = rw (same_self r) at t in
      let none : ((told c answered).number ≢ refusal_number ListFull) × NoneFull (own_answers r (made w.shared mine) ms) = rw (same_self r) at n in
      let step = own_step S w.lone w.log c b takes.0 (λ f. none.0 (told_number c answered ∙ f)) in
      let ones : shared_ones next_mine.log ≡ shared_ones w.log ++ position c answered
      = ones_append w.log (noted c answered (call_all w.lone d).answer)
      ∙ ap (λ (ps : List ℕ). shared_ones w.log ++ ps) (ones_noted c answered (call_all w.lone d).answer) in
      let beside : BesideIn r next_mine = subst (λ (x : Shared). Beside x next_mine.lone next_mine.log) (sym (seen_own r w.shared c)) step.1 in
      let all = rest beside (subst (λ (ps : List ℕ). TakesOwn r ps (made w.shared mine) ms) (sym ones) takes.1) none.1 in (
        rw (same_self r, next_mine_lem) (ap₂ (λ (x : Answer) (xs : List Answer). x ∷ xs) step.0 all.0),
        subst (λ (x : Both). BesideIn r (both_after r x ms)) (sym next_mine_lem) all.1,
      )

  -- ---- by the other

  abbrev theirs : Made
  theirs = record { by = opposite r; call = c }

  abbrev next_theirs : Both
  next_theirs = record { shared = made w.shared theirs; lone = w.lone; log = w.log }

  next_theirs_lem : next r w theirs ≡ next_theirs
  unfolding next
  next_theirs_lem = rw (same_opposite r)

  other_claim : Claim r next_theirs ms → Claim r w (theirs ∷ ms)
  unfolding own_answers answers_of alone_from both_after TakesOwn
  other_claim rest b t n =
      let beside : BesideIn r next_theirs
      = subst (λ (x : Shared). Beside x w.lone w.log) (sym (seen_other r w.shared c)) (other_step S w.lone w.log c b) in
      let all = rest beside (rw (same_opposite r) at t) (rw (same_opposite r) at n) in
      (rw (same_opposite r, next_theirs_lem) all.0, subst (λ (x : Both). BesideIn r (both_after r x ms)) (sym next_theirs_lem) all.1)

pub runs_together : (r : Recorder) (w : Both) (ms : List Made) → Claim r w ms
unfolding own_answers answers_of alone_from both_after
runs_together r w [] b t n = (refl, b)
runs_together r w (m ∷ ms) b t n =
    go (λ x. runs_together r x ms) (whose r m.by) b t n
  where
    go : ((x : Both) → Claim r x ms) → (m.by ≡ r) ⊎ (m.by ≡ opposite r) → Claim r w (m ∷ ms)
    go rest (inl q) = subst (λ (x : Recorder). Claim r w (record { by = x; call = m.call } ∷ ms)) (sym q) (own_claim r w m.call ms (rest (next_mine r w m.call ms)))
    go rest (inr q) = subst (λ (x : Recorder). Claim r w (record { by = x; call = m.call } ∷ ms)) (sym q) (other_claim r w m.call ms (rest (next_theirs r w m.call ms)))

-- ---- the two runs are the shared one and the one alone

next_shared : (r : Recorder) (w : Both) (m : Made) → (next r w m).shared ≡ made w.shared m
unfolding next
next_shared r w m = go (same r m.by) where
  go : (t : Bool)
      → (cond {A = Both} t
      (record {
        shared = made w.shared m;
        lone = (call_all w.lone (alone_call w.log m.call)).left;
        log = w.log ++ noted m.call (made_all w.shared m).answer (call_all w.lone (alone_call w.log m.call)).answer;
      })
      (record { shared = made w.shared m; lone = w.lone; log = w.log })).shared
      ≡ made w.shared m
  go true = refl
  go false = refl

pub shared_run : (r : Recorder) (w : Both) (ms : List Made) → (both_after r w ms).shared ≡ run w.shared ms
unfolding both_after run
shared_run r w [] = refl
shared_run r w (m ∷ ms) = shared_run r (next r w m) ms ∙ ap (λ (s : SharedList). run s ms) (next_shared r w m)

pub lone_run : (r : Recorder) (w : Both) (ms : List Made) → (both_after r w ms).lone ≡ after w.lone (alone_from r w ms)
unfolding both_after after alone_from next
lone_run r w [] = refl
lone_run r w (m ∷ ms) = go (lone_run r (next r w m) ms) (same r m.by) refl where
  go : (both_after r (next r w m) ms).lone ≡ after (next r w m).lone (alone_from r (next r w m) ms)
      → (t : Bool) → same r m.by ≡ t
      → (both_after r (next r w m) ms).lone ≡ after w.lone (cond t (alone_call w.log m.call ∷ []) [] ++ alone_from r (next r w m) ms)
  go rest true q = rest ∙ ap (λ (h : HeldList). after h (alone_from r (next r w m) ms)) (rw q)
  go rest false q = rest ∙ ap (λ (h : HeldList). after h (alone_from r (next r w m) ms)) (rw q)

-- ---- from the beginning

fresh_own : (s : SharedList) → FreshShared s → (x : Recorder) → HeldShaped (own x s)
fresh_own s f Recorder.first = held_shaped (own Recorder.first s) f.firsts
fresh_own s f Recorder.second = held_shaped (own Recorder.second s) f.seconds

fresh_other : (s : SharedList) → FreshShared s → (x : Recorder) → HeldShaped (turned (seen x s)).own
fresh_other s f Recorder.first = fresh_own s f Recorder.second
fresh_other s f Recorder.second = fresh_own s f Recorder.first

pub fresh_shaped : (r : Recorder) (s : SharedList) → FreshShared s → BothShaped (seen r s)
fresh_shaped r s f = record { own = fresh_own s f r; other = fresh_other s f r }

own_sizes : (r : Recorder) (s : SharedList) → (own r s).list.sizes ≡ s.sizes
own_sizes Recorder.first s = refl
own_sizes Recorder.second s = refl

pub none_used : (r : Recorder) (s : SharedList) → FreshShared s → (view_of (own r s)).used ≡ 0
unfolding view_of
none_used r s f = ap (λ (z : Sizes). z.used) (own_sizes r s) ∙ f.unused

module _ (r : Recorder) (s : SharedList) (o : HeldList) (f : FreshShared s) (g : Fresh o) (c : capacity o.list ≡ s.sizes.capacity) where
  none_here : (view_of (own r s)).used ≡ 0
  none_here = none_used r s f

  none_used_alone : (view_of o).used ≡ 0
  unfolding view_of
  none_used_alone = g.unused

  fresh_covers : Covers (view_of (own r s)) (view_of o)
  unfolding weigh sum_to
  fresh_covers = record {
    distinct_s = λ i j a b q. absurd (omega (arith, none_here));
    distinct_o = λ i j a b q. absurd (omega (arith, none_used_alone));
    into = λ j a. absurd (omega (arith, none_used_alone));
    agree = λ i j a b q. absurd (omega (arith, none_here));
    rest = λ i a u. absurd (omega (arith, none_here));
    room = rw (none_here, none_used_alone);
    sums = λ w z. rw (none_here, none_used_alone);
  }

  fresh_beside : BesideIn r (started s o)
  fresh_beside = record {
    matched = record {
      shaped_s = fresh_own s f r;
      shaped_o = held_shaped o g.shape;
      capacities = ap (λ (z : Sizes). z.capacity) (own_sizes r s) ∙ sym c;
      covers = fresh_covers;
    };
    other = fresh_other s f r;
    admitted = λ i a. absurd (omega (arith, none_here));
    good = tt;
  }

  module _ (ms : List Made) (takes : TakesOwn r [] s ms) (none : NoneFull (own_answers r s ms)) where
    pub fresh_runs : Runs r (started s o) ms
    fresh_runs = runs_together r (started s o) ms fresh_beside takes none

    -- what is kept at the end
    pub ending : Matched (own r (run s ms)) (after o (alone r s o ms))
    ending =
        subst (λ (x : SharedList). Matched (own r x) (after o (alone r s o ms))) (shared_run r (started s o) ms)
        (subst (λ (x : HeldList). Matched (own r (both_after r (started s o) ms).shared) x) (lone_run r (started s o) ms) fresh_runs.1.matched)

    pub ending_admitted : EachPlace PlaceAdmitted (view_of (own r (run s ms)))
    ending_admitted =
        subst (λ (x : SharedList). EachPlace PlaceAdmitted (view_of (own r x))) (shared_run r (started s o) ms) fresh_runs.1.admitted

    -- two calls that answered one position on the shared list answered one position alone, so that it does not matter which of them a confirm is said to take
    pub one_position : (d : Position) (i j : ℕ) → i < length (both_after r (started s o) ms).log → j < length (both_after r (started s o) ms).log
        → (get_or (both_after r (started s o) ms).log i d).shared ≡ (get_or (both_after r (started s o) ms).log j d).shared
        → (get_or (both_after r (started s o) ms).log i d).alone ≡ (get_or (both_after r (started s o) ms).log j d).alone
    one_position d i j a b q =
        let w = both_after r (started s o) ms in
        let k = fresh_runs.1 in
        good_same (own r w.shared) w.lone k.matched.covers (get_or w.log i d) (get_or w.log j d)
        (good_nth (own r w.shared) w.lone w.log k.good d i a) (good_nth (own r w.shared) w.lone w.log k.good d j b) q
