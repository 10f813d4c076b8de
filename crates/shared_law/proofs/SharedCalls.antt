-- A recorder's call where both recorders' arrays are of the right shape: it is its own call on its own list, and the other's arrays are cleared at the places
-- that have come into use (call_shared_lem). Both stay of the right shape (shared_shaped). No key comes to stand at two used places (call_lasting), and as the other
-- sees it, places without count and holds have come into use (other_spares). Assumes nothing.
use Prim.Native.Nat.{ℕ, ◌+◌, ◌-◌, ◌≤◌, ◌<◌}
use mathlib.Core.Path.{◌≡◌, refl, sym, ap, ◌∙◌}
use mathlib.Core.Bool.{Bool, true, false, and-eq-true_iff}
use mathlib.Core.List.{List, [], ◌∷◌}
use native.Mathlib.Decide.{dec_lt}
use native.Mathlib.Omega.{arith}
use lib.Dec.{eqb}
use lib.ListN.{length, get_or, replicate, length-replicate, get_or-replicate}
use lib.Seq.{sets, length-sets}
use borrow.Author.Tests.{eqb-true, eqb-false, eq-eqb}
use Rattle.words.specs.Limits.{multiplicity_limit}
use Rattle.words.specs.Outcomes.{Outcome}
use Rattle.words.specs.Refusals.{Fine}
use Rattle.words.specs.declared.Refusal.TheVariants.{Shape}
use Rattle.words.proofs.Judgements.{decline_not_true}
use Rattle.words.proofs.Sets.{get_d_sets_below, get_d_sets_in}
use Rattle.isa.specs.declared.U32TableEntry.{U32TableEntry}
use Rattle.isa.specs.Entries.{judge_as_it_is}
use Rattle.list.specs.declared.Sizes.{Sizes}
use Rattle.list.specs.Lists.{capacity, used, key_at, entry_at, multiplicity_at}
use Rattle.list.specs.Holds.{HeldList, held_list, hold_at}
use Rattle.list.proofs.HeldLists.{HeldShaped}
use Rattle.list_record.specs.Recording.{record_all, record_each}
use Rattle.list_record.specs.Holding.{confirm_all, drop_all}
use Rattle.list_record.proofs.HoldingCases.{confirm_sizes, drop_sizes}
use Rattle.list_record.proofs.RecordEach.{number_of, each_accepted, each_refused}
use Rattle.list_record.proofs.Views.{View, Changed, EachPlace, changed_each, appended_each}
use Rattle.list_record.proofs.RecordViews.{view_of, PlaceAdmitted}
use Rattle.list_replay.specs.Replay.{replay_all, entries_from}
use Rattle.list_laws.specs.Calls.{Call, call_all, after, steps_done}
use Rattle.list_laws.proofs.Distinct.{Distinct, changed_distinct, appended_distinct}
use Rattle.list_laws.proofs.Replayed.{replayed}
use Rattle.list_laws.proofs.Carried.{Carried, call_carries, calls_shaped}
use Rattle.list_shared.specs.Shared.{Counts, Shared, other_shape, cleared, beside, record_shared, hold_shared, replay_shared}
use Rattle.shared_law.specs.Recorders.{beside_nothing, call_shared}
use Rattle.shared_law.proofs.Weighed.{Longer}
use Rattle.shared_law.proofs.Together.{Grown, grown_none, grown_twice, changed_grown, appended_grown, record_capacity}

-- ---- no call changes the capacity; a confirm and a drop do not change what is used

each_capacity : (h : HeldList) (es : List U32TableEntry) → capacity (record_each h es).left.list ≡ capacity h.list
unfolding record_each
each_capacity h [] = refl
each_capacity h (e ∷ es) = go (each_capacity (record_all h e).left es) (eqb (number_of (record_all h e)) 0) refl where
  go : capacity (record_each (record_all h e).left es).left.list ≡ capacity (record_all h e).left.list
      → (t : Bool) → eqb (number_of (record_all h e)) 0 ≡ t → capacity (record_each h (e ∷ es)).left.list ≡ capacity h.list
  go rest true q = rw (each_accepted h e es (eqb-true _ _ q)) (rest ∙ record_capacity 1 0 h e)
  go rest false q = rw (each_refused h e es (eqb-false _ _ q)) (record_capacity 1 0 h e)

pub call_capacity : (h : HeldList) (c : Call) → capacity (call_all h c).left.list ≡ capacity h.list
unfolding call_all
call_capacity h (Call.records e) = record_capacity 1 0 h e
call_capacity h (Call.holds e) = record_capacity 0 1 h e
call_capacity h (Call.confirms i) = ap (λ (z : Sizes). z.capacity) (confirm_sizes h i)
call_capacity h (Call.drops i) = ap (λ (z : Sizes). z.capacity) (drop_sizes h i)
call_capacity h (Call.replays trace) =
    let fs = entries_from trace 0 (steps_done (replay_all h trace)) in
    ap (λ (o : Outcome HeldList). capacity o.left.list) (sym (replayed h trace)) ∙ each_capacity h fs

-- ---- the call on both arrays

cleared_none : (u : ℕ) (c : Counts) → cleared u u c ≡ c
unfolding cleared
cleared_none u c = let none : u - u ≡ 0 = omega arith in rw none

-- where no place comes into use
cleared_nowhere : (h : HeldList) (other : Counts) (a : Outcome HeldList) → a.left.list.sizes ≡ h.list.sizes
    → beside_nothing a other
    ≡ record { answer = a.answer; left = record { own = a.left; other = cleared (used h.list) (used a.left.list) other } }
cleared_nowhere h other a q =
    let same : other ≡ cleared (used h.list) (used a.left.list) other
    = sym (ap (λ (z : Sizes). cleared (used h.list) z.used other) q ∙ cleared_none (used h.list) other) in
    ap (λ (x : Counts). beside_nothing a x) same

pub call_shared_lem : (h : HeldList) (other : Counts) (c : Call) → other_shape h other ≡ Fine
    → call_shared h other c
    ≡ record {
      answer = (call_all h c).answer;
      left = record { own = (call_all h c).left; other = cleared (used h.list) (used (call_all h c).left.list) other };
    }
unfolding call_shared call_all record_shared hold_shared replay_shared beside
call_shared_lem h other (Call.records e) q = rw q
call_shared_lem h other (Call.holds e) q = rw q
call_shared_lem h other (Call.confirms i) q = cleared_nowhere h other (confirm_all h i) (confirm_sizes h i)
call_shared_lem h other (Call.drops i) q = cleared_nowhere h other (drop_all h i) (drop_sizes h i)
call_shared_lem h other (Call.replays trace) q = rw q

-- ---- as the other sees it

-- own and other exchanged
abbrev pub turned : Shared → Shared
turned a = record {
  own = held_list a.own.list.sizes a.own.list.keys a.other.multiplicities a.other.holds;
  other = record { multiplicities = a.own.list.multiplicities; holds = a.own.holds };
}

-- both recorders' arrays are of the right shape
pub record BothShaped (a : Shared) : Type 0 where
  pub own : HeldShaped a.own
  pub other : HeldShaped (turned a).own

pub turned_shaped : {a : Shared} → BothShaped a → BothShaped (turned a)
turned_shaped s = record { own = s.other; other = s.own }

pub other_fine : {a : Shared} → BothShaped a → other_shape a.own a.other ≡ Fine
unfolding other_shape
other_fine s = decline_not_true Shape ((and-eq-true_iff _ _).1 (eq-eqb _ _ s.other.list.multiplicities, eq-eqb _ _ s.other.holds))

-- what a call leaves
abbrev pub called : Shared → Call → Shared
called a c = record { own = (call_all a.own c).left; other = cleared (used a.own.list) (used (call_all a.own c).left.list) a.other }

cleared_length : (ws : List ℕ) (u v : ℕ) → length (sets ws u (replicate (v - u) 0)) ≡ length ws
cleared_length ws u v = length-sets ws u (replicate (v - u) 0)

pub shared_shaped : (a : Shared) (c : Call) → BothShaped a → BothShaped (called a c)
unfolding after cleared
shared_shaped a c s =
    let t : HeldShaped (call_all a.own c).left = calls_shaped a.own (c ∷ []) s.own in
    let same = call_capacity a.own c in
    let u = used a.own.list in
    let v = used (call_all a.own c).left.list in
    record {
      own = t;
      other = record {
        list = record {
          small = t.list.small;
          within = t.list.within;
          keys = t.list.keys;
          multiplicities = cleared_length a.other.multiplicities u v ∙ s.other.list.multiplicities ∙ sym same;
        };
        holds = cleared_length a.other.holds u v ∙ s.other.holds ∙ sym same;
      };
    }

-- both arrays are of the right shape: the call answers as on its own list, and leaves this
pub shared_call : (a : Shared) (c : Call) → BothShaped a
    → ((call_shared a.own a.other c).answer ≡ (call_all a.own c).answer) × ((call_shared a.own a.other c).left ≡ called a c)
shared_call a c s =
    let q = call_shared_lem a.own a.other c (other_fine s) in
    (ap (λ (o : Outcome Shared). o.answer) q, ap (λ (o : Outcome Shared). o.left) q)

-- ---- the keys

-- a key is as admission hands it back
abbrev pub AsItIs : U32TableEntry → ℕ → ℕ → Type 0
AsItIs k c g = judge_as_it_is k ≡ Fine

-- keys stay at used places, no key stands at two, and each is as admission hands it back
pub record Lasting (before v : View) : Type 0 where
  pub grown : Grown before v
  pub distinct : Distinct v
  pub keys : EachPlace AsItIs v

lasting_carried : (before : View) → Carried (λ v es. Lasting before v)
lasting_carried before = record {
  counted = λ a b i g es m r s. changed r s;
  kept = λ a b i g es r s. changed r s;
  new = λ a b k g es f u r s. record {
    grown = grown_twice s.grown (appended_grown r);
    distinct = appended_distinct r u s.distinct;
    keys = appended_each AsItIs r s.keys f;
  };
  none = λ a b k g es f u r s. record {
    grown = grown_twice s.grown (appended_grown r);
    distinct = appended_distinct r u s.distinct;
    keys = appended_each AsItIs r s.keys f;
  };
}
  where
    changed : {a b : View} {i c g : ℕ} → Changed a b i c g → Lasting before a → Lasting before b
    changed {a} {b} {i} r s = record {
      grown = grown_twice s.grown (changed_grown r);
      distinct = changed_distinct r s.distinct;
      keys = changed_each AsItIs r s.keys (s.keys i r.inside);
    }

pub call_lasting : (h : HeldList) (c : Call) → Distinct (view_of h) → EachPlace AsItIs (view_of h)
    → Lasting (view_of h) (view_of (call_all h c).left)
call_lasting h c d k =
    call_carries (λ v es. Lasting (view_of h) v) (lasting_carried (view_of h)) h c []
    (record { grown = grown_none (view_of h); distinct = d; keys = k })

-- the admitted stays so, on its own list
admitted_carried : Carried (λ v es. EachPlace PlaceAdmitted v)
admitted_carried = record {
  counted = λ a b i g es m r s. changed_each PlaceAdmitted r s ((s i r.inside).0, m);
  kept = λ a b i g es r s. changed_each PlaceAdmitted r s (s i r.inside);
  new = λ a b k g es f u r s. appended_each PlaceAdmitted r s (f, omega arith);
  none = λ a b k g es f u r s. appended_each PlaceAdmitted r s (f, omega arith);
}

pub call_admitted : (h : HeldList) (c : Call) → EachPlace PlaceAdmitted (view_of h) → EachPlace PlaceAdmitted (view_of (call_all h c).left)
call_admitted h c s = call_carries (λ v es. EachPlace PlaceAdmitted v) admitted_carried h c [] s

-- ---- what the other sees

-- words that are cleared from place u to u'
cleared_old : (ws : List ℕ) (u v j : ℕ) → j < u → get_or (sets ws u (replicate (v - u) 0)) j 0 ≡ get_or ws j 0
cleared_old ws u v j h = get_d_sets_below (replicate (v - u) 0) ws u j 0 h

cleared_new : (ws : List ℕ) (u v j : ℕ) → u ≤ j → j < v → v ≤ length ws → get_or (sets ws u (replicate (v - u) 0)) j 0 ≡ 0
cleared_new ws u v j a b w =
    let n = length-replicate {A = ℕ} (v - u) 0 in
    let at : j ≡ u + (j - u) = omega arith in
    ap (λ (i : ℕ). get_or (sets ws u (replicate (v - u) 0)) i 0) at
    ∙ get_d_sets_in (replicate (v - u) 0) ws u (j - u) 0 (omega arith) (omega arith)
    ∙ get_or-replicate (v - u) (j - u) 0 0 (omega arith)

pub shared_longer : (a : Shared) (c : Call) → BothShaped a → Grown (view_of a.own) (view_of (call_all a.own c).left)
    → Longer (view_of (turned a).own) (view_of (turned (called a c)).own)
unfolding view_of entry_at key_at multiplicity_at hold_at cleared
shared_longer a c s g =
    let t = shared_shaped a c s in
    let within = t.other.list.within in
    let size = call_capacity a.own c in
    record {
      more = g.more;
      keys = g.keys;
      count_old = λ j h. cleared_old a.other.multiplicities (used a.own.list) (used (call_all a.own c).left.list) j h;
      hold_old = λ j h. cleared_old a.other.holds (used a.own.list) (used (call_all a.own c).left.list) j h;
      count_new = λ j h k.
          cleared_new a.other.multiplicities (used a.own.list) (used (call_all a.own c).left.list) j h k
          (omega (arith, s.other.list.multiplicities));
      hold_new = λ j h k.
          cleared_new a.other.holds (used a.own.list) (used (call_all a.own c).left.list) j h k (omega (arith, s.other.holds));
    }

-- ---- the other's call, for the list as the recorder has it

-- places without count and holds come into use; still no key stands at two places, and each is as admission hands it back
pub record Spared (a b : View) : Type 0 where
  pub longer : Longer a b
  pub distinct : Distinct b
  pub keys : EachPlace AsItIs b

module _ (a : Shared) (c : Call) (s : BothShaped a) (d : Distinct (view_of a.own)) (k : EachPlace AsItIs (view_of a.own)) where
  -- the other's list has the same keys
  other_distinct : Distinct (view_of (turned a).own)
  unfolding view_of entry_at key_at
  other_distinct = d

  other_keys : EachPlace AsItIs (view_of (turned a).own)
  unfolding view_of entry_at key_at
  other_keys = k

  other_lasting : Lasting (view_of (turned a).own) (view_of (call_all (turned a).own c).left)
  other_lasting = call_lasting (turned a).own c other_distinct other_keys

  pub other_spares : Spared (view_of a.own) (view_of (turned (called (turned a) c)).own)
  unfolding view_of entry_at key_at
  other_spares = record {
    longer = shared_longer (turned a) c (turned_shaped s) other_lasting.grown;
    distinct = other_lasting.distinct;
    keys = other_lasting.keys;
  }

-- what is admitted stays so
pub spared_admitted : {a b : View} → Spared a b → EachPlace PlaceAdmitted a → EachPlace PlaceAdmitted b
spared_admitted {a} {b} s each i h = (s.keys i h, within (dec_lt i a.used)) where
  within : Dec (i < a.used) → b.count i ≤ multiplicity_limit
  within (yes k) = rw (s.longer.count_old i k) (each i k).1
  within (no k) = rw (s.longer.count_new i (omega arith) h) (omega arith)
