-- What is true of a list's places and of what was counted, and stays so by each kind of change (Carried), is true after any calls (calls_carry). A call
-- that is accepted is one of four changes: a place's count grows by one, or only its holds change, or a key is appended with 1, or with 0; a replay is as
-- many recordings as the steps it did have entries. A call that is refused changes and counts nothing. No call changes the shape (calls_shaped).
-- Assumes nothing.
use Prim.Native.Nat.{ℕ, ◌+◌, ◌-◌, ◌≤◌}
use mathlib.Core.Path.{◌≡◌, refl, sym, ap, ◌∙◌, subst}
use mathlib.Core.Bool.{Bool, true, false, cond}
use mathlib.Core.List.{List, [], ◌∷◌, ◌++◌, map, append-nil, append_assoc}
use mathlib.Core.Logic.{◌≢◌}
use native.Mathlib.Nat.{add-zero}
use native.Mathlib.Omega.{arith}
use lib.Dec.{eqb}
use borrow.Author.Tests.{eqb-true, eqb-false}
use Rattle.words.specs.Limits.{multiplicity_limit}
use Rattle.words.specs.Outcomes.{Outcome}
use Rattle.words.specs.Refusals.{Fine}
use Rattle.isa.specs.declared.U32TableEntry.{U32TableEntry}
use Rattle.isa.specs.Entries.{judge_as_it_is, judge_entry, admitted}
use Rattle.list.specs.Lists.{entry_at}
use Rattle.list.specs.Holds.{HeldList, hold_at}
use Rattle.list.proofs.HeldLists.{HeldShaped}
use Rattle.list_record.specs.Recording.{place_in, record_reason, recorded_into, record_with, record_all, hold_all, record_each}
use Rattle.list_record.specs.Holding.{confirm_reason, confirm_all, drop_reason, drop_all}
use Rattle.list_record.proofs.RecordEach.{number_of, each_first}
use Rattle.list_record.proofs.Views.{View, Unknown, Changed, Appended, Recorded}
use Rattle.list_record.proofs.RecordViews.{view_of, accepted, record_view, record_shaped, each_shaped}
use Rattle.list_record.proofs.HoldViews.{call_refused, drop_view, drop_shaped, confirm_within, confirm_view, confirm_shaped}
use Rattle.list_replay.specs.Replay.{replay_all, entries_from}
use Rattle.list_laws.specs.Calls.{Call, call_all, after, steps_done, counts, counted}
use Rattle.list_laws.proofs.Replayed.{replayed}

pub record Carried (S : View → List U32TableEntry → Type 0) : Type 0 where
  -- a recording or a confirm of a key that stands at place i
  pub counted : (a b : View) (i g : ℕ) (es : List U32TableEntry) → a.count i + 1 ≤ multiplicity_limit → Changed a b i (a.count i + 1) g
      → S a es → S b (es ++ (a.key i ∷ []))
  -- a hold or a drop of such a key
  pub kept : (a b : View) (i g : ℕ) (es : List U32TableEntry) → Changed a b i (a.count i) g → S a es → S b es
  -- a recording of a new key
  pub new : (a b : View) (k : U32TableEntry) (g : ℕ) (es : List U32TableEntry) → judge_as_it_is k ≡ Fine → Unknown a k → Appended a b k 1 g
      → S a es → S b (es ++ (k ∷ []))
  -- a hold of a new key
  pub none : (a b : View) (k : U32TableEntry) (g : ℕ) (es : List U32TableEntry) → judge_as_it_is k ≡ Fine → Unknown a k → Appended a b k 0 g
      → S a es → S b es

-- a refused call leaves the list
record_left : (count hold : ℕ) (h : HeldList) (e : U32TableEntry) → number_of (record_with count hold h e) ≢ 0 → (record_with count hold h e).left ≡ h
unfolding record_with
record_left count hold h e n = call_refused (record_reason h e) (place_in h (admitted e) ∷ []) h (recorded_into count hold h (admitted e)) n

confirm_left : (h : HeldList) (i : ℕ) → number_of (confirm_all h i) ≢ 0 → (confirm_all h i).left ≡ h
unfolding confirm_all
confirm_left h i n = call_refused (confirm_reason h i) [] h _ n

drop_left : (h : HeldList) (i : ℕ) → number_of (drop_all h i) ≢ 0 → (drop_all h i).left ≡ h
unfolding drop_all
drop_left h i n = call_refused (drop_reason h i) [] h _ n

entry_fine : (e : U32TableEntry) → judge_entry e ≡ Fine → judge_as_it_is (admitted e) ≡ Fine
unfolding judge_entry
entry_fine e q = q

abbrev left_of : Outcome HeldList → HeldList
left_of o = o.left

module _ (S : View → List U32TableEntry → Type 0) (carry : Carried S) where
  stays : (h m : HeldList) (es : List U32TableEntry) → m ≡ h → S (view_of h) es → S (view_of m) es
  stays h m es q s = subst (λ (x : HeldList). S (view_of x) es) (sym q) s

  counts_none : (h : HeldList) (es : List U32TableEntry) → S (view_of h) es → S (view_of h) (es ++ [])
  counts_none h es s = subst (S (view_of h)) (sym (append-nil es)) s

  record_carries : (h : HeldList) (e : U32TableEntry) (es : List U32TableEntry) → number_of (record_all h e) ≡ 0
      → S (view_of h) es → S (view_of (record_all h e).left) (es ++ (admitted e ∷ []))
  record_carries h e es z s = go (record_view 1 0 h e z) where
    go : Recorded 1 0 (view_of h) (view_of (record_all h e).left) (admitted e) → S (view_of (record_all h e).left) (es ++ (admitted e ∷ []))
    go (Recorded.gains i q m r) =
        subst (λ (k : U32TableEntry). S (view_of (record_all h e).left) (es ++ (k ∷ []))) q
        (carry.counted (view_of h) (view_of (record_all h e).left) i ((view_of h).hold i + 0) es (omega arith) r s)
    go (Recorded.appends u r) =
        carry.new (view_of h) (view_of (record_all h e).left) (admitted e) 0 es (entry_fine e (accepted 1 0 h e z).entry) u r s

  hold_carries : (h : HeldList) (e : U32TableEntry) (es : List U32TableEntry) → number_of (hold_all h e) ≡ 0
      → S (view_of h) es → S (view_of (hold_all h e).left) es
  hold_carries h e es z s = go (record_view 0 1 h e z) where
    go : Recorded 0 1 (view_of h) (view_of (hold_all h e).left) (admitted e) → S (view_of (hold_all h e).left) es
    go (Recorded.gains i q m r) =
        carry.kept (view_of h) (view_of (hold_all h e).left) i ((view_of h).hold i + 1) es
        (subst (λ (c : ℕ). Changed (view_of h) (view_of (hold_all h e).left) i c ((view_of h).hold i + 1)) (add-zero ((view_of h).count i)) r) s
    go (Recorded.appends u r) =
        carry.none (view_of h) (view_of (hold_all h e).left) (admitted e) 1 es (entry_fine e (accepted 0 1 h e z).entry) u r s

  confirm_carries : (h : HeldList) (i : ℕ) (es : List U32TableEntry) → number_of (confirm_all h i) ≡ 0
      → S (view_of h) es → S (view_of (confirm_all h i).left) (es ++ (entry_at h.list i ∷ []))
  unfolding view_of
  confirm_carries h i es z s =
      carry.counted (view_of h) (view_of (confirm_all h i).left) i (hold_at h i - 1) es (confirm_within h i z) (confirm_view h i z) s

  drop_carries : (h : HeldList) (i : ℕ) (es : List U32TableEntry) → number_of (drop_all h i) ≡ 0
      → S (view_of h) es → S (view_of (drop_all h i).left) es
  unfolding view_of
  drop_carries h i es z s = carry.kept (view_of h) (view_of (drop_all h i).left) i (hold_at h i - 1) es (drop_view h i z) s

  -- recordings one after the other, all accepted
  each_carries : (h : HeldList) (fs es : List U32TableEntry) → number_of (record_each h fs) ≡ 0
      → S (view_of h) es → S (view_of (record_each h fs).left) (es ++ map admitted fs)
  unfolding record_each
  each_carries h [] es z s = counts_none h es s
  each_carries h (e ∷ fs) es z s =
      let first = each_first h e fs z in
      let rest = each_carries (record_all h e).left fs (es ++ (admitted e ∷ [])) (sym (ap number_of first.1) ∙ z) (record_carries h e es first.0 s) in
      stays (record_each (record_all h e).left fs).left (record_each h (e ∷ fs)).left (es ++ map admitted (e ∷ fs)) (ap left_of first.1)
      (subst (S (view_of (record_each (record_all h e).left fs).left)) (append_assoc es (admitted e ∷ []) (map admitted fs)) rest)

  pub call_carries : (h : HeldList) (c : Call) (es : List U32TableEntry) → S (view_of h) es → S (view_of (call_all h c).left) (es ++ counts h c)
  unfolding call_all counts
  call_carries h (Call.records e) es s = go (eqb (number_of (record_all h e)) 0) refl where
    go : (t : Bool) → eqb (number_of (record_all h e)) 0 ≡ t → S (view_of (record_all h e).left) (es ++ cond t (admitted e ∷ []) [])
    go true q = record_carries h e es (eqb-true _ _ q) s
    go false q = stays h (record_all h e).left (es ++ []) (record_left 1 0 h e (eqb-false _ _ q)) (counts_none h es s)
  call_carries h (Call.holds e) es s = go (eqb (number_of (hold_all h e)) 0) refl where
    go : (t : Bool) → eqb (number_of (hold_all h e)) 0 ≡ t → S (view_of (hold_all h e).left) (es ++ [])
    go true q = counts_none (hold_all h e).left es (hold_carries h e es (eqb-true _ _ q) s)
    go false q = stays h (hold_all h e).left (es ++ []) (record_left 0 1 h e (eqb-false _ _ q)) (counts_none h es s)
  call_carries h (Call.confirms i) es s = go (eqb (number_of (confirm_all h i)) 0) refl where
    go : (t : Bool) → eqb (number_of (confirm_all h i)) 0 ≡ t → S (view_of (confirm_all h i).left) (es ++ cond t (entry_at h.list i ∷ []) [])
    go true q = confirm_carries h i es (eqb-true _ _ q) s
    go false q = stays h (confirm_all h i).left (es ++ []) (confirm_left h i (eqb-false _ _ q)) (counts_none h es s)
  call_carries h (Call.drops i) es s = go (eqb (number_of (drop_all h i)) 0) refl where
    go : (t : Bool) → eqb (number_of (drop_all h i)) 0 ≡ t → S (view_of (drop_all h i).left) (es ++ [])
    go true q = counts_none (drop_all h i).left es (drop_carries h i es (eqb-true _ _ q) s)
    go false q = stays h (drop_all h i).left (es ++ []) (drop_left h i (eqb-false _ _ q)) (counts_none h es s)
  call_carries h (Call.replays trace) es s =
      let fs = entries_from trace 0 (steps_done (replay_all h trace)) in
      let same = replayed h trace in
      stays (record_each h fs).left (replay_all h trace).left (es ++ map admitted fs) (sym (ap left_of same))
      (each_carries h fs es (ap number_of same) s)

  pub calls_carry : (h : HeldList) (cs : List Call) (es : List U32TableEntry) → S (view_of h) es → S (view_of (after h cs)) (es ++ counted h cs)
  unfolding after counted
  calls_carry h [] es s = counts_none h es s
  calls_carry h (c ∷ cs) es s =
      subst (S (view_of (after (call_all h c).left cs))) (append_assoc es (counts h c) (counted (call_all h c).left cs))
      (calls_carry (call_all h c).left cs (es ++ counts h c) (call_carries h c es s))

-- ---- the shape

record_keeps : (count hold : ℕ) (h : HeldList) (e : U32TableEntry) → HeldShaped h → HeldShaped (record_with count hold h e).left
record_keeps count hold h e s = go (eqb (number_of (record_with count hold h e)) 0) refl where
  go : (t : Bool) → eqb (number_of (record_with count hold h e)) 0 ≡ t → HeldShaped (record_with count hold h e).left
  go true q = record_shaped count hold h e (eqb-true _ _ q)
  go false q = subst HeldShaped (sym (record_left count hold h e (eqb-false _ _ q))) s

call_shaped : (h : HeldList) (c : Call) → HeldShaped h → HeldShaped (call_all h c).left
unfolding call_all
call_shaped h (Call.records e) s = record_keeps 1 0 h e s
call_shaped h (Call.holds e) s = record_keeps 0 1 h e s
call_shaped h (Call.confirms i) s = confirm_shaped h i s
call_shaped h (Call.drops i) s = drop_shaped h i s
call_shaped h (Call.replays trace) s =
    let fs = entries_from trace 0 (steps_done (replay_all h trace)) in
    let same = replayed h trace in
    subst HeldShaped (ap left_of same) (each_shaped h fs (ap number_of same) s)

pub calls_shaped : (h : HeldList) (cs : List Call) → HeldShaped h → HeldShaped (after h cs)
unfolding after
calls_shaped h [] s = s
calls_shaped h (c ∷ cs) s = calls_shaped (call_all h c).left cs (call_shaped h c s)
