-- Recordings one after the other: an accepted one goes on with the list that it leaves (each_accepted), a refused one is the last (each_refused)
-- and leaves its list as it was (refused_left). In an accepted run each is accepted (each_first); it answers no value (each_done), and two runs are one
-- (each_append). Assumes nothing.
use Prim.Native.Nat.{ℕ}
use mathlib.Core.Path.{◌≡◌, refl, sym, ap, ◌∙◌}
use mathlib.Core.Bool.{Bool, true, false}
use mathlib.Core.List.{List, [], ◌∷◌, ◌++◌}
use mathlib.Core.Logic.{◌≢◌}
use lib.Dec.{eqb}
use borrow.Author.Tests.{eqb-true, eqb-false, eq-eqb, ne_eqb}
use Rattle.words.specs.Answers.{done}
use Rattle.words.specs.Outcomes.{Outcome, outcome}
use Rattle.words.specs.Refusals.{Judgement, Fine, Declined}
use Rattle.isa.specs.declared.U32TableEntry.{U32TableEntry}
use Rattle.isa.specs.Entries.{admitted}
use Rattle.list.specs.Holds.{HeldList}
use Rattle.list_record.specs.Recording.{place_in, record_reason, recorded_into, record_with, record_all, record_each}

abbrev pub number_of : Outcome HeldList → ℕ
number_of o = o.answer.number

-- a refused recording leaves the list as it was
pub refused_left : (h : HeldList) (e : U32TableEntry) → number_of (record_all h e) ≢ 0 → (record_all h e).left ≡ h
unfolding record_with
refused_left h e n = go (record_reason h e) n where
  go : (j : Judgement) → number_of (outcome j (place_in h (admitted e) ∷ []) h (recorded_into 1 0 h (admitted e))) ≢ 0
      → (outcome j (place_in h (admitted e) ∷ []) h (recorded_into 1 0 h (admitted e))).left ≡ h
  go Fine n = absurd (n refl)
  go (Declined k) n = refl

module _ (h : HeldList) (e : U32TableEntry) (es : List U32TableEntry) where
  pub each_accepted : number_of (record_all h e) ≡ 0 → record_each h (e ∷ es) ≡ record_each (record_all h e).left es
  unfolding record_each
  each_accepted z = rw (eq-eqb (number_of (record_all h e)) 0 z)

  pub each_refused : number_of (record_all h e) ≢ 0 → record_each h (e ∷ es) ≡ record_all h e
  unfolding record_each
  each_refused n = rw (ne_eqb (number_of (record_all h e)) 0 n)

-- an accepted run of one or more: the first is accepted, and the rest are a run from the list that it leaves
pub each_first : (h : HeldList) (e : U32TableEntry) (es : List U32TableEntry) → number_of (record_each h (e ∷ es)) ≡ 0
    → (number_of (record_all h e) ≡ 0) × (record_each h (e ∷ es) ≡ record_each (record_all h e).left es)
each_first h e es z = go (eqb (number_of (record_all h e)) 0) refl where
  go : (t : Bool) → eqb (number_of (record_all h e)) 0 ≡ t
      → (number_of (record_all h e) ≡ 0) × (record_each h (e ∷ es) ≡ record_each (record_all h e).left es)
  go true q = let a = eqb-true _ _ q in (a, each_accepted h e es a)
  go false q = let n = eqb-false _ _ q in absurd (n (sym (ap number_of (each_refused h e es n)) ∙ z))

pub each_done : (h : HeldList) (es : List U32TableEntry) → number_of (record_each h es) ≡ 0 → (record_each h es).answer ≡ done []
unfolding record_each
each_done h [] z = refl
each_done h (e ∷ es) z =
    let first = each_first h e es z in
    ap (λ (o : Outcome HeldList). o.answer) first.1 ∙ each_done (record_all h e).left es (sym (ap number_of first.1) ∙ z)

-- two runs, the first of which is accepted
pub each_append : (h : HeldList) (xs ys : List U32TableEntry) → number_of (record_each h xs) ≡ 0
    → record_each h (xs ++ ys) ≡ record_each (record_each h xs).left ys
unfolding record_each
each_append h [] ys z = refl
each_append h (e ∷ es) ys z =
    let first = each_first h e es z in
    each_accepted h e (es ++ ys) first.0
    ∙ each_append (record_all h e).left es ys (sym (ap number_of first.1) ∙ z)
    ∙ ap (λ (o : Outcome HeldList). record_each o.left ys) (sym first.1)
