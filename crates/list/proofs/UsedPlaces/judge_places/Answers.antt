-- `list::UsedPlaces::judge_places` meets its contract. The loop's invariant: the first reason among all used places is the first among those from `place`
-- on, and `height` is the height of the places before it, at most 65 each, so that no sum wraps. Assumes nothing.
use Prim.Native.Nat.{ℕ, ◌+◌}
use mathlib.Core.Path.{◌≡◌, refl, sym, ◌∙◌}
use mathlib.Core.Bool.{Bool}
use native.Mathlib.Omega.{arith}
use Rattle.std.specs.Prelude.{Ok}
use native.Mathlib.Numerals.{add-one}
use borrow.Author.Rules.{rules}
use Rattle.words.specs.Refusals.{first_reason, Fine}
use Rattle.isa.specs.declared.U32TableEntry.{U32TableEntry}
use Rattle.isa.specs.Entries.{admitted, height}
use Rattle.list.specs.Lists.{U32List, used, key_at, multiplicity_at, entry_at, judge_place_by}
use Rattle.list.specs.Heights.{judged_places}
use Rattle.words.proofs.Judgements.{handed_on, first_hit, first_step, first_done, first_start}
use Rattle.list.proofs.JudgedLists.{place_fine, place_refused, place_full, admitted_told_by, refused_told_by}
use Rattle.list.proofs.JudgedLists.{places_declined, places_fine}
use Rattle.list.proofs.JudgedLists.{height_to, height_more, height_none, list_height_lem}
use Rattle.list.proofs.UsedPlaces.judge_places.Goals as goal

-- a turn adds the height of the entry at its place
height_turn : (l : U32List) (i : ℕ) {h r : ℕ} {x : U32TableEntry}
    → h ≡ height_to l i → r ≡ height x → x ≡ admitted (key_at l i) → h + r ≡ height_to l (i + 1)
unfolding entry_at
height_turn l i e f g = let d = height_more l i in rw (add-one i) (cc)

-- after the last turn
all_judged : (stored : Bool) (l : U32List) (i : ℕ) {h : ℕ}
    → i ≡ used l → first_reason (judge_place_by stored l) 0 (used l) ≡ Fine → h ≡ height_to l i → Ok h ≡ judged_places stored l
all_judged stored l i e places f = let d = places_fine stored l places in let g = list_height_lem l in cc

pub loop-place-init : goal.loop-place-init
loop-place-init c = (omega arith, sym (first_start _ _), sym (height_none _))

pub returns-then-count_full : goal.returns-then-count_full
unfolding multiplicity_at
returns-then-count_full c =
    let fine = admitted_told_by _ (c.key_at.ensures _ _) c.in_ok-entry.ensures refl in
    sym
    (places_declined _ _
    (c.loop-place.invariant.1
    ∙ first_hit _ _ _ (search rules) (place_full _ _ _ fine.0 (sym c.count_full.ensures ∙ c.if-count_full.true))))

pub returns-in_err-entry : goal.returns-in_err-entry
returns-in_err-entry c =
    let entry = refused_told_by _ (c.key_at.ensures _ _) c.in_err-entry.ensures refl in
    handed_on _ c.from_residual.ensures.1
    ∙ sym
    (places_declined _ _
    (c.loop-place.invariant.1 ∙ first_hit _ _ _ (search rules) (place_refused _ _ _ entry)))

pub loop-place-preserved : goal.loop-place-preserved
unfolding multiplicity_at
loop-place-preserved c = (
  search rules,
  let entry = admitted_told_by _ (c.key_at.ensures _ _) c.in_ok-entry.ensures refl in
      c.loop-place.invariant.1
      ∙ first_step _ _ _ (search rules)
      (place_fine _ _ _ entry.0 (sym c.count_full.ensures ∙ c.if-count_full.false)),
  let told = admitted_told_by _ (c.key_at.ensures _ _) c.in_ok-entry.ensures refl in
      height_turn _ _ c.loop-place.invariant.2 c.table_height_contribution-height.ensures.exact told.1,
)

pub returns : goal.returns
returns c =
    all_judged _ _ _ (search rules) (c.loop-place.invariant.1 ∙ first_done _ _ _ (search rules)) c.loop-place.invariant.2
