-- `lookup::LentLookupsMut::find_limb` meets its contract: each way out is one of the cases of a place (proofs/LookupCases.antt). Assumes nothing.
use Prim.Native.Nat.{ℕ, ◌≤◌, ◌<◌}
use mathlib.Core.Path.{◌≡◌, refl, sym, ap, ◌∙◌}
use mathlib.Core.Bool.{Bool, true, false, not}
use mathlib.Core.List.{List}
use native.Mathlib.Omega.{arith}
use lib.ListN.{length, take}
use borrow.Author.Tests.{eq-eqb, ne_eqb}
use Rattle.std.specs.Prelude.{Err}
use Rattle.std.proofs.lemmas.List.{length-take-le}
use Rattle.words.specs.Limits.{byte_rows}
use Rattle.words.specs.Refusals.{decline_if, Fine, Declined}
use Rattle.words.specs.declared.Refusal.{Refusal}
use Rattle.words.specs.declared.Refusal.TheVariants.{Shape}
use Rattle.words.proofs.Judgements.{handed_on, decline_not_fine, fine_not_declined}
use Rattle.lookup.specs.Cascades.{Cascade, Lookups, used, find_from, find_value, cascade_shape, bytes_shape, lookup_shape}
use Rattle.lookup.specs.Placing.{place_of}
use Rattle.lookup.proofs.Finding.{find_part}
use Rattle.lookup.proofs.LookupCases.{Shaped, shaped, shape_declined, place_full, place_known, bytes_declined, place_new, no_place}
use Rattle.lookup.proofs.LentLookupsMut.find_limb.Goals as goal

-- what the test of the cascade's shape tells
right_cascade : {c d : Cascade} → c ≡ d → Fine ≡ decline_if (not (cascade_shape c)) Shape → cascade_shape d ≡ true
right_cascade is e = rw is at (decline_not_fine _ Shape (sym e))

room : {c d : Cascade} → c ≡ d → Fine ≡ decline_if (not (cascade_shape c)) Shape → Shaped d
room is e = shaped _ (right_cascade is e)

module _ (t : Lookups) {c : Cascade} (is : c ≡ t.values) where
  wrong_cascade : (v : ℕ) {k : Refusal} → Declined k ≡ decline_if (not (cascade_shape c)) Shape → Err k ≡ place_of t v
  wrong_cascade v {k} e = go (cascade_shape c) refl e where
    go : (b : Bool) → cascade_shape c ≡ b → Declined k ≡ decline_if (not b) Shape → Err k ≡ place_of t v
    go true s f = absurd (fine_not_declined (sym f))
    go false s f = ap Err (cc) ∙ sym (shape_declined t v (let w = rw is at s in rw w))

  wrong_bytes : (v : ℕ) → Fine ≡ decline_if (not (cascade_shape c)) Shape → (length t.byte_multiplicities ≡ byte_rows → ⊥) → place_of t v ≡ Err Shape
  unfolding bytes_shape
  wrong_bytes v e n = let s = right_cascade is e in shape_declined t v (rw (s, ne_eqb _ _ n))

  right_shape : Fine ≡ decline_if (not (cascade_shape c)) Shape → length t.byte_multiplicities ≡ byte_rows → lookup_shape t ≡ true
  unfolding bytes_shape
  right_shape e n = let s = right_cascade is e in rw (s, eq-eqb _ _ n)

-- what a search of the keys in use found
module _ {c d : Cascade} (is : c ≡ d) (e : Fine ≡ decline_if (not (cascade_shape c)) Shape) where
  within : used d ≤ length d.keys
  within = let s = room is e in omega (arith, s.within, s.keys)

  abbrev in_use : List ℕ
  in_use = take (used d) d.keys

  all_of_them : length in_use ≡ used d
  all_of_them = length-take-le _ _ within

  place_in_use : {at : ℕ} → at < length in_use → at < used d
  place_in_use h = omega (arith, all_of_them)

  found_place : {at : ℕ} (v : ℕ) → at ≡ find_from in_use v 0 (length in_use) → at ≡ find_value d v
  found_place v f = f ∙ find_part _ _ _ within

  found_none : (v : ℕ) → find_from in_use v 0 (length in_use) ≡ length in_use → used d ≡ find_value d v
  found_none v f = sym all_of_them ∙ found_place v (sym f)

pub returns-in_err-judge_shape : goal.returns-in_err-judge_shape
returns-in_err-judge_shape c = handed_on _ c.from_residual.ensures.1 ∙ wrong_cascade _ c.cascade.ensures _ c.in_err-judge_shape.ensures

pub returns-then-self-ne-BYTE_ROWS : goal.returns-then-self-ne-BYTE_ROWS
returns-then-self-ne-BYTE_ROWS c = sym (wrong_bytes _ c.cascade.ensures _ c.in_ok-judge_shape.ensures c.if-self-ne-BYTE_ROWS.true)

pub slice_bounds-find_value-end : goal.slice_bounds-find_value-end
slice_bounds-find_value-end c = sym (all_of_them c.cascade.ensures c.in_ok-judge_shape.ensures)

pub offset_bounds-self-at : goal.offset_bounds-self-at
offset_bounds-self-at c =
    let s = room c.cascade.ensures c.in_ok-judge_shape.ensures in
    record { fits = omega (arith, s.within, s.multiplicities, s.small, place_in_use c.cascade.ensures c.in_ok-judge_shape.ensures c.in-Some.ensures.0) }

pub bounds-self-at : goal.bounds-self-at
bounds-self-at c =
    let s = room c.cascade.ensures c.in_ok-judge_shape.ensures in omega (arith, s.within, s.multiplicities, place_in_use c.cascade.ensures c.in_ok-judge_shape.ensures c.in-Some.ensures.0)

pub returns-then-would_pass_limit : goal.returns-then-would_pass_limit
returns-then-would_pass_limit c =
    sym
    (place_full _ _ (right_shape _ c.cascade.ensures c.in_ok-judge_shape.ensures c.if-self-ne-BYTE_ROWS.false) _ (found_place c.cascade.ensures c.in_ok-judge_shape.ensures _ c.in-Some.ensures.1)
    (place_in_use c.cascade.ensures c.in_ok-judge_shape.ensures c.in-Some.ensures.0)
    (sym c.if-would_pass_limit.ensures))

pub returns-in-Some : goal.returns-in-Some
returns-in-Some c =
    sym
    (place_known _ _ (right_shape _ c.cascade.ensures c.in_ok-judge_shape.ensures c.if-self-ne-BYTE_ROWS.false) _ (found_place c.cascade.ensures c.in_ok-judge_shape.ensures _ c.in-Some.ensures.1)
    (place_in_use c.cascade.ensures c.in_ok-judge_shape.ensures c.in-Some.ensures.0)
    (sym c.if-would_pass_limit.ensures))

pub returns-then-bytes_full : goal.returns-then-bytes_full
returns-then-bytes_full c =
    sym
    (bytes_declined _ _ (right_shape _ c.cascade.ensures c.in_ok-judge_shape.ensures c.if-self-ne-BYTE_ROWS.false) _ (found_none c.cascade.ensures c.in_ok-judge_shape.ensures _ c.in_default.ensures) (omega arith)
    (sym c.if-bytes_full.ensures))

pub returns-then-used-self : goal.returns-then-used-self
returns-then-used-self c =
    sym
    (place_new _ _ (right_shape _ c.cascade.ensures c.in_ok-judge_shape.ensures c.if-self-ne-BYTE_ROWS.false) _ (found_none c.cascade.ensures c.in_ok-judge_shape.ensures _ c.in_default.ensures) (omega arith)
    (sym c.if-bytes_full.ensures) c.if-used-self.true)

pub returns-else-used-self : goal.returns-else-used-self
returns-else-used-self c =
    sym
    (no_place _ _ (right_shape _ c.cascade.ensures c.in_ok-judge_shape.ensures c.if-self-ne-BYTE_ROWS.false) _ (found_none c.cascade.ensures c.in_ok-judge_shape.ensures _ c.in_default.ensures) (omega arith)
    (sym c.if-bytes_full.ensures) c.if-used-self.false)
