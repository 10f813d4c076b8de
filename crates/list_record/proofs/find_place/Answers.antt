-- `list_record::find_place` meets its contract: declined for the shape or the entry, or the place of the admitted entry. The shape has room for
-- the search. Assumes nothing.
use mathlib.Core.Path.{◌≡◌, refl, sym, ◌∙◌}
use native.Mathlib.Omega.{arith}
use Rattle.words.specs.Refusals.{Fine}
use Rattle.words.proofs.Judgements.{handed_on}
use Rattle.isa.specs.declared.U32TableEntry.{U32TableEntry}
use Rattle.isa.specs.Entries.{judge_entry, admitted}
use Rattle.list.specs.Holds.{HeldList, held_shape}
use Rattle.list.proofs.JudgedLists.{admitted_told, refused_told}
use Rattle.list.proofs.HeldLists.{held_shaped}
use Rattle.list_record.specs.Recording.{place_reason}
use Rattle.list_record.specs.Placing.{Placed, place_as, place_of}
use Rattle.list_record.proofs.RecordingCases.{shape_declined, entry_declined, place_admitted}
use Rattle.list_record.proofs.find_place.Goals as goal

admitted_place : (h : HeldList) (e x : U32TableEntry) {r : Placed}
    → held_shape h ≡ Fine → (judge_entry e ≡ Fine) × (x ≡ admitted e) → r ≡ place_as (place_reason h x) h x → r ≡ place_of h e
admitted_place h e x s f q = let p = place_admitted h e s f.0 in rw (p, ← f.1) q

pub returns-in_err-held_shape : goal.returns-in_err-held_shape
returns-in_err-held_shape c = handed_on _ c.from_residual.ensures.1 ∙ sym (shape_declined _ _ (sym c.in_err-held_shape.ensures))

pub returns-in_err-admitted : goal.returns-in_err-admitted
returns-in_err-admitted c =
    handed_on _ c.from_residual-in_err-admitted.ensures.1
    ∙ sym (entry_declined _ _ (sym c.in_ok-held_shape.ensures) (refused_told refl c.in_err-admitted.ensures refl))

pub find_admitted-requires : goal.find_admitted-requires
find_admitted-requires c =
    let fits = held_shaped _ (sym c.in_ok-held_shape.ensures) in
    (omega arith, omega arith, omega arith, omega arith)

pub returns : goal.returns
returns c =
    admitted_place _ _ _ (sym c.in_ok-held_shape.ensures) (admitted_told refl c.in_ok-admitted.ensures refl) c.find_admitted.ensures
