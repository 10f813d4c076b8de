-- A confirm or a drop on the shared list and alone, at two places that have one key (confirm_together, drop_together): its holds and its count are the same
-- on both, so both are refused with one number or both change the place alike. Assumes nothing.
use Prim.Native.Nat.{ℕ, ◌+◌, ◌-◌, ◌<◌}
use mathlib.Core.Path.{◌≡◌, refl}
use mathlib.Core.List.{[]}
use borrow.Author.Tests.{lt-ltb}
use Rattle.words.specs.Outcomes.{outcome}
use Rattle.words.specs.Refusals.{Judgement, Fine, Declined}
use Rattle.list.specs.Lists.{used, multiplicity_at, entry_at}
use Rattle.list.specs.Holds.{HeldList, hold_at}
use Rattle.list.proofs.HeldLists.{held_shape_fine}
use Rattle.list_record.specs.Recording.{settled}
use Rattle.list_record.specs.Holding.{drop_reason, confirm_reason, confirm_all, drop_all}
use Rattle.list_record.proofs.Stores.{settled_shaped}
use Rattle.list_record.proofs.RecordViews.{view_of, settled_view}
use Rattle.shared_law.proofs.Covering.{both_changed}
use Rattle.shared_law.proofs.Together.{Matched, Joined, joined_stay, changed_grown}

module _ (S O : HeldList) (m : Matched S O) (p q : ℕ) (hp : p < used S.list) (hq : q < used O.list)
    (key : entry_at S.list p ≡ entry_at O.list q) where
  same_place : (multiplicity_at S.list p ≡ multiplicity_at O.list q) × (hold_at S p ≡ hold_at O q)
  unfolding view_of
  same_place = m.covers.agree p q hp hq key

  -- both places get the same count and holds, unless something speaks against it
  settled_together : (j : Judgement) (c g : ℕ) → Joined S O (outcome j [] S (settled S p c g)) (outcome j [] O (settled O q c g))
  unfolding view_of
  settled_together Fine c g =
      let r = settled_view S p c g m.shaped_s hp in
      let s = settled_view O q c g m.shaped_o hq in
      record {
        number = refl;
        matched = record {
          shaped_s = settled_shaped S p c g m.shaped_s;
          shaped_o = settled_shaped O q c g m.shaped_o;
          capacities = m.capacities;
          covers = both_changed m.covers r s key;
        };
        grown_s = changed_grown r;
        grown_o = changed_grown s;
      }
  settled_together (Declined k) c g =
      joined_stay (outcome (Declined k) [] S (settled S p c g)) (outcome (Declined k) [] O (settled O q c g)) refl refl refl m

  drop_reasons : drop_reason S p ≡ drop_reason O q
  unfolding drop_reason
  drop_reasons =
      rw (held_shape_fine S m.shaped_s, held_shape_fine O m.shaped_o, lt-ltb p (used S.list) hp, lt-ltb q (used O.list) hq, same_place.1)

  confirm_reasons : confirm_reason S p ≡ confirm_reason O q
  unfolding confirm_reason
  confirm_reasons = rw (drop_reasons, same_place.0)

  pub drop_together : Joined S O (drop_all S p) (drop_all O q)
  unfolding drop_all
  drop_together =
      rw (drop_reasons, same_place.0, same_place.1)
      (settled_together (drop_reason O q) (multiplicity_at O.list q) (hold_at O q - 1))

  pub confirm_together : Joined S O (confirm_all S p) (confirm_all O q)
  unfolding confirm_all
  confirm_together =
      rw (confirm_reasons, same_place.0, same_place.1)
      (settled_together (confirm_reason O q) (multiplicity_at O.list q + 1) (hold_at O q - 1))
