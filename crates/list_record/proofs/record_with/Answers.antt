-- `list_record::record_with` meets its contract: what is found has room (has_room), and storing there is the recording or the hold
-- (recorded_at). Assumes nothing.
use Prim.Native.Nat.{ℕ}
use mathlib.Core.Path.{◌≡◌, ap, ◌∙◌}
use borrow.Author.Rules.{rules}
use Rattle.words.specs.Answers.{Answer}
use Rattle.words.specs.Outcomes.{Leaves}
use Rattle.isa.specs.declared.U32TableEntry.{U32TableEntry}
use Rattle.list.specs.Holds.{HeldList}
use Rattle.list_record.specs.Recording.{record_with}
use Rattle.list_record.specs.Placing.{Placed, place_of, stored_at}
use Rattle.list_record.proofs.RecordingCases.{recorded_at, has_room}
use Rattle.list_record.proofs.record_with.Goals as goal

is_recorded : (count hold : ℕ) (h : HeldList) (e : U32TableEntry) {p : Placed} {a : Answer} {after : HeldList}
    → p ≡ place_of h e → Leaves (stored_at count hold h p) a after → Leaves (record_with count hold h e) a after
is_recorded count hold h e q k = rw (recorded_at count hold h e, ← q) k

pub store-requires : goal.store-requires
store-requires c = (search rules, search rules, has_room _ _ (c.find_place-place.ensures ∙ ap (λ (h : HeldList). place_of h c.args.entry) c.view.ensures))

pub returns : goal.returns
returns c = record {
  outcome =
      is_recorded _ _ _ _ (c.find_place-place.ensures ∙ ap (λ (h : HeldList). place_of h c.args.entry) c.view.ensures) c.store.ensures.outcome;
  same_arrays = c.store.ensures.same_arrays;
}
