-- THE LAW of request 6 (multiplicity_is): after any calls from a fresh list, the multiplicity at a used place is how often its key was counted, and a key
-- at no used place was not counted. No key stands at two used places, and each kind of change keeps both. Assumes nothing.
use mathlib.Core.Path.{refl}
use mathlib.Core.List.{List, []}
use native.Mathlib.Omega.{arith}
use Rattle.isa.specs.declared.U32TableEntry.{U32TableEntry}
use Rattle.list.specs.Holds.{HeldList}
use Rattle.list_record.proofs.Views.{View}
use Rattle.list_record.proofs.RecordViews.{view_of}
use Rattle.list_laws.specs.Calls.{Call, after, counted, occurrences, Fresh, Counted}
use Rattle.list_laws.proofs.Distinct.{Distinct, changed_distinct, appended_distinct}
use Rattle.list_laws.proofs.Tallies.{Tallied, tally_counted, tally_kept, tally_new, tally_none}
use Rattle.list_laws.proofs.Carried.{Carried, calls_carry}

abbrev pub Lawful : View → List U32TableEntry → Type 0
Lawful v es = Distinct v × Tallied v es

pub lawful_carried : Carried Lawful
lawful_carried = record {
  counted = λ a b i g es m r s. (changed_distinct r s.0, tally_counted s.0 s.1 r);
  kept = λ a b i g es r s. (changed_distinct r s.0, tally_kept s.1 r);
  new = λ a b k g es f u r s. (appended_distinct r u s.0, tally_new s.1 r u);
  none = λ a b k g es f u r s. (appended_distinct r u s.0, tally_none s.1 r u);
}

fresh_lawful : (h : HeldList) → Fresh h → Lawful (view_of h) []
unfolding view_of occurrences
fresh_lawful h f = (
  λ i j a b q. absurd (omega (arith, f.unused)),
  record { placed = λ i a. absurd (omega (arith, f.unused)); absent = λ k n. refl },
)

pub lawful : (h : HeldList) (cs : List Call) → Fresh h → Lawful (view_of (after h cs)) (counted h cs)
lawful h cs f = calls_carry Lawful lawful_carried h cs [] (fresh_lawful h f)

pub multiplicity_is : (h : HeldList) (cs : List Call) → Fresh h → Counted h cs
unfolding view_of
multiplicity_is h cs f = let t = (lawful h cs f).1 in record { placed = t.placed; absent = t.absent }
