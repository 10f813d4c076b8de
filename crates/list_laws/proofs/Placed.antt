-- What is counted stands at a used place (counted_placed): else it would not be counted, by the law. Assumes nothing.
use Prim.Native.Nat.{ℕ, ◌<◌}
use mathlib.Core.Path.{◌≡◌, refl}
use mathlib.Core.Bool.{Bool, true, false}
use mathlib.Core.List.{List, [], ◌∷◌}
use native.Mathlib.Omega.{arith}
use Rattle.isa.specs.declared.U32TableEntry.{U32TableEntry}
use Rattle.list.specs.Lists.{used, entry_at}
use Rattle.list.specs.Holds.{HeldList}
use Rattle.list_record.specs.Recording.{known}
use Rattle.list_record.proofs.OneKey.{known_found, found_known}
use Rattle.list_record.proofs.RecordViews.{EachEntry}
use Rattle.list_laws.specs.Calls.{Call, after, counted, occurrences, Fresh, Counted}
use Rattle.list_laws.proofs.Tallies.{same_bit}
use Rattle.list_laws.proofs.Law.{multiplicity_is}

-- some used place has the key
abbrev pub StandsIn : HeldList → U32TableEntry → Type 0
StandsIn h e = (i : ℕ) × (i < used h.list) × (entry_at h.list i ≡ e)

-- what holds of all that occur in a list holds of each of its entries
each_occurring : (P : U32TableEntry → Type 0) (es : List U32TableEntry) → ((e : U32TableEntry) → 0 < occurrences e es → P e) → EachEntry P es
unfolding occurrences
each_occurring P [] f = tt
each_occurring P (e ∷ es) f = (f e (omega (arith, same_bit e)), each_occurring P es (λ g h. f g (omega arith)))

occurs_placed : (h : HeldList) (cs : List Call) → Counted h cs → (e : U32TableEntry) → 0 < occurrences e (counted h cs) → StandsIn (after h cs) e
occurs_placed h cs law e some = go (known (after h cs) e) refl where
  go : (t : Bool) → known (after h cs) e ≡ t → StandsIn (after h cs) e
  go true k = known_found (after h cs) e k
  go false k =
      let none = law.absent e (λ i b q. let t = found_known (after h cs) e i b q in let z : ◌≡◌ {A = ℕ} 0 1 = cc in omega arith) in
      absurd (omega arith)

pub counted_placed : (h : HeldList) (cs : List Call) → Fresh h → EachEntry (StandsIn (after h cs)) (counted h cs)
counted_placed h cs f = each_occurring (StandsIn (after h cs)) (counted h cs) (occurs_placed h cs (multiplicity_is h cs f))
