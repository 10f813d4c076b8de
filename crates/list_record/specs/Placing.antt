-- Recording in two parts: where an entry goes, and storing it there. No contract of document 01's calls cites this page;
-- proofs/RecordingCases.antt: recorded_at says that the two parts are a recording.
use Rattle.std.specs.Prelude.{ℕ, ◌+◌, ◌*◌, ◌<◌, ◌≡◌, false, cond, [], ◌∷◌, length, Result, Ok, Err}
use Rattle.words.specs.declared.Refusal.{Refusal}
use Rattle.words.specs.Answers.{done, declined}
use Rattle.words.specs.Outcomes.{Outcome}
use Rattle.words.specs.Refusals.{Judgement, Fine, Declined}
use Rattle.isa.specs.declared.U32TableEntry.{U32TableEntry}
use Rattle.isa.specs.Entries.{entry_width, admitted}
use Rattle.list.specs.Lists.{used, multiplicity_at, count_full}
use Rattle.list.specs.Holds.{HeldList, hold_at}
use Rattle.list_record.specs.declared.Place.{Place}
use Rattle.list_record.specs.declared.Place.TheVariants.{Known, New}
use Rattle.list_record.specs.Recording.{place_in, known, record_reason, raised, appended}

-- the place of the first equal key, or the new key, unless a reason speaks against it
abbrev pub Placed : Type 0
Placed = Result Place Refusal

abbrev pub place_as : Judgement → HeldList → U32TableEntry → Placed
place_as Fine h e = Ok (cond (known h e) (Known (place_in h e)) (New e))
place_as (Declined reason) h e = Err reason

unfoldable pub place_of : HeldList → U32TableEntry → Placed
place_of h e = place_as (record_reason h e) h (admitted e)

-- what storing so many counts and holds there leaves
abbrev pub stored_at : (count hold : ℕ) → HeldList → Placed → Outcome HeldList
stored_at count hold h (Ok (Known i)) = record { answer = done (i ∷ []); left = raised count hold h i }
stored_at count hold h (Ok (New e)) = record { answer = done (used h.list ∷ []); left = appended count hold h e }
stored_at count hold h (Err reason) = record { answer = declined reason; left = h }

-- there is room for it: count and holds can gain one, the key has its words
abbrev pub Fits : HeldList → Placed → Type 0
Fits h (Ok (Known i)) =
    (i < length h.list.multiplicities) × (i < length h.holds) × (count_full (multiplicity_at h.list i + hold_at h i + 1) ≡ false)
Fits h (Ok (New e)) =
    (entry_width * used h.list + 2 < length h.list.keys) × (used h.list < length h.list.multiplicities) × (used h.list < length h.holds)
Fits h (Err reason) = Unit {0}
