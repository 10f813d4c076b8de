-- The places of two entries, both found before the first is stored. No contract of a call cites this page; proofs/BothPlaces.antt: both_places says
-- that the second is the place which the list has for it once the first is stored.
use Rattle.std.specs.Prelude.{◌+◌, cond, ltb, Ok, Err}
use Rattle.words.specs.declared.Refusal.TheVariants.{ListFull}
use Rattle.list.specs.declared.Sizes.{Sizes}
use Rattle.list_record.specs.declared.Place.TheVariants.{Known, New}
use Rattle.list_record.specs.Placing.{Placed}

-- the second of two new keys needs a second unused place
abbrev pub second_place : Sizes → (first second : Placed) → Placed
second_place s (Ok (New e)) (Ok (New f)) = cond (ltb (s.used + 1) s.capacity) (Ok (New f)) (Err ListFull)
second_place s (Ok (New e)) (Ok (Known i)) = Ok (Known i)
second_place s (Ok (New e)) (Err reason) = Err reason
second_place s (Ok (Known i)) second = second
second_place s (Err reason) second = second
