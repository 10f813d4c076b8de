-- Reading the text of a sheet: some bytes more, from a place of the text on; after a fault; and in two parts. And the answer that is put. Assumes nothing.
use Prim.Native.Nat.{ℕ, ◌+◌, ◌≤◌, ◌<◌}
use mathlib.Core.Path.{◌≡◌, refl, sym, ap, ◌∙◌}
use mathlib.Core.List.{List, [], ◌∷◌, ◌++◌}
use native.Mathlib.Nat.{zero-add}
use native.Mathlib.Numerals.{add-one}
use lib.ListN.{length, get_or, take, drop, drop_of_length-le}
use lib.Seq.{drop-cons}
use Rattle.std.specs.Prelude.{Result, Err}
use Rattle.words.proofs.Sets.{take_sets_front}
use Rattle.text.specs.Put.{Put}
use Rattle.numbers.specs.declared.Fault.{Fault}
use Rattle.numbers.specs.declared.Reader.{Reader}
use Rattle.numbers.specs.Sheets.{Fed, fed, feed_byte, feed_all, IsFed}

module _ {S : Type 0} (take : (line : ℕ) → S → (value : ℕ) → (words : List ℕ) → Fed S) where
  pub feed_fault : (fault : Fault) (text words : List ℕ) → feed_all take (Err fault) text words ≡ fed (Err fault) words
  unfolding feed_all
  feed_fault fault [] words = refl
  feed_fault fault (byte ∷ text) words = feed_fault fault text words

  pub feed_after_fault : {fits : S → Type 0} {stage r : Result (Reader S) Fault} (fault : Fault) (text words : List ℕ) → stage ≡ Err fault → r ≡ Err fault
      → IsFed fits (feed_all take stage text words) r words
  feed_after_fault fault text words e h = rw (e, h, feed_fault fault text words) (record { stage = refl; words = refl; within = tt })

  pub feed_append : (stage : Result (Reader S) Fault) (a b words : List ℕ)
      → feed_all take stage (a ++ b) words ≡ feed_all take (feed_all take stage a words).stage b (feed_all take stage a words).words
  unfolding feed_all
  feed_append stage [] b words = refl
  feed_append stage (x ∷ a) b words = feed_append (feed_byte take stage x words).stage a b (feed_byte take stage x words).words

  module _ (stage : Result (Reader S) Fault) (text words : List ℕ) (i : ℕ) where
    pub feed_more : {fits : S → Type 0} {s : Result (Reader S) Fault} {after : List ℕ} → i < length text
        → IsFed fits (feed_byte take stage (get_or text i 0) words) s after
        → feed_all take stage (drop i text) words ≡ feed_all take s (drop (i + 1) text) after
    unfolding feed_all
    feed_more h f = rw (drop-cons text i 0 h, add-one, f.stage, f.words)

    pub feed_ends : length text ≤ i → feed_all take stage (drop i text) words ≡ fed stage words
    unfolding feed_all
    feed_ends h = rw (drop_of_length-le text h)

    -- a byte that is a fault ends the reading
    pub feed_stops : {fits : S → Type 0} {fault : Fault} {after : List ℕ} {whole : Fed (Reader S)} → i < length text
        → IsFed fits (feed_byte take stage (get_or text i 0) words) (Err fault) after → whole ≡ feed_all take stage (drop i text) words
        → IsFed fits whole (Err fault) after
    feed_stops {fault = fault} {after = after} h f e =
        let all = e ∙ feed_more h f ∙ feed_fault fault (drop (i + 1) text) after in
        record { stage = sym (ap (λ (d : Fed (Reader S)). d.stage) all); words = sym (ap (λ (d : Fed (Reader S)). d.words) all); within = tt }

-- what was put at the front of a buffer stands there
pub put_whole : {before text after : List ℕ} {n : ℕ} → Put before 0 text after n → take n after ≡ text
put_whole {n = n} p = ap (take n) p.held ∙ take_sets_front _ _ _ (sym (p.place ∙ zero-add _)) p.fits
