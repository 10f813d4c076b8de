-- What one number more leaves, and what a text is that ended, case by case. Assumes nothing.
use Prim.Native.Nat.{ℕ, ◌+◌, ◌*◌, ◌-◌, ◌/◌, ◌≤◌, ◌<◌}
use mathlib.Core.Path.{◌≡◌, refl}
use mathlib.Core.List.{List, ◌++◌}
use native.Mathlib.Omega.{arith}
use borrow.Author.Tests.{le-leb, lt-leb, eq-eqb, ne_eqb, lt-ltb, le-ltb}
use lib.ListN.{set}
use Rattle.std.specs.Prelude.{Ok, Err}
use Rattle.numbers.specs.declared.Fault.TheVariants.{Malformed, TooMany}
use Rattle.numbers.specs.declared.Reader.{Reader}
use Rattle.numbers.specs.Sheets.{IsTaken, fed}
use Rattle.numbers.proofs.Sheets as sheets
use Rattle.table_text.specs.declared.TableSheet.{TableSheet}
use Rattle.table_text.specs.TableText.{rows_at, head_numbers, most_rows, max_words, Stage, sheet, take_number, takes, feed_all, taken_of, Fits}

-- ---- one number more
module _ (line count due value : ℕ) (words : List ℕ) where
  pub take_past_due : due ≤ count → IsTaken Fits (take_number line count due value words) (Err (Malformed line)) words
  unfolding take_number
  take_past_due h = rw (le-leb due count h) (record { stage = refl; words = refl; within = tt })

  module _ (more : count < due) where
    pub take_too_many_rows : count ≡ rows_at → most_rows < value → IsTaken Fits (take_number line count due value words) (Err (TooMany value)) words
    unfolding take_number
    take_too_many_rows e h =
        rw (lt-leb due count more, eq-eqb count rows_at e, lt-ltb most_rows value h) (record { stage = refl; words = refl; within = tt })

    pub rows_fed : count ≡ rows_at → value ≤ most_rows
        → take_number line count due value words ≡ fed (Ok (sheet head_numbers (head_numbers + 10 * value))) (set words count value)
    unfolding take_number
    rows_fed e h = rw (lt-leb due count more, eq-eqb count rows_at e, le-ltb most_rows value h)

    pub word_fed : (count ≡ rows_at → ⊥) → take_number line count due value words ≡ fed (Ok (sheet (count + 1) due)) (set words count value)
    unfolding take_number
    word_fed e = rw (lt-leb due count more, ne_eqb count rows_at e)

    pub take_rows : count ≡ rows_at → value ≤ most_rows
        → IsTaken Fits (take_number line count due value words) (Ok (sheet head_numbers (head_numbers + 10 * value))) (set words count value)
    take_rows e h = rw (rows_fed e h) (record { stage = refl; words = refl; within = omega arith })

    pub take_word : (count ≡ rows_at → ⊥) → due ≤ max_words
        → IsTaken Fits (take_number line count due value words) (Ok (sheet (count + 1) due)) (set words count value)
    take_word e h = rw (word_fed e) (record { stage = refl; words = refl; within = h })

-- ---- the end of the text
module _ (r : Reader TableSheet) where
  pub too_few : r.sheet.count < r.sheet.due → Err (Malformed r.place.line) ≡ taken_of (Ok r)
  too_few h = rw (lt-leb r.sheet.due r.sheet.count h)

  pub no_head : r.sheet.due ≤ r.sheet.count → r.sheet.due < head_numbers → Err (Malformed r.place.line) ≡ taken_of (Ok r)
  no_head g h = rw (le-leb r.sheet.due r.sheet.count g, lt-leb head_numbers r.sheet.due h)

  pub all_read : r.sheet.due ≤ r.sheet.count → head_numbers ≤ r.sheet.due → Ok ((r.sheet.due - head_numbers) / 10) ≡ taken_of (Ok r)
  all_read g h = rw (le-leb r.sheet.due r.sheet.count g, le-leb head_numbers r.sheet.due h)

-- ---- a text in two parts
pub feed_append : (stage : Stage) (a b words : List ℕ)
    → feed_all stage (a ++ b) words ≡ feed_all (feed_all stage a words).stage b (feed_all stage a words).words
feed_append = sheets.feed_append takes
