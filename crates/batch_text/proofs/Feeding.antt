-- What one number more leaves, case by case. Assumes nothing.
use Prim.Native.Nat.{ℕ, ◌+◌, ◌≤◌, ◌<◌}
use mathlib.Core.Path.{◌≡◌, refl}
use mathlib.Core.List.{List, ◌++◌}
use native.Mathlib.Omega.{arith}
use borrow.Author.Tests.{le-leb, lt-leb, eq-eqb, ne_eqb}
use lib.ListN.{set}
use Rattle.std.specs.Prelude.{Ok, Err}
use Rattle.numbers.specs.declared.Fault.TheVariants.{TooMany}
use Rattle.numbers.specs.Sheets.{IsTaken}
use Rattle.numbers.proofs.Sheets as sheets
use Rattle.batch_text.specs.Sheet.{most_settings, most_jobs, Stage, sheet, take_number, takes, feed_all, Fits}

-- ---- one number more
module _ (line settings jobs value : ℕ) (words : List ℕ) where
  module _ (first : line ≡ 1) where
    pub take_past_settings : most_settings ≤ settings → IsTaken Fits (take_number line settings jobs value words) (Err (TooMany most_settings)) words
    unfolding take_number
    take_past_settings h = rw (eq-eqb line 1 first, le-leb most_settings settings h) (record { stage = refl; words = refl; within = tt })

    pub take_setting : settings < most_settings → jobs ≤ most_jobs
        → IsTaken Fits (take_number line settings jobs value words) (Ok (sheet (settings + 1) jobs)) (set words settings value)
    unfolding take_number
    take_setting h j =
        rw (eq-eqb line 1 first, lt-leb most_settings settings h)
        (record { stage = refl; words = refl; within = (omega arith, j) })

  module _ (later : line ≡ 1 → ⊥) where
    pub take_past_jobs : most_jobs ≤ jobs → IsTaken Fits (take_number line settings jobs value words) (Err (TooMany most_jobs)) words
    unfolding take_number
    take_past_jobs h = rw (ne_eqb line 1 later, le-leb most_jobs jobs h) (record { stage = refl; words = refl; within = tt })

    pub take_job : jobs < most_jobs → settings ≤ most_settings
        → IsTaken Fits (take_number line settings jobs value words) (Ok (sheet settings (jobs + 1))) (set words (most_settings + jobs) value)
    unfolding take_number
    take_job h s =
        rw (ne_eqb line 1 later, lt-leb most_jobs jobs h)
        (record { stage = refl; words = refl; within = (s, omega arith) })

-- ---- a text in two parts
pub feed_append : (stage : Stage) (a b words : List ℕ)
    → feed_all stage (a ++ b) words ≡ feed_all (feed_all stage a words).stage b (feed_all stage a words).words
feed_append = sheets.feed_append takes
