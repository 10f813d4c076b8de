-- What it tells that the check refuses neither for shape (1), nor for no rows (7), nor for an unreduced word (8). Assumes nothing.
use Prim.Native.Nat.{ℕ, ◌*◌, ◌<◌}
use mathlib.Core.Path.{◌≡◌}
use mathlib.Core.Bool.{true, ◌&&◌, and-eq-true_iff}
use mathlib.Core.List.{List}
use native.Mathlib.Omega.{arith}
use lib.Dec.{eqb}
use lib.ListN.{length}
use borrow.Author.Tests.{eqb-false}
use Rattle.words.specs.declared.Refusal.TheVariants.{Shape, Short, Unreduced}
use Rattle.words.specs.Refusals.{Fine}
use Rattle.words.proofs.Judgements.{or_both, decline_fine, decline_not_fine}
use Rattle.table.specs.Columns.{row_count, aux_width, all_reduced}
use Rattle.table.specs.Challenges.{challenge_words}
use Rattle.air.specs.Check.{check_reason}
use Rattle.table.proofs.Rows.{TableShape, shaped}

pub record Accepted (table aux challenges : List ℕ) : Type 0 where
  pub table_is_whole : TableShape table
  pub aux_length : length aux ≡ aux_width * row_count table
  pub challenges_length : length challenges ≡ challenge_words
  pub some_row : 0 < row_count table
  pub table_reduced : all_reduced table ≡ true
  pub challenges_reduced : all_reduced challenges ≡ true
  pub aux_reduced : all_reduced aux ≡ true

pub accepted : (table aux challenges : List ℕ) → check_reason table aux challenges ≡ Fine → Accepted table aux challenges
unfolding check_reason
accepted table aux challenges h =
    let one = or_both _ _ h in
    let seven = or_both _ _ one.1 in
    let shapes = shaped table aux challenges (decline_not_fine _ Shape one.0) in
    let words = (and-eq-true_iff (all_reduced table) (all_reduced challenges && all_reduced aux)).0 (decline_not_fine _ Unreduced seven.1) in
    let others = (and-eq-true_iff (all_reduced challenges) (all_reduced aux)).0 words.1 in
    let rows = eqb-false (row_count table) 0 (decline_fine (eqb (row_count table) 0) Short seven.0) in
    record {
      table_is_whole = shapes.table_is_whole;
      aux_length = shapes.aux_length;
      challenges_length = shapes.challenges_length;
      some_row = omega arith;
      table_reduced = words.0;
      challenges_reduced = others.0;
      aux_reduced = others.1;
    }
