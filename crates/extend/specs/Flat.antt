-- Reason 9 of an extension (change request 13): "met by a denominator of (0, 0, 0) and by nothing else, in the table's sum".
use Rattle.std.specs.Prelude.{ℕ, ◌≡◌, ◌↔◌, true, ◌&&◌, List}
use Rattle.words.specs.Answers.{declined}
use Rattle.words.specs.declared.Refusal.TheVariants.{Flat}
use Rattle.table.specs.Columns.{row_count, table_shape, aux_shape, all_reduced}
use Rattle.table.specs.Challenges.{challenges_shape}
use Rattle.sums.specs.RunningSum.{ZeroDenominator}
use Rattle.sums.specs.LookupSum.{summand_at}
use Rattle.fill.specs.Extending.{extend_all}

-- 1 and 8 are not met, and some CopyFlag 1 row's denominator is zero
pub record OnlyFlat (table aux challenges : List ℕ) : Type 0 where
  pub shapes : (table_shape table && (aux_shape table aux && challenges_shape challenges)) ≡ true
  pub reduced : (all_reduced table && all_reduced challenges) ≡ true
  pub zero_denominator : ZeroDenominator (summand_at table challenges) (row_count table)

-- exactly then the answer is 9
abbrev pub FlatExactly : (table aux challenges : List ℕ) → Type 0
FlatExactly table aux challenges = ((extend_all table aux challenges).answer ≡ declined Flat) ↔ OnlyFlat table aux challenges
