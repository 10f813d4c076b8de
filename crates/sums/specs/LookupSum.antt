-- The sum over a table's CopyFlag 1 rows (document 01, "Extension").
use Rattle.std.specs.Prelude.{ℕ, List}
use Rattle.xfield.specs.Extension.{Ext}
use Rattle.table.specs.Columns.{Row, row_at, row_count}
use Rattle.table.specs.Challenges.{Challenges, challenges_of, row_denominator}
use Rattle.sums.specs.RunningSum.{Summand, running_sum}

-- what a row brings to the sum, "multiplicity being LookupMultiplicity"
abbrev pub summand_of : Challenges → Row → Summand
summand_of c row = record { flag = row.copy_flag; multiplicity = row.lookup_multiplicity; denominator = row_denominator c row }

-- row i's
unfoldable pub summand_at : List ℕ → List ℕ → ℕ → Summand
summand_at table challenges i = summand_of (challenges_of challenges) (row_at table i)

-- "the sum over CopyFlag 1 rows"
unfoldable pub lookup_sum : List ℕ → List ℕ → Ext
lookup_sum table challenges = running_sum (summand_at table challenges) (row_count table)
