-- The challenges that the code holds, as those of the definitions.
use Rattle.xfield.specs.XFieldElements.{ext_of}
use Rattle.lookup_sums.specs.LookupSums.{LookupChallenges}
use Rattle.lookup_sums.specs.declared.LookupChallenges as Code

abbrev pub lookup_challenges_in : Code.LookupChallenges → LookupChallenges
lookup_challenges_in c = record {
  input_weight = ext_of c.input_weight;
  output_weight = ext_of c.output_weight;
  indeterminate = ext_of c.indeterminate;
}
