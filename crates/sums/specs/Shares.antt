-- A summand as the code has it: its multiplicity and its denominator where it counts, and nothing where it does not.
use Rattle.std.specs.Prelude.{◌≡◌, ◌≢◌, Option, Some, None}
use Rattle.xfield.specs.XFieldElements.{ext_of}
use Rattle.sums.specs.RunningSum.{Summand}
use Rattle.sums.specs.declared.Share.{Share}

abbrev pub IsShareOf : Summand → Option Share → Type 0
IsShareOf s (Some share) = (s.flag ≡ 1) × (s.multiplicity ≡ share.multiplicity.0) × (s.denominator ≡ ext_of share.denominator)
IsShareOf s None = s.flag ≢ 1
