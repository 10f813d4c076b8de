-- What a count of bytes says, once it is known which answer it is. Assumes nothing.
use Prim.Native.Nat.{ℕ}
use mathlib.Core.Path.{◌≡◌}
use mathlib.Core.List.{List}
use Rattle.std.specs.Prelude.{Result, Ok}
use Rattle.io.specs.Counts.{IsPrefixLen}
use Rattle.streams.specs.Streams.{FilledIn}

pub filled_counts : {E : Type 0} (filled : Result ℕ E) (n : ℕ) (bytes : List ℕ) → filled ≡ Ok n → FilledIn filled bytes → IsPrefixLen n bytes
filled_counts filled n bytes e h = rw e at h
