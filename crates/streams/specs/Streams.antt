-- What a reading leaves: a count of bytes within those that were lent, and the bytes that it took. Which bytes standard input has no contract can say;
-- of a reader whose bytes are known it is said here.
use Rattle.std.specs.Prelude.{ℕ, ◌<◌, List, length, take, Result, IfOk}
use Rattle.std.specs.declared.option.Option.{Option}
use Rattle.std.specs.Io.KnownBytes.{Consumes, IsAtEnd}
use Rattle.io.specs.Counts.{IsPrefixLen}

-- the count is within the bytes
abbrev pub FilledIn : {E : Type 0} → Result ℕ E → List ℕ → Type 0
FilledIn r bytes = IfOk r (λ n. IsPrefixLen n bytes)

-- so many bytes of the reader's were taken, in order, and where they are fewer than there was room for, none is left
abbrev pub TakenFrom : {E : Type 0} → (before after : Option (List ℕ)) → Result ℕ E → List ℕ → Type 0
TakenFrom before after r bytes = IfOk r (λ n. Consumes before after (take n bytes) × (n < length bytes → IsAtEnd after))
