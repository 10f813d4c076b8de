-- What `u32archive` is asked for, by its only argument.
use Rattle.std.specs.Prelude.{ℕ, ◌≡◌, List, Option, Some, None}
use Rattle.text.specs.Lines.{ascii}
use Rattle.archive_text.specs.declared.Task.{Task}
use Rattle.archive_text.specs.declared.Task.TheVariants.{Pack, Unpack}

abbrev pub Asks : (argument : List ℕ) → Option Task → Type 0
Asks argument (Some Pack) = argument ≡ ascii "pack"
Asks argument (Some Unpack) = argument ≡ ascii "unpack"
Asks argument None = (argument ≡ ascii "pack" → ⊥) × (argument ≡ ascii "unpack" → ⊥)
