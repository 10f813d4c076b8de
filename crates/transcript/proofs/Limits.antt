-- The most input is the challenges and a stored list with an entry in each of the places that the program reads onto. Assumes nothing.
use Prim.Native.Nat.{◌+◌}
use mathlib.Core.Path.{◌≡◌, refl}
use Rattle.words.specs.Limits.{max_places}
use Rattle.list_bytes.specs.Packed.{stored_length}
use Rattle.transcript.specs.Transcript.{max_input, challenge_bytes}

pub max_input_lem : max_input ≡ challenge_bytes + stored_length max_places
max_input_lem = refl
