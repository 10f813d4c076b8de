-- `transcript::put_input` meets its contract: the size of the input is judged first, then comes the text of the stored list.
use mathlib.Core.Path.{refl}
use Rattle.transcript.proofs.Steps.{short_input, long_input, stored_input}
use Rattle.transcript.proofs.put_input.Goals as goal

pub returns-then-input-lt-CHALLENGE_BYTES : goal.returns-then-input-lt-CHALLENGE_BYTES
returns-then-input-lt-CHALLENGE_BYTES c = (short_input _ c.if-input-lt-CHALLENGE_BYTES.true, refl)

pub returns-then-input-gt-MAX_INPUT : goal.returns-then-input-gt-MAX_INPUT
returns-then-input-gt-MAX_INPUT c =
    (long_input _ c.if-input-lt-CHALLENGE_BYTES.false c.if-input-gt-MAX_INPUT.true, refl)

pub returns : goal.returns
returns c =
    rw (stored_input _ _ c.if-input-lt-CHALLENGE_BYTES.false c.if-input-gt-MAX_INPUT.false c.challenges_in-challenges.ensures)
    c.put_stored.ensures
