-- `words::half_at` meets its contract: the number that std makes of the part is the number at its place. Assumes nothing.
use mathlib.Core.Path.{◌∙◌, refl}
use Rattle.words.proofs.LittleEndian.{le_at_part}
use Rattle.words.proofs.half_at.Goals as goal

pub returns-clause-exact : goal.returns-clause-exact
returns-clause-exact c =
    let part = rw c.unwrap.ensures at c.try_into.ensures.1 in
    c.from.ensures ∙ c.from_le_bytes.ensures ∙ le_at_part _ _ _ _ 3 part.same refl
