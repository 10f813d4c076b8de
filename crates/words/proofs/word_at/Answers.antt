-- `words::word_at` meets its contract: the number that std makes of the part is the number at its place. Assumes nothing.
use mathlib.Core.Path.{◌∙◌, refl}
use Rattle.words.proofs.LittleEndian.{le_at_part}
use Rattle.words.proofs.word_at.Goals as goal

pub returns : goal.returns
returns c =
    let part = rw c.unwrap.ensures at c.try_into.ensures.1 in
    c.from_le_bytes.ensures ∙ le_at_part _ _ _ _ 7 part.same refl
