-- `Text::put_bytes` meets its contract: the part behind the text so far is written over.
use mathlib.Core.Path.{refl}
use native.Mathlib.Omega.{arith}
use Rattle.words.proofs.Sets.{part_sets}
use Rattle.text.proofs.Text.put_bytes.Goals as goal

pub returns : goal.returns
returns c =
    record { put = record { place = refl; fits = c.requires; held = part_sets _ _ _ _ _ c.copy_from_slice.ensures.after (omega arith) c.requires }; same = refl }
