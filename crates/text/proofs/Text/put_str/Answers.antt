-- `Text::put_str` meets its contract: a text is its bytes.
use Rattle.text.proofs.Text.put_str.Goals as goal

pub returns : goal.returns
returns c = rw (← c.as_bytes.ensures.value) c.put_bytes.ensures
