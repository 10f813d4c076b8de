-- `Text::put_zero` meets its contract: the bytes are those of the line.
use Rattle.text.specs.Lines.{line_rest, line, verdict_line}
use Rattle.text.proofs.Text.put_zero.Goals as goal

pub put_str-requires : goal.put_str-requires
unfolding verdict_line line line_rest
put_str-requires c = c.requires

pub returns : goal.returns
unfolding verdict_line line line_rest
returns c = c.put_str.ensures
