-- `Text::put_field` meets its contract: the field, then a line's end.
use native.Mathlib.Omega.{arith}
use Rattle.text.specs.Lines.{line_rest, line, field_line}
use Rattle.text.proofs.Lengths.{field_length}
use Rattle.text.proofs.Adding.{adds_then, reached}
use Rattle.text.proofs.Text.put_field.Goals as goal

pub put_bytes-requires : goal.put_bytes-requires
put_bytes-requires c = omega (arith, c.requires, field_length c.args.field.now)

pub put_rest-requires : goal.put_rest-requires
unfolding line_rest
put_rest-requires c =
    let r = reached c.put_bytes.ensures in
    omega (arith, c.requires, field_length c.args.field.now, r.len, r.size)

pub returns : goal.returns
unfolding field_line line
returns c = adds_then c.put_bytes.ensures c.put_rest.ensures
