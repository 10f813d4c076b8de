-- `transcript::put_opening` meets its contract: its three parts fit, one after the other.
use native.Mathlib.Omega.{arith}
use Rattle.text.proofs.Lengths.{head_bound, sum_bound}
use Rattle.text.proofs.Adding.{adds_then, reached}
use Rattle.transcript.proofs.Fits.{rows_bound}
use Rattle.transcript.specs.Transcript.{opening_text}
use Rattle.xfield.specs.XFieldElements.{ext_of}
use Rattle.sums.specs.RunningSum.{element_words}
use Rattle.transcript.proofs.put_opening.Goals as goal

pub put_head-requires : goal.put_head-requires
put_head-requires c =
    omega (arith, c.requires.0, head_bound c.args.head.entries c.args.head.height c.args.head.padded)

pub put_rows-requires : goal.put_rows-requires
put_rows-requires c =
    let r = reached c.put_head.ensures in
    (c.requires.1, c.requires.2, omega (arith, c.requires.0, c.requires.1, r.len, r.size, head_bound c.args.head.entries c.args.head.height c.args.head.padded))

pub put_sum-requires : goal.put_sum-requires
put_sum-requires c =
    let r = reached c.put_head.ensures in
    let w = reached c.put_rows.ensures in
    omega (arith, c.requires.0, c.requires.1, r.len, r.size, w.len, w.size, head_bound c.args.head.entries c.args.head.height c.args.head.padded, rows_bound c.args.table.now c.args.head.padded, sum_bound (element_words (ext_of c.args.sum)))

pub returns : goal.returns
unfolding opening_text
returns c =
    adds_then c.put_head.ensures (adds_then c.put_rows.ensures c.put_sum.ensures)
