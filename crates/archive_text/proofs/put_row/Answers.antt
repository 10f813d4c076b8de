-- `archive_text::put_row` meets its contract: the words that are copied are those of the row, then those of its sum.
use mathlib.Core.Path.{sym, ap, ◌∙◌}
use native.Mathlib.Omega.{arith}
use lib.ListN.{length, length-append}
use Rattle.archive_text.proofs.Rows.{words_joined}
use Rattle.archive_text.proofs.put_row.Goals as goal

pub slice_bounds-put_row-end : goal.slice_bounds-put_row-end
slice_bounds-put_row-end c =
    let e = words_joined c.copy_from_slice.ensures.after c.copy_from_slice-2.ensures.after c.requires.words.0 in
    sym (ap length e ∙ length-append c.args.row.now c.args.sum.now ∙ omega (arith, c.requires.words.0, c.requires.words.1))

pub put_row-requires-clause-room : goal.put_row-requires-clause-room
put_row-requires-clause-room c =
    let e = words_joined c.copy_from_slice.ensures.after c.copy_from_slice-2.ensures.after c.requires.words.0 in
    rw e c.requires.room

pub returns : goal.returns
returns c =
    let e = words_joined c.copy_from_slice.ensures.after c.copy_from_slice-2.ensures.after c.requires.words.0 in
    rw e at c.put_row.ensures
