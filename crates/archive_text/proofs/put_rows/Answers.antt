-- `archive_text::put_rows` meets its contract: each pair that comes is the row at the number of those before it, and its sum.
use borrow.Author.Rules.{rules}
use mathlib.Core.Logic.{⊎_elim}
use mathlib.Core.Path.{sym, ap, ◌∙◌}
use native.Mathlib.Omega.{arith}
use lib.ListN.{length, length-append}
use Rattle.table.specs.Columns.{main_width}
use Rattle.text.proofs.Adding.{reached, whole_text}
use Rattle.archive_text.proofs.Rows.{pair_lem, block_within, left_lem, no_more_rows, no_more_sums, rows_bound, line_bound, no_rows, one_row_more}
use Rattle.archive_text.proofs.put_rows.Goals as goal

pub loop-row-init : goal.loop-row-init
loop-row-init c =
    let words = c.chunks_exact-words.ensures in
    let sums = c.chunks_exact-sums.ensures in
    rw (c.into_iter-row-iterator.ensures.into_iter_gives, c.zip-row-items.ensures.first, c.zip-row-items.ensures.second)
    (record {
      count = omega arith;
      row_size = words.size;
      sum_size = sums.size;
      rows_left = words.rest;
      sums_left = sums.rest;
      put = no_rows _ _ _ (omega (arith, c.new-text.ensures.empty));
    })

pub put_row-requires-clause-room : goal.put_row-requires-clause-room
put_row-requires-clause-room c =
    let t = c.args.table.now in
    let x = c.args.aux.now in
    let i = length c.loop-row.yielded in
    let inv = c.loop-row.invariant in
    let steps = c.in-Some.ensures.steps in
    let r = reached inv.put in
    let comes = sym inv.rows_left ∙ steps.0.1.0 in
    let ten = steps.0.1.1 ∙ inv.row_size in
    let e = pair_lem t x i _ _ _ _ comes ten (sym inv.sums_left ∙ steps.1.1.0) (steps.1.1.1 ∙ inv.sum_size) in
    rw e
    (omega (
      arith,
      c.requires.1,
      block_within main_width i t _ _ comes ten (omega arith),
      rows_bound t x 0 i,
      line_bound t x i,
      r.len,
      r.size,
      c.new-text.ensures.empty,
      ap length c.new-text.ensures.untouched,
    ))

pub loop-row-preserved : goal.loop-row-preserved
loop-row-preserved c =
    let t = c.args.table.now in
    let x = c.args.aux.now in
    let i = length c.loop-row.yielded in
    let inv = c.loop-row.invariant in
    let steps = c.in-Some.ensures.steps in
    let comes = sym inv.rows_left ∙ steps.0.1.0 in
    let ten = steps.0.1.1 ∙ inv.row_size in
    let sum_comes = sym inv.sums_left ∙ steps.1.1.0 in
    let three = steps.1.1.1 ∙ inv.sum_size in
    let e = pair_lem t x i _ _ _ _ comes ten sum_comes three in
    rw length-append
    (record {
      count = omega (arith, block_within main_width i t _ _ comes ten (omega arith));
      row_size = steps.0.0 ∙ inv.row_size;
      sum_size = steps.1.0 ∙ inv.sum_size;
      rows_left = left_lem _ _ t _ _ comes ten _ (omega arith);
      sums_left = left_lem _ _ x _ _ sum_comes three _ (omega arith);
      put = one_row_more t x i inv.put (rw e at c.put_row.ensures);
    })

pub returns : goal.returns
returns c =
    let inv = c.loop-row.invariant in
    let none = rw (inv.rows_left, inv.row_size, inv.sums_left, inv.sum_size) at c.in-None.ensures.steps in
    let all = ⊎_elim (λ words. no_more_rows _ _ inv.count words.1.1.0) (λ sums. no_more_sums _ _ _ inv.count c.requires.0 sums.1.1.0) none in
    whole_text (rw all at inv.put) (search rules) (search rules) (search rules) (search rules)
