-- `fill_sections::PendingRow::fill_section` meets its contract; it is a cycle of calls by itself. The measure is the number of rows that are left,
-- which is the bit length of the dominant operand and one more. Each way out is a lemma of proofs/PendingRows.antt. Assumes nothing.
use Rattle.std.proofs.Common.{refl, sym, ap, ◌∙◌, arith}
use Rattle.fill_sections.specs.Sections.{Pending}
use Rattle.fill_sections.proofs.PendingRows.{left_below, both_clauses, end_filled, unknown_filled, row_filled, stored_row}
use Rattle.fill_sections.proofs.PendingRow.+fill_section.Goals as goal

pub returns-in_err-res : goal.returns-in_err-res
returns-in_err-res t c =
    let f = end_filled c.args.self c.args.row c.args.table.now c.args.table.now _ (sym c.if-is_end.ensures) c.in_err-res.ensures refl in
    record { value = c.from_residual.ensures ∙ f.result; table_after = f.words }

pub returns-then-is_end : goal.returns-then-is_end
returns-then-is_end t c =
    let f = end_filled c.args.self c.args.row c.args.table.now _ _ (sym c.if-is_end.ensures) c.in_ok-res.ensures
    (stored_row c.args.self c.args.table.now c.args.row _ c.row.ensures c.put.ensures) in
    record { value = f.result; table_after = f.words }

pub fill_section-requires : goal.fill_section-requires
fill_section-requires t c =
    let l = left_below c.args.self c.next.result c.next.ensures (sym c.if-is_end.ensures) in
    let b = ap (λ (q : Pending). q.bits) c.next.ensures in
    (omega (arith, c.decreases), (omega (arith, c.requires.pending_in_bounds), omega (arith, c.requires.pending_bound)))

pub returns-in_err-below : goal.returns-in_err-below
returns-in_err-below t c =
    let f = unknown_filled c.args.self c.next.result c.args.row c.args.table.now _ _ c.next.ensures (sym c.if-is_end.ensures)
    (both_clauses c.in_err-below.ensures.value c.in_err-below.ensures.table_after) refl in
    record { value = c.from_residual-in_err-below.ensures ∙ f.result; table_after = f.words }

pub returns-in_err-res-2 : goal.returns-in_err-res-2
returns-in_err-res-2 t c =
    let f = row_filled c.args.self c.next.result c.args.row c.args.table.now _ _ c.next.ensures (sym c.if-is_end.ensures)
    (both_clauses c.in_ok-below.ensures.value c.in_ok-below.ensures.table_after) _ _ _ refl c.in_err-res-2.ensures refl in
    record { value = c.from_residual-in_err-res-2.ensures ∙ f.result; table_after = f.words }

pub returns : goal.returns
returns t c =
    let f = row_filled c.args.self c.next.result c.args.row c.args.table.now _ _ c.next.ensures (sym c.if-is_end.ensures)
    (both_clauses c.in_ok-below.ensures.value c.in_ok-below.ensures.table_after) _ _ _ refl c.in_ok-res-2.ensures
    (stored_row c.args.self c.fill_section.new.table c.args.row _ c.row-2.ensures c.put-2.ensures) in
    record { value = f.result; table_after = f.words }
