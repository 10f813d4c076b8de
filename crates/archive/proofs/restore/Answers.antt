-- `archive::restore` meets its contract: what stands at the front of a part of the bytes are the rows from its place on.
use Rattle.std.proofs.Common.{◌≡◌, ◌+◌, ◌*◌, refl, ap, ap₂, ◌∙◌}
use Rattle.table.specs.Columns.{main_width, aux_width}
use Rattle.archive.specs.Archives.{archived_rows, archived_table, archived_aux, table_and_aux, restore_all}
use Rattle.std.proofs.lemmas.List.Edits.{sets}
use Rattle.archive.proofs.Columns.{rows_moved}
use Rattle.archive.proofs.restore.Goals as goal

pub returns : goal.returns
unfolding restore_all
returns c =
    let s = c.args.bytes.now in
    let archived = c.in_ok-rows.field-0 in
    let n : archived.rows ≡ archived_rows s = archived.whole.0 ∙ ap archived_rows c.in_ok-rows.ensures.0 in
    let table : c.put_rows.new.to ≡ sets c.args.table.now 0 (archived_table s)
    = rw (← n) (c.put_rows.ensures ∙ ap (sets c.args.table.now 0) (rows_moved s 1 main_width archived.rows)) in
    let aux : c.put_rows-2.new.to ≡ sets c.args.aux.now 0 (archived_aux s)
    = rw (← n) (c.put_rows-2.ensures ∙ ap (sets c.args.aux.now 0) (rows_moved s (1 + archived.rows * main_width) aux_width archived.rows)) in
    rw c.in_ok-rows.ensures.1 (record { answer = refl; left = ap₂ table_and_aux table aux })
