-- `transcript::put_height` meets its contract: the parts that are lent are zeros, as many rows as the padded height.
use mathlib.Core.Path.{refl, sym}
use native.Mathlib.Omega.{arith}
use Prim.Native.Nat.{ℕ, ◌*◌}
use Rattle.std.proofs.lemmas.List.{take-replicate}
use Rattle.table.specs.Columns.{main_width, aux_width}
use Rattle.transcript.specs.Transcript.{max_printed_rows}
use Rattle.transcript.proofs.Steps.{length_zeros, height_refused, height_printed}
use borrow.Author.Rules.{rules}
use Rattle.transcript.proofs.put_height.Goals as goal

pub returns-then-heights : goal.returns-then-heights
returns-then-heights c = (height_refused _ _ _ _ c.if-heights.true, refl)

pub slice_bounds-put_calls-end : goal.slice_bounds-put_calls-end
slice_bounds-put_calls-end c =
    sym (length_zeros (main_width * c.args.heights.padded) (main_width * max_printed_rows) (search rules))

pub slice_bounds-put_calls-end-2 : goal.slice_bounds-put_calls-end-2
slice_bounds-put_calls-end-2 c =
    sym (length_zeros (aux_width * c.args.heights.padded) (aux_width * max_printed_rows) (search rules))

pub put_calls-requires : goal.put_calls-requires
put_calls-requires c =
    let l = length_zeros (main_width * c.args.heights.padded) (main_width * max_printed_rows) (search rules) in
    (c.requires, search rules, omega arith)

pub returns : goal.returns
returns c =
    let table = take-replicate {X = ℕ} (main_width * c.args.heights.padded) (main_width * max_printed_rows) 0 (search rules) in
    let aux = take-replicate {X = ℕ} (aux_width * c.args.heights.padded) (aux_width * max_printed_rows) 0 (search rules) in
    rw (height_printed _ _ _ _ _ _ c.if-heights.false table aux) c.put_calls.ensures
