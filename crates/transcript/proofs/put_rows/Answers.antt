-- `transcript::put_rows` meets its contract: each chunk that comes is the row at the number of those before it.
use Prim.Native.Nat.{ℕ, ◌+◌, ◌-◌, ◌*◌, ◌<◌, ◌≤◌}
use mathlib.Core.Path.{◌≡◌, refl, sym, ap, ◌∙◌}
use mathlib.Core.List.{List, ◌++◌}
use native.Mathlib.Numerals.{add-one}
use native.Mathlib.Omega.{arith}
use lib.ListN.{length, take, drop, length-append}
use Rattle.std.proofs.lemmas.List.{drop-drop, take_at, drop_at, length-drop, length-take-le}
use Rattle.std.proofs.Math.Seq.{take-add}
use Rattle.table.specs.Columns.{main_width, row_at}
use Rattle.table.specs.RowWords.{row_words}
use Rattle.text.specs.Lines.{row_line}
use Rattle.text.specs.declared.Text.{Text}
use Rattle.text.specs.Put.{Adds}
use Rattle.text.proofs.Adding.{adds_none, adds_then, reached}
use Rattle.transcript.specs.Transcript.{row_lines}
use Rattle.transcript.proofs.Rows.{row_words_lem}
use Rattle.transcript.proofs.Fits.{row_ten, rows_bound}
use Rattle.transcript.proofs.put_rows.Goals as goal

-- the words of the rows from the k-th on
abbrev left : List ℕ → ℕ → ℕ → List ℕ
left table n k = take (main_width * n - main_width * k) (drop (main_width * k) table)

module _ (table : List ℕ) (n k : ℕ) (whole : main_width * n ≤ length table) where
  left_length : k ≤ n → length (left table n k) ≡ main_width * n - main_width * k
  left_length h = length-take-le _ (drop (main_width * k) table) (omega (arith, h, whole, length-drop (main_width * k) table))

  -- the words of a row, and those of the rows after it
  left_split : k < n → left table n k ≡ row_words (row_at table k) ++ left table n (k + 1)
  left_split h =
      let some : main_width * n - main_width * k ≡ main_width + (main_width * n - main_width * (k + 1)) = omega (arith, h) in
      let after : main_width * k + main_width ≡ main_width * (k + 1) = omega arith in
      let ten : main_width * k + main_width - main_width * k ≡ main_width = omega arith in
      let row = rw ten at (row_words_lem table k (omega (arith, h, whole))) in
      rw some
      (take-add main_width _ (drop (main_width * k) table)
      ∙ rw (row, drop-drop main_width (main_width * k) table, after) refl)

  -- the next row comes, and those after it are left
  module _ (within : k ≤ n) (row rest : List ℕ) (comes : left table n k ≡ row ++ rest) (ten : length row ≡ main_width) where
    more : k < n
    more = let e = sym (left_length within) ∙ ap length comes in omega (arith, e, length-append row rest, ten)

    parts : row ++ rest ≡ row_words (row_at table k) ++ left table n (k + 1)
    parts = sym comes ∙ left_split more

    next_row : row ≡ row_words (row_at table k)
    next_row = sym (take_at row rest main_width ten) ∙ ap (take main_width) parts ∙ take_at (row_words (row_at table k)) (left table n (k + 1)) main_width refl

    next_left : rest ≡ left table n (k + 1)
    next_left = sym (drop_at row rest main_width ten) ∙ ap (drop main_width) parts ∙ drop_at (row_words (row_at table k)) (left table n (k + 1)) main_width refl

    line_bound : length (row_line row) ≤ 210
    line_bound = rw next_row (row_ten (row_at table k))

    turn : {old mid new : Text} → Adds old (row_lines table k) mid → Adds mid (row_line row) new → Adds old (row_lines table (k + 1)) new
    unfolding row_lines
    turn p q = rw add-one (adds_then p (rw next_row at q))

  none_left : k ≤ n → length (left table n k) < main_width → k ≡ n
  none_left within h = omega (arith, within, h, left_length within)

pub loop-row-init : goal.loop-row-init
unfolding row_lines
loop-row-init c =
    let chunks = c.chunks_exact-row-items.ensures in
    let all : main_width * c.args.n ≡ main_width * c.args.n - 0 = omega arith in
    rw c.into_iter-row-iterator.ensures.into_iter_gives
    (omega arith, chunks.size, chunks.rest ∙ ap (λ (m : ℕ). take m c.args.table.now) all, adds_none _ (omega (arith, c.requires.2)))

pub put_row-requires-clause-room : goal.put_row-requires-clause-room
put_row-requires-clause-room c =
    let t = c.args.table.now in
    let k = length c.loop-row.yielded in
    let steps = c.in-Some.ensures.steps in
    let inv = c.loop-row.invariant in
    let comes = sym inv.2 ∙ steps.1.0 in
    let r = reached inv.3 in
    let ten = steps.1.1 ∙ inv.1 in
    omega (arith, c.requires.2, r.len, r.size, rows_bound t k, more t c.args.n k c.requires.1 inv.0 _ _ comes ten, line_bound t c.args.n k c.requires.1 inv.0 _ _ comes ten)

pub loop-row-preserved : goal.loop-row-preserved
loop-row-preserved c =
    let t = c.args.table.now in
    let k = length c.loop-row.yielded in
    let steps = c.in-Some.ensures.steps in
    let inv = c.loop-row.invariant in
    let comes = sym inv.2 ∙ steps.1.0 in
    let ten = steps.1.1 ∙ inv.1 in
    let m = more t c.args.n k c.requires.1 inv.0 _ _ comes ten in
    rw length-append
    (omega (arith, m), steps.0 ∙ inv.1, next_left t c.args.n k c.requires.1 inv.0 _ _ comes ten, turn t c.args.n k c.requires.1 inv.0 _ _ comes ten inv.3 c.put_row.ensures)

pub returns : goal.returns
returns c =
    let inv = c.loop-row.invariant in
    let few = rw (inv.2, inv.1) at c.in-None.ensures.steps.1.0 in
    let e = none_left c.args.table.now c.args.n (length c.loop-row.yielded) c.requires.1 inv.0 few in
    rw e at inv.3
