-- `Text::put_row` meets its contract: the first word, then the others after it.
use mathlib.Core.Path.{◌≡◌, ap, ◌∙◌}
use mathlib.Core.List.{List, ◌∷◌, ◌++◌, map}
use Prim.Native.Nat.{ℕ, ◌+◌, ◌-◌, ◌<◌}
use native.Mathlib.Omega.{arith}
use lib.ListN.{length, get_or, take, drop, length-append, length-drop}
use lib.Seq.{drop-cons, take_all}
use Rattle.text.specs.Lines.{decimal, line_rest, line, row_line}
use Rattle.text.proofs.Adding.{adds_then, reached}
use Rattle.text.proofs.Text.put_row.Goals as goal

module _ (words : List ℕ) (h : 0 < length words) where
  row_line_lem : row_line words ≡ decimal (get_or words 0 0) ++ line_rest (map decimal (take (length words - 1) (drop 1 words)))
  unfolding row_line line
  row_line_lem =
      let e : words ≡ get_or words 0 0 ∷ drop 1 words = drop-cons words 0 0 h in
      ap (λ (l : List ℕ). line (map decimal l)) e
      ∙ rw (take_all (length words - 1) (drop 1 words) (omega (arith, length-drop 1 words)))

  row_length : length (row_line words)
      ≡ length (decimal (get_or words 0 0)) + length (line_rest (map decimal (take (length words - 1) (drop 1 words))))
  row_length = ap length row_line_lem ∙ length-append (decimal (get_or words 0 0)) _

pub put_number-requires : goal.put_number-requires
put_number-requires c =
    omega (arith, c.requires.room, row_length c.args.words.now c.requires.not_empty)

pub put_rest-requires : goal.put_rest-requires
put_rest-requires c =
    let r = reached c.put_number.ensures in
    omega (arith, c.requires.room, row_length c.args.words.now c.requires.not_empty, r.len, r.size)

pub returns : goal.returns
returns c =
    rw (row_line_lem c.args.words.now c.requires.not_empty) (adds_then c.put_number.ensures c.put_rest.ensures)
