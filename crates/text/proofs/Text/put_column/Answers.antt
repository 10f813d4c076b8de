-- `Text::put_column` meets its contract: the spaces that the number lacks to the width, then its digits.
use borrow.Author.Rules.{rules}
use Prim.Native.Nat.{ℕ, ◌+◌, ◌-◌}
use mathlib.Core.Path.{◌≡◌, ◌∙◌}
use mathlib.Core.List.{List, ◌++◌}
use native.Mathlib.Omega.{arith}
use lib.ListN.{length, length-append, length-replicate}
use Rattle.text.specs.Lines.{decimal, spaces, column}
use Rattle.text.proofs.Adding.{adds_then, reached}
use Rattle.text.proofs.Decimal.{decimal_made}
use Rattle.text.proofs.Text.put_column.Goals as goal

module _ (width n count : ℕ) (digits : List ℕ) (is : digits ≡ decimal n) (missing : count ≡ width - length digits) where
  column_is : column width n ≡ spaces count ++ digits
  unfolding column
  column_is = rw (missing, is)

  column_length : length (column width n) ≡ count + length digits
  unfolding spaces
  column_length = rw column_is (length-append (spaces count) digits ∙ rw length-replicate)

  spaces_length : length (spaces count) ≡ count
  unfolding spaces
  spaces_length = rw length-replicate

pub put_spaces-requires : goal.put_spaces-requires
put_spaces-requires c =
    let is = c.format-digits.ensures.text ∙ decimal_made c.args.n (search rules) in
    omega (arith, c.requires, column_length c.args.width c.args.n _ _ is c.saturating_sub.ensures)

pub put_str-requires : goal.put_str-requires
put_str-requires c =
    let is = c.format-digits.ensures.text ∙ decimal_made c.args.n (search rules) in
    let r = reached c.put_spaces.ensures in
    let missing = c.saturating_sub.ensures in
    omega (arith, c.requires, column_length c.args.width c.args.n _ _ is missing, spaces_length c.args.width c.args.n _ _ is missing, r.len, r.size)

pub returns : goal.returns
returns c =
    let is = c.format-digits.ensures.text ∙ decimal_made c.args.n (search rules) in
    rw (column_is c.args.width c.args.n _ _ is c.saturating_sub.ensures) (adds_then c.put_spaces.ensures c.put_str.ensures)
