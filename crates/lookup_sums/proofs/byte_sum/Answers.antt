-- `lookup_sums::byte_sum` meets its contract: where the shapes are right, the sum over the bytes' summands is what is due. Assumes nothing.
use mathlib.Core.Path.{sym}
use Rattle.lookup_sums.proofs.Sums.{bytes_summed_right}
use Rattle.lookup_sums.proofs.byte_sum.Goals as goal

pub returns : goal.returns
returns c =
    bytes_summed_right _ _ _ c.if-byte_multiplicities-ne-BYTE_ROWS.false (sym c.if-not-has_sum_shape.ensures) c.from_words.ensures c.sum_over.ensures
