-- The table of the inverses of 0 to 255, 0 for 0. The numbers stand in the code and in proofs/SmallInverses.antt.
use Rattle.std.specs.Prelude.{ℕ, List}
use Rattle.field.specs.Elements.{inv_f}
use Rattle.field.specs.Tables.{table_of}

-- entry k is the inverse of k, for k from 0 to 255
unfoldable pub small_inverses : List ℕ
small_inverses = table_of inv_f 0 256
