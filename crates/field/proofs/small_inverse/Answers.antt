-- `small_inverse` answers the inverse of a number below 256: the table has the stored numbers, which are the inverses. Assumes nothing.
use Rattle.field.proofs.StoredInverses.{stored}
use Rattle.field.proofs.SmallInverses.{stored_is, looked_up_lem}
use Rattle.field.proofs.small_inverse.Goals as goal

pub returns : goal.returns
unfolding stored
returns c = looked_up_lem stored stored_is _ c.requires
