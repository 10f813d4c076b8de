-- `list_stored::copy_entries` meets its contract: the fronts of the arrays are what was unpacked there. Assumes nothing.
use native.Mathlib.Omega.{arith}
use Rattle.list_stored.proofs.Copies.{unpacked}
use Rattle.list_stored.proofs.copy_entries.Goals as goal

pub returns : goal.returns
returns c =
    let stored = c.args.stored.now in
    unpacked stored.bytes.now stored.n _ _ stored.whole.0 stored.whole.1 (omega arith) (omega arith) c.unpack.ensures.keys_after c.unpack.ensures.multiplicities_after
