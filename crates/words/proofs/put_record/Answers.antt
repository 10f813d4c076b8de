-- `words::put_record` meets its contract: the part of the words that is copied to is a run of stores. Assumes nothing.
use Rattle.std.proofs.Common.{◌*◌, arith}
use Rattle.words.proofs.Sets.{part_sets}
use Rattle.words.proofs.put_record.Goals as goal

pub returns : goal.returns
returns g c = part_sets c.args.words.now _ _ (g.row.N * c.args.i) _ c.copy_from_slice.ensures.after (omega arith) (omega arith)
