-- `list_round_trips::write_then_read` meets its contract: what was written is within the bytes, and the law is the first round trip. Assumes nothing.
use Rattle.std.proofs.Common.{sym}
use lib.Seq.{length-take-le}
use Rattle.words.proofs.Judgements.{handed_on}
use Rattle.list_round_trips.proofs.TwoCalls.{written_within, write_refused, then_read}
use Rattle.list_round_trips.proofs.write_then_read.Goals as goal

pub returns-in_err-n-clause-trip : goal.returns-in_err-n-clause-trip
returns-in_err-n-clause-trip c = rw (handed_on _ c.from_residual.ensures.1) (write_refused _ _ _ _ _ c.in_err-n.ensures)

pub slice_bounds-read_list-end : goal.slice_bounds-read_list-end
slice_bounds-read_list-end c = written_within _ _ _ _ c.in_ok-n.ensures

pub slice_bounds-read_list-end-2 : goal.slice_bounds-read_list-end-2
slice_bounds-read_list-end-2 c = sym (length-take-le _ c.write_list.new.out (written_within _ _ _ _ c.in_ok-n.ensures))

pub returns-clause-trip : goal.returns-clause-trip
returns-clause-trip c = then_read _ _ _ _ _ _ _ c.in_ok-n.ensures c.read_list.ensures.outcome
