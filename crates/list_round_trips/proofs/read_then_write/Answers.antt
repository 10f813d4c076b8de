-- `list_round_trips::read_then_write` meets its contract: the law is the second round trip. Assumes nothing.
use Rattle.words.proofs.Judgements.{handed_on}
use Rattle.list_round_trips.proofs.TwoCalls.{read_refused, then_written}
use Rattle.list_round_trips.proofs.read_then_write.Goals as goal

pub returns-in_err-read_list-clause-trip : goal.returns-in_err-read_list-clause-trip
returns-in_err-read_list-clause-trip c =
    rw (handed_on _ c.from_residual.ensures.1) (read_refused _ _ _ _ _ c.in_err-read_list.ensures.outcome)

pub returns-clause-trip : goal.returns-clause-trip
returns-clause-trip c =
    then_written _ _ _ _ _ _ _ (λ j. (c.type_inv.bytes j).fits) c.in_ok-read_list.ensures.outcome (rw c.view.ensures at c.write_list.ensures)
