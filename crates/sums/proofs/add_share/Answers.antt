-- `sums::add_share` meets its contract where the summand counts: the sum is made in the definition's order. Assumes nothing.
use Rattle.sums.proofs.RunningSums.{share_added}
use Rattle.sums.proofs.add_share.Goals as goal

pub returns-in-Some : goal.returns-in-Some
returns-in-Some g c =
    let s = c.in-Some.ensures in
    share_added _ _ s.0 s.1 s.2 c.inverse_or_zero.ensures c.mul.ensures c.add.ensures
