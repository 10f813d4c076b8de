-- `list_stored::read_list` meets its contract: where a reason is given nothing is stored; else what the bytes hold fits the arrays
-- and replaces the list, and the holds at its places are cleared. Assumes nothing.
use Rattle.std.proofs.Common.{arith, ap, ◌∙◌}
use Rattle.words.proofs.Judgements.{handed_on}
use Rattle.words.proofs.Outcomes.{leaves_said}
use Rattle.list_bytes.specs.Packed.{stored_n}
use Rattle.list_stored.specs.Stored.{read_answer}
use Rattle.list_stored.proofs.Reasons.{readable, read_refused, read_done}
use Rattle.list_stored.proofs.read_list.Goals as goal

pub unpack-requires : goal.unpack-requires
unpack-requires c =
    let stored = rw c.view.ensures at c.in_ok-stored.ensures in
    let w = readable _ _ stored.1 in
    let n = c.in_ok-stored.stored.whole.0 ∙ ap stored_n stored.0 in
    record { n_in_bounds = (omega arith, omega arith) }

pub returns-in_err-stored-clause-outcome : goal.returns-in_err-stored-clause-outcome
returns-in_err-stored-clause-outcome c =
    leaves_said (ap read_answer (handed_on _ c.from_residual.ensures.1)) (read_refused _ _ (rw c.view.ensures at c.in_err-stored.ensures))

pub returns-clause-outcome : goal.returns-clause-outcome
returns-clause-outcome c =
    let stored = rw c.view.ensures at c.in_ok-stored.ensures in
    let n = c.in_ok-stored.stored.whole.0 ∙ ap stored_n stored.0 in
    read_done _ _ _ _ _ _ stored.1 n (rw stored.0 at c.unpack.ensures.keys_after) (rw stored.0 at c.unpack.ensures.multiplicities_after) c.clear_places.ensures
