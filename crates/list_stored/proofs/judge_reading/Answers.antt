-- `list_stored::judge_reading` meets its contract: each return is the reason whose turn it is, and no reason before it was given. Assumes nothing.
use Rattle.std.proofs.Common.{arith, sym, ap, ◌∙◌}
use Rattle.words.proofs.Judgements.{handed_on}
use Rattle.list_bytes.specs.Packed.{stored_n}
use Rattle.list_stored.specs.Stored.{content_reason}
use Rattle.list_stored.proofs.Reasons.{taken_refused, read_shape, read_torn, read_full, read_used, read_content}
use Rattle.list_stored.proofs.judge_reading.Goals.{then-held-stored-via-then-held-stored, then-held-stored-via-else-held-stored+then-held-gt0}
use Rattle.list_stored.proofs.judge_reading.Goals as goal

pub returns-in_err-held_shape : goal.returns-in_err-held_shape
returns-in_err-held_shape c = taken_refused _ _ (handed_on _ c.from_residual.ensures.1) (read_shape _ _ (sym c.in_err-held_shape.ensures))

pub returns-in_err-stored : goal.returns-in_err-stored
returns-in_err-stored c =
    taken_refused _ _ (handed_on _ c.from_residual-in_err-stored.ensures.1) (read_torn _ _ (sym c.in_ok-held_shape.ensures) c.in_err-stored.ensures)

pub returns-then-held-stored : goal.returns-then-held-stored
returns-then-held-stored c =
    let stored = c.in_ok-stored.ensures in
    let n = c.in_ok-stored.stored.whole.0 ∙ ap stored_n stored.0 in
    elim c.then-held-stored.branch [
      | then-held-stored-via-then-held-stored w ↦ read_full _ _ (sym c.in_ok-held_shape.ensures) stored.1 (let h = w.if-held-stored.true in omega arith)
      | then-held-stored-via-else-held-stored+then-held-gt0 w ↦ read_used _ _ (sym c.in_ok-held_shape.ensures) stored.1 w.if-held-gt0.true
    ]

pub returns-in_err-judge_content : goal.returns-in_err-judge_content
returns-in_err-judge_content c =
    let stored = c.in_ok-stored.ensures in
    let n = c.in_ok-stored.stored.whole.0 ∙ ap stored_n stored.0 in
    taken_refused _ _ (handed_on _ c.from_residual-in_err-judge_content.ensures.1)
    (read_content _ _ (sym c.in_ok-held_shape.ensures) stored.1
    (let h = c.if-held-stored.false in omega arith) (let u = c.if-held-gt0.false in omega arith)
    ∙ ap content_reason (sym stored.0) ∙ sym c.in_err-judge_content.ensures)

pub returns : goal.returns
returns c =
    let stored = c.in_ok-stored.ensures in
    let n = c.in_ok-stored.stored.whole.0 ∙ ap stored_n stored.0 in (
      stored.0,
      read_content _ _ (sym c.in_ok-held_shape.ensures) stored.1
          (let h = c.if-held-stored.false in omega arith) (let u = c.if-held-gt0.false in omega arith)
          ∙ ap content_reason (sym stored.0) ∙ sym c.in_ok-judge_content.ensures,
    )
