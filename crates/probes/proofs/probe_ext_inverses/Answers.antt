-- `probes::probe_ext_inverses` meets its contract: an element more is the inverse with each turn. Assumes nothing.
use Rattle.std.proofs.Common.{◌+◌, ◌*◌, ◌≤◌, arith, length, ◌∙◌}
use Rattle.probes.proofs.Elements.{inverses_turn}
use Rattle.probes.proofs.probe_ext_inverses.Goals as goal

pub loop-i-preserved : goal.loop-i-preserved
loop-i-preserved c =
    let words = c.args.words.now in
    let room : 3 * c.loop-i.i + 3 ≤ length c.loop-i.out = omega (arith, c.loop-i.invariant.0) in (
      c.put_element.auto.words ∙ c.loop-i.invariant.0,
      inverses_turn words c.loop-i.out _ c.loop-i.i _ _ room c.element_at.ensures c.inverse_or_zero.ensures
          c.put_element.ensures c.loop-i.invariant.1,
    )
