-- `probes::put_elements` meets its contract: an element more is stored with each turn. Assumes nothing.
use Rattle.std.proofs.Common.{refl, arith, ◌∙◌}
use Rattle.probes.specs.Probes.{words_of}
use Rattle.probes.proofs.Elements.{elements_turn}
use Rattle.probes.proofs.put_elements.Goals as goal

pub loop-i-init : goal.loop-i-init
unfolding words_of
loop-i-init c = (refl, refl)

pub loop-i-preserved : goal.loop-i-preserved
loop-i-preserved c = (
  c.put_element.auto.words ∙ c.loop-i.invariant.0,
  elements_turn _ _ _ c.args.elements.now c.args.from c.loop-i.i _ (omega arith) c.loop-i.invariant.1 c.put_element.ensures,
)
