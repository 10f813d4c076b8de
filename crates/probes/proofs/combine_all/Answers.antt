-- `probes::combine_all` meets its contract: an element more stands in front with each turn. Assumes nothing.
use Rattle.std.proofs.Common.{◌≡◌, ◌∙◌, ℕ, rules, arith, refl}
use Rattle.xfield.specs.XFieldElements.{ext_of}
use Rattle.table.specs.Columns.{element_at}
use Rattle.probes.specs.ExtensionProbes.{elements_fit, words_of_first}
use Rattle.probes.specs.Probes.{written, products_fit}
use Rattle.probes.proofs.ElementPlaces.{element_turn, are_elementwise}
use Rattle.probes.proofs.combine_all.Goals as goal

pub loop-i-init : goal.loop-i-init
unfolding words_of_first
loop-i-init g c = (refl, refl)

pub loop-i-preserved : goal.loop-i-preserved
loop-i-preserved g c =
    let i = c.loop-i.i in
    let left = c.args.left.now in
    let right = c.args.right.now in
    let combined : ext_of c.combine.result ≡ g.operation (element_at left i) (element_at right i) =
    rw (← c.element_at-x.ensures, ← c.element_at-y.ensures) (c.requires.1.1 _ _ _ c.combine.ensures) in (
      c.put_element.auto.words ∙ c.loop-i.invariant.0,
      element_turn (λ (k : ℕ). g.operation (element_at left k) (element_at right k)) i c.args.out.now c.loop-i.invariant.1 combined c.put_element.ensures,
    )

pub returns-clause-elements : goal.returns-clause-elements
unfolding written elements_fit products_fit
returns-clause-elements g c =
    let e = are_elementwise g.operation c.args.left.now c.args.right.now c.args.out.now c.loop-i.i (omega arith) (omega arith) (omega arith) c.loop-i.invariant.1 in
    search rules
