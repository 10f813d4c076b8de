-- `probes::probe_products` meets its contract: each place holds its product. Assumes nothing.
use Rattle.std.proofs.Common.{rules, arith}
use Rattle.probes.specs.Probes.{written, products_fit}
use Rattle.probes.proofs.Places.{are_products}
use Rattle.probes.proofs.probe_products.Goals as goal

pub returns-clause-products : goal.returns-clause-products
unfolding written products_fit
returns-clause-products c =
    let e = are_products c.args.left.now c.args.right.now c.loop-i.out (omega arith) (omega arith) (λ k h. c.loop-i.invariant k (omega arith)) in
    search rules
