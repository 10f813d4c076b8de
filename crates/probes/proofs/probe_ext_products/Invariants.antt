-- The operation that `probe_ext_products` asks for.
use Rattle.xfield.specs.Extension.{mul_x}
use Rattle.probes.proofs.probe_ext_products.Given as goal

abbrev pub ghost-combine_all : goal.ghost-combine_all
ghost-combine_all a = mul_x
