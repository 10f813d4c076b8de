-- The operation that `probe_ext_sums` asks for.
use Rattle.xfield.specs.Extension.{add_x}
use Rattle.probes.proofs.probe_ext_sums.Given as goal

abbrev pub ghost-combine_all : goal.ghost-combine_all
ghost-combine_all a = add_x
