-- The operation that `probe_ext_differences` asks for.
use Rattle.xfield.specs.Extension.{sub_x}
use Rattle.probes.proofs.probe_ext_differences.Given as goal

abbrev pub ghost-combine_all : goal.ghost-combine_all
ghost-combine_all a = sub_x
