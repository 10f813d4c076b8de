-- The rows and challenges that the code holds, as those of the definitions.
use Rattle.xfield.specs.Extension.{Ext}
use Rattle.table.specs.Columns.{Row}
use Rattle.table.specs.Challenges.{Challenges}
use Rattle.xfield.specs.XFieldElements.{ext_of}
use Rattle.table.specs.declared.MainRow.{MainRow}
use Rattle.table.specs.declared.AuxRow.{AuxRow}
use Rattle.table.specs.declared.Challenges as Code

unfoldable pub row_of : MainRow → Row
row_of r = record {
  copy_flag = r.copy_flag.0;
  bits = r.bits.0;
  bits_minus33_inv = r.bits_minus_33_inv.0;
  ci = r.ci.0;
  lhs = r.lhs.0;
  lhs_inv = r.lhs_inv.0;
  rhs = r.rhs.0;
  rhs_inv = r.rhs_inv.0;
  result = r.result.0;
  lookup_multiplicity = r.lookup_multiplicity.0;
}

abbrev pub sum_of : AuxRow → Ext
sum_of r = ext_of r.lookup_server_log_derivative

abbrev pub challenges_in : Code.Challenges → Challenges
challenges_in c = record {
  u32_indeterminate = ext_of c.u32_indeterminate;
  u32_lhs_weight = ext_of c.u32_lhs_weight;
  u32_rhs_weight = ext_of c.u32_rhs_weight;
  u32_ci_weight = ext_of c.u32_ci_weight;
  u32_result_weight = ext_of c.u32_result_weight;
}
