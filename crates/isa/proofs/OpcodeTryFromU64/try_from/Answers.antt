-- A word that is the number of none of the six is no opcode.
use Rattle.std.proofs.Common.{rules, refl}
use Rattle.isa.proofs.Opcodes.{stranger}
use Rattle.isa.proofs.OpcodeTryFromU64.try_from.Goals as goal

pub returns-in_default : goal.returns-in_default
returns-in_default c =
    (stranger _ (search rules) (search rules) (search rules) (search rules) (search rules) (search rules), refl)
