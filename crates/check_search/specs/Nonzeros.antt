-- What a constraint that is not zero is told as: its group's number and, with its row, index and value, an answer. The answer of `check` rests on both.
use Rattle.std.specs.Prelude.{ℕ}
use Rattle.words.specs.Answers.{Answer}
use Rattle.xfield.specs.XFieldElements.{ext_of}
use Rattle.air.specs.Check.{nonzero}
use Rattle.check_search.specs.declared.Group.{Group}
use Rattle.check_search.specs.declared.Group.TheVariants.{Initial, Consistency, Transition, Terminal}
use Rattle.check_search.specs.declared.Nonzero.{Nonzero}

-- "group 0 to 3"
abbrev pub group_number : Group → ℕ
group_number Initial = 0
group_number Consistency = 1
group_number Transition = 2
group_number Terminal = 3

-- "group 0 to 3, (upper) row, index from 0 and three-word value"
abbrev pub nonzero_answer : Nonzero → Answer
nonzero_answer n = nonzero (group_number n.group) n.row n.index (ext_of n.value)
