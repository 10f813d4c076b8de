-- What a search answers before another. No contract of a call cites this page.
use Rattle.std.specs.Prelude.{Option, Some, None}
use Rattle.words.specs.Answers.{Answer}
use Rattle.check_search.specs.declared.Nonzero.{Nonzero}
use Rattle.check_search.specs.Nonzeros.{nonzero_answer}

-- the next search's answer where this one finds nothing
abbrev pub followed_by : Option Nonzero → Answer → Answer
followed_by None next = next
followed_by (Some n) next = nonzero_answer n
