-- `numbers::Place::step` meets its contract: a case for each kind of byte.
use Rattle.numbers.proofs.Steps.{step_space, step_newline, step_below, step_above, step_digit}
use borrow.Author.Rules.{rules}
use Rattle.numbers.proofs.Place.step.Goals as goal

pub returns-in-32 : goal.returns-in-32
returns-in-32 c = rw (c.in-32.is, c.gap_step.ensures, c.line_of_next-line.ensures, step_space c.args.self)

pub returns-in-10 : goal.returns-in-10
returns-in-10 c = rw (c.in-10.is, c.gap_step-in-10.ensures, c.line_of_next-line.ensures, step_newline c.args.self)

pub returns-in-48-to-57 : goal.returns-in-48-to-57
returns-in-48-to-57 c = rw (c.digit_step.ensures, c.unwrap_or.ensures, c.line_of_next-line.ensures, step_digit c.args.self c.args.byte (search rules) (search rules))

pub returns-in_default : goal.returns-in_default
returns-in_default c = rw (c.line_of_next-line.ensures, step_below c.args.self c.args.byte (search rules) (search rules) (search rules))

pub returns-in_default-2 : goal.returns-in_default-2
returns-in_default-2 c = rw (c.line_of_next-line.ensures, step_above c.args.self c.args.byte (search rules))
