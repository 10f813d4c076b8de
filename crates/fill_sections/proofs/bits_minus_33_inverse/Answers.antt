-- `bits_minus_33_inverse` answers the number at its place of the table, and that is the inverse: the constant has the stored numbers, which are the table of the
-- definition. Assumes nothing.
use Prim.Native.Nat.{ℕ}
use mathlib.Core.Path.{ap, ◌∙◌}
use mathlib.Core.List.{List}
use lib.ListN.{get_or}
use Rattle.fill_sections.proofs.BitsMinus33.{stored, stored_is, bits_minus_33}
use Rattle.fill_sections.proofs.bits_minus_33_inverse.Goals as goal

pub returns-clause-stored : goal.returns-clause-stored
unfolding stored
returns-clause-stored c = ap (λ (l : List ℕ). get_or l c.args.bits 0) stored_is

pub returns-clause-inverse : goal.returns-clause-inverse
unfolding stored
returns-clause-inverse c = ap (λ (l : List ℕ). get_or l c.args.bits 0) stored_is ∙ bits_minus_33 _ c.requires
