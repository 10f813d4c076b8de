-- What the loop of `put_rest` keeps.
use Prim.Native.Nat.{ℕ}
use mathlib.Core.List.{List, ◌∷◌}
use lib.ListN.{take}
use Rattle.std.specs.List.{flat_map}
use Rattle.text.specs.Lines.{decimal}
use Rattle.text.specs.Put.{Adds}
use Rattle.text.proofs.Text.put_rest.Given as goal

-- a number after a space
abbrev pub spaced : ℕ → List ℕ
spaced n = 32 ∷ decimal n

abbrev pub invariant-loop-word : goal.invariant-loop-word
invariant-loop-word l = Adds l.initial.self (flat_map spaced (take l.word-index l.words)) l.self
