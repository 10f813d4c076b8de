-- What a stored table is: the values of a rule, place by place.
use Rattle.std.specs.Prelude.{ℕ, zero, suc, List, [], ◌∷◌}

-- the rule's values at n places, from the place `from` on
unfoldable pub table_of : (ℕ → ℕ) → (from n : ℕ) → List ℕ
table_of rule from zero = []
table_of rule from (suc n) = rule from ∷ table_of rule (suc from) n
