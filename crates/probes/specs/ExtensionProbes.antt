-- What the probes of extension elements write: an operation element by element, three words each. What they answer is in Probes.antt.
use Rattle.std.specs.Prelude.{ℕ, zero, suc, ◌%◌, ◌/◌, Bool, ◌&&◌, List, [], ◌++◌, eqb, length}
use Rattle.xfield.specs.Extension.{Ext, words_x}
use Rattle.table.specs.Columns.{element_at}
use Rattle.probes.specs.Probes.{products_fit}

-- both are as long as what is written, and are whole elements
unfoldable pub elements_fit : (left right out : List ℕ) → Bool
elements_fit left right out = products_fit left right out && eqb (length left % 3) 0

-- the words of the first n of some elements
unfoldable pub words_of_first : (ℕ → Ext) → ℕ → List ℕ
words_of_first elements zero = []
words_of_first elements (suc n) = words_of_first elements n ++ words_x (elements n)

-- an operation, element by element
unfoldable pub elementwise : (Ext → Ext → Ext) → (left right : List ℕ) → List ℕ
elementwise operation left right = words_of_first (λ (i : ℕ). operation (element_at left i) (element_at right i)) (length left / 3)
