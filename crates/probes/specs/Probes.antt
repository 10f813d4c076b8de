-- What the probes answer and write: the values of the forty constraints on a pair of rows; products and inverses place by place, and a chain of
-- products.
use Rattle.std.specs.Prelude.{ℕ, zero, suc, ◌+◌, ◌*◌, ◌%◌, ◌≤◌, ◌≡◌, Bool, true, false, cond, ◌&&◌, List, [], ◌∷◌, ◌++◌, map, eqb, length}
use Rattle.field.specs.Elements.{mul_f, inv_f}
use Rattle.xfield.specs.Extension.{Ext, words_x, InverseOrZeroX}
use Rattle.table.specs.Columns.{Row, row_at, element_at, aux_at}
use Rattle.table.specs.Challenges.{Challenges, challenges_of}
use Rattle.air.specs.Constraints.{initial_constraints, consistency_constraints, transition_constraints, terminal_constraints}

-- a probe answers 0, or 1 where a lent array has not the length that it asks for
unfoldable pub answered : Bool → ℕ
answered fits = cond fits 0 1

-- and then nothing is written
unfoldable pub written : Bool → List ℕ → List ℕ → List ℕ
written fits values out = cond fits values out

-- ---- constraints
-- elements one after the other
unfoldable pub words_of : List Ext → List ℕ
words_of [] = []
words_of (x ∷ xs) = words_x x ++ words_of xs

-- two rows, their sums, the challenges, and three words for each of forty constraints
unfoldable pub constraints_fit : (rows aux challenges values : List ℕ) → Bool
constraints_fit rows aux challenges values =
    eqb (length rows) 20 && (eqb (length aux) 6 && (eqb (length challenges) 15 && eqb (length values) 120))

-- the initial constraint, the consistency and the terminal constraints of the upper row, the transition constraints of both rows; in the check's order
unfoldable pub constraints_of : Challenges → (upper lower : Row) → (sum next : Ext) → List Ext
constraints_of c upper lower sum next =
    initial_constraints c upper sum
    ++ (consistency_constraints upper ++ (transition_constraints c upper lower sum next ++ terminal_constraints upper))

-- their words
unfoldable pub constraint_words : (rows aux challenges : List ℕ) → List ℕ
constraint_words rows aux challenges =
    words_of (constraints_of (challenges_of challenges) (row_at rows 0) (row_at rows 1) (aux_at aux 0) (aux_at aux 1))

-- ---- elements
-- both are as long as what is written
unfoldable pub products_fit : (left right out : List ℕ) → Bool
products_fit left right out = eqb (length left) (length out) && eqb (length right) (length out)

-- the products, place by place
unfoldable pub products_of : (left right : List ℕ) → List ℕ
products_of [] right = []
products_of (x ∷ left) [] = []
products_of (x ∷ left) (y ∷ right) = mul_f x y ∷ products_of left right

-- start, times factor so often
unfoldable pub chain_of : (start factor times : ℕ) → ℕ
chain_of start factor zero = start
chain_of start factor (suc n) = mul_f (chain_of start factor n) factor

unfoldable pub inverses_fit : (words out : List ℕ) → Bool
inverses_fit words out = eqb (length words) (length out)

-- the inverses, place by place
unfoldable pub inverses_of : List ℕ → List ℕ
inverses_of words = map inv_f words

-- whole extension elements, as many in both
unfoldable pub ext_inverses_fit : (words out : List ℕ) → Bool
ext_inverses_fit words out = eqb (length words) (length out) && eqb (length words % 3) 0

-- each element of `out` is the inverse of the one at its place, or zero where that has none
pub record AreExtInverses (words out : List ℕ) : Type 0 where
  pub as_many : length out ≡ length words
  pub each : (k : ℕ) → 3 * k + 3 ≤ length words → InverseOrZeroX (element_at words k) (element_at out k)

-- what is left of `out`: the inverses, or what it was where the lengths do not fit
unfoldable pub ExtInversesLeft : Bool → (words before after : List ℕ) → Type 0
ExtInversesLeft true words before after = AreExtInverses words after
ExtInversesLeft false words before after = after ≡ before
