-- "Over every list of recordings from fresh tables the byte multiplicities total twice the number of distinct accepted values."
use Rattle.std.specs.Prelude.{ℕ, suc, ◌+◌, ◌*◌, ◌<◌, ◌≡◌, Bool, false, cond, ◌||◌, List, [], ◌∷◌, eqb, get_or}
use Rattle.lookup.specs.Cascades.{Lookups, used, look_up_all}

-- the tables after these recordings, one after the other; a refused one changes nothing
unfoldable pub looked_up : Lookups → List ℕ → Lookups
looked_up t [] = t
looked_up t (v ∷ vs) = looked_up (look_up_all t v).left vs

-- "accepted": those of the values whose recording answered 0
unfoldable pub accepted : Lookups → List ℕ → List ℕ
accepted t [] = []
accepted t (v ∷ vs) =
    cond (eqb (look_up_all t v).answer.number 0) (v ∷ accepted (look_up_all t v).left vs) (accepted (look_up_all t v).left vs)

unfoldable pub occurs : ℕ → List ℕ → Bool
occurs v [] = false
occurs v (w ∷ ws) = eqb w v || occurs v ws

-- how many distinct values there are among the later ones that are not among the earlier ones: the first occurrence of each counts
unfoldable pub distinct_after : List ℕ → List ℕ → ℕ
distinct_after earlier [] = 0
distinct_after earlier (v ∷ vs) = cond (occurs v earlier) (distinct_after (v ∷ earlier) vs) (suc (distinct_after (v ∷ earlier) vs))

abbrev pub distinct : List ℕ → ℕ
distinct vs = distinct_after [] vs

unfoldable pub total : List ℕ → ℕ
total [] = 0
total (x ∷ xs) = x + total xs

-- "fresh tables": no place is used, and no byte was looked up; unused places may hold anything
pub record Fresh (t : Lookups) : Type 0 where
  pub none_used : used t.values ≡ 0
  pub none_counted : (i : ℕ) → get_or t.byte_multiplicities i 0 ≡ 0

-- values of 16 bits
abbrev pub SixteenBits : List ℕ → Type 0
SixteenBits vs = (i : ℕ) → get_or vs i 0 < 65536

abbrev pub TwiceDistinct : Lookups → List ℕ → Type 0
TwiceDistinct t vs = Fresh t → SixteenBits vs → total (looked_up t vs).byte_multiplicities ≡ 2 * distinct (accepted t vs)
