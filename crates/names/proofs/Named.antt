-- Past the end of a list of names there is none; where a constraint's name stands among all forty (place_of_lem); how long a name can be. Assumes
-- nothing.
use Prim.Native.Nat.{ℕ, zero, suc, ◌+◌, ◌≤◌, ◌<◌}
use mathlib.Core.Path.{◌≡◌, refl, ◌∙◌, sym}
use mathlib.Core.Bool.{Bool, true, false, cond, ◌&&◌}
use mathlib.Core.List.{List, [], ◌∷◌, ◌++◌}
use native.Mathlib.Omega.{arith}
use native.Mathlib.Nat.{zero-add, suc-add}
use borrow.Author.Tests.{ltb-true, ltb-false}
use lib.Dec.{ltb}
use lib.ListN.{length, length-append}
use Rattle.names.specs.Names.{initial_names, consistency_names, transition_names, terminal_names, all_names, name_at, name_of, max_name}

pub past_end : (names : List (List ℕ)) (index : ℕ) → length names ≤ index → name_at names index ≡ []
past_end [] index h = refl
past_end (name ∷ names) zero h = absurd (omega arith)
past_end (name ∷ names) (suc index) h = past_end names index (omega arith)

-- ---- the place of a name among all
at_left : (xs ys : List (List ℕ)) (index : ℕ) → index < length xs → name_at (xs ++ ys) index ≡ name_at xs index
at_left [] ys index h = absurd (omega arith)
at_left (x ∷ xs) ys zero h = refl
at_left (x ∷ xs) ys (suc index) h = at_left xs ys index (omega arith)

at_right : (xs ys : List (List ℕ)) (index : ℕ) → name_at (xs ++ ys) (length xs + index) ≡ name_at ys index
at_right [] ys index = simp zero-add refl
at_right (x ∷ xs) ys index = simp suc-add (at_right xs ys index)

-- a group's names, with 40 names in all: the place of one of them is as far past the names before; any other index has place 40
pub placed : (before names after : List (List ℕ)) (index r : ℕ) → length (before ++ (names ++ after)) ≡ 40
    → r ≡ cond (ltb index (length names)) (length before + index) 40
    → (r ≤ 40) × (name_at (before ++ (names ++ after)) r ≡ name_at names index)
placed before names after index r size e = go (ltb index (length names)) refl e
  where
    go : (t : Bool) → ltb index (length names) ≡ t → r ≡ cond t (length before + index) 40
        → (r ≤ 40) × (name_at (before ++ (names ++ after)) r ≡ name_at names index)
    go true h m =
        let l = ltb-true index (length names) h in
        let a = length-append before (names ++ after) in
        let b = length-append names after in
        (omega arith, rw m (at_right before (names ++ after) index ∙ at_left names after index l))
    go false h m =
        let l = ltb-false index (length names) h in
        (omega arith, rw m (past_end (before ++ (names ++ after)) 40 (omega arith) ∙ sym (past_end names index l)))

pub none_at_40 : name_at all_names 40 ≡ []
unfolding all_names initial_names consistency_names transition_names terminal_names
none_at_40 = refl

-- the place of a constraint's name among all forty; past the last where there is no such constraint
abbrev pub place_of : (group index : ℕ) → ℕ
place_of zero index = cond (ltb index 1) (0 + index) 40
place_of (suc zero) index = cond (ltb index 15) (1 + index) 40
place_of (suc (suc zero)) index = cond (ltb index 22) (16 + index) 40
place_of (suc (suc (suc zero))) index = cond (ltb index 2) (38 + index) 40
place_of (suc (suc (suc (suc group)))) index = 40

pub place_of_lem : (group index : ℕ) → (place_of group index ≤ 40) × (name_at all_names (place_of group index) ≡ name_of group index)
unfolding all_names name_of initial_names consistency_names transition_names terminal_names
place_of_lem zero index =
    placed [] initial_names (consistency_names ++ (transition_names ++ terminal_names)) index _ refl refl
place_of_lem (suc zero) index =
    placed initial_names consistency_names (transition_names ++ terminal_names) index _ refl refl
place_of_lem (suc (suc zero)) index =
    placed (initial_names ++ consistency_names) transition_names terminal_names index _ refl refl
place_of_lem (suc (suc (suc zero))) index =
    placed (initial_names ++ (consistency_names ++ transition_names)) terminal_names [] index _ refl refl
place_of_lem (suc (suc (suc (suc group)))) index = (omega arith, none_at_40)

-- ---- how long a name can be
and_left : (a b : Bool) → (a && b) ≡ true → a ≡ true
and_left true b e = refl
and_left false b e = e

and_right : (a b : Bool) → (a && b) ≡ true → b ≡ true
and_right true b e = e
and_right false b e = absurd (let z : ◌≡◌ {A = ℕ} 0 1 = cc in omega arith)

all_short : List (List ℕ) → Bool
all_short [] = true
all_short (name ∷ names) = ltb (length name) max_name && all_short names

short_at : (names : List (List ℕ)) (index : ℕ) → all_short names ≡ true → length (name_at names index) < max_name
unfolding all_short
short_at [] index h = omega arith
short_at (name ∷ names) zero h = ltb-true (length name) max_name (and_left (ltb (length name) max_name) (all_short names) h)
short_at (name ∷ names) (suc index) h = short_at names index (and_right (ltb (length name) max_name) (all_short names) h)

pub name_bound : (group index : ℕ) → length (name_of group index) < max_name
unfolding name_of initial_names consistency_names transition_names terminal_names all_short
name_bound zero index = short_at initial_names index refl
name_bound (suc zero) index = short_at consistency_names index refl
name_bound (suc (suc zero)) index = short_at transition_names index refl
name_bound (suc (suc (suc zero))) index = short_at terminal_names index refl
name_bound (suc (suc (suc (suc group)))) index = omega arith
