-- The positions that a recorder's calls answered on the shared list (S) and alone (O): each pair is of used places that have one key (Good). It stays so
-- where places come into use (good_grown). A position that is among those answered on the shared list has with the one that is taken alone one key
-- (good_at), and two that are one on the shared list are one alone (good_same). Assumes nothing.
use Prim.Native.Nat.{ℕ, zero, suc, ◌<◌}
use mathlib.Core.Path.{◌≡◌, refl, sym, ap, ◌∙◌}
use mathlib.Core.Bool.{Bool, true, false, ◌||◌}
use mathlib.Core.List.{List, [], ◌∷◌, ◌++◌, map}
use native.Mathlib.Omega.{arith}
use lib.Dec.{eqb}
use lib.ListN.{length, get_or}
use borrow.Author.Tests.{eqb-true}
use Rattle.list.specs.Holds.{HeldList}
use Rattle.list_record.proofs.RecordViews.{view_of}
use Rattle.shared_law.specs.Alone.{among, Position, alone_at}
use Rattle.shared_law.proofs.Covering.{Covers}
use Rattle.shared_law.proofs.Together.{Grown}

abbrev pub Good : (S O : HeldList) → Position → Type 0
Good S O p = (p.shared < (view_of S).used) × (p.alone < (view_of O).used) × ((view_of S).key p.shared ≡ (view_of O).key p.alone)

abbrev pub AllGood : (S O : HeldList) → List Position → Type 0
AllGood S O [] = Unit {0}
AllGood S O (p ∷ ps) = Good S O p × AllGood S O ps

-- the positions answered on the shared list
abbrev pub shared_ones : List Position → List ℕ
shared_ones log = map (λ (p : Position). p.shared) log

pub good_grown : (S O S' O' : HeldList) (log : List Position) → Grown (view_of S) (view_of S') → Grown (view_of O) (view_of O')
    → AllGood S O log → AllGood S' O' log
good_grown S O S' O' [] gs go g = tt
good_grown S O S' O' (p ∷ ps) gs go g =
    let a = g.0.0 in
    let b = g.0.1 in (
      (omega (arith, gs.more), omega (arith, go.more), gs.keys p.shared a ∙ g.0.2 ∙ sym (go.keys p.alone b)),
      good_grown S O S' O' ps gs go g.1,
    )

pub good_append : (S O : HeldList) (xs ys : List Position) → AllGood S O xs → AllGood S O ys → AllGood S O (xs ++ ys)
good_append S O [] ys g k = k
good_append S O (x ∷ xs) ys g k = (g.0, good_append S O xs ys g.1 k)

pub good_at : (S O : HeldList) (log : List Position) (i : ℕ) → AllGood S O log → among i (shared_ones log) ≡ true
    → Good S O (record { shared = i; alone = alone_at log i })
unfolding alone_at
good_at S O [] i g e = absurd (let z : ◌≡◌ {A = ℕ} 0 1 = cc in omega arith)
good_at S O (p ∷ ps) i g e = go (good_at S O ps i g.1) (eqb p.shared i) refl e where
  go : (among i (shared_ones ps) ≡ true → Good S O (record { shared = i; alone = alone_at ps i })) → (t : Bool) → eqb p.shared i ≡ t
      → (t || among i (shared_ones ps)) ≡ true → Good S O (record { shared = i; alone = alone_at (p ∷ ps) i })
  go rest true q f = rw (q, ← eqb-true p.shared i q) g.0
  go rest false q f = rw q (rest f)

pub good_nth : (S O : HeldList) (log : List Position) → AllGood S O log → (d : Position) (i : ℕ) → i < length log → Good S O (get_or log i d)
good_nth S O [] g d i h = absurd (omega arith)
good_nth S O (p ∷ ps) g d zero h = g.0
good_nth S O (p ∷ ps) g d (suc i) h = good_nth S O ps g.1 d i (omega arith)

pub good_same : (S O : HeldList) → Covers (view_of S) (view_of O) → (p q : Position) → Good S O p → Good S O q → p.shared ≡ q.shared → p.alone ≡ q.alone
good_same S O h p q a b e =
    h.distinct_o p.alone q.alone a.1 b.1 (sym a.2 ∙ ap (λ (i : ℕ). (view_of S).key i) e ∙ b.2)
