-- Chains of places: `links` gives for each place the one before it on its chain, and a chain begins at a head. Where every key's place is on the
-- chain of its bucket, a key that is not found on its chain is new. A new place goes in front of its chain, and no other chain changes.
use Rattle.std.specs.Prelude.{Option, None, Some}
use mathlib.Core.Path.{◌≡◌, refl, sym, ap, subst, ◌∙◌}
use mathlib.Core.Bool.{Bool, true, false}
use mathlib.Core.List.{List}
use mathlib.Core.Logic.{⊎_elim}
use Prim.Native.Nat.{ℕ, zero, suc, ◌+◌, ◌*◌, ◌%◌, ◌≤◌, ◌<◌, zero-le}
use native.Mathlib.Nat.{eq-or-lt_of_le}
use native.Mathlib.Omega.{arith}
use borrow.Author.Tests.{eqb-true, eqb-false}
use lib.Dec.{eqb}
use lib.ListN.{length, get_or, set, replicate}
use lib.Seq.{get_or-set_same, get_or-set_other}
use Rattle.words.specs.Limits.{max_places}
use Rattle.isa.specs.declared.U32TableEntry.{U32TableEntry}
use Rattle.isa.specs.Entries.{lhs, rhs}
use Rattle.list.specs.Keys.{same_key}
use Rattle.list.proofs.Finding.{same_key_equal}

abbrev pub Links : Type 0
Links = List (Option ℕ)

-- the chain from h passes place j
pub data Reaches (links : Links) (j : ℕ) : Option ℕ → Type 0 where
  here : Reaches links j (Some j)
  further : {h : ℕ} → Reaches links j (get_or links h None) → Reaches links j (Some h)

pub ends : {links : Links} {j : ℕ} {h : Option ℕ} → h ≡ None → Reaches links j h → ⊥
ends e here = cc
ends e (further r) = cc

-- a chain passes the place it begins at, and then those of the rest
pub rest : {links : Links} {j : ℕ} {h : Option ℕ} (p : ℕ) → h ≡ Some p → (j ≡ p → ⊥) → Reaches links j h → Reaches links j (get_or links p None)
rest {links} {j} p e n here = absurd (n cc)
rest {links} {j} p e n (further {h} r) = let q : h ≡ p = cc in subst (λ (k : ℕ). Reaches links j (get_or links k None)) q r

-- a place counted from 1, and 0 for none
abbrev pub from_one : Option ℕ → ℕ
from_one None = 0
from_one (Some k) = suc k

pub some_below : {next : Option ℕ} {p i : ℕ} → next ≡ Some p → from_one next ≤ i → p < i
some_below e h = rw e at h

pub nones : (n k m : ℕ) → from_one (get_or (replicate n None) k None) ≤ m
nones zero k m = zero-le
nones (suc n) zero m = zero-le
nones (suc n) (suc k) m = nones n k m

-- every link leads back
abbrev pub Back : Links → Type 0
Back links = (j : ℕ) → from_one (get_or links j None) ≤ j

-- a chain that begins below i does not change where place i is linked
kept : {links : Links} {j : ℕ} {h : Option ℕ} (i : ℕ) (v : Option ℕ) → Back links → from_one h ≤ i → Reaches links j h → Reaches (set links i v) j h
kept i v b l here = here
kept {links} {j} i v b l (further {h} r) =
    let s = kept i v b (let d = b h in omega arith) r in
    further (subst (λ (k : Option ℕ). Reaches (set links i v) j k) (sym (get_or-set_other links i h v None (λ e. omega arith))) s)

-- each of the first i places is on the chain of its bucket
abbrev pub Chained : (ℕ → ℕ) → Links → Links → ℕ → Type 0
Chained bucket heads links i = (j : ℕ) → j < i → Reaches links j (get_or heads (bucket j) None)

-- place i goes in front of the chain of bucket b
module _ (heads links : Links) (i b : ℕ) (back : Back links) (low : (k : ℕ) → from_one (get_or heads k None) ≤ i) (room : b < length heads)
    (place : i < length links)
  where
    new_head : get_or (set heads b (Some i)) b None ≡ Some i
    new_head = get_or-set_same heads b (Some i) None room

    pub back_more : Back (set links i (get_or heads b None))
    back_more j = go (eqb j i) refl where
      go : (t : Bool) → eqb j i ≡ t → from_one (get_or (set links i (get_or heads b None)) j None) ≤ j
      go true e = let q = eqb-true j i e in rw (q, get_or-set_same links i (get_or heads b None) None place) (low b)
      go false e = rw (get_or-set_other links i j (get_or heads b None) None (eqb-false j i e)) (back j)

    pub low_more : (k : ℕ) → from_one (get_or (set heads b (Some i)) k None) ≤ i + 1
    low_more k = go (eqb k b) refl where
      go : (t : Bool) → eqb k b ≡ t → from_one (get_or (set heads b (Some i)) k None) ≤ i + 1
      go true e = let q = eqb-true k b e in rw (q, new_head) (omega arith)
      go false e = let l = low k in rw (get_or-set_other heads b k (Some i) None (eqb-false k b e)) (omega arith)

    front : (j : ℕ) → Reaches links j (get_or heads b None) → Reaches (set links i (get_or heads b None)) j (Some i)
    front j r =
        further
        (subst (λ (k : Option ℕ). Reaches (set links i (get_or heads b None)) j k) (sym (get_or-set_same links i (get_or heads b None) None place))
        (kept i (get_or heads b None) back (low b) r))

    -- a place on the chain of its bucket stays on it
    stays : (j k : ℕ) → Reaches links j (get_or heads k None) → Reaches (set links i (get_or heads b None)) j (get_or (set heads b (Some i)) k None)
    stays j k r = go (eqb k b) refl where
      go : (t : Bool) → eqb k b ≡ t → Reaches (set links i (get_or heads b None)) j (get_or (set heads b (Some i)) k None)
      go true e = let q = eqb-true k b e in rw (q, new_head) (front j (rw q at r))
      go false e = rw (get_or-set_other heads b k (Some i) None (eqb-false k b e)) (kept i (get_or heads b None) back (low k) r)

    pub chained_more : (bucket : ℕ → ℕ) → bucket i ≡ b → Chained bucket heads links i
        → Chained bucket (set heads b (Some i)) (set links i (get_or heads b None)) (i + 1)
    chained_more bucket is c j p =
        let l : j ≤ i = omega arith in
        ⊎_elim (λ (e : j ≡ i). rw (e, is, new_head) here) (λ q. stays j (bucket j) (c j q)) (eq-or-lt_of_le l)

-- ---- buckets of keys

abbrev pub buckets : ℕ
buckets = 2 * max_places

abbrev pub bucket_of : U32TableEntry → ℕ
bucket_of e = (e.opcode % 4093 + 67 * (lhs e % 4093) + 1031 * (rhs e % 4093)) % buckets

-- the keys on the chain from h that may be equal to e are on the chain from `next`
abbrev pub Ahead : (ℕ → U32TableEntry) → U32TableEntry → Links → (h next : Option ℕ) → Type 0
Ahead f e links h next = (j : ℕ) → Reaches links j h → same_key (f j) e ≡ true → Reaches links j next

pub ahead_more : (f : ℕ → U32TableEntry) (e : U32TableEntry) (links : Links) (h next : Option ℕ) (p : ℕ) → next ≡ Some p → same_key (f p) e ≡ false
    → Ahead f e links h next → Ahead f e links h (get_or links p None)
ahead_more f e links h next p is n a j r s =
    rest p is
    (λ q. let z : ◌≡◌ {A = Bool} true false = sym s ∙ ap (λ (k : ℕ). same_key (f k) e) q ∙ n in cc)
    (a j r s)

-- the chain of its bucket has been passed, and the key at place i was not there: it is new
pub new_key : (f : ℕ → U32TableEntry) (heads links : Links) (i b : ℕ) (next : Option ℕ) → Chained (λ j. bucket_of (f j)) heads links i
    → bucket_of (f i) ≡ b → next ≡ None → Ahead f (f i) links (get_or heads b None) next → (j : ℕ) → j < i → same_key (f j) (f i) ≡ false
new_key f heads links i b next c is z a j p = go (same_key (f j) (f i)) refl where
  go : (t : Bool) → same_key (f j) (f i) ≡ t → same_key (f j) (f i) ≡ false
  go false h = h
  go true h =
      let q : f j ≡ f i = same_key_equal (f j) (f i) h in
      let k : bucket_of (f j) ≡ b = ap bucket_of q ∙ is in
      absurd (ends z (a j (subst (λ (m : ℕ). Reaches links j (get_or heads m None)) k (c j p)) h))

-- what a comparison tells
pub same_told : {x y a b : U32TableEntry} {r t : Bool} → x ≡ a → y ≡ b → r ≡ same_key x y → r ≡ t → same_key a b ≡ t
same_told e f g h = rw (← e, ← f) (sym g ∙ h)
