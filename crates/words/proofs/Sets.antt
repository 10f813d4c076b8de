-- The laws of `lib.Seq.sets`, a run of stores: what a store, another run, a read and a part make of it, and the splice that it is.
use mathlib.Core.Path.{◌≡◌, refl, sym, ap, ◌∙◌}
use mathlib.Core.List.{List, [], ◌∷◌, ◌++◌, append_assoc}
use Prim.Native.Nat.{ℕ, zero, suc, ◌+◌, ◌<◌, ◌≤◌}
use native.Mathlib.Nat.{add-zero, add-suc, suc-add, zero-add}
use native.Mathlib.Numerals.{add-one}
use native.Mathlib.Omega.{arith}
use lib.ListN.{length, get_or, set, take, drop, length-set}
use borrow.Rule.Slice.PartMut.{put_mid}
use lib.Seq.{sets, sets-eq, drop-drop, set_comm, set-set, get_or-set_same, get_or-set_other, take-suc, length-take-le, take_at}

-- ---- a store below, above and inside a run

pub set_sets_below : (vs l : List ℕ) (j i a : ℕ) → i < j → set (sets l j vs) i a ≡ sets (set l i a) j vs
set_sets_below [] l j i a h = refl
set_sets_below (v ∷ vs) l j i a h =
    set_sets_below vs (set l j v) (suc j) i a (omega arith)
    ∙ ap (λ (k : List ℕ). sets k (suc j) vs) (set_comm l j i v a (omega arith))

pub set_sets_above : (vs l : List ℕ) (j i a : ℕ) → j + length vs ≤ i → set (sets l j vs) i a ≡ sets (set l i a) j vs
set_sets_above [] l j i a h = refl
set_sets_above (v ∷ vs) l j i a h =
    set_sets_above vs (set l j v) (suc j) i a (omega arith)
    ∙ ap (λ (k : List ℕ). sets k (suc j) vs) (set_comm l j i v a (omega arith))

pub set_sets_in : (vs l : List ℕ) (j k a : ℕ) → k < length vs → set (sets l j vs) (j + k) a ≡ sets l j (set vs k a)
set_sets_in [] l j k a h = absurd (omega arith)
set_sets_in (v ∷ vs) l j zero a h =
    rw add-zero
    (set_sets_below vs (set l j v) (suc j) j a (omega arith) ∙ ap (λ (m : List ℕ). sets m (suc j) vs) (set-set l j v a))
set_sets_in (v ∷ vs) l j (suc k) a h =
    let e : j + suc k ≡ suc j + k = omega arith in
    rw e (set_sets_in vs (set l j v) (suc j) k a (omega arith))

-- ---- two runs: one after the other; apart, in either order

pub sets_append : (xs ys l : List ℕ) (j : ℕ) → sets l j (xs ++ ys) ≡ sets (sets l j xs) (j + length xs) ys
sets_append [] ys l j = ap (λ (n : ℕ). sets l n ys) (sym (add-zero j))
sets_append (x ∷ xs) ys l j =
    sets_append xs ys (set l j x) (suc j)
    ∙ ap (λ (n : ℕ). sets (sets (set l j x) (suc j) xs) n ys) (suc-add j (length xs) ∙ sym (add-suc j (length xs)))

-- the same, for a run that a call has left and the place where the next begins
pub sets_then : (xs ys l m : List ℕ) (j k : ℕ) → m ≡ sets l j xs → k ≡ j + length xs → sets l j (xs ++ ys) ≡ sets m k ys
sets_then xs ys l m j k e f = sets_append xs ys l j ∙ rw (e, f)

pub sets_comm : (xs ys l : List ℕ) (i j : ℕ) → i + length xs ≤ j → sets (sets l j ys) i xs ≡ sets (sets l i xs) j ys
sets_comm [] ys l i j h = refl
sets_comm (x ∷ xs) ys l i j h =
    ap (λ (m : List ℕ). sets m (suc i) xs) (set_sets_below ys l j i x (omega arith))
    ∙ sets_comm xs ys (set l i x) (suc i) j (omega arith)

-- ---- reads

pub get_d_sets_below : (vs l : List ℕ) (j k d : ℕ) → k < j → get_or (sets l j vs) k d ≡ get_or l k d
get_d_sets_below [] l j k d h = refl
get_d_sets_below (v ∷ vs) l j k d h =
    get_d_sets_below vs (set l j v) (suc j) k d (omega arith) ∙ get_or-set_other l j k v d (omega arith)

pub get_d_sets_above : (vs l : List ℕ) (j k d : ℕ) → j + length vs ≤ k → get_or (sets l j vs) k d ≡ get_or l k d
get_d_sets_above [] l j k d h = refl
get_d_sets_above (v ∷ vs) l j k d h =
    get_d_sets_above vs (set l j v) (suc j) k d (omega arith) ∙ get_or-set_other l j k v d (omega arith)

pub get_d_sets_in : (vs l : List ℕ) (j k d : ℕ) → k < length vs → j + length vs ≤ length l → get_or (sets l j vs) (j + k) d ≡ get_or vs k d
get_d_sets_in [] l j k d h r = absurd (omega arith)
get_d_sets_in (v ∷ vs) l j zero d h r =
    ap (λ (n : ℕ). get_or (sets (set l j v) (suc j) vs) n d) (add-zero j)
    ∙ get_d_sets_below vs (set l j v) (suc j) j d (omega arith)
    ∙ get_or-set_same l j v d (omega arith)
get_d_sets_in (v ∷ vs) l j (suc k) d h r =
    ap (λ (n : ℕ). get_or (sets (set l j v) (suc j) vs) n d) (add-suc j k ∙ sym (suc-add j k))
    ∙ get_d_sets_in vs (set l j v) (suc j) k d (omega arith) (simp length-set (omega arith))

-- ---- a run from the front is a splice

pub sets_front : (vs l : List ℕ) → length vs ≤ length l → sets l 0 vs ≡ vs ++ drop (length vs) l
sets_front vs l h = sets-eq vs l 0 (omega arith) ∙ ap (λ (n : ℕ). vs ++ drop n l) (zero-add (length vs))

pub take_sets_front : (vs l : List ℕ) (n : ℕ) → length vs ≡ n → n ≤ length l → take n (sets l 0 vs) ≡ vs
take_sets_front vs l n e h = rw (sets_front vs l (omega arith)) (take_at vs (drop (length vs) l) n e)

-- ---- a turn of a loop that copies ws to place j on

pub sets_turn : (ws l : List ℕ) (j i : ℕ) → i < length ws → set (sets l j (take i ws)) (j + i) (get_or ws i 0) ≡ sets l j (take (i + 1) ws)
sets_turn ws l j i h =
    let e : take (i + 1) ws ≡ take i ws ++ (get_or ws i 0 ∷ []) = rw add-one (take-suc ws i 0 h) in
    sym
    (ap (λ (v : List ℕ). sets l j v) e
    ∙ sets_append (take i ws) (get_or ws i 0 ∷ []) l j
    ∙ ap (λ (n : ℕ). set (sets l j (take i ws)) (j + n) (get_or ws i 0)) (length-take-le i ws (omega arith)))

-- ---- a part that is written over

pub part_sets : (l part vs : List ℕ) (a k : ℕ) → part ≡ vs → k ≡ length vs → a + length vs ≤ length l → put_mid a k l part ≡ sets l a vs
part_sets l part vs a k e f h = rw (e, f, drop-drop, ← append_assoc) (sym (sets-eq vs l a h))
