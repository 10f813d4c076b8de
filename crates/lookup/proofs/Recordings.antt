-- Over every list of recordings from fresh tables the byte multiplicities total twice the number of distinct accepted values (`twice_distinct`). By
-- induction on the recordings, from any tables whose known values are those accepted before: a known value leaves the bytes alone, a new one raises
-- their total by two and is known from then on. Assumes nothing.
use Prim.Native.Nat.{ℕ, zero, suc, ◌+◌, ◌*◌, ◌/◌, ◌%◌, ◌<◌}
use mathlib.Core.Path.{◌≡◌, refl, sym, ap, ap₂, ◌∙◌, subst}
use mathlib.Core.Bool.{Bool, true, false, not, ◌||◌, and-eq-true_iff}
use mathlib.Core.List.{List, [], ◌∷◌}
use native.Mathlib.Nat.{add-zero, zero-add}
use native.Mathlib.Omega.{arith}
use lib.Dec.{eqb, ltb}
use lib.ListN.{length, get_or, set, length-set}
use lib.Seq.{get_or-set_same, get_or-set_other}
use borrow.Author.Tests.{eqb-true, ltb-true, lt-ltb, le-ltb}
use Rattle.words.specs.Answers.{done, declined}
use Rattle.words.specs.Limits.{byte_rows}
use Rattle.words.specs.Outcomes.{Outcome}
use Rattle.words.specs.Refusals.{decline_if, Judgement, Fine, Declined}
use Rattle.words.specs.declared.Refusal.{Refusal}
use Rattle.words.specs.declared.Refusal.TheVariants.{Shape, CountFull, CascadeFull}
use Rattle.words.proofs.Judgements.{or_both, decline_not_fine}
use Rattle.words.proofs.Answers.{not_done}
use Rattle.lookup.specs.Cascades.{Cascade, Lookups, capacity, used, find_from, find_value, known, lookup_shape, cascade_shape, bytes_shape}
use Rattle.lookup.specs.Cascades.{raised_byte, raised_bytes, bytes_full, raised, appended, value_reason, lookup_reason, look_up_all}
use Rattle.lookup.specs.Recordings.{looked_up, accepted, occurs, distinct_after, total, SixteenBits, TwiceDistinct}
use Rattle.lookup.proofs.LookupCases.{shaped}

-- ---- totals

total_set : (l : List ℕ) (i a : ℕ) → i < length l → total (set l i a) + get_or l i 0 ≡ total l + a
unfolding total
total_set [] i a h = absurd (omega arith)
total_set (x ∷ xs) zero a h = omega arith
total_set (x ∷ xs) (suc i) a h = let r = total_set xs i a (omega arith) in omega arith

total_raised : (l : List ℕ) (b : ℕ) → b < length l → total (raised_byte l b) ≡ total l + 1
total_raised l b h = let r = total_set l b (get_or l b 0 + 1) h in omega arith

pub total_bytes : (l : List ℕ) (v : ℕ) → length l ≡ byte_rows → v < 65536 → total (raised_bytes l v) ≡ total l + 2
total_bytes l v e h =
    let first = total_raised l (v / 256) (omega arith) in
    let second = total_raised (raised_byte l (v / 256)) (v % 256) (simp length-set (omega arith)) in
    omega arith

total_none : (l : List ℕ) → ((i : ℕ) → get_or l i 0 ≡ 0) → total l ≡ 0
unfolding total
total_none [] h = refl
total_none (x ∷ xs) h = let a = h 0 in let r = total_none xs (λ i. h (suc i)) in omega arith

-- ---- the values that are known

held : List ℕ → ℕ → ℕ → ℕ → Bool
held keys v i zero = false
held keys v i (suc n) = eqb (get_or keys i 0) v || held keys v (suc i) n

find_held : (keys : List ℕ) (v i n m : ℕ) → m ≡ i + n → ltb (find_from keys v i n) m ≡ held keys v i n
unfolding find_from held
find_held keys v i zero m e = le-ltb i m (omega arith)
find_held keys v i (suc n) m e = go (find_held keys v (suc i) n m (omega arith)) (eqb (get_or keys i 0) v) refl
  where
    go : ltb (find_from keys v (suc i) n) m ≡ held keys v (suc i) n → (t : Bool) → eqb (get_or keys i 0) v ≡ t
        → ltb (find_from keys v i (suc n)) m ≡ held keys v i (suc n)
    go rest true q = rw q (lt-ltb i m (omega arith))
    go rest false q = rw q rest

exchange : (a b c : Bool) → (a || (b || c)) ≡ (b || (a || c))
exchange true true c = refl
exchange true false c = refl
exchange false b c = refl

-- one value more
held_more : (keys : List ℕ) (v w i n : ℕ) → i + n < length keys → held (set keys (i + n) v) w i (suc n) ≡ (eqb v w || held keys w i n)
unfolding held
held_more keys v w i zero h =
    rw (add-zero i) (ap (λ (x : ℕ). eqb x w || false) (get_or-set_same keys i v 0 (omega arith)))
held_more keys v w i (suc n) h =
    let e : suc i + n ≡ i + suc n = omega arith in
    let other = get_or-set_other keys (i + suc n) i v 0 (omega arith) in
    let rest = subst (λ (k : ℕ). held (set keys k v) w (suc i) (suc n) ≡ (eqb v w || held keys w (suc i) n)) e
    (held_more keys v w (suc i) n (omega arith)) in
    ap₂ (λ (x : ℕ) (b : Bool). eqb x w || b) other rest
    ∙ exchange (eqb (get_or keys i 0) w) (eqb v w) (held keys w (suc i) n)

known_held : (c : Cascade) (v : ℕ) → known c v ≡ held c.keys v 0 (used c)
known_held c v = find_held c.keys v 0 (used c) (used c) (omega arith)

known_more : (t : Lookups) (v w : ℕ) → used t.values < length t.values.keys → known (appended t v).values w ≡ (eqb v w || known t.values w)
known_more t v w h =
    known_held (appended t v).values w
    ∙ more
    ∙ ap (λ (b : Bool). eqb v w || b) (sym (known_held t.values w))
  where
    more : held (set t.values.keys (used t.values) v) w 0 (used t.values + 1) ≡ (eqb v w || held t.values.keys w 0 (used t.values))
    more =
        let e : used t.values + 1 ≡ suc (used t.values) = omega arith in
        rw e (rw zero-add at (held_more t.values.keys v w 0 (used t.values) (omega arith)))

-- ---- a recording

-- a new value that is accepted: there are 256 bytes, and a place for it
pub record Room (t : Lookups) : Type 0 where
  pub keys_length : length t.values.keys ≡ capacity t.values
  pub bytes_length : length t.byte_multiplicities ≡ byte_rows
  pub free_place : used t.values < capacity t.values

room : (t : Lookups) (v : ℕ) → lookup_reason t v ≡ Fine → known t.values v ≡ false → Room t
unfolding lookup_reason value_reason bytes_shape
room t v e k =
    let a = or_both (decline_if (not (lookup_shape t)) Shape) _ e in
    let s = (and-eq-true_iff (cascade_shape t.values) (bytes_shape t.byte_multiplicities)).0 (decline_not_fine _ Shape a.0) in
    let new = or_both (decline_if (bytes_full t.byte_multiplicities v) CountFull) _ (rw k at a.1) in
    record {
      keys_length = (shaped t.values s.0).keys;
      bytes_length = eqb-true _ _ s.1;
      free_place = ltb-true _ _ (decline_not_fine _ CascadeFull new.1);
    }

Knows : Lookups → List ℕ → Type 0
Knows t earlier = (w : ℕ) → known t.values w ≡ occurs w earlier

raised_knows : (t : Lookups) (v i : ℕ) (earlier : List ℕ) → known t.values v ≡ true → Knows t earlier → Knows (raised t i) (v ∷ earlier)
unfolding Knows occurs
raised_knows t v i earlier q k w = pick (eqb v w) refl
  where
    pick : (b : Bool) → eqb v w ≡ b → known t.values w ≡ (b || occurs w earlier)
    pick true z = ap (known t.values) (sym (eqb-true v w z)) ∙ q
    pick false z = k w

appended_knows : (t : Lookups) (v : ℕ) (earlier : List ℕ) → used t.values < length t.values.keys → Knows t earlier → Knows (appended t v) (v ∷ earlier)
unfolding Knows occurs
appended_knows t v earlier h k w = known_more t v w h ∙ ap (λ (b : Bool). eqb v w || b) (k w)

-- ---- what a recording does, in each of its cases

module _ (t : Lookups) (v : ℕ) where
  pub declined_is : {reason : Refusal} → lookup_reason t v ≡ Declined reason → look_up_all t v ≡ record { answer = declined reason; left = t }
  unfolding look_up_all
  declined_is e = rw e

  pub known_is : lookup_reason t v ≡ Fine → known t.values v ≡ true → look_up_all t v ≡ record { answer = done []; left = raised t (find_value t.values v) }
  unfolding look_up_all
  known_is e q = rw (e, q)

  pub new_is : lookup_reason t v ≡ Fine → known t.values v ≡ false → look_up_all t v ≡ record { answer = done []; left = appended t v }
  unfolding look_up_all
  new_is e q = rw (e, q)

-- ---- a recording, then others

module _ (t : Lookups) (v : ℕ) (vs earlier : List ℕ) {after : Outcome Lookups} (e : look_up_all t v ≡ after) where
  then_tables : looked_up t (v ∷ vs) ≡ looked_up after.left vs
  unfolding looked_up
  then_tables = rw e

  then_declined : (reason : Refusal) → after.answer ≡ declined reason → accepted t (v ∷ vs) ≡ accepted after.left vs
  unfolding accepted
  then_declined reason a = rw (e, a, not_done reason)

  then_accepted : after.answer ≡ done [] → accepted t (v ∷ vs) ≡ v ∷ accepted after.left vs
  unfolding accepted
  then_accepted a = rw (e, a)

again : (v : ℕ) (earlier vs : List ℕ) → occurs v earlier ≡ true → distinct_after earlier (v ∷ vs) ≡ distinct_after (v ∷ earlier) vs
unfolding distinct_after
again v earlier vs o = rw o

first : (v : ℕ) (earlier vs : List ℕ) → occurs v earlier ≡ false → distinct_after earlier (v ∷ vs) ≡ suc (distinct_after (v ∷ earlier) vs)
unfolding distinct_after
first v earlier vs o = rw o

abbrev From : List ℕ → Type 0
From vs = (t : Lookups) (earlier : List ℕ) → Knows t earlier
    → total (looked_up t vs).byte_multiplicities ≡ total t.byte_multiplicities + 2 * distinct_after earlier (accepted t vs)

-- one recording before others
one_more : (v : ℕ) (vs : List ℕ) → v < 65536 → From vs → From (v ∷ vs)
unfolding Knows
one_more v vs s rest t earlier k = go (lookup_reason t v) refl (known t.values v) refl
  where
    go : (j : Judgement) → lookup_reason t v ≡ j → (b : Bool) → known t.values v ≡ b
        → total (looked_up t (v ∷ vs)).byte_multiplicities ≡ total t.byte_multiplicities + 2 * distinct_after earlier (accepted t (v ∷ vs))
    go (Declined reason) e b q =
        let d = declined_is t v e in
        rw (then_tables t v vs earlier d, then_declined t v vs earlier d reason refl) (rest t earlier k)
    go Fine e true q =
        let d = known_is t v e q in
        rw (then_tables t v vs earlier d, then_accepted t v vs earlier d refl, again v earlier _ (sym (k v) ∙ q))
        (rest (raised t (find_value t.values v)) (v ∷ earlier) (raised_knows t v (find_value t.values v) earlier q k))
    go Fine e false q =
        let d = new_is t v e q in
        let r = room t v e q in
        let more = rest (appended t v) (v ∷ earlier) (appended_knows t v earlier (omega arith) k) in
        let bytes = total_bytes t.byte_multiplicities v r.bytes_length s in
        rw (then_tables t v vs earlier d, then_accepted t v vs earlier d refl, first v earlier _ (sym (k v) ∙ q)) (omega arith)

from : (vs : List ℕ) → SixteenBits vs → From vs
unfolding looked_up accepted distinct_after
from [] s = λ t earlier k. omega arith
from (v ∷ vs) s = one_more v vs (s 0) (from vs (λ i. s (suc i)))

pub twice_distinct : (t : Lookups) (vs : List ℕ) → TwiceDistinct t vs
unfolding Knows occurs find_from
twice_distinct t vs fresh s =
    let start = from vs s t [] knows_none in
    let none = total_none t.byte_multiplicities fresh.none_counted in
    omega arith
  where
    knows_none : (w : ℕ) → known t.values w ≡ occurs w []
    knows_none w = le-ltb (find_value t.values w) (used t.values) (omega (arith, fresh.none_used))
