-- The search for the first constraint that is not zero. First its steps, in the form that loops over groups, rows and indices take them:
-- with n − i indices to go, then n − (i + 1). Then that it finds nothing exactly where all values are zero: a value with words below p
-- is zero where the test says so. Assumes nothing.
use Prim.Native.Nat.{ℕ, zero, suc, ◌+◌, ◌-◌, ◌<◌, ◌≤◌}
use mathlib.Core.Path.{◌≡◌, refl, sym, ap, ◌∙◌, subst}
use mathlib.Core.Bool.{Bool, true, false}
use mathlib.Core.List.{List, [], ◌∷◌}
use native.Mathlib.Numerals.{add-one}
use native.Mathlib.Omega.{arith}
use lib.ListN.{length, get_or, drop, drop_of_length-le}
use lib.Seq.{drop-cons}
use Rattle.words.specs.Answers.{Answer, done}
use Rattle.xfield.specs.Extension.{Ext, zero_x, reduce_x, is_zero_x, Reduced}
use Rattle.xfield.proofs.RingLawsX.{reduced_same, zero_x_reduced}
use Rattle.xfield.proofs.Laws.{is_zero_x_yes, is_zero_x_true}
use Rattle.air.specs.Check.{AllZero, nonzero, first_in, first_in_rows}
use Rattle.air.proofs.Values.{AllReducedX}

-- ---- steps over the values of one list, from index i on
module _ (group row : ℕ) (vs : List Ext) (i : ℕ) (next : Answer) where
  pub value_zero : i < length vs → is_zero_x (get_or vs i zero_x) ≡ true
      → first_in group row i (drop i vs) next ≡ first_in group row (i + 1) (drop (i + 1) vs) next
  unfolding first_in
  value_zero h e = rw (drop-cons vs i zero_x h, e, add-one i)

  pub value_nonzero : i < length vs → is_zero_x (get_or vs i zero_x) ≡ false
      → first_in group row i (drop i vs) next ≡ nonzero group row i (get_or vs i zero_x)
  unfolding first_in
  value_nonzero h e = rw (drop-cons vs i zero_x h, e)

  pub values_done : length vs ≤ i → first_in group row i (drop i vs) next ≡ next
  unfolding first_in
  values_done h = rw (drop_of_length-le vs h)

-- ---- steps over rows, of which the last is before `limit`
module _ (constraints : ℕ → List Ext) (group row limit : ℕ) (next : Answer) where
  pub row_next : row < limit
      → first_in_rows constraints group row (limit - row) next
      ≡ first_in group row 0 (constraints row) (first_in_rows constraints group (row + 1) (limit - (row + 1)) next)
  unfolding first_in_rows
  row_next h = let e : limit - row ≡ suc (limit - (row + 1)) = omega arith in rw e

  pub rows_done : limit ≤ row → first_in_rows constraints group row (limit - row) next ≡ next
  unfolding first_in_rows
  rows_done h = let e : limit - row ≡ 0 = omega arith in rw e

-- ---- nothing is found exactly where all values are zero
zero_found : (v : Ext) → v ≡ zero_x → is_zero_x v ≡ true
zero_found v e = is_zero_x_yes v (ap reduce_x e ∙ reduced_same zero_x zero_x_reduced)

zero_value : (v : Ext) → Reduced v → is_zero_x v ≡ true → v ≡ zero_x
zero_value v r e = sym (reduced_same v r) ∙ is_zero_x_true v e

nonzero_not_done : (group row index : ℕ) (v : Ext) → nonzero group row index v ≡ done [] → ⊥
nonzero_not_done group row index v e = let z : ◌≡◌ {A = ℕ} 6 0 = ap (λ (a : Answer). length a.values) e in omega arith

pub values_zero : (group row index : ℕ) {vs : List Ext} (next : Answer) → AllZero vs → first_in group row index vs next ≡ next
unfolding first_in
values_zero group row index next AllZero.none = refl
values_zero group row index next (AllZero.◌and◌ {v} z zs) = rw (zero_found v z) (values_zero group row (index + 1) next zs)

pub zero_values : (group row index : ℕ) {vs : List Ext} (next : Answer) → AllReducedX vs → first_in group row index vs next ≡ done []
    → AllZero vs × (next ≡ done [])
unfolding first_in
zero_values group row index next AllReducedX.none e = (AllZero.none, e)
zero_values group row index next (AllReducedX.◌and◌ {v} {vs} r rs) e = go (λ f. zero_values group row (index + 1) next rs f) (is_zero_x v) refl
  where
    go : (first_in group row (index + 1) vs next ≡ done [] → AllZero vs × (next ≡ done [])) → (t : Bool) → is_zero_x v ≡ t
        → AllZero (v ∷ vs) × (next ≡ done [])
    go rest true t = let others = rest (rw t at e) in (AllZero.◌and◌ (zero_value v r t) others.0, others.1)
    go rest false t = absurd (nonzero_not_done group row index v (rw t at e))

module _ (constraints : ℕ → List Ext) (group : ℕ) where
  pub rows_zero : (row left : ℕ) (next : Answer) → ((i : ℕ) → i < left → AllZero (constraints (row + i)))
      → first_in_rows constraints group row left next ≡ next
  unfolding first_in_rows
  rows_zero row zero next z = refl
  rows_zero row (suc left) next z =
      values_zero group row 0 _ (subst (λ (r : ℕ). AllZero (constraints r)) (omega arith) (z 0 (omega arith)))
      ∙ rows_zero (row + 1) left next (λ i h. subst (λ (r : ℕ). AllZero (constraints r)) (omega arith) (z (suc i) (omega arith)))

  pub zero_rows : (row left : ℕ) (next : Answer) → ((i : ℕ) → i < left → AllReducedX (constraints (row + i)))
      → first_in_rows constraints group row left next ≡ done []
      → ((i : ℕ) → i < left → AllZero (constraints (row + i))) × (next ≡ done [])
  unfolding first_in_rows
  zero_rows row zero next r e = (λ i h. absurd (omega arith), e)
  zero_rows row (suc left) next r e =
      let here = zero_values group row 0 _ (subst (λ (x : ℕ). AllReducedX (constraints x)) (omega arith) (r 0 (omega arith))) e in
      let rest = zero_rows (row + 1) left next (λ i h. subst (λ (x : ℕ). AllReducedX (constraints x)) (omega arith) (r (suc i) (omega arith))) here.1 in
      (each here.0 rest.0, rest.1)
    where
      each : AllZero (constraints row) → ((i : ℕ) → i < left → AllZero (constraints (row + 1 + i)))
          → (i : ℕ) → i < suc left → AllZero (constraints (row + i))
      each here below zero h = subst (λ (x : ℕ). AllZero (constraints x)) (omega arith) here
      each here below (suc i) h = subst (λ (x : ℕ). AllZero (constraints x)) (omega arith) (below i (omega arith))
