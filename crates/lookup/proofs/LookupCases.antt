-- A recording of a 16-bit value in its two parts. `place_of` in each of its cases: declined for the shape, for a multiplicity that would pass the
-- limit, for want of a place; a known value; a new one. What is found there fits (place_fits), and storing at it is the recording
-- (looked_up_at). The test of a new value's bytes, by cases: they are equal and gain two, or differ and gain one each. Assumes nothing.
use Prim.Native.Nat.{ℕ, ◌+◌, ◌≤◌, ◌<◌}
use mathlib.Core.Path.{◌≡◌, refl, sym, ap, ◌∙◌}
use mathlib.Core.Bool.{Bool, true, false, cond, not, ◌||◌, and-eq-true_iff}
use mathlib.Core.Logic.{◌≢◌}
use mathlib.Core.List.{List, []}
use native.Mathlib.Omega.{arith}
use lib.Dec.{eqb, ltb}
use lib.ListN.{length, get_or, length-set}
use lib.Seq.{get_or-set_same, get_or-set_other}
use borrow.Author.Tests.{lt-ltb, le-ltb, ltb-true, ltb-false, eqb-true, eqb-false, not-true}
use Rattle.std.specs.Prelude.{Some, None, Ok, Err}
use Rattle.std.proofs.lemmas.Bool.{or_parts}
use Rattle.words.specs.Limits.{max_cascade_places, multiplicity_limit, byte_rows}
use Rattle.words.specs.Answers.{done}
use Rattle.words.specs.Outcomes.{Outcome, outcome}
use Rattle.words.specs.Refusals.{decline_if, Judgement, Fine, Declined}
use Rattle.words.specs.declared.Refusal.TheVariants.{Shape, CountFull, CascadeFull}
use Rattle.words.proofs.Judgements.{decline_fine, decline_not_fine, or_both}
use Rattle.list.specs.Lists.{count_full}
use Rattle.list.proofs.JudgedLists.{count_within}
use Rattle.lookup.specs.ByteLookup.{high_byte, low_byte}
use Rattle.lookup.specs.Cascades.{Cascade, Lookups, capacity, used, find_value, known, cascade_shape, bytes_shape, lookup_shape}
use Rattle.lookup.specs.Cascades.{raised_byte, raised_bytes, bytes_full, value_reason, lookup_reason, raised, appended, looked_up_into, look_up_all}
use Rattle.lookup.specs.Placing.{place_as, place_of, stored_at, Fits}

-- ---- the shape

pub record Shaped (c : Cascade) : Type 0 where
  pub small : capacity c ≤ max_cascade_places
  pub within : used c ≤ capacity c
  pub keys : length c.keys ≡ capacity c
  pub multiplicities : length c.multiplicities ≡ capacity c

pub shaped : (c : Cascade) → cascade_shape c ≡ true → Shaped c
unfolding cascade_shape
shaped c e =
    let a = (and-eq-true_iff (not (ltb max_cascade_places (capacity c))) _).0 e in
    let b = (and-eq-true_iff (not (ltb (capacity c) (used c))) _).0 a.1 in
    let d = (and-eq-true_iff (eqb (length c.keys) (capacity c)) _).0 b.1 in
    record {
      small = ltb-false max_cascade_places (capacity c) (not-true _ a.0);
      within = ltb-false (capacity c) (used c) (not-true _ b.0);
      keys = eqb-true _ _ d.0;
      multiplicities = eqb-true _ _ d.1;
    }

-- ---- the bytes of a new value

module _ (bs : List ℕ) (v : ℕ) (all : length bs ≡ byte_rows) (small : v < 65536) where
  -- one after the other: what each byte has afterwards
  pub high_raised : high_byte v ≢ low_byte v → get_or (raised_bytes bs v) (high_byte v) 0 ≡ get_or bs (high_byte v) 0 + 1
  high_raised d =
      get_or-set_other (raised_byte bs (high_byte v)) (low_byte v) (high_byte v) _ 0 d
      ∙ get_or-set_same bs (high_byte v) _ 0 (omega arith)

  pub low_raised : high_byte v ≢ low_byte v → get_or (raised_bytes bs v) (low_byte v) 0 ≡ get_or bs (low_byte v) 0 + 1
  low_raised d =
      get_or-set_same (raised_byte bs (high_byte v)) (low_byte v) _ 0 (simp length-set (omega arith))
      ∙ ap (λ (n : ℕ). n + 1) (get_or-set_other bs (high_byte v) (low_byte v) _ 0 (λ e. d (sym e)))

  pub twice_raised : high_byte v ≡ low_byte v → get_or (raised_bytes bs v) (low_byte v) 0 ≡ get_or bs (low_byte v) 0 + 2
  twice_raised e =
      let first : get_or (raised_byte bs (high_byte v)) (low_byte v) 0 ≡ get_or bs (low_byte v) 0 + 1 = rw e (get_or-set_same bs (low_byte v) _ 0 (omega arith)) in
      let second = get_or-set_same (raised_byte bs (high_byte v)) (low_byte v) (get_or (raised_byte bs (high_byte v)) (low_byte v) 0 + 1) 0 (simp length-set (omega arith)) in
      omega arith

  pub full_equal : high_byte v ≡ low_byte v → bytes_full bs v ≡ count_full (get_or bs (high_byte v) 0 + 2)
  unfolding bytes_full
  full_equal e =
      let t = twice_raised e in
      rw e (rw (rw e at t) (both _))
    where
      both : (b : Bool) → (b || b) ≡ b
      both true = refl
      both false = refl

  pub full_differ : high_byte v ≢ low_byte v → bytes_full bs v ≡ (count_full (get_or bs (high_byte v) 0 + 1) || count_full (get_or bs (low_byte v) 0 + 1))
  unfolding bytes_full
  full_differ d = rw (high_raised d, low_raised d)

  -- where neither would pass the limit, neither does on the way
  pub bytes_within : bytes_full bs v ≡ false
      → (get_or bs (high_byte v) 0 + 1 ≤ multiplicity_limit) × (get_or (raised_byte bs (high_byte v)) (low_byte v) 0 + 1 ≤ multiplicity_limit)
  bytes_within f = go (eqb (high_byte v) (low_byte v)) refl where
    go : (t : Bool) → eqb (high_byte v) (low_byte v) ≡ t
        → (get_or bs (high_byte v) 0 + 1 ≤ multiplicity_limit) × (get_or (raised_byte bs (high_byte v)) (low_byte v) 0 + 1 ≤ multiplicity_limit)
    go true q =
        let e : high_byte v ≡ low_byte v = eqb-true _ _ q in
        let twice : get_or bs (high_byte v) 0 + 2 ≤ multiplicity_limit = count_within _ (sym (full_equal e) ∙ f) in
        let first : get_or (raised_byte bs (high_byte v)) (low_byte v) 0 ≡ get_or bs (high_byte v) 0 + 1 =
        rw (← e) (get_or-set_same bs (high_byte v) _ 0 (omega arith)) in
        (omega arith, omega arith)
    go false q =
        let d : high_byte v ≢ low_byte v = eqb-false _ _ q in
        let both = or_parts _ _ (sym (full_differ d) ∙ f) in
        let high : get_or bs (high_byte v) 0 + 1 ≤ multiplicity_limit = count_within _ both.0 in
        let low : get_or bs (low_byte v) 0 + 1 ≤ multiplicity_limit = count_within _ both.1 in
        let same : get_or (raised_byte bs (high_byte v)) (low_byte v) 0 ≡ get_or bs (low_byte v) 0 =
        get_or-set_other bs (high_byte v) (low_byte v) _ 0 (λ e. d (sym e)) in
        (omega arith, omega arith)

-- ---- where a value goes

module _ (t : Lookups) (v : ℕ) where
  pub shape_declined : lookup_shape t ≡ false → place_of t v ≡ Err Shape
  unfolding place_of lookup_reason
  shape_declined s = rw s

  module _ (right : lookup_shape t ≡ true) (at : ℕ) (found : at ≡ find_value t.values v) where
    pub place_full : at < used t.values → count_full (get_or t.values.multiplicities at 0 + 1) ≡ true → place_of t v ≡ Err CountFull
    unfolding place_of lookup_reason value_reason
    place_full h m = let k = rw found at h in let n = rw found at m in rw (right, lt-ltb _ _ k, n)

    pub place_known : at < used t.values → count_full (get_or t.values.multiplicities at 0 + 1) ≡ false → place_of t v ≡ Ok (Some at)
    unfolding place_of lookup_reason value_reason
    place_known h m = let k = rw found at h in let n = rw found at m in rw (found, right, lt-ltb _ _ k, n, lt-ltb _ _ k)

    module _ (past : used t.values ≤ at) where
      pub bytes_declined : bytes_full t.byte_multiplicities v ≡ true → place_of t v ≡ Err CountFull
      unfolding place_of lookup_reason value_reason
      bytes_declined b = let k = rw found at past in rw (right, le-ltb _ _ k, b)

      pub place_new : bytes_full t.byte_multiplicities v ≡ false → used t.values < capacity t.values → place_of t v ≡ Ok None
      unfolding place_of lookup_reason value_reason
      place_new b m = let k = rw found at past in rw (right, le-ltb _ _ k, b, lt-ltb _ _ m, le-ltb _ _ k)

      pub no_place : bytes_full t.byte_multiplicities v ≡ false → capacity t.values ≤ used t.values → place_of t v ≡ Err CascadeFull
      unfolding place_of lookup_reason value_reason
      no_place b m = let k = rw found at past in rw (right, le-ltb _ _ k, b, le-ltb _ _ m)

-- ---- the two parts are the recording

pub looked_up_at : (t : Lookups) (v : ℕ) → look_up_all t v ≡ stored_at t v (place_of t v)
unfolding look_up_all place_of
looked_up_at t v = go (lookup_reason t v) where
  either : (b : Bool) → ◌≡◌ {A = Outcome Lookups}
      (record { answer = done []; left = cond b (raised t (find_value t.values v)) (appended t v) })
      (stored_at t v (Ok (cond b (Some (find_value t.values v)) None)))
  either true = refl
  either false = refl

  go : (j : Judgement) → outcome j [] t (looked_up_into t v) ≡ stored_at t v (place_as j t v)
  go Fine = either (known t.values v)
  go (Declined k) = refl

-- what is found has room
pub place_fits : (t : Lookups) (v : ℕ) → Fits t v (place_of t v)
unfolding place_of lookup_reason value_reason bytes_shape
place_fits t v = go (lookup_reason t v) refl where
  room : Shaped t.values → length t.byte_multiplicities ≡ byte_rows → (b : Bool) → known t.values v ≡ b → value_reason t v ≡ Fine
      → Fits t v (Ok (cond b (Some (find_value t.values v)) None))
  room s bytes true k f =
      let h : find_value t.values v < used t.values = ltb-true _ _ k in
      (omega (arith, s.within, s.multiplicities), decline_fine _ CountFull (rw k at f))
  room s bytes false k f =
      let both = or_both (decline_if (bytes_full t.byte_multiplicities v) CountFull) _ (rw k at f) in
      let h = ltb-true (used t.values) (capacity t.values) (decline_not_fine _ CascadeFull both.1) in
      (omega (arith, s.keys), omega (arith, s.multiplicities), bytes, decline_fine _ CountFull both.0)

  go : (j : Judgement) → lookup_reason t v ≡ j → Fits t v (place_as j t v)
  go (Declined k) q = tt
  go Fine q =
      let a = or_both (decline_if (not (lookup_shape t)) Shape) _ q in
      let s = (and-eq-true_iff (cascade_shape t.values) (bytes_shape t.byte_multiplicities)).0 (decline_not_fine _ Shape a.0) in
      room (shaped t.values s.0) (eqb-true _ _ s.1) (known t.values v) refl a.1
