-- How the jobs are split into batches. By induction on the jobs that are still to come, from an open batch whose jobs are given: they and those to
-- come are taken in order (takes). The totals follow from the order alone (splits). And the law leaves one list of batches (takes_only): of two
-- first batches the longer one would have the job with which the shorter one passes the setting. Assumes nothing.
use Prim.Native.Nat.{ℕ, zero, suc, ◌+◌, ◌*◌, ◌-◌, ◌≤◌, ◌<◌}
use mathlib.Core.Path.{◌≡◌, refl, sym, ap, ◌∙◌, subst}
use mathlib.Core.Bool.{Bool, true, false, ◌||◌}
use mathlib.Core.Logic.{◌⊎◌, inl, inr}
use mathlib.Core.List.{List, [], ◌∷◌, ◌++◌}
use native.Mathlib.Omega.{arith}
use borrow.Author.Tests.{ltb-true, ltb-false}
use lib.Dec.{ltb}
use lib.ListN.{length, get_or, take, drop, length-append, length-drop, take-append-drop}
use lib.Seq.{take_at, drop_at, get_or_at, take-add, drop-cons}
use Rattle.words.specs.Limits.{max_rows}
use Rattle.list_record.proofs.PaddedHeight.{padded_at_least}
use Rattle.batches.specs.declared.Batch.{Batch}
use Rattle.batches.specs.Batches.{batch, batches_from, batches_of, over_batches, all_rows, all_padded, padding, some_above}
use Rattle.batches.specs.Splitting.{total, Takes, none, next, Splits}

total_append : (xs ys : List ℕ) → total (xs ++ ys) ≡ total xs + total ys
unfolding total
total_append [] ys = omega arith
total_append (x ∷ xs) ys = let r = total_append xs ys in omega arith

-- ---- no job is above the setting

pub record Within (setting height : ℕ) (heights : List ℕ) : Type 0 where
  pub first : height ≤ setting
  pub rest : some_above setting heights ≡ false

pub within : (setting height : ℕ) (heights : List ℕ) → some_above setting (height ∷ heights) ≡ false → Within setting height heights
unfolding some_above
within setting height heights e = go (ltb setting height) refl e
  where
    go : (t : Bool) → ltb setting height ≡ t → (t || some_above setting heights) ≡ false → Within setting height heights
    go true q n = absurd (let z : ◌≡◌ {A = ℕ} 0 1 = cc in omega arith)
    go false q n = record { first = ltb-false setting height q; rest = n }

pub none_above : (setting : ℕ) (jobs : List ℕ) (i : ℕ) → some_above setting jobs ≡ false → i < length jobs → get_or jobs i 0 ≤ setting
none_above setting [] i e h = absurd (let z = h in omega arith)
none_above setting (x ∷ jobs) zero e h = (within setting x jobs e).first
none_above setting (x ∷ jobs) (suc i) e h = none_above setting jobs i (within setting x jobs e).rest (omega arith)

-- ---- the order

-- the jobs of the open batch
record Has (setting : ℕ) (current : Batch) (taken : List ℕ) : Type 0 where
  count : length taken ≡ current.jobs
  some : 1 ≤ current.jobs
  rows : current.rows ≡ total taken
  fits : current.rows ≤ setting

module _ (setting : ℕ) where
  one : (height : ℕ) → height ≤ setting → Has setting (batch 1 height) (height ∷ [])
  unfolding total
  one height l = record { count = refl; some = omega arith; rows = omega arith; fits = l }

  more : {current : Batch} {taken : List ℕ} → Has setting current taken → (height : ℕ) → current.rows + height ≤ setting
      → Has setting (batch (current.jobs + 1) (current.rows + height)) (taken ++ (height ∷ []))
  unfolding total
  more {current} {taken} o height l = record {
    count = length-append taken (height ∷ []) ∙ omega (arith, o.count);
    some = omega arith;
    rows = sym (total_append taken (height ∷ []) ∙ omega (arith, o.rows));
    fits = l;
  }

  -- the open batch ends before the jobs `left`
  ends : {current : Batch} {taken : List ℕ} {bs : List Batch} (left : List ℕ) → Has setting current taken
      → (left ≡ []) ⊎ (setting < current.rows + get_or (taken ++ left) current.jobs 0)
      → Takes setting left bs → Takes setting (taken ++ left) (current ∷ bs)
  ends {current} {taken} {bs} left o why rest =
      let d : drop current.jobs (taken ++ left) ≡ left = drop_at taken left current.jobs o.count in
      next (taken ++ left) o.some (omega (arith, length-append taken left, o.count))
      (o.rows ∙ ap total (sym (take_at taken left current.jobs o.count)))
      o.fits
      (why' d why)
      (subst (λ (l : List ℕ). Takes setting l bs) (sym d) rest)
    where
      why' : drop current.jobs (taken ++ left) ≡ left
          → (left ≡ []) ⊎ (setting < current.rows + get_or (taken ++ left) current.jobs 0)
          → (drop current.jobs (taken ++ left) ≡ []) ⊎ (setting < current.rows + get_or (taken ++ left) current.jobs 0)
      why' d (inl e) = inl (d ∙ e)
      why' d (inr l) = inr l

  takes_from : (heights : List ℕ) (current : Batch) (taken : List ℕ) → Has setting current taken → some_above setting heights ≡ false
      → Takes setting (taken ++ heights) (batches_from setting current heights)
  unfolding batches_from
  takes_from [] current taken o n = ends [] o (inl refl) none
  takes_from (height ∷ heights) current taken o n =
      go (within setting height heights n) (λ current' taken' o' w. takes_from heights current' taken' o' w) (ltb setting (current.rows + height)) refl
    where
      go : Within setting height heights
          → ((current' : Batch) (taken' : List ℕ) → Has setting current' taken' → some_above setting heights ≡ false
          → Takes setting (taken' ++ heights) (batches_from setting current' heights))
          → (t : Bool) → ltb setting (current.rows + height) ≡ t
          → Takes setting (taken ++ (height ∷ heights)) (batches_from setting current (height ∷ heights))
      go w rest true q =
          let g : get_or (taken ++ (height ∷ heights)) current.jobs 0 ≡ height = get_or_at taken height heights 0 current.jobs o.count in
          let p = ltb-true setting (current.rows + height) q in
          rw q (ends (height ∷ heights) o (inr (omega arith)) (rest (batch 1 height) (height ∷ []) (one height w.first) w.rest))
      go w rest false q =
          rw q
          (subst (λ (l : List ℕ). Takes setting l (batches_from setting (batch (current.jobs + 1) (current.rows + height)) heights)) (append_one taken)
          (rest (batch (current.jobs + 1) (current.rows + height)) (taken ++ (height ∷ [])) (more o height (ltb-false setting (current.rows + height) q)) w.rest))
        where
          append_one : (taken : List ℕ) → (taken ++ (height ∷ [])) ++ heights ≡ taken ++ (height ∷ heights)
          append_one [] = refl
          append_one (x ∷ taken) = ap (λ (l : List ℕ). x ∷ l) (append_one taken)

pub takes : (setting : ℕ) (jobs : List ℕ) → some_above setting jobs ≡ false → Takes setting jobs (batches_of setting jobs)
takes setting [] n = none
takes setting (height ∷ heights) n =
    let w = within setting height heights n in
    takes_from setting heights (batch 1 height) (height ∷ []) (one setting height w.first) w.rest

-- ---- totals, from the order alone

takes_rows : {setting : ℕ} {jobs : List ℕ} {bs : List Batch} → Takes setting jobs bs → all_rows bs ≡ total jobs
unfolding over_batches total
takes_rows none = refl
takes_rows (next {b} jobs p l r f w rest) =
    let more = takes_rows rest in
    let whole = total_append (take b.jobs jobs) (drop b.jobs jobs) in
    let same = ap total (take-append-drop b.jobs jobs) in
    omega arith

-- what is at most a table's rows for each batch is, over all, at most so much for each job
pub takes_bound : {setting : ℕ} {jobs : List ℕ} {bs : List Batch} (f : ℕ → ℕ) → ((rows : ℕ) → rows ≤ setting → f rows ≤ max_rows)
    → Takes setting jobs bs → over_batches f bs ≤ max_rows * length jobs
unfolding over_batches
takes_bound f h none = omega arith
takes_bound f h (next {b} jobs p l r g w rest) =
    let more = takes_bound f h rest in
    omega (arith, h b.rows g, length-drop b.jobs jobs)

padded_all : (bs : List Batch) → padding bs + all_rows bs ≡ all_padded bs
unfolding over_batches
padded_all [] = refl
padded_all (b ∷ bs) = let r = padded_all bs in let l = padded_at_least b.rows in omega arith

pub splits : (jobs : List ℕ) (setting : ℕ) → some_above setting jobs ≡ false
    → Splits jobs setting (batches_of setting jobs) (padding (batches_of setting jobs))
splits jobs setting n =
    let t = takes setting jobs n in
    let q = padded_all (batches_of setting jobs) in
    record { in_order = t; rows_total = takes_rows t; padding_is = omega arith }

-- ---- the law leaves no other batches

-- the job after the first n is among more of them
total_next : (n m : ℕ) (jobs : List ℕ) → n < m → m ≤ length jobs → total (take n jobs) + get_or jobs n 0 ≤ total (take m jobs)
unfolding total
total_next n m jobs l b =
    let split : m ≡ n + (1 + (m - n - 1)) = omega arith in
    let e : total (take m jobs) ≡ total (take n jobs ++ take (1 + (m - n - 1)) (drop n jobs)) =
    ap (λ (k : ℕ). total (take k jobs)) split ∙ ap total (take-add n (1 + (m - n - 1)) jobs) in
    let f : total (take (1 + (m - n - 1)) (drop n jobs)) ≡ get_or jobs n 0 + total (take (m - n - 1) (drop (suc n) jobs)) =
    ap (λ (k : ℕ). total (take k (drop n jobs))) one_more ∙ ap (λ (r : List ℕ). total (take (suc (m - n - 1)) r)) (drop-cons jobs n 0 (omega arith)) in
    omega (arith, total_append (take n jobs) (take (1 + (m - n - 1)) (drop n jobs)))
  where
    one_more : 1 + (m - n - 1) ≡ suc (m - n - 1)
    one_more = omega arith

-- a batch that ends with jobs left would pass the setting with the next: no batch of the same first job is longer
not_longer : (setting : ℕ) (jobs : List ℕ) (b c : Batch) → b.jobs < c.jobs → c.jobs ≤ length jobs
    → b.rows ≡ total (take b.jobs jobs) → c.rows ≡ total (take c.jobs jobs) → c.rows ≤ setting
    → (drop b.jobs jobs ≡ []) ⊎ (setting < b.rows + get_or jobs b.jobs 0) → ⊥
not_longer setting jobs b c l n p q f (inl e) = omega (arith, length-drop b.jobs jobs, ap length e)
not_longer setting jobs b c l n p q f (inr s) = omega (arith, total_next b.jobs c.jobs jobs l n)

same_batch : (jobs : List ℕ) (b c : Batch) → b.jobs ≡ c.jobs → b.rows ≡ total (take b.jobs jobs) → c.rows ≡ total (take c.jobs jobs) → b ≡ c
same_batch jobs b c e p q =
    let r : b.rows ≡ c.rows = p ∙ ap (λ (n : ℕ). total (take n jobs)) e ∙ sym q in
    ap (λ (n : ℕ). batch n b.rows) e ∙ ap (λ (n : ℕ). batch c.jobs n) r

pub takes_only : {setting : ℕ} {jobs : List ℕ} {bs cs : List Batch} → Takes setting jobs bs → Takes setting jobs cs → bs ≡ cs
takes_only none none = refl
takes_only none (next {b = c} {bs = cs} jobs p l r f w rest) = absurd (omega arith)
takes_only (next {b} {bs} jobs p l r f w rest) none = absurd (omega arith)
takes_only {setting} (next {b} {bs} jobs p l r f w rest) (next {b = c} {bs = cs} _ p' l' r' f' w' rest') =
    go (λ other. takes_only rest other) (ltb b.jobs c.jobs) refl (ltb c.jobs b.jobs) refl
  where
    go : (Takes setting (drop b.jobs jobs) cs → bs ≡ cs) → (s : Bool) → ltb b.jobs c.jobs ≡ s → (t : Bool) → ltb c.jobs b.jobs ≡ t → (b ∷ bs) ≡ (c ∷ cs)
    go only true x t y = absurd (not_longer setting jobs b c (ltb-true b.jobs c.jobs x) l' r r' f' w)
    go only false x true y = absurd (not_longer setting jobs c b (ltb-true c.jobs b.jobs y) l r' r f w')
    go only false x false y =
        let e : b.jobs ≡ c.jobs = omega (arith, ltb-false b.jobs c.jobs x, ltb-false c.jobs b.jobs y) in
        let same : bs ≡ cs = only (subst (λ (n : ℕ). Takes setting (drop n jobs) cs) (sym e) rest') in
        ap (λ (x : Batch). x ∷ bs) (same_batch jobs b c e r r') ∙ ap (λ (xs : List Batch). c ∷ xs) same
