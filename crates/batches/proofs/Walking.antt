-- The walk over the jobs, as the loop makes it: a batch is open, and the job at place i is looked at. It joins the batch or opens the next, or there
-- is none left. Assumes nothing.
use Prim.Native.Nat.{ℕ, zero, suc, ◌+◌, ◌*◌, ◌^◌, ◌-◌, ◌≤◌, ◌<◌}
use mathlib.Core.Path.{◌≡◌, refl, sym, ap, ◌∙◌}
use mathlib.Core.Bool.{false, ◌||◌}
use mathlib.Core.List.{List, [], ◌∷◌, flat_map}
use native.Mathlib.Numerals.{add-one}
use native.Mathlib.Omega.{arith}
use borrow.Author.Tests.{lt-ltb, le-ltb, ltb-false}
use lib.Dec.{eqb, ltb}
use lib.ListN.{length, get_or, take, drop, length-drop, drop_of_length-le}
use lib.Seq.{sets, drop-cons}
use Rattle.std.proofs.lemmas.Bool.{or_parts}
use Rattle.std.proofs.lemmas.List.{take_rest}
use Rattle.words.specs.Answers.{done}
use Rattle.words.specs.Limits.{max_rows, max_jobs}
use Rattle.words.specs.Refusals.{Fine, decline_if}
use Rattle.words.specs.declared.Refusal.TheVariants.{Shape, JobAbove}
use Rattle.words.proofs.Judgements.{decline_fine, or_both}
use Rattle.words.proofs.Sets.{sets_then}
use Rattle.list_record.specs.Plan.{padded_height}
use Rattle.list_record.proofs.PaddedHeight.{padded_least}
use Rattle.batches.specs.declared.Batch.{Batch}
use Rattle.batches.specs.Batches.{batch, batches_from, batches_of, over_batches, all_rows, padding, some_above, setting_reason, batch_words, trial_all}
use Rattle.batches.proofs.Splitting.{within, takes, takes_bound}

-- no batch has more rows than a table, padded or not
pub padded_small : (rows : ℕ) → rows ≤ max_rows → padded_height rows ≤ max_rows
padded_small rows h = padded_least rows 17 (omega arith) (omega arith)

module _ (setting : ℕ) (later : List ℕ) (current : Batch) (i : ℕ) where
  pub joins : i < length later → current.rows + get_or later i 0 ≤ setting
      → batches_from setting current (drop i later) ≡ batches_from setting (batch (current.jobs + 1) (current.rows + get_or later i 0)) (drop (i + 1) later)
  unfolding batches_from
  joins h l = rw (drop-cons later i 0 h, le-ltb setting (current.rows + get_or later i 0) l, add-one i)

  -- where the batch ends, the jobs from place i on are those after it
  module _ {before : List Batch} (walked : before ≡ batches_from setting current (drop i later)) (taken : current.jobs ≡ i + 1) where
    jobs_before : i ≡ current.jobs - 1
    jobs_before = omega arith

    pub opens : i < length later → setting < current.rows + get_or later i 0 → before ≡ current ∷ batches_of setting (drop (current.jobs - 1) later)
    unfolding batches_from
    opens h l = walked ∙ rw (← jobs_before, drop-cons later i 0 h, lt-ltb setting (current.rows + get_or later i 0) l)

    pub ends : length later ≤ i → before ≡ current ∷ batches_of setting (drop (current.jobs - 1) later)
    unfolding batches_from
    ends h = walked ∙ rw (← jobs_before, drop_of_length-le later h)

-- ---- nothing speaks against the setting and the jobs

-- one fact for each test
pub record Gatherable (setting : ℕ) (jobs : List ℕ) : Type 0 where
  pub not_zero : eqb setting 0 ≡ false
  pub small : setting ≤ max_rows
  pub few : length jobs ≤ max_jobs
  pub none_above : some_above setting jobs ≡ false

module _ (jobs : List ℕ) (setting : ℕ) where
  pub fine_tells : setting_reason jobs setting ≡ Fine → Gatherable setting jobs
  unfolding setting_reason
  fine_tells e =
      let both = or_both (decline_if (eqb setting 0 || (ltb max_rows setting || ltb max_jobs (length jobs))) Shape) (decline_if (some_above setting jobs) JobAbove) e in
      let first = or_parts (eqb setting 0) (ltb max_rows setting || ltb max_jobs (length jobs)) (decline_fine _ Shape both.0) in
      let second = or_parts (ltb max_rows setting) (ltb max_jobs (length jobs)) first.1 in
      record {
        not_zero = first.0;
        small = ltb-false max_rows setting second.0;
        few = ltb-false max_jobs (length jobs) second.1;
        none_above = decline_fine (some_above setting jobs) JobAbove both.1;
      }

  pub nothing_against : Gatherable setting jobs → setting_reason jobs setting ≡ Fine
  unfolding setting_reason
  nothing_against g = rw (g.not_zero, le-ltb max_rows setting g.small, le-ltb max_jobs (length jobs) g.few, g.none_above)

-- ---- the jobs that are left after a batch

above_drop : (setting : ℕ) (jobs : List ℕ) (k : ℕ) → some_above setting jobs ≡ false → some_above setting (drop k jobs) ≡ false
above_drop setting jobs zero n = n
above_drop setting [] (suc k) n = n
above_drop setting (height ∷ jobs) (suc k) n = above_drop setting jobs k (within setting height jobs n).rest

module _ (setting : ℕ) {jobs later : List ℕ} {rows : ℕ} (split : jobs ≡ rows ∷ later) where
  pub first_fits : some_above setting jobs ≡ false → rows ≤ setting
  first_fits n = (within setting rows later (rw split at n)).first

  pub left_fine : (k : ℕ) → setting_reason jobs setting ≡ Fine → setting_reason (take (length later - k) (drop k later)) setting ≡ Fine
  left_fine k e =
      let g = fine_tells jobs setting e in
      rw (take_rest later k)
      (nothing_against (drop k later) setting
      (record {
        not_zero = g.not_zero;
        small = g.small;
        few = omega (arith, g.few, ap length split, length-drop k later);
        none_above = above_drop setting later k (within setting rows later (rw split at g.none_above)).rest;
      }))

  pub one_less : {b : Batch} (k : ℕ) → batches_from setting (batch 1 rows) later ≡ b ∷ batches_of setting (drop k later)
      → length (batches_of setting (take (length later - k) (drop k later))) < length (batches_of setting jobs)
  one_less k e = let fewer = ap length e in rw (take_rest later k, split) (omega arith)

-- ---- the totals of the batches that were walked over, and of those that are left

length_over : (bs : List Batch) → length bs ≡ over_batches (λ rows. 1) bs
unfolding over_batches
length_over [] = refl
length_over (b ∷ bs) = let r = length_over bs in omega arith

-- all totals are far below 2^64
pub record Small (bs : List Batch) : Type 0 where
  pub few : length bs ≤ 137438953472
  pub rows : all_rows bs ≤ 137438953472
  pub lacking : padding bs ≤ 137438953472

pub all_small : (setting : ℕ) (jobs : List ℕ) → setting_reason jobs setting ≡ Fine → Small (batches_of setting jobs)
all_small setting jobs e =
    let g = fine_tells jobs setting e in
    let order = takes setting jobs g.none_above in
    record {
      few = omega (arith, length_over (batches_of setting jobs), g.few, takes_bound (λ x. 1) (λ x l. omega arith) order);
      rows = omega (arith, g.few, takes_bound (λ x. x) (λ x l. omega (arith, g.small)) order);
      lacking = omega (arith, g.few, takes_bound (λ x. padded_height x - x) (λ x l. omega (arith, padded_small x (omega (arith, g.small)))) order);
    }

pub record Tallied (all left : List Batch) (count rows pad : ℕ) : Type 0 where
  pub counted : count + length left ≡ length all
  pub totalled : rows + all_rows left ≡ all_rows all
  pub lacking : pad + padding left ≡ padding all

-- all batches' totals are those that a trial answers
pub trial_fine : (setting : ℕ) (jobs : List ℕ) → setting_reason jobs setting ≡ Fine
    → trial_all jobs setting ≡ done (length (batches_of setting jobs) ∷ all_rows (batches_of setting jobs) ∷ padding (batches_of setting jobs) ∷ [])
unfolding trial_all
trial_fine setting jobs e = rw e

pub tally_starts : {all left : List Batch} → left ≡ all → Tallied all left 0 0 0
tally_starts e = record {
  counted = let l = ap length e in omega arith;
  totalled = let l = ap all_rows e in omega arith;
  lacking = let l = ap padding e in omega arith;
}

module _ {all left : List Batch} {count rows pad : ℕ} (t : Tallied all left count rows pad) where
  pub tally_step : {b : Batch} {after : List Batch} {p : ℕ} → left ≡ b ∷ after → p ≡ padded_height b.rows - b.rows
      → Tallied all after (count + 1) (rows + b.rows) (pad + p)
  unfolding over_batches
  tally_step e q = record {
    counted = let l = ap length e in omega (arith, t.counted);
    totalled = let l = ap all_rows e in omega (arith, t.totalled);
    lacking = let l = ap padding e in omega (arith, t.lacking);
  }

  pub tally_ends : left ≡ [] → done (count ∷ rows ∷ pad ∷ []) ≡ done (length all ∷ all_rows all ∷ padding all ∷ [])
  unfolding over_batches
  tally_ends e =
      let c : count ≡ length all = let l = ap length e in omega (arith, t.counted) in
      let r : rows ≡ all_rows all = let l = ap all_rows e in omega (arith, t.totalled) in
      let p : pad ≡ padding all = let l = ap padding e in omega (arith, t.lacking) in
      rw (c, r, p)

-- ---- the batches that were walked over are written

pub record Written (all left : List Batch) (results₀ results : List ℕ) (place : ℕ) : Type 0 where
  pub room : place + length left ≡ length all
  pub rows : all_rows left ≤ all_rows all
  pub held : sets results (3 * place) (flat_map batch_words left) ≡ sets results₀ 0 (flat_map batch_words all)

pub write_starts : {all left : List Batch} {results : List ℕ} {place : ℕ} → left ≡ all → place ≡ 0 → Written all left results results place
write_starts {results = results} e z = record {
  room = let l = ap length e in omega arith;
  rows = let l = ap all_rows e in omega arith;
  held = rw (z, e) refl;
}

module _ {all left : List Batch} {results₀ results : List ℕ} {place : ℕ} (w : Written all left results₀ results place) where
  pub write_step : {b : Batch} {after : List Batch} {written : List ℕ} {here next : ℕ} → left ≡ b ∷ after → here ≡ place → next ≡ place + 1
      → written ≡ sets results (3 * here) (batch_words b) → Written all after results₀ written next
  unfolding flat_map over_batches
  write_step {b} {after} {written} {here} {next} e h n p = record {
    room = let l = ap length e in omega (arith, w.room);
    rows = let l = ap all_rows e in omega (arith, w.rows);
    held =
        sym (sets_then (batch_words b) (flat_map batch_words after) results written (3 * place) (3 * next) (rw h at p) (omega arith))
        ∙ ap (λ (bs : List Batch). sets results (3 * place) (flat_map batch_words bs)) (sym e)
        ∙ w.held;
  }

  -- the first of them has its place
  pub write_room : {b : Batch} {after : List Batch} {here : ℕ} → Small all → left ≡ b ∷ after → here ≡ place → length results ≡ length results₀
      → 3 * length all ≤ length results₀ → (3 * here + 3 ≤ length results) × (b.rows ≤ 2 ^ 62)
  unfolding over_batches
  write_room s e h same long =
      let l = ap length e in
      let r = ap all_rows e in
      (omega (arith, w.room), omega (arith, w.rows, s.rows))

  pub write_ends : left ≡ [] → results ≡ sets results₀ 0 (flat_map batch_words all)
  unfolding flat_map
  write_ends e = rw e at w.held
