-- The ways out of the calls `try_setting` and `batches`, reason by reason, and the law of request 12 as a statement over the definitions that the
-- contracts cite (batches_law): it holds of every list of jobs that is accepted. Assumes nothing.
use Prim.Native.Nat.{ℕ, ◌*◌, ◌/◌, ◌%◌, ◌≤◌, ◌<◌}
use mathlib.Core.Path.{◌≡◌, refl, sym, ap, ◌∙◌}
use mathlib.Core.Bool.{not}
use mathlib.Core.List.{List, [], ◌∷◌, flat_map}
use native.Mathlib.Omega.{arith}
use borrow.Author.Tests.{eq-eqb, ne_eqb, lt-ltb, le-ltb}
use lib.Dec.{eqb}
use lib.ListN.{length, get_or, take, length-append}
use lib.Seq.{sets}
use Rattle.words.specs.Answers.{done, declined}
use Rattle.words.specs.Outcomes.{Leaves, answered}
use Rattle.words.specs.declared.Refusal.{Refusal}
use Rattle.words.specs.declared.Refusal.TheVariants.{Shape, Short}
use Rattle.words.specs.Refusals.{Judgement, Fine, Declined, decline_if}
use Rattle.words.proofs.Answers.{declined_not_done}
use Rattle.words.proofs.Judgements.{or_both}
use Rattle.words.proofs.Outcomes.{done_fine, leaves_done, leaves_declined}
use Rattle.words.proofs.Sets.{take_sets_front}
use Rattle.batches.specs.declared.Batch.{Batch}
use Rattle.batches.specs.Batches.{batches_of, all_rows, padding, setting_reason, batch_reason, batch_words, batch_all, trial_all}
use Rattle.batches.specs.Splitting.{total, Splits, Batching}
use Rattle.batches.proofs.Splitting.{splits}
use Rattle.batches.proofs.Walking.{fine_tells, all_small}

module _ (jobs : List ℕ) (setting : ℕ) where
  pub trial_declined : {reason : Refusal} → setting_reason jobs setting ≡ Declined reason → declined reason ≡ trial_all jobs setting
  unfolding trial_all
  trial_declined e = rw e

  -- what it tells that the totals are answered
  pub record Tried (count rows pad : ℕ) : Type 0 where
    pub fine : setting_reason jobs setting ≡ Fine
    pub counted : count ≡ length (batches_of setting jobs)
    pub totalled : rows ≡ all_rows (batches_of setting jobs)
    pub lacking : pad ≡ padding (batches_of setting jobs)

  pub trial_tells : {count rows pad : ℕ} → done (count ∷ rows ∷ pad ∷ []) ≡ trial_all jobs setting → Tried count rows pad
  unfolding trial_all
  trial_tells {count} {rows} {pad} e =
      let told = done_fine (setting_reason jobs setting) _ tt tt (sym e) in
      record {
        fine = told.0;
        counted = ap (λ (l : List ℕ). get_or l 0 0) (sym told.1);
        totalled = ap (λ (l : List ℕ). get_or l 1 0) (sym told.1);
        lacking = ap (λ (l : List ℕ). get_or l 2 0) (sym told.1);
      }

  -- the totals are far below 2^64
  pub trial_bounds : {count rows pad : ℕ} → done (count ∷ rows ∷ pad ∷ []) ≡ trial_all jobs setting → (rows ≤ 137438953472) × (pad ≤ 137438953472)
  trial_bounds e =
      let t = trial_tells e in
      let small = all_small _ _ t.fine in (omega (arith, t.totalled, small.rows), omega (arith, t.lacking, small.lacking))

  -- all rows are those of the jobs
  pub trial_rows : {count rows pad : ℕ} → Tried count rows pad → rows ≡ total jobs
  trial_rows t = t.totalled ∙ (splits jobs setting (fine_tells jobs setting t.fine).none_above).rows_total

-- ---- the answers of `batches`

length_words : (bs : List Batch) → length (flat_map batch_words bs) ≡ 3 * length bs
unfolding flat_map
length_words [] = refl
length_words (b ∷ bs) = let r = length_words bs in omega (arith, length-append (batch_words b) (flat_map batch_words bs))

-- "For every accepted list": the law, of the batches and the padding that are answered
pub batches_law : (jobs : List ℕ) (setting : ℕ) (results : List ℕ) → batch_reason jobs setting results ≡ Fine
    → Splits jobs setting (batches_of setting jobs) (padding (batches_of setting jobs))
unfolding batch_reason
batches_law jobs setting results e =
    let rest = (or_both (decline_if (not (eqb (length results % 3) 0)) Shape) _ e).1 in
    splits jobs setting (fine_tells jobs setting (or_both (setting_reason jobs setting) _ rest).0).none_above

module _ (jobs : List ℕ) (setting : ℕ) (results : List ℕ) where
  torn_declined : (length results % 3 ≡ 0 → ⊥) → batch_reason jobs setting results ≡ Declined Shape
  unfolding batch_reason
  torn_declined n = rw (ne_eqb (length results % 3) 0 n)

  pub torn_leaves : (length results % 3 ≡ 0 → ⊥) → Leaves (batch_all jobs setting results) (declined Shape) results
  unfolding batch_all
  torn_leaves n = leaves_declined _ _ _ (torn_declined n)

  module _ (whole : length results % 3 ≡ 0) where
    pub refused_leaves : (reason : Refusal) → declined reason ≡ trial_all jobs setting → Leaves (batch_all jobs setting results) (declined reason) results
    unfolding batch_all batch_reason trial_all
    refused_leaves reason told = go (setting_reason jobs setting) refl told where
      go : (j : Judgement) → setting_reason jobs setting ≡ j
          → declined reason ≡ answered j (length (batches_of setting jobs) ∷ all_rows (batches_of setting jobs) ∷ padding (batches_of setting jobs) ∷ [])
          → Leaves (batch_all jobs setting results) (declined reason) results
      go Fine e t = absurd (declined_not_done reason t)
      go (Declined other) e t = rw (eq-eqb (length results % 3) 0 whole, e) (record { answer = t; left = refl })

    module _ {count rows pad : ℕ} (t : Tried jobs setting count rows pad) where
      short_declined : length results / 3 < count → batch_reason jobs setting results ≡ Declined Short
      unfolding batch_reason
      short_declined l =
          let n = t.counted in
          rw (eq-eqb (length results % 3) 0 whole, t.fine, lt-ltb (length results / 3) (length (batches_of setting jobs)) (omega arith))

      pub short_leaves : length results / 3 < count → Leaves (batch_all jobs setting results) (declined Short) results
      unfolding batch_all
      short_leaves l = leaves_declined _ _ _ (short_declined l)

      module _ (room : count ≤ length results / 3) where
        all_fine : batch_reason jobs setting results ≡ Fine
        unfolding batch_reason
        all_fine =
            let n = t.counted in
            rw (eq-eqb (length results % 3) 0 whole, t.fine, le-ltb (length results / 3) (length (batches_of setting jobs)) (omega arith))

        -- the batches have places
        pub written_fits : 3 * length (batches_of setting jobs) ≤ length results
        written_fits = omega (arith, t.counted)

        module _ {after : List ℕ} (held : after ≡ sets results 0 (flat_map batch_words (batches_of setting jobs))) where
          pub written_leaves : Leaves (batch_all jobs setting results) (done (count ∷ pad ∷ [])) after
          unfolding batch_all
          written_leaves = leaves_done _ _ _ all_fine (rw (t.counted, t.lacking)) held

          pub written_lawful : Batching jobs setting count pad after
          written_lawful = record {
            list = batches_of setting jobs;
            splits = rw t.lacking (batches_law jobs setting results all_fine);
            answered = t.counted;
            listed =
                ap (take (3 * count)) held
                ∙ take_sets_front (flat_map batch_words (batches_of setting jobs)) results (3 * count)
                (length_words (batches_of setting jobs) ∙ ap (λ (n : ℕ). 3 * n) (sym t.counted)) (omega arith);
          }
