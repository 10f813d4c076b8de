-- The words of the first n sums are 3 * n, element i of them is the sum of the first i + 1 summands, and all are below p, by induction on
-- the sums. Then a turn of a loop that stores them, and what it has stored at its end. Assumes nothing.
use Prim.Native.Nat.{ℕ, zero, suc, ◌+◌, ◌*◌, ◌<◌}
use mathlib.Core.Path.{◌≡◌, refl, sym, ap, ◌∙◌}
use mathlib.Core.Bool.{true}
use mathlib.Core.List.{List, ◌++◌, append-nil}
use native.Mathlib.Numerals.{add-one}
use native.Mathlib.Omega.{arith}
use lib.ListN.{length, get_or, length-append, get_or-append, drop}
use lib.Seq.{sets, get_or-append-add, drop-length}
use borrow.Author.Count.{below_more}
use borrow.Author.Tests.{lt-ltb}
use Rattle.field.specs.Elements.{p}
use Rattle.words.proofs.Sets.{sets_then, sets_front}
use Rattle.xfield.specs.Extension.{Ext, Reduced}
use Rattle.table.specs.Columns.{element_at, all_reduced}
use Rattle.table.proofs.Rows.{reduced_join}
use Rattle.sums.specs.RunningSum.{Summand, running_sum, element_words, sum_words}
use Rattle.sums.proofs.RunningSums.{sum_reduced}

element_words_reduced : (x : Ext) → Reduced x → all_reduced (element_words x) ≡ true
unfolding all_reduced
element_words_reduced x h = rw (lt-ltb _ p h.a_below, lt-ltb _ p h.b_below, lt-ltb _ p h.c_below)

module _ (s : ℕ → Summand) where
  pub sums_length : (n : ℕ) → length (sum_words s n) ≡ 3 * n
  unfolding sum_words
  sums_length zero = refl
  sums_length (suc n) = let rest = sums_length n in length-append (sum_words s n) (element_words (running_sum s (suc n))) ∙ omega arith

  earlier : (n i : ℕ) → i < n → element_at (sum_words s (suc n)) i ≡ element_at (sum_words s n) i
  unfolding element_at sum_words
  earlier n i l = λ t. record {
    a = word (3 * i) (omega arith) t;
    b = word (3 * i + 1) (omega arith) t;
    c = word (3 * i + 2) (omega arith) t;
  }
    where
      word : (j : ℕ) → j < 3 * n → get_or (sum_words s (suc n)) j 0 ≡ get_or (sum_words s n) j 0
      word j k = get_or-append (sum_words s n) (element_words (running_sum s (suc n))) 0 j (omega (arith, sums_length n))

  latest : (n : ℕ) → element_at (sum_words s (suc n)) n ≡ running_sum s (suc n)
  unfolding element_at sum_words
  latest n = λ t. record {
    a = word 0 (3 * n) (omega arith) t;
    b = word 1 (3 * n + 1) refl t;
    c = word 2 (3 * n + 2) refl t;
  }
    where
      word : (k j : ℕ) → j ≡ 3 * n + k → get_or (sum_words s (suc n)) j 0 ≡ get_or (element_words (running_sum s (suc n))) k 0
      word k j e =
          ap (λ (i : ℕ). get_or (sum_words s (suc n)) i 0) (e ∙ ap (λ (m : ℕ). m + k) (sym (sums_length n)))
          ∙ get_or-append-add (sum_words s n) (element_words (running_sum s (suc n))) k 0

  -- "Each row stores the sum so far"
  pub sums_at : (n i : ℕ) → i < n → element_at (sum_words s n) i ≡ running_sum s (suc i)
  sums_at zero i l = absurd (omega arith)
  sums_at (suc n) i l = below_more _ n (λ j k. earlier n j k ∙ sums_at n j k) (latest n) i (omega arith)

  -- ---- all are below p
  pub sums_reduced : (n : ℕ) → all_reduced (sum_words s n) ≡ true
  unfolding sum_words all_reduced
  sums_reduced zero = refl
  sums_reduced (suc n) =
      reduced_join (sum_words s n) (element_words (running_sum s (suc n))) (sums_reduced n)
      (element_words_reduced (running_sum s (suc n)) (sum_reduced s (suc n)))

  -- ---- a turn of the loop that stores them, and its end
  pub words_turn : (i : ℕ) (old : List ℕ) {aux after : List ℕ} {next : Ext}
      → aux ≡ sets old 0 (sum_words s i) → next ≡ running_sum s (i + 1) → after ≡ sets aux (3 * i) (element_words next)
      → after ≡ sets old 0 (sum_words s (i + 1))
  unfolding sum_words
  words_turn i old {aux} e f g =
      rw add-one
      (g ∙ rw (f, add-one i)
      (sym (sets_then (sum_words s i) (element_words (running_sum s (suc i))) old aux 0 (3 * i) e (omega (arith, sums_length i)))))

  pub all_words : (n : ℕ) (old : List ℕ) → length old ≡ 3 * n → sets old 0 (sum_words s n) ≡ sum_words s n
  all_words n old h =
      let same : length (sum_words s n) ≡ length old = sums_length n ∙ sym h in
      sets_front (sum_words s n) old (omega arith)
      ∙ ap (λ (k : ℕ). sum_words s n ++ drop k old) same ∙ ap (λ (r : List ℕ). sum_words s n ++ r) (drop-length old) ∙ append-nil (sum_words s n)
