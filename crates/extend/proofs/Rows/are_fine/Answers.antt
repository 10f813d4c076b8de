-- `extend::Rows::are_fine` meets its contract: `all` tells of each row that its words are below p and that nothing is against its
-- denominator; the words of the table are those of its rows. Assumes nothing.
use Rattle.std.proofs.Common.{◌≡◌, ℕ, ◌+◌, ◌*◌, ◌-◌, ◌/◌, ◌%◌, ◌≤◌, ◌<◌, Bool, true, false, List, length, get_or, MatchBool, refl, subst, arith, rules, tests}
use Rattle.std.specs.List.{HoldsAt, AllWithin, range_with_len}
use Rattle.std.specs.Prelude.{take, drop}
use Rattle.std.proofs.lemmas.List.FromFn.{get_or-range_with_len, length-range_with_len}
use Rattle.std.proofs.lemmas.Iterator.{cases_from_all, YieldsList-from_range}
use Rattle.field.specs.Elements.{p}
use Rattle.table.specs.Columns.{main_width, all_reduced}
use Rattle.table.specs.Tens.{TenBelow}
use Rattle.table.proofs.Rows.{all_reduced_lem}
use Rattle.table.proofs.Tens.{ten_below}
use Rattle.sums.specs.RunningSum.{Summand, denominator_ok, denominators_ok}
use Rattle.sums.proofs.ZeroDenominators.{denominators_ok_iff}
use Rattle.extend.specs.Extensions.{summands_in}
use Rattle.extend.proofs.Rows.are_fine.Goals as goal

module _ (table : List ℕ) (s : ℕ → Summand) where
  abbrev row_words : ℕ → List ℕ
  row_words i = take (main_width * (i + 1) - main_width * i) (drop (main_width * i) table)

  abbrev Fine : ℕ → Type 0
  Fine i = (all_reduced (row_words i) ≡ true) × (denominator_ok (s i) ≡ true)

  row_below : (i : ℕ) → main_width * (i + 1) ≤ length table → all_reduced (row_words i) ≡ true → TenBelow table (main_width * i)
  row_below i l h =
      let ten : main_width * (i + 1) - main_width * i ≡ 10 = omega arith in
      ten_below table (main_width * i) (omega arith)
      (subst (λ (n : ℕ). all_reduced (take n (drop (main_width * i) table)) ≡ true) ten h)

  -- word k stands in row k / 10
  words_below : (n : ℕ) → length table ≡ main_width * n → ((i : ℕ) → i < n → Fine i) → (k : ℕ) → k < length table → get_or table k 0 < p
  unfolding TenBelow
  words_below n h fine k l =
      subst (λ (i : ℕ). get_or table i 0 < p) (omega arith)
      (row_below (k / main_width) (omega arith) (fine (k / main_width) (omega arith)).0 (k % main_width) (omega arith))

  all_fine : (n : ℕ) → length table ≡ main_width * n → ((i : ℕ) → i < n → Fine i) → (all_reduced table ≡ true) × (denominators_ok s n ≡ true)
  all_fine n h fine = (
    all_reduced_lem table (words_below n h fine),
    (denominators_ok_iff s n).1 (λ i l. (fine i l).1),
  )

  -- the rows, by their numbers
  told : (n : ℕ) (r : Bool) → length table ≡ main_width * n
      → MatchBool r (AllWithin Fine (range_with_len 0 n) 0 (length (range_with_len 0 n)))
      ((i : ℕ) × (i < length (range_with_len 0 n)) × HoldsAt (λ _. Unit {0}) (range_with_len 0 n) i)
      → r ≡ true → (all_reduced table ≡ true) × (denominators_ok s n ≡ true)
  told n true h each e =
      all_fine n h (λ i l. rw (at i l) at (each i 0 (omega arith) (omega (arith, length-range_with_len 0 n))))
    where
      at : (i : ℕ) → i < n → get_or (range_with_len 0 n) i 0 ≡ i
      at i l = let g = get_or-range_with_len 0 n i 0 l in omega (arith, g)
  told n false h some e = absurd (let z : ◌≡◌ {A = ℕ} 0 1 = cc in omega arith)

pub returns : goal.returns
returns c =
    let rows = c.args.self.now in
    let n = c.count.result in
    let cases = cases_from_all _ _ _ (Fine rows.table.now (summands_in rows)) (λ _. Unit {0}) c.all.ensures.ran
    (YieldsList-from_range 0 n n refl (omega arith)) (λ x q k. search (rules, tests)) (λ x q k. tt) in
    rw (← c.count.ensures) (told rows.table.now (summands_in rows) n _ (omega (arith, c.count.ensures, c.requires)) cases)
