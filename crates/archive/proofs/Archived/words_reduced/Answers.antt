-- `archive::Archived::words_reduced` meets its contract: `all` tells that each word of the columns is below p, or of one that is not. Assumes nothing.
use Rattle.std.proofs.Common.{◌≡◌, ◌<◌, ◌≤◌, ◌+◌, ◌*◌, ◌-◌, ℕ, Bool, true, false, List, length, get_or, MatchBool, ap, ◌∙◌, arith, rules, tests}
use Rattle.std.specs.List.{HoldsAt, AllWithin, range_with_len}
use Rattle.std.proofs.lemmas.List.FromFn.{get_or-range_with_len, length-range_with_len}
use Rattle.std.proofs.lemmas.Iterator.{cases_from_all, YieldsList-from_range}
use Rattle.field.specs.Elements.{p}
use Rattle.table.specs.Columns.{main_width, aux_width, all_reduced}
use Rattle.archive.specs.Archives.{archived_word, archived_rows, archived_words}
use Rattle.archive.proofs.Columns.{words_passed, word_found}
use Rattle.archive.proofs.Archived.words_reduced.Goals as goal

-- the words of the columns, by their numbers
module _ (s : List ℕ) (n : ℕ) (many : n ≡ (main_width + aux_width) * archived_rows s) where
  told : (r : Bool) → MatchBool r (AllWithin (λ k. archived_word s k < p) (range_with_len 1 n) 0 (length (range_with_len 1 n)))
      ((i : ℕ) × (i < length (range_with_len 1 n)) × HoldsAt (λ k. p ≤ archived_word s k) (range_with_len 1 n) i)
      → r ≡ all_reduced (archived_words s)
  told true f =
      words_passed s (λ k a b.
      let at : get_or (range_with_len 1 n) (k - 1) 0 ≡ k = get_or-range_with_len 1 n (k - 1) 0 (omega arith) ∙ omega arith in
      rw at at (f (k - 1) 0 (omega arith) (omega (arith, length-range_with_len 1 n))))
  told false w =
      let low : w.0 < n = omega (arith, w.1, length-range_with_len 1 n) in
      word_found s (1 + w.0) (omega arith) (omega arith) (rw (get_or-range_with_len 1 n w.0 0 low) at (w.2 0))

pub returns : goal.returns
unfolding archived_word
returns c =
    let n = (main_width + aux_width) * c.args.self.now.rows in
    let cases = cases_from_all _ _ _ (λ k. archived_word c.args.self.now.bytes.now k < p) (λ k. p ≤ archived_word c.args.self.now.bytes.now k) c.all.ensures.ran
    (YieldsList-from_range 1 (1 + n) n (cc) (omega arith)) (λ x q k. search (rules, tests)) (λ x q k. search (rules, tests)) in
    told c.args.self.now.bytes.now n (ap (λ (k : ℕ). (main_width + aux_width) * k) c.args.self.now.whole.0) _ cases
