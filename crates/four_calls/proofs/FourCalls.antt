-- THE CLAIM over the four calls (`four_calls`): for every list with its holds, and whatever table, aux and challenges hold, where the table
-- has a row or more and none of fill, pad and extend refuses, the check answers zero on what they leave, and the table's CopyFlag 1 rows
-- are the first rows of the keys that get a section, in list order. Room for the height is no condition, nor is it that no hold is open: fill would answer 7
-- or 15. And (`after_fill`) once fill has answered a height, pad refuses nothing, and extend no more than what it is given besides the table.
-- The table is the words of a list of honest rows in a chain; so its rows and pairs meet their constraints, the last row is an end row,
-- and the aux words are running sums.
use Prim.Native.Nat.{ℕ, suc, ◌+◌, ◌-◌, ◌*◌, ◌<◌}
use mathlib.Core.Path.{◌≡◌, sym, ap, ◌∙◌, subst}
use mathlib.Core.Bool.{true}
use mathlib.Core.List.{List, [], ◌∷◌}
use native.Mathlib.Omega.{arith}
use native.Mathlib.Numerals.{add-one}
use lib.ListN.{length, get_or}
use borrow.Author.Tests.{eq-eqb, ne_eqb}
use Rattle.std.proofs.lemmas.Bool.{and_from}
use Rattle.xfield.specs.Extension.{Ext, zero_x, HasInverse}
use Rattle.words.specs.Answers.{done}
use Rattle.words.specs.declared.Refusal.TheVariants.{Shape, Short, Unreduced}
use Rattle.words.specs.Refusals.{Fine}
use Rattle.words.specs.Outcomes.{Outcome}
use Rattle.words.proofs.Outcomes.{outcome_fine, done_fine}
use Rattle.words.proofs.Judgements.{or_next, decline_false, decline_not_true}
use Rattle.list.specs.Lists.{U32List}
use Rattle.list.specs.Heights.{section_places, list_height}
use Rattle.list.specs.Holds.{HeldList, section_list}
use Rattle.table.specs.Columns.{Row, main_width, row_at, row_count, aux_width, aux_at, table_shape, aux_shape, all_reduced}
use Rattle.table.specs.Challenges.{Challenges, challenges_of, challenges_shape, row_denominator}
use Rattle.sums.specs.RunningSum.{Summand, add_summand, running_sum, denominators_ok}
use Rattle.sums.specs.LookupSum.{summand_at, lookup_sum}
use Rattle.air.specs.Check.{AllZero, initial_at, terminal_at, ConstraintsHold, check_reason, check_all}
use Rattle.air.proofs.Lists.{TransitionZero, SumZero, zero_initial, zero_consistency, zero_transition, zero_terminal}
use Rattle.air.proofs.Claims.{zero_iff}
use Rattle.table.specs.RowWords.{table_words}
use Rattle.fill.specs.Filling.{fill_reason, fill_all}
use Rattle.sums.specs.RunningSum.{element_words, sum_words}
use Rattle.fill.specs.Extending.{extend_reason, extend_all}
use Rattle.fill.proofs.ListSections.{words_length}
use Rattle.four_calls.specs.FourCalls.{table_rows_to, copy_flag1, copy_flag1_rows, first_rows_of, sum_from, extend_refusals, AfterFill, padded_table}
use Rattle.four_calls.specs.FourCalls.{extended_aux, NoneRefuses, Honest}
use Rattle.check_plain.proofs.PlainRows.{flag_bit}
use Rattle.four_calls.proofs.HonestRows.{HonestRow, reduced, consistent}
use Rattle.four_calls.proofs.Steps.{end_terminal}
use Rattle.four_calls.proofs.RowLists.{each_map, each_at, last_at, below_at, words_rows, words_reduced, row_of_words, rows_of_words}
use Rattle.four_calls.proofs.Tables.{Chain, front, padded_chain, padded_first_rows}
use Rattle.sums.proofs.SumWords.{sums_reduced}
use Rattle.four_calls.proofs.Sums.{denominators_of_rows, sum_of_rows, next_sum_zero, first_sum_zero}
use Rattle.sums.proofs.ZeroDenominators.{ok_inverse}
use Rattle.sums.proofs.SumWords.{sums_length, sums_at}
use Rattle.extend.proofs.Reasons.{extendable}
use Rattle.four_calls.proofs.Calls.{Filled, fill_answer, fill_done, pad_done, shape_by_length}
use Rattle.four_calls.proofs.Calls.{final_rows, final_count, padded_is}

-- ---- the words of honest rows in a chain, with their running sums
module _ (xs : List Row) (chain : Chain front xs) (challenges : List ℕ) where
  abbrev words : List ℕ
  words = table_words xs

  abbrev count : ℕ
  count = row_count words

  abbrev summands : ℕ → Summand
  summands = summand_at words challenges

  abbrev sums : List ℕ
  sums = sum_words summands count

  abbrev c : Challenges
  c = challenges_of challenges

  row_at_lem : (i : ℕ) → i < count → row_at words i ≡ get_or xs i front
  row_at_lem i h = row_of_words front xs i (omega (arith, words_rows xs))

  row_honest : (i : ℕ) → i < count → HonestRow (row_at words i)
  row_honest i h = subst HonestRow (sym (row_at_lem i h)) (each_at HonestRow front xs chain.each i (omega (arith, words_rows xs)))

  pub all_reduced_lem : all_reduced words ≡ true
  all_reduced_lem = words_reduced xs (each_map HonestRow _ (λ row h. reduced h) xs chain.each)

  row_transition : (i : ℕ) → i + 1 < count → TransitionZero (row_at words i) (row_at words (i + 1))
  row_transition i h =
      rw (row_at_lem i (omega arith), row_at_lem (i + 1) h)
      (below_at TransitionZero front front xs chain.below i (omega (arith, words_rows xs)))

  last_terminal : (i : ℕ) → i + 1 ≡ count → AllZero (terminal_at words i)
  last_terminal i h =
      zero_terminal (row_at words i)
      (rw (row_at_lem i (omega arith), last_at front front xs i (omega (arith, words_rows xs))) (end_terminal chain.ends))

  module _ (ok : denominators_ok summands count ≡ true) where
    row_inverse : (i : ℕ) → i < count → (row_at words i).copy_flag ≡ 1 → HasInverse (row_denominator c (row_at words i))
    unfolding summand_at
    row_inverse i h f = ok_inverse summands count ok i h f

    first_sum : 0 < count → AllZero (initial_at words sums challenges 0)
    unfolding running_sum summand_at
    first_sum h =
        let o = row_honest 0 h in
        zero_initial c (row_at words 0) (aux_at sums 0)
        (rw (sums_at summands count 0 h)
        (first_sum_zero c (row_at words 0) (flag_bit o.flagged) o.multiplicity_limit_lem (row_inverse 0 h)))

    next_sum : (i : ℕ) → i + 1 < count → SumZero c (row_at words (i + 1)) (aux_at sums i) (aux_at sums (i + 1))
    unfolding running_sum summand_at
    next_sum i h =
        let o = row_honest (i + 1) h in
        let sum = running_sum summands (suc i) in
        rw (sums_at summands count i (omega arith), sums_at summands count (i + 1) h)
        (subst (λ (j : ℕ). SumZero c (row_at words (i + 1)) sum (add_summand (running_sum summands j) (summands (i + 1)))) (sym (add-one i))
        (next_sum_zero c (row_at words (i + 1)) sum (flag_bit o.flagged) o.multiplicity_limit_lem (row_inverse (i + 1) h)))

    constraints_hold : ConstraintsHold words sums challenges
    constraints_hold = record {
      initial = first_sum;
      consistency = λ i h. zero_consistency (row_at words i) (consistent (row_honest i h));
      transition = λ i h. zero_transition c _ _ (aux_at sums i) (aux_at sums (i + 1)) (row_transition i h) (next_sum i h);
      terminal = last_terminal;
    }

    check_accepts : table_shape words ≡ true → challenges_shape challenges ≡ true → all_reduced challenges ≡ true → 0 < count
        → check_reason words sums challenges ≡ Fine
    unfolding check_reason aux_shape
    check_accepts t s r n =
        let size = sums_length summands count in
        or_next _ (decline_not_true Shape (and_from _ _ t (and_from _ _ (eq-eqb (length sums) (aux_width * count) size) s)))
        ∙ or_next _ (decline_false Short (ne_eqb count 0 (λ e. omega arith)))
        ∙ decline_not_true Unreduced (and_from _ _ all_reduced_lem (and_from _ _ r (sums_reduced summands count)))

    pub check_zero : table_shape words ≡ true → challenges_shape challenges ≡ true → all_reduced challenges ≡ true → 0 < count
        → check_all words sums challenges ≡ done []
    check_zero t s r n = (zero_iff words sums challenges).1 (check_accepts t s r n, constraints_hold)

-- ---- extend
extend_done : (table aux challenges : List ℕ) {sum : List ℕ} → (extend_all table aux challenges).answer ≡ done sum
    → extend_reason table aux challenges ≡ Fine
unfolding extend_all
extend_done table aux challenges h =
    (done_fine (extend_reason table aux challenges) (element_words (lookup_sum table challenges)) aux (sum_words (summand_at table challenges) (row_count table)) h).0

-- what is due where there is no reason
extended_is : (table aux challenges : List ℕ) → extend_reason table aux challenges ≡ Fine
    → extend_all table aux challenges
    ≡ record { answer = done (element_words (lookup_sum table challenges)); left = sum_words (summand_at table challenges) (row_count table) }
unfolding extend_all
extended_is table aux challenges h = outcome_fine _ _ _ h

-- ---- the claim
module _ {held : HeldList} {table : List ℕ} {height : ℕ} (f : Filled held table height) where
  abbrev l : U32List
  l = section_list held

  abbrev padded : List ℕ
  padded = padded_table held table height

  final_chain : Chain front (final_rows f)
  final_chain = padded_chain l (section_places l) f.sections (row_count table - height)

  pub padded_rows_lem : row_count padded ≡ row_count table
  padded_rows_lem = ap (λ (ws : List ℕ). row_count ws) (padded_is f) ∙ words_rows (final_rows f) ∙ final_count f

  padded_shape : table_shape padded ≡ true
  padded_shape =
      shape_by_length padded table
      (ap length (padded_is f) ∙ words_length (final_rows f) ∙ ap (λ (n : ℕ). main_width * n) (final_count f) ∙ sym f.shape.whole)
      ∙ f.shape_true

  padded_reduced : all_reduced padded ≡ true
  padded_reduced = ap all_reduced (padded_is f) ∙ all_reduced_lem (final_rows f) final_chain []

  padded_copy_flag1 : copy_flag1_rows padded ≡ first_rows_of l
  padded_copy_flag1 =
      ap copy_flag1 (ap (λ (ws : List ℕ). table_rows_to ws (row_count ws)) (padded_is f) ∙ rows_of_words front (final_rows f))
      ∙ padded_first_rows l (section_places l) f.sections (row_count table - height)

  extend_refuses : (aux challenges : List ℕ) → extend_reason padded aux challenges ≡ extend_refusals l table aux challenges
  unfolding extend_reason aux_shape extend_refusals
  extend_refuses aux challenges =
      rw (padded_shape, padded_reduced, denominators_of_rows padded challenges (row_count padded), padded_copy_flag1, padded_rows_lem)

  sum_is : (challenges : List ℕ) → lookup_sum padded challenges ≡ sum_from (challenges_of challenges) zero_x (first_rows_of l)
  unfolding lookup_sum
  sum_is challenges = sum_of_rows padded challenges (row_count padded) ∙ ap (sum_from (challenges_of challenges) zero_x) padded_copy_flag1

  passes : (aux challenges : List ℕ) → 0 < row_count table → extend_reason padded aux challenges ≡ Fine
      → check_all padded (extended_aux held table height aux challenges) challenges ≡ done []
  passes aux challenges n h =
      let fine = extendable padded aux challenges h in
      ap (λ (a : List ℕ). check_all padded a challenges) (ap (λ (due : Outcome (List ℕ)). due.left) (extended_is padded aux challenges h))
      ∙ subst (λ (ws : List ℕ). row_count ws ≡ row_count table → table_shape ws ≡ true
      → denominators_ok (summand_at ws challenges) (row_count ws) ≡ true
      → check_all ws (sum_words (summand_at ws challenges) (row_count ws)) challenges ≡ done [])
      (sym (padded_is f))
      (λ count shape ok.
      check_zero (final_rows f) final_chain challenges ok shape fine.shapes.challenges_right fine.challenges_reduced (omega arith))
      padded_rows_lem padded_shape fine.denominators

pub four_calls : (held : HeldList) (table aux challenges : List ℕ) (height : ℕ) (sum : List ℕ) → 0 < row_count table
    → NoneRefuses held table aux challenges height sum
    → Honest (section_list held) (padded_table held table height) (extended_aux held table height aux challenges) challenges
four_calls held table aux challenges height sum n calls =
    let f = fill_done held table height calls.fill in
    record {
      first_rows = padded_copy_flag1 f;
      zero = passes f aux challenges n (extend_done (padded_table held table height) aux challenges calls.extend);
    }

-- ---- what can still be refused once fill has answered a height
pub after_fill : (held : HeldList) (table : List ℕ) (height : ℕ) → (fill_all held table).answer ≡ done (height ∷ []) → AfterFill held table height
after_fill held table height h =
    let f = fill_done held table height h in
    record { pad_done = pad_done f; extend_refuses = extend_refuses f; sum_is = sum_is f }

-- so none refuses where fill does not, aux and challenges are right, and no first row's denominator is zero
module _ (held : HeldList) (table aux challenges : List ℕ) where
  pub none_refuses : fill_reason held table ≡ Fine → extend_refusals (section_list held) table aux challenges ≡ Fine
      → NoneRefuses held table aux challenges (list_height (section_list held))
      (element_words (sum_from (challenges_of challenges) zero_x (first_rows_of (section_list held))))
  none_refuses fine h =
      let height = list_height (section_list held) in
      let a = after_fill held table height (fill_answer held table fine) in
      record {
        fill = fill_answer held table fine;
        pad = a.pad_done;
        extend =
            ap (λ (due : Outcome (List ℕ)). due.answer)
            (extended_is (padded_table held table height) aux challenges (a.extend_refuses aux challenges ∙ h))
            ∙ ap (λ (x : Ext). done (element_words x)) (a.sum_is challenges);
      }
