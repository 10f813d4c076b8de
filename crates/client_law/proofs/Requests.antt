-- Entries as a client's requests. The requests in the words of some entries are these entries (each_request), as many as they are (request_count_lem). So
-- where each is admitted and no denominator is zero, the client's call is not declined (client_fine). Assumes nothing.
use Prim.Native.Nat.{ℕ, zero, suc, ◌+◌, ◌*◌, ◌%◌, ◌≤◌, ◌<◌}
use mathlib.Core.Path.{◌≡◌, refl, sym, ap, ◌∙◌}
use mathlib.Core.Bool.{Bool, true, false, and-eq-true_iff}
use mathlib.Core.List.{List, [], ◌∷◌, ◌++◌, flat_map}
use mathlib.Core.Logic.{◌≢◌}
use native.Mathlib.Omega.{arith}
use lib.ListN.{length, get_or, length-append}
use lib.Seq.{get_or-append-add}
use borrow.Author.Tests.{eq-eqb}
use Rattle.words.specs.Refusals.{Fine}
use Rattle.words.specs.declared.Refusal.TheVariants.{Shape, Unreduced, Flat}
use Rattle.words.proofs.Judgements.{or_next, decline_not_true, first_none}
use Rattle.xfield.specs.Extension.{zero_x, Reduced}
use Rattle.xfield.proofs.Laws.{sub_x_reduced, reduced_same}
use Rattle.isa.specs.declared.U32TableEntry.{U32TableEntry}
use Rattle.isa.specs.Entries.{entry_words, entry_width, judge_entry, admitted}
use Rattle.isa.proofs.Comparing.{entries_same}
use Rattle.list_record.proofs.RecordViews.{EachEntry}
use Rattle.table.specs.Columns.{all_reduced}
use Rattle.table.specs.Challenges.{Challenges, challenges_of, challenges_shape, denominator}
use Rattle.sums.specs.RunningSum.{denominator_ok}
use Rattle.sums.proofs.ZeroDenominators.{not_ok_iff}
use Rattle.client_sum.specs.Client.{entry_denominator, request_count, request_at, request_summand, client_shape, request_reason, client_reason}
use Rattle.client_law.specs.ClientLaw.{NoZeroDenominator, request_words}

-- ---- the requests are the entries

words_length : (es : List U32TableEntry) → length (request_words es) ≡ entry_width * length es
unfolding flat_map
words_length [] = refl
words_length (e ∷ es) = length-append (entry_words e) (request_words es) ∙ omega (arith, words_length es)

pub request_count_lem : (es : List U32TableEntry) → request_count (request_words es) ≡ length es
request_count_lem es = omega (arith, words_length es)

pub whole_entries : (es : List U32TableEntry) → length (request_words es) % entry_width ≡ 0
whole_entries es = omega (arith, words_length es)

first_request : (e : U32TableEntry) (es : List U32TableEntry) → request_at (request_words (e ∷ es)) 0 ≡ e
unfolding flat_map request_at
first_request e es = refl

later_word : (e : U32TableEntry) (ws : List ℕ) (i k : ℕ) → get_or (entry_words e ++ ws) (entry_width * suc i + k) 0 ≡ get_or ws (entry_width * i + k) 0
later_word e ws i k =
    let past : entry_width * suc i + k ≡ 3 + (entry_width * i + k) = omega arith in
    ap (λ (j : ℕ). get_or (entry_words e ++ ws) j 0) past ∙ get_or-append-add (entry_words e) ws (entry_width * i + k) 0

later_request : (e : U32TableEntry) (es : List U32TableEntry) (i : ℕ) → request_at (request_words (e ∷ es)) (suc i) ≡ request_at (request_words es) i
unfolding flat_map request_at
later_request e es i =
    let ws = request_words es in
    let past : entry_width * suc i ≡ 3 + entry_width * i = omega arith in
    entries_same
    (ap (λ (j : ℕ). get_or (entry_words e ++ ws) j 0) past ∙ get_or-append-add (entry_words e) ws (entry_width * i) 0)
    (later_word e ws i 1)
    (later_word e ws i 2)

pub each_request : (P : U32TableEntry → Type 0) (es : List U32TableEntry) → EachEntry P es
    → (i : ℕ) → i < length es → P (request_at (request_words es) i)
each_request P [] each i h = absurd (omega arith)
each_request P (e ∷ es) each zero h = rw (first_request e es) each.0
each_request P (e ∷ es) each (suc i) h = rw (later_request e es i) (each_request P es each.1 i (omega arith))

-- ---- the call

pub entry_reduced : (c : Challenges) (e : U32TableEntry) → Reduced (entry_denominator c e)
unfolding denominator
entry_reduced c e = sub_x_reduced _ _

module _ (challenges : List ℕ) where
  abbrev c : Challenges
  c = challenges_of challenges

  pub not_zero : (es : List U32TableEntry) → NoZeroDenominator c es → EachEntry (λ e. entry_denominator c (admitted e) ≢ zero_x) es
  not_zero [] n = tt
  not_zero (e ∷ es) n = (n.0, not_zero es n.1)

  denominator_fine : (requests : List ℕ) (i : ℕ) → entry_denominator c (admitted (request_at requests i)) ≢ zero_x
      → denominator_ok (request_summand requests challenges i) ≡ true
  unfolding request_summand
  denominator_fine requests i n = go (denominator_ok (request_summand requests challenges i)) refl where
    go : (t : Bool) → denominator_ok (request_summand requests challenges i) ≡ t → t ≡ true
    go true e = refl
    go false e = absurd (n (sym (reduced_same _ (entry_reduced c _)) ∙ ((not_ok_iff (request_summand requests challenges i)).0 e).1))

  pub client_fine : (es : List U32TableEntry) → challenges_shape challenges ≡ true → all_reduced challenges ≡ true
      → EachEntry (λ e. judge_entry e ≡ Fine) es → NoZeroDenominator c es → client_reason (request_words es) challenges ≡ Fine
  unfolding client_reason client_shape request_reason
  client_fine es s r fine n =
      or_next _ (decline_not_true Shape ((and-eq-true_iff _ _).1 (eq-eqb _ 0 (whole_entries es), s)))
      ∙ or_next _ (decline_not_true Unreduced r)
      ∙ first_none (request_reason (request_words es) challenges) 0 (request_count (request_words es)) each
    where
      each : (i : ℕ) → 0 ≤ i → i < 0 + request_count (request_words es) → request_reason (request_words es) challenges i ≡ Fine
      each i a b =
          let h : i < length es = omega (arith, request_count_lem es) in
          or_next _ (each_request (λ e. judge_entry e ≡ Fine) es fine i h)
          ∙ decline_not_true Flat
          (denominator_fine (request_words es) i (each_request (λ e. entry_denominator c (admitted e) ≢ zero_x) es (not_zero es n) i h))
