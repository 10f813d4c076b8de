-- The reasons against a client's sum in their order, 1, 8, then 2, 3, 4, 9 request by request: what each answer of the tests makes of
-- `client_reason` and `client_all`; and that the answer is 9 exactly where a denominator is zero, of a request that is admitted, with nothing
-- against those before it. The first reason of a walk is found at one request, with nothing before it (first_place). Assumes nothing.
use Prim.Native.Nat.{ℕ, zero, suc, ◌+◌, ◌<◌, ◌%◌}
use mathlib.Core.Path.{◌≡◌, refl, sym, ap, ◌∙◌}
use mathlib.Core.Bool.{Bool, true, false, not, ◌&&◌}
use mathlib.Core.List.{List}
use native.Mathlib.Nat.{add-zero, zero-add}
use native.Mathlib.Omega.{arith}
use lib.Dec.{eqb, ltb}
use lib.ListN.{length}
use borrow.Author.Tests.{eq-eqb}
use Rattle.words.specs.Answers.{Answer, done, declined}
use Rattle.words.specs.Outcomes.{answered}
use Rattle.words.specs.Refusals.{refusal_number, first_reason, decline_if, or_else, Judgement, Fine, Declined}
use Rattle.words.specs.declared.Refusal.{Refusal}
use Rattle.words.specs.declared.Refusal.TheVariants.{Shape, Stranger, Wide, BareLog, Unreduced, Flat}
use Rattle.words.proofs.Judgements.{or_next, or_first, or_both}
use Rattle.words.proofs.Outcomes.{answered_fine, answered_declined}
use Rattle.xfield.specs.Extension.{Ext, zero_x, is_zero_x}
use Rattle.xfield.specs.XFieldElements.{ext_of}
use Rattle.xfield.specs.declared.XFieldElement.{XFieldElement}
use Rattle.xfield.proofs.Laws.{reduced_same, is_zero_x_true, is_zero_x_yes}
use Rattle.isa.specs.Opcodes.{op_log2_floor, is_opcode}
use Rattle.isa.specs.Entries.{lhs, rhs, lhs_limit, rhs_limit, entry_width, judge_entry, judge_as_it_is, admitted}
use Rattle.isa.specs.declared.U32TableEntry.{U32TableEntry}
use Rattle.table.specs.Columns.{all_reduced}
use Rattle.table.specs.Challenges.{challenges_shape}
use Rattle.sums.specs.RunningSum.{denominator_ok, running_sum, element_words}
use Rattle.client_sum.specs.Client.{request_count, request_at, request_summand, request_reason, client_shape, client_reason, client_sum, client_all, terminal_answer}
use Rattle.client_sum.specs.Flat.{FirstFlat, OnlyFlat, FlatExactly}
use Rattle.std.specs.Prelude.{Ok}
use Rattle.client_sum.proofs.Sums.{request_denominator, request_reduced}

-- ---- the first reason of a walk

-- the number of what a test finds, 0 for nothing
abbrev number_of : Judgement → ℕ
number_of Fine = 0
number_of (Declined reason) = refusal_number reason

-- a 9 is found at one request, and nothing is against those before it
first_place : (g : ℕ → Judgement) (i n : ℕ) → number_of (first_reason g i n) ≡ 9
    → (k : ℕ) × (k < n) × (first_reason g i k ≡ Fine) × (number_of (g (i + k)) ≡ 9)
unfolding first_reason
first_place g i zero e = absurd (omega arith)
first_place g i (suc n) e = go (g i) refl (first_place g (suc i) n)
  where
    go : (j : Judgement) → g i ≡ j
        → (number_of (first_reason g (suc i) n) ≡ 9
        → (k : ℕ) × (k < n) × (first_reason g (suc i) k ≡ Fine) × (number_of (g (suc i + k)) ≡ 9))
        → (k : ℕ) × (k < suc n) × (first_reason g i k ≡ Fine) × (number_of (g (i + k)) ≡ 9)
    go (Declined other) a later = (0, omega arith, refl, ap number_of (ap g (add-zero i) ∙ a ∙ sym (or_first _ a)) ∙ e)
    go Fine a later =
        let (k, l, before, at) = later (ap number_of (sym (or_next _ a)) ∙ e) in
        (suc k, omega arith, or_next _ a ∙ before, ap (λ (m : ℕ). number_of (g m)) (omega arith) ∙ at)

-- and a reason with nothing before it is the first
first_at : (g : ℕ → Judgement) (i k n : ℕ) {reason : Refusal} → k < n → first_reason g i k ≡ Fine → g (i + k) ≡ Declined reason
    → first_reason g i n ≡ Declined reason
unfolding first_reason
first_at g i k zero l before at = absurd (omega arith)
first_at g i zero (suc n) l before at = or_first _ (ap g (sym (add-zero i)) ∙ at)
first_at g i (suc k) (suc n) l before at =
    let (here, rest) = or_both (g i) (first_reason g (suc i) k) before in
    or_next _ here ∙ first_at g (suc i) k n (omega arith) rest (ap g (omega arith) ∙ at)

number_told : (j : Judgement) (values : List ℕ) → answered j values ≡ declined Flat → number_of j ≡ 9
number_told Fine values e = ap (λ (a : Answer). a.number) e
number_told (Declined reason) values e = ap (λ (a : Answer). a.number) e

-- no entry is refused admission for it
admission_not_flat : (e : U32TableEntry) → number_of (judge_entry e) ≡ 9 → ⊥
unfolding judge_entry judge_as_it_is
admission_not_flat e =
    let a = admitted e in
    go (is_opcode a.opcode) (ltb (lhs a) (lhs_limit a.opcode) && ltb (rhs a) rhs_limit) (eqb a.opcode op_log2_floor && eqb (lhs a) 0)
  where
    go : (a b c : Bool) → number_of (or_else (decline_if (not a) Stranger) (or_else (decline_if (not b) Wide) (decline_if c BareLog))) ≡ 9 → ⊥
    go false b c h = omega arith
    go true false c h = omega arith
    go true true true h = omega arith
    go true true false h = omega arith

module _ (requests challenges : List ℕ) where
  abbrev judge : ℕ → Judgement
  judge = request_reason requests challenges

  abbrev count : ℕ
  count = request_count requests

  -- ---- one request
  pub not_admitted : (i : ℕ) {reason : Refusal} → judge_entry (request_at requests i) ≡ Declined reason → judge i ≡ Declined reason
  unfolding request_reason
  not_admitted i e = or_first _ e

  ok_not_zero : (i : ℕ) → denominator_ok (request_summand requests challenges i) ≡ not (is_zero_x (request_denominator requests challenges i))
  unfolding denominator_ok request_summand
  ok_not_zero i = refl

  pub is_flat : (i : ℕ) → judge_entry (request_at requests i) ≡ Fine → is_zero_x (request_denominator requests challenges i) ≡ true
      → judge i ≡ Declined Flat
  unfolding request_reason
  is_flat i a z = or_next _ a ∙ rw (ok_not_zero i, z)

  pub is_fine : (i : ℕ) → judge_entry (request_at requests i) ≡ Fine → is_zero_x (request_denominator requests challenges i) ≡ false
      → judge i ≡ Fine
  unfolding request_reason
  is_fine i a z = or_next _ a ∙ rw (ok_not_zero i, z)

  -- ---- the tests
  right_shape : length requests % entry_width ≡ 0 → challenges_shape challenges ≡ true → client_shape requests challenges ≡ true
  unfolding client_shape
  right_shape h s = rw (eq-eqb (length requests % entry_width) 0 h, s)

  by_shape : client_shape requests challenges ≡ false → client_reason requests challenges ≡ Declined Shape
  unfolding client_reason
  by_shape s = rw s

  by_words : client_shape requests challenges ≡ true → all_reduced challenges ≡ false → client_reason requests challenges ≡ Declined Unreduced
  unfolding client_reason
  by_words s r = rw (s, r)

  by_requests : client_shape requests challenges ≡ true → all_reduced challenges ≡ true
      → client_reason requests challenges ≡ first_reason judge 0 count
  unfolding client_reason
  by_requests s r = rw (s, r)

  pub request_by_request : length requests % entry_width ≡ 0 → challenges_shape challenges ≡ true → all_reduced challenges ≡ true
      → client_reason requests challenges ≡ first_reason judge 0 count
  request_by_request whole fifteen r = by_requests (right_shape whole fifteen) r

  -- ---- the answer
  pub refused : {reason : Refusal} → client_reason requests challenges ≡ Declined reason → declined reason ≡ client_all requests challenges
  unfolding client_all
  refused e = sym (answered_declined _ e)

  pub summed : {sum : XFieldElement} → client_reason requests challenges ≡ Fine → ext_of sum ≡ running_sum (request_summand requests challenges) count
      → terminal_answer (Ok sum) ≡ client_all requests challenges
  unfolding client_all client_sum
  summed e s = ap (λ (x : Ext). done (element_words x)) s ∙ sym (answered_fine _ e)

  -- ---- 9
  flat_request : (i : ℕ) → number_of (judge i) ≡ 9
      → (judge_entry (request_at requests i) ≡ Fine) × (request_denominator requests challenges i ≡ zero_x)
  flat_request i h = go (judge_entry (request_at requests i)) refl (is_zero_x (request_denominator requests challenges i)) refl
    where
      go : (j : Judgement) → judge_entry (request_at requests i) ≡ j → (t : Bool) → is_zero_x (request_denominator requests challenges i) ≡ t
          → (judge_entry (request_at requests i) ≡ Fine) × (request_denominator requests challenges i ≡ zero_x)
      go (Declined reason) a t z = absurd (admission_not_flat (request_at requests i) (ap number_of (a ∙ sym (not_admitted i a)) ∙ h))
      go Fine a false z = absurd (let n = ap number_of (sym (is_fine i a z)) ∙ h in omega arith)
      go Fine a true z = (a, sym (reduced_same _ (request_reduced requests challenges i)) ∙ is_zero_x_true _ z)

  flat_here : {i : ℕ} → FirstFlat requests challenges i → judge i ≡ Declined Flat
  flat_here {i} f =
      is_flat i f.is_admitted
      (is_zero_x_yes _ (reduced_same _ (request_reduced requests challenges i) ∙ f.zero_denominator))

  pub flat_exactly : FlatExactly requests challenges
  unfolding client_all
  flat_exactly = (
    λ e. told (number_told (client_reason requests challenges) (element_words (client_sum requests challenges)) e) (client_shape requests challenges) refl (all_reduced challenges) refl,
    λ o. answered_declined _
        (by_requests o.shapes o.reduced
        ∙ first_at judge 0 o.some_request.0 count o.some_request.1.there o.some_request.1.before
        (ap judge (zero-add _) ∙ flat_here o.some_request.1)),
  )
    where
      told : number_of (client_reason requests challenges) ≡ 9 → (s : Bool) → client_shape requests challenges ≡ s
          → (r : Bool) → all_reduced challenges ≡ r → OnlyFlat requests challenges
      told e false a r b = absurd (let n = ap number_of (sym (by_shape a)) ∙ e in omega arith)
      told e true a false b = absurd (let n = ap number_of (sym (by_words a b)) ∙ e in omega arith)
      told e true a true b =
          let (i, there, before, at) = first_place judge 0 count (ap number_of (sym (by_requests a b)) ∙ e) in
          let (fine, is_zero) = flat_request i (ap (λ (k : ℕ). number_of (judge k)) (sym (zero-add i)) ∙ at) in
          record {
            shapes = a;
            reduced = b;
            some_request = (i, record { there = there; before = before; is_admitted = fine; zero_denominator = is_zero });
          }
