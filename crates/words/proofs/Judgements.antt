-- Laws of judgements: what it tells that a chain of tests finds nothing, and how the first reason of a list is found entry by entry.
use mathlib.Core.Path.{◌≡◌, refl, sym, ap, ◌∙◌}
use mathlib.Core.Bool.{Bool, true, false, not}
use mathlib.Core.Logic.{⊎_elim}
use Prim.Native.Nat.{ℕ, zero, suc, ◌+◌, ◌-◌, ◌≤◌, ◌<◌}
use native.Mathlib.Nat.{eq-or-lt_of_le, sub-zero}
use native.Mathlib.Numerals.{add-one}
use native.Mathlib.Omega.{arith}
use Rattle.std.specs.Prelude.{Result, Err, IsErrAnd}
use Rattle.std.proofs.lemmas.Result.{err_from_is_err_and}
use Rattle.words.specs.declared.Refusal.{Refusal}
use Rattle.words.specs.Refusals.{Judgement, Fine, Declined, decline_if, or_else, first_reason}

-- what leaves a function at a `?` is the reason that was found
pub handed_on : {T : Type 0} {k : Refusal} (r : Result T Refusal) → IsErrAnd r (λ e. e ≡ k) → r ≡ Err k
handed_on r e = let p = err_from_is_err_and r e in p.1 ∙ ap Err p.2

pub fine_not_declined : {k : Refusal} → Fine ≡ Declined k → ⊥
fine_not_declined e = let z : ◌≡◌ {A = ℕ} 0 1 = cc in omega arith

-- ---- one test

pub decline_true : {t : Bool} (k : Refusal) → t ≡ true → decline_if t k ≡ Declined k
decline_true k e = rw e

pub decline_false : {t : Bool} (k : Refusal) → t ≡ false → decline_if t k ≡ Fine
decline_false k e = rw e

pub decline_not_true : {t : Bool} (k : Refusal) → t ≡ true → decline_if (not t) k ≡ Fine
decline_not_true k e = rw e

pub decline_fine : (t : Bool) (k : Refusal) → decline_if t k ≡ Fine → t ≡ false
decline_fine true k e = absurd (fine_not_declined (sym e))
decline_fine false k e = refl

pub decline_not_fine : (t : Bool) (k : Refusal) → decline_if (not t) k ≡ Fine → t ≡ true
decline_not_fine true k e = refl
decline_not_fine false k e = absurd (fine_not_declined (sym e))

-- ---- one test after another

pub or_next : {a : Judgement} (b : Judgement) → a ≡ Fine → or_else a b ≡ b
or_next b e = rw e

pub or_first : {a : Judgement} (b : Judgement) {k : Refusal} → a ≡ Declined k → or_else a b ≡ Declined k
or_first b e = rw e

pub or_fine : (a : Judgement) → or_else a Fine ≡ a
or_fine Fine = refl
or_fine (Declined k) = refl

pub or_both : (a b : Judgement) → or_else a b ≡ Fine → (a ≡ Fine) × (b ≡ Fine)
or_both Fine b e = (refl, e)
or_both (Declined k) b e = absurd (fine_not_declined (sym e))

-- ---- entry by entry

module _ (g : ℕ → Judgement) (i n : ℕ) where
  pub first_hit : {k : Refusal} → i < n → g i ≡ Declined k → first_reason g i (n - i) ≡ Declined k
  unfolding first_reason
  first_hit h e = let d : n - i ≡ suc (n - (i + 1)) = omega arith in rw d (or_first _ e)

  pub first_step : i < n → g i ≡ Fine → first_reason g i (n - i) ≡ first_reason g (i + 1) (n - (i + 1))
  unfolding first_reason
  first_step h e = let d : n - i ≡ suc (n - (i + 1)) = omega arith in rw (d, add-one i) (or_next _ e)

  pub first_done : n ≤ i → first_reason g i (n - i) ≡ Fine
  unfolding first_reason
  first_done h = let d : n - i ≡ 0 = omega arith in rw d

pub first_start : (g : ℕ → Judgement) (n : ℕ) → first_reason g 0 (n - 0) ≡ first_reason g 0 n
first_start g n = rw sub-zero

-- nothing is found exactly where nothing is against any of them
pub first_fine : (g : ℕ → Judgement) (i n : ℕ) → first_reason g i n ≡ Fine → (j : ℕ) → i ≤ j → j < i + n → g j ≡ Fine
unfolding first_reason
first_fine g i zero e j p q = absurd (omega arith)
first_fine g i (suc n) e j p q =
    let o = or_both (g i) (first_reason g (suc i) n) e in
    ⊎_elim (λ (d : i ≡ j). rw (← d) o.0) (λ d. first_fine g (suc i) n o.1 j d (omega arith)) (eq-or-lt_of_le p)

pub first_none : (g : ℕ → Judgement) (i n : ℕ) → ((j : ℕ) → i ≤ j → j < i + n → g j ≡ Fine) → first_reason g i n ≡ Fine
unfolding first_reason
first_none g i zero f = refl
first_none g i (suc n) f = or_next _ (f i (omega arith) (omega arith)) ∙ first_none g (suc i) n (λ j p q. f j (omega arith) (omega arith))

-- it depends on those n entries alone
pub first_cong : (f g : ℕ → Judgement) (i n : ℕ) → ((j : ℕ) → i ≤ j → j < i + n → f j ≡ g j) → first_reason f i n ≡ first_reason g i n
unfolding first_reason
first_cong f g i zero e = refl
first_cong f g i (suc n) e =
    rw (e i (omega arith) (omega arith), first_cong f g (suc i) n (λ j p q. e j (omega arith) (omega arith)))
