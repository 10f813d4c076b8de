-- The claims of the check, over its answer. It answers zero exactly where it does not refuse and every constraint is zero (zero_iff); then
-- each CopyFlag 1 row tells the truth (sound), and the last running sum is the sum over the CopyFlag 1 rows where no denominator of
-- theirs is zero (sum).
use Prim.Native.Nat.{ℕ, ◌+◌, ◌-◌, ◌<◌}
use mathlib.Core.Path.{◌≡◌, refl, ◌∙◌, subst}
use mathlib.Core.Logic.{◌↔◌}
use mathlib.Core.List.{List, []}
use native.Mathlib.Omega.{arith}
use Rattle.words.specs.Answers.{Answer, done}
use Rattle.words.proofs.Answers.{declined_not_done}
use Rattle.words.specs.Refusals.{Judgement, Fine, Declined}
use Rattle.table.specs.Columns.{row_at, row_count}
use Rattle.sums.specs.LookupSum.{lookup_sum}
use Rattle.air.specs.Check.{AllZero, initial_at, consistency_at, transition_at, terminal_at, ConstraintsHold, check_reason, first_nonzero, checked_as, check_all}
use Rattle.air.specs.Claim.{RowTells, DenominatorsNotZero, last_sum}
use Rattle.table.proofs.Rows.{row_reduced}
use Rattle.air.proofs.Values.{AllReducedX, initial_reduced, consistency_reduced, transition_reduced, terminal_reduced}
use Rattle.air.proofs.Scan.{rows_zero, zero_rows}
use Rattle.air.proofs.Judging.{Accepted, accepted}
use Rattle.air.proofs.Soundness as Soundness
use Rattle.air.proofs.RunningSums as RunningSums

-- ---- a refusal is not the answer zero
not_refused : (j : Judgement) (found : Answer) → checked_as j found ≡ done [] → (j ≡ Fine) × (found ≡ done [])
not_refused Fine found e = (refl, e)
not_refused (Declined reason) found e = absurd (declined_not_done reason e)

-- ---- the search finds nothing exactly where every constraint is zero
module _ (table aux challenges : List ℕ) where
  constraints_found_zero : ConstraintsHold table aux challenges → 0 < row_count table → first_nonzero table aux challenges ≡ done []
  unfolding first_nonzero
  constraints_found_zero holds h =
      rows_zero (initial_at table aux challenges) 0 0 1 _ (λ i l. subst (λ (x : ℕ). AllZero (initial_at table aux challenges x)) (omega arith) (holds.initial h))
      ∙ rows_zero (consistency_at table) 1 0 (row_count table) _
      (λ i l. subst (λ (x : ℕ). AllZero (consistency_at table x)) (omega arith) (holds.consistency i l))
      ∙ rows_zero (transition_at table aux challenges) 2 0 _ _
      (λ i l. subst (λ (x : ℕ). AllZero (transition_at table aux challenges x)) (omega arith) (holds.transition i (omega arith)))
      ∙ rows_zero (terminal_at table) 3 (row_count table - 1) 1 (done []) (λ i l. holds.terminal (row_count table - 1 + i) (omega arith))

  found_zero_constraints : Accepted table aux challenges → first_nonzero table aux challenges ≡ done [] → ConstraintsHold table aux challenges
  unfolding first_nonzero
  found_zero_constraints ok e =
      let first = zero_rows (initial_at table aux challenges) 0 0 1 _ (λ i l. initial_reduced _ _ _) e in
      let rows = zero_rows (consistency_at table) 1 0 (row_count table) _ (λ i l. consistency_reduced _) first.1 in
      let pairs = zero_rows (transition_at table aux challenges) 2 0 _ _ (λ i l. transition_reduced _ _ _ _ _) rows.1 in
      let last = zero_rows (terminal_at table) 3 (row_count table - 1) 1 (done []) (λ i l. last_reduced (row_count table - 1 + i) (omega arith)) pairs.1 in
      record {
        initial = λ h. subst (λ (x : ℕ). AllZero (initial_at table aux challenges x)) (omega arith) (first.0 0 (omega arith));
        consistency = λ i h. subst (λ (x : ℕ). AllZero (consistency_at table x)) (omega arith) (rows.0 i h);
        transition = λ i h. subst (λ (x : ℕ). AllZero (transition_at table aux challenges x)) (omega arith) (pairs.0 i (omega arith));
        terminal = λ i h. subst (λ (x : ℕ). AllZero (terminal_at table x)) (omega arith) (last.0 0 (omega arith));
      }
    where
      last_reduced : (i : ℕ) → i < row_count table → AllReducedX (terminal_at table i)
      last_reduced i h = terminal_reduced (row_at table i) (row_reduced table ok.table_reduced i h).rhs_below

  -- ---- the claims
  pub zero_iff : (check_all table aux challenges ≡ done []) ↔ ((check_reason table aux challenges ≡ Fine) × ConstraintsHold table aux challenges)
  unfolding check_all
  zero_iff = (forwards, backwards)
    where
      forwards : check_all table aux challenges ≡ done [] → (check_reason table aux challenges ≡ Fine) × ConstraintsHold table aux challenges
      forwards e =
          let parts = not_refused (check_reason table aux challenges) (first_nonzero table aux challenges) e in
          (parts.0, found_zero_constraints (accepted table aux challenges parts.0) parts.1)

      backwards : (check_reason table aux challenges ≡ Fine) × ConstraintsHold table aux challenges → check_all table aux challenges ≡ done []
      backwards h = rw h.0 (constraints_found_zero h.1 (accepted table aux challenges h.0).some_row)

  pub sound : check_all table aux challenges ≡ done [] → (i : ℕ) → i < row_count table → (row_at table i).copy_flag ≡ 1
      → RowTells (row_at table i)
  sound e =
      let h = zero_iff.0 e in
      Soundness.sound table aux challenges (accepted table aux challenges h.0).table_reduced h.1

  pub sum : check_all table aux challenges ≡ done [] → DenominatorsNotZero table challenges → last_sum table aux ≡ lookup_sum table challenges
  sum e not_zero =
      let h = zero_iff.0 e in
      let ok = accepted table aux challenges h.0 in
      RunningSums.last_is_lookup_sum table aux challenges ok.table_reduced ok.aux_reduced ok.aux_length h.1 not_zero ok.some_row
