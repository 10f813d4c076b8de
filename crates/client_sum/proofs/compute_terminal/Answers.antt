-- `client_sum::compute_terminal` meets its contract. The loop's invariant: the first reason against the call is the first among the requests from
-- `i` on, and `sum` is the sum of those before it. A request that is refused, or whose denominator is zero, decides the answer; at the end all
-- have been passed. Assumes nothing.
use Prim.Native.Nat.{ℕ, ◌+◌}
use mathlib.Core.Path.{◌≡◌, refl, sym, ap, ◌∙◌}
use mathlib.Core.Bool.{true, false}
use mathlib.Core.List.{List}
use native.Mathlib.Omega.{arith}
use Rattle.std.specs.Prelude.{Ok, Err}
use Rattle.words.specs.Refusals.{Fine, Declined}
use Rattle.words.specs.declared.Refusal.{Refusal}
use Rattle.words.specs.declared.Refusal.TheVariants.{Flat}
use Rattle.words.proofs.Judgements.{handed_on, first_hit, first_step, first_done, first_start}
use Rattle.xfield.specs.Extension.{Ext, add_x, is_zero_x, InverseOrZeroX}
use Rattle.xfield.specs.Inverses.{inv_x}
use Rattle.xfield.proofs.Inverses.{inv_x_only}
use Rattle.isa.specs.declared.U32TableEntry.{U32TableEntry}
use Rattle.isa.specs.Entries.{entry_in, judge_entry, admitted, admit}
use Rattle.isa.proofs.Entries.{admit_admitted, admit_refused}
use Rattle.table.specs.Challenges.{Challenges, challenges_of}
use Rattle.sums.specs.RunningSum.{running_sum}
use Rattle.client_sum.specs.Client.{entry_denominator, request_count, request_at, request_summand, request_reason}
use Rattle.client_sum.proofs.Sums.{request_denominator, request_turn}
use Rattle.client_sum.proofs.Reasons.{not_admitted, is_flat, is_fine, request_by_request, refused, summed}
use Rattle.client_sum.proofs.compute_terminal.Goals as goal

-- ---- a turn: request i, as it was read, and what `admit` answered
module _ (requests challenges : List ℕ) (i : ℕ) {request : U32TableEntry} (at : request ≡ entry_in requests i) where
  is_admitted : {e : U32TableEntry} → Ok e ≡ admit request → (judge_entry (request_at requests i) ≡ Fine) × (e ≡ admitted (request_at requests i))
  unfolding request_at
  is_admitted told = rw (← at) (admit_admitted request (sym told))

  is_refused : {reason : Refusal} → Err reason ≡ admit request → request_reason requests challenges i ≡ Declined reason
  unfolding request_at
  is_refused told = not_admitted requests challenges i (rw (← at) (admit_refused request (sym told)))

  module _ {e : U32TableEntry} (told : Ok e ≡ admit request) {c : Challenges} (known : c ≡ challenges_of challenges)
      {d : Ext} (found : d ≡ entry_denominator c e) where
    denominator_known : d ≡ request_denominator requests challenges i
    denominator_known = found ∙ rw (known, (is_admitted told).1)

    flat_turn : is_zero_x d ≡ true → request_reason requests challenges i ≡ Declined Flat
    flat_turn z = is_flat requests challenges i (is_admitted told).0 (ap is_zero_x (sym denominator_known) ∙ z)

    fine_turn : is_zero_x d ≡ false → request_reason requests challenges i ≡ Fine
    fine_turn z = is_fine requests challenges i (is_admitted told).0 (ap is_zero_x (sym denominator_known) ∙ z)

    sum_turn : {sum next inverse : Ext} → sum ≡ running_sum (request_summand requests challenges) i
        → InverseOrZeroX d inverse → next ≡ add_x sum inverse → next ≡ running_sum (request_summand requests challenges) (i + 1)
    sum_turn {sum} {next} {inverse} s v n = request_turn requests challenges i s (n ∙ ap (add_x sum) (inv_x_only d inverse v ∙ ap inv_x denominator_known))

pub loop-i-init : goal.loop-i-init
unfolding running_sum
loop-i-init c = (
  request_by_request _ _ (omega (arith, c.if-requests-ne0.false)) (sym c.if-not-has_shape.ensures)
      (sym c.if-not-all_reduced.ensures)
      ∙ sym (first_start _ _),
  refl,
)

pub returns-in_err-entry : goal.returns-in_err-entry
returns-in_err-entry c =
    rw (handed_on _ c.from_residual.ensures.1)
    (refused _ _
    (c.loop-i.invariant.0 ∙ first_hit _ _ _ c.loop-i-test.true (is_refused _ _ _ c.at.ensures c.in_err-entry.ensures)))

pub returns-then-is_zero : goal.returns-then-is_zero
returns-then-is_zero c =
    refused _ _
    (c.loop-i.invariant.0
    ∙ first_hit _ _ _ c.loop-i-test.true
    (flat_turn _ _ _ c.at.ensures c.in_ok-entry.ensures c.from_words-elements.ensures c.denominator_of-denominator.ensures
    (sym c.is_zero.ensures ∙ c.if-is_zero.true)))

pub loop-i-preserved : goal.loop-i-preserved
loop-i-preserved c =
    let at = c.at.ensures in
    let told = c.in_ok-entry.ensures in
    let known = c.from_words-elements.ensures in
    let found = c.denominator_of-denominator.ensures in (
      c.loop-i.invariant.0
          ∙ first_step _ _ _ c.loop-i-test.true (fine_turn _ _ _ at told known found (sym c.is_zero.ensures ∙ c.if-is_zero.false)),
      sum_turn _ _ _ at told known found c.loop-i.invariant.1 c.inverse_or_zero.ensures c.add-sum.ensures,
    )

pub returns : goal.returns
returns c =
    let all : c.loop-i.i ≡ request_count c.args.requests.now = omega arith in
    summed _ _ (c.loop-i.invariant.0 ∙ first_done _ _ _ (omega arith)) (c.loop-i.invariant.1 ∙ ap (running_sum _) all)
