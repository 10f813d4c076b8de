use Rattle.std.proofs.Common.{◌≡◌, ℕ, ◌*◌, ◌/◌, ◌%◌, ◌<◌, ◌≢◌, sym, ap, ◌∙◌, arith}
use Rattle.field.specs.Elements.{p, mul_f, pow_f}
use Rattle.field.proofs.Laws.{mul_f_lt, mul_f_comm, mul_f_assoc, mul_f_one_left, mul_f_one_right, pow_f_lt, pow_f_zero, pow_f_suc, pow_f_square}
use Rattle.field.proofs.BFieldElement.pow.Goals as goal
use Rattle.field.proofs.BFieldElement.pow.Goals.{then-rest-eq1, else-rest-eq1}

-- ---- a turn, from `power` to `next`
module _ (power square rest : ℕ) {next : ℕ} where
  -- an even rest
  even_turn : rest % 2 ≢ 1 → next ≡ power → mul_f next (pow_f (mul_f square square) (rest / 2)) ≡ mul_f power (pow_f square rest)
  even_turn h e = rw e (ap (mul_f power) (pow_f_square square (rest / 2) ∙ ap (pow_f square) (omega arith)))

  -- an odd one
  odd_turn : rest % 2 ≡ 1 → next ≡ mul_f power square → mul_f next (pow_f (mul_f square square) (rest / 2)) ≡ mul_f power (pow_f square rest)
  odd_turn h e =
      rw e
      (mul_f_assoc power square _
      ∙ ap (mul_f power)
      (ap (mul_f square) (pow_f_square square (rest / 2)) ∙ mul_f_comm square _ ∙ sym (pow_f_suc square (2 * (rest / 2)))
      ∙ ap (pow_f square) (omega arith)))

pub loop-rest-init : goal.loop-rest-init
loop-rest-init c = (omega arith, mul_f_one_left _ (pow_f_lt _ _))

pub loop-rest-preserved : goal.loop-rest-preserved
loop-rest-preserved c =
    let square = c.loop-rest.square.0 in
    let rest = c.loop-rest.rest in
    let next = c.if-rest-eq1.power.0 in
    let turn : mul_f next (pow_f (mul_f square square) (rest / 2)) ≡ mul_f c.loop-rest.power.0 (pow_f square rest) =
    elim c.if-rest-eq1.branch [
      | then-rest-eq1 w ↦ odd_turn _ _ _ w.if-rest-eq1.true (ap (λ x. x.0) w.power-is ∙ w.mul-power.ensures)
      | else-rest-eq1 w ↦ even_turn _ _ _ w.if-rest-eq1.false (ap (λ x. x.0) w.power-is)
    ] in
    let small : next < p =
    elim c.if-rest-eq1.branch [
      | then-rest-eq1 w ↦ rw (w.power-is, w.mul-power.ensures) (mul_f_lt _ _)
      | else-rest-eq1 w ↦ rw w.power-is c.loop-rest.invariant.0
    ] in
    (small, ap (λ n. mul_f next (pow_f n (rest / 2))) c.mul-square.ensures ∙ turn ∙ c.loop-rest.invariant.1)

pub returns : goal.returns
returns c =
    sym (mul_f_one_right _ c.loop-rest.invariant.0)
    ∙ ap (mul_f c.loop-rest.power.0) (sym (ap (pow_f c.loop-rest.square.0) (omega arith) ∙ pow_f_zero c.loop-rest.square.0))
    ∙ c.loop-rest.invariant.1
