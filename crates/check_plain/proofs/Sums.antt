-- The running sum over two neighbouring rows: both of its polynomials are zero where CopyFlag of the lower row is 0 and the sum stays, and
-- where CopyFlag is 1 and the value that is asked for is zero. Assumes nothing.
use Prim.Native.Nat.{ℕ}
use mathlib.Core.Path.{◌≡◌, sym, ap, ◌∙◌}
use mathlib.Core.Bool.{true}
use Rattle.field.specs.Elements.{sub_f}
use Rattle.field.proofs.Laws.{sub_f_self}
use Rattle.xfield.specs.Extension.{Ext, zero_x, reduce_x, is_zero_x, lift_x, sub_x, mul_x, scale_x}
use Rattle.xfield.proofs.Laws.{is_zero_x_true, sub_x_self, scale_x_is, scale_x_zero, scale_x_red, mul_x_zero_right}
use Rattle.table.specs.Columns.{Row}
use Rattle.table.specs.Challenges.{Challenges}
use Rattle.air.specs.Constraints as Poly
use Rattle.air.proofs.Lists.{SumZero}

pub scale_zero : (k : ℕ) {x : Ext} → x ≡ zero_x → scale_x k x ≡ zero_x
scale_zero k {x} e = scale_x_is k x ∙ ap (mul_x (lift_x k)) e ∙ mul_x_zero_right (lift_x k)

pub zero_scale : {k : ℕ} (x : Ext) → k ≡ 0 → scale_x k x ≡ zero_x
zero_scale x e = ap (λ (k : ℕ). scale_x k x) e ∙ scale_x_zero x

-- a product with a base element that is found to be zero
pub scaled_zero : {v : Ext} (k : ℕ) (x : Ext) → v ≡ scale_x k x → is_zero_x v ≡ true → v ≡ zero_x
scaled_zero {v} k x e z = e ∙ sym (scale_x_red k x) ∙ ap reduce_x (sym e) ∙ is_zero_x_true v z

module _ (c : Challenges) (lower : Row) (sum next : Ext) where
  pub sum_stays : lower.copy_flag ≡ 0 → sum ≡ next → SumZero c lower sum next
  unfolding
      Poly.if_copy_flag_next_is_0_then_running_sum_log_derivative_stays
      Poly.if_copy_flag_next_is_1_then_running_sum_log_derivative_accumulates_next_row
  sum_stays f e = record {
    if_copy_flag_next_is_0_then_running_sum_log_derivative_stays = scale_zero _ (ap (sub_x next) e ∙ sub_x_self next);
    if_copy_flag_next_is_1_then_running_sum_log_derivative_accumulates_next_row = zero_scale _ f;
  }

  pub sum_accumulates : lower.copy_flag ≡ 1
      → Poly.if_copy_flag_next_is_1_then_running_sum_log_derivative_accumulates_next_row c lower sum next ≡ zero_x
      → SumZero c lower sum next
  unfolding Poly.if_copy_flag_next_is_0_then_running_sum_log_derivative_stays
  sum_accumulates f z = record {
    if_copy_flag_next_is_0_then_running_sum_log_derivative_stays = zero_scale _ (ap (λ (x : ℕ). sub_f x 1) f ∙ sub_f_self 1);
    if_copy_flag_next_is_1_then_running_sum_log_derivative_accumulates_next_row = z;
  }
