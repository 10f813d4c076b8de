-- Where no key stands at two used places, none does after a change or after a key that no used place has is appended. Assumes nothing.
use Prim.Native.Nat.{ℕ, ◌<◌}
use mathlib.Core.Path.{◌≡◌, sym, ap, ◌∙◌}
use mathlib.Core.Logic.{◌⊎◌, inl, inr}
use native.Mathlib.Omega.{arith}
use Rattle.isa.specs.declared.U32TableEntry.{U32TableEntry}
use Rattle.list_record.proofs.Views.{View, Unknown, Changed, Appended, old_or_new}

abbrev pub Distinct : View → Type 0
Distinct v = (i j : ℕ) → i < v.used → j < v.used → v.key i ≡ v.key j → i ≡ j

pub changed_distinct : {a b : View} {i c g : ℕ} → Changed a b i c g → Distinct a → Distinct b
changed_distinct r d x y hx hy e =
    let u = r.same_used in
    d x y (omega arith) (omega arith) (sym (r.keys x (omega arith)) ∙ e ∙ r.keys y (omega arith))

pub appended_distinct : {a b : View} {k : U32TableEntry} {c g : ℕ} → Appended a b k c g → Unknown a k → Distinct a → Distinct b
appended_distinct {a} {b} {k} r u d x y hx hy e =
    let m = r.more_used in
    go (old_or_new a.used x (omega arith)) (old_or_new a.used y (omega arith))
  where
    go : (x < a.used) ⊎ (x ≡ a.used) → (y < a.used) ⊎ (y ≡ a.used) → x ≡ y
    go (inl p) (inl q) = d x y p q (sym (r.keys x p) ∙ e ∙ r.keys y q)
    go (inl p) (inr q) = absurd (u x p (sym (r.keys x p) ∙ e ∙ ap b.key q ∙ r.key_new))
    go (inr p) (inl q) = absurd (u y q (sym (r.keys y q) ∙ sym e ∙ ap b.key p ∙ r.key_new))
    go (inr p) (inr q) = p ∙ sym q
