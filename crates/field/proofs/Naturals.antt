-- The ring solver at plain numbers. 𝔑 has their sums and products as they are:
--     solve 𝔑 ((var 0 :+ var 1) :* var 0) (var 0 :* var 0 :+ var 1 :* var 0) refl (a ∷ b ∷ []) : (a + b) * a ≡ a * a + b * a
-- (no differences: at 𝔑, x :- y is x). And congruences modulo p between plain sums and products, by the base elements' instance 𝔹:
--     solve_mod (var 0 :* con (2 ^ 64)) (var 0 :* con (2 ^ 32 - 1)) refl (a ∷ []) : a * 2 ^ 64 % p ≡ a * (2 ^ 32 - 1) % p
-- where e₁ :- e₂ stands for e₁ + (p - 1) * e₂ (`val`). Assumes nothing.
use Rattle.std.proofs.Common.{◌≡◌, ℕ, ◌+◌, ◌-◌, ◌*◌, ◌%◌, List, sym, refl, ap, ◌∙◌}
use native.Mathlib.Nat
use native.Mathlib.Nat.{mod-mod, mod-zero}
use Rattle.field.specs.Elements.{p, add_f, mul_f}
use Rattle.field.proofs.Ring.{Ring, Expr, var, con, neg, ◌:+◌, ◌:*◌, ◌:-◌, solve_red, den, norm, nth}
use Rattle.field.proofs.Congruence.{Cong, ◌⨾◌, c_add, c_mul, c_mod, c_sym}
use Rattle.field.proofs.RingLaws.{𝔹, sub_f_is, neg_f_is}

-- ---- identities
abbrev pub 𝔑 : Ring ℕ
𝔑 = record {
  m = 0;
  ◌⊞◌ = λ x y. x + y;
  ◌⊠◌ = λ x y. x * y;
  ◌⊟◌ = λ x y. x + 0 * y;
  opp = λ x. 0 * x;
  red = λ x. x;
  c = λ n. n;
  add_comm = Nat.add_comm;
  add_assoc = Nat.add_assoc;
  mul_comm = Nat.mul_comm;
  mul_assoc = Nat.mul_assoc;
  mul-add = Nat.mul-add;
  red_add = λ x y. refl;
  red_mul = λ x y. refl;
  add_red = λ x y. refl;
  mul_red = λ x y. refl;
  zero-add = Nat.zero-add;
  zero-mul = Nat.zero-mul;
  one-mul = Nat.one-mul;
  c_add = λ a b. refl;
  c_mul = λ a b. refl;
  c_mod = mod-zero;
  c_red = λ a. refl;
  sub_is = λ x y. refl;
  neg_is = λ x. refl;
}

-- ---- congruences modulo p
-- the value of an expression with plain sums and products; a difference is read as a + (p - 1) b
abbrev pub val : Expr → List ℕ → ℕ
val (var i) ρ = nth 0 ρ i
val (con a) ρ = a
val (a :+ b) ρ = val a ρ + val b ρ
val (a :* b) ρ = val a ρ * val b ρ
val (a :- b) ρ = val a ρ + (p - 1) * val b ρ
val (neg a) ρ = (p - 1) * val a ρ

same : {a x : ℕ} → a % p ≡ x % p → Cong p a x
same e = record { same = e }

sums : (a b x y : ℕ) → a % p ≡ x % p → b % p ≡ y % p → (a + b) % p ≡ add_f x y % p
unfolding add_f
sums a b x y e f = (c_add (same e) (same f) ⨾ c_sym c_mod).same

products : (a b x y : ℕ) → a % p ≡ x % p → b % p ≡ y % p → a * b % p ≡ mul_f x y % p
unfolding mul_f
products a b x y e f = (c_mul (same e) (same f) ⨾ c_sym c_mod).same

-- a plain expression and that of elements agree modulo p
pub val_den : (e : Expr) (ρ : List ℕ) → val e ρ % p ≡ den 𝔹 e ρ % p
val_den (var i) ρ = refl
val_den (con a) ρ = sym (mod-mod a p)
val_den (a :+ b) ρ = sums (val a ρ) (val b ρ) (den 𝔹 a ρ) (den 𝔹 b ρ) (val_den a ρ) (val_den b ρ)
val_den (a :* b) ρ = products (val a ρ) (val b ρ) (den 𝔹 a ρ) (den 𝔹 b ρ) (val_den a ρ) (val_den b ρ)
val_den (a :- b) ρ =
    sums (val a ρ) ((p - 1) * val b ρ) (den 𝔹 a ρ) (mul_f (p - 1) (den 𝔹 b ρ)) (val_den a ρ)
    (products (p - 1) (val b ρ) (p - 1) (den 𝔹 b ρ) refl (val_den b ρ))
    ∙ ap (λ t. t % p) (sym (sub_f_is (den 𝔹 a ρ) (den 𝔹 b ρ)))
val_den (neg b) ρ =
    products (p - 1) (val b ρ) (p - 1) (den 𝔹 b ρ) refl (val_den b ρ) ∙ ap (λ t. t % p) (sym (neg_f_is (den 𝔹 b ρ)))

-- the solver
pub solve_mod : (e₁ e₂ : Expr) → norm p e₁ ≡ norm p e₂ → (ρ : List ℕ) → val e₁ ρ % p ≡ val e₂ ρ % p
solve_mod e₁ e₂ q ρ = val_den e₁ ρ ∙ solve_red 𝔹 e₁ e₂ q ρ ∙ sym (val_den e₂ ρ)
