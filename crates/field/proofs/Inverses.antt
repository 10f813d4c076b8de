-- The inverse modulo p. inv_f a, which is a^(p - 2), is inverse-or-zero of a by Fermat (`inv_f_is`), and nothing else is
-- (`inv_f_only`), since a factor that is not 0 cancels. Assumes nothing.
use Rattle.std.proofs.Common.{◌≡◌, ℕ, ◌+◌, ◌*◌, ◌/◌, ◌%◌, ◌^◌, ◌<◌, ◌≢◌, ◌⊎◌, sym, ap, ◌∙◌, inl, inr, mod-lt, mul_comm, pow-suc, mul-zero, zero-mul, arith, lit<}
use native.Mathlib.Decide.{ℕ_discrete}
use native.Mathlib.Nat.{zero-mod}
use Rattle.field.specs.Elements.{p, add_f, mul_f, pow_f, inv_f, InverseOrZero}
use Rattle.field.proofs.Congruence.{Cong, c_eq, c_mul, c_mod, c_refl, c_below, ◌⨾◌}
use Rattle.field.proofs.Fermat.{p_fermat, p_euclid, p_cancel}
use Rattle.field.proofs.Powers.{pow_f_lt, pow_f_of_red}

-- ---- inv_f is inverse-or-zero
pub inv_f_lt : (a : ℕ) → inv_f a < p
unfolding inv_f
inv_f_lt a = pow_f_lt a 18446744069414584319

pub inv_f_none : (a : ℕ) → a % p ≡ 0 → inv_f a ≡ 0
unfolding inv_f pow_f
inv_f_none a z =
    (c_eq (pow-suc a 18446744069414584318) ⨾ c_mul c_refl (record { same = z ∙ sym (zero-mod p) })
    ⨾ c_eq (mul-zero (a ^ 18446744069414584318))).same

pub inv_f_product : (a : ℕ) → a % p ≢ 0 → mul_f a (inv_f a) ≡ 1
unfolding inv_f pow_f mul_f
inv_f_product a h =
    (c_mul c_refl c_mod ⨾ c_eq (mul_comm a (a ^ 18446744069414584319) ∙ sym (pow-suc a 18446744069414584319))).same
    ∙ p_fermat a h

pub inv_f_is : (a : ℕ) → InverseOrZero a (inv_f a)
inv_f_is a = record { below = inv_f_lt a; none = inv_f_none a; product = inv_f_product a }

-- ---- nothing else is
-- what has an inverse is not 0
pub unit_not_zero : (a b : ℕ) → mul_f a b ≡ 1 → a % p ≢ 0
unfolding mul_f
unit_not_zero a b e z =
    let zero : Cong p a 0 = record { same = z } in
    let o : ◌≡◌ {A = ℕ} 1 0 = sym e ∙ (c_mul zero (c_refl {a = b}) ⨾ c_eq (zero-mul b)).same in
    omega arith

-- two inverses are the same modulo p
pub inverse_unique : (a b d : ℕ) → mul_f a b ≡ 1 → mul_f a d ≡ 1 → b % p ≡ d % p
unfolding mul_f
inverse_unique a b d e f = (p_cancel a (unit_not_zero a b e) (record { same = e ∙ sym f })).same

-- a word whose product with a is 1 is inv_f a
pub inv_f_by_product : (a r : ℕ) → r < p → mul_f a r ≡ 1 → r ≡ inv_f a
inv_f_by_product a r l e =
    c_below l (inv_f_lt a) (record { same = inverse_unique a r (inv_f a) e (inv_f_product a (unit_not_zero a r e)) })

pub inv_f_only : (a r : ℕ) → InverseOrZero a r → r ≡ inv_f a
inv_f_only a r h = pick (ℕ_discrete (a % p) 0)
  where
    pick : Dec (a % p ≡ 0) → r ≡ inv_f a
    pick (yes z) = h.none z ∙ sym (inv_f_none a z)
    pick (no f) = inv_f_by_product a r h.below (h.product f)

-- ---- laws
-- it depends on a modulo p alone
pub inv_f_of_red : (a : ℕ) → inv_f (a % p) ≡ inv_f a
unfolding inv_f
inv_f_of_red a = pow_f_of_red a 18446744069414584319

pub inv_f_not_zero : (a : ℕ) → a % p ≢ 0 → inv_f a ≢ 0
unfolding mul_f
inv_f_not_zero a h z =
    let o : ◌≡◌ {A = ℕ} 0 1 = sym (ap (λ (x : ℕ). x % p) (mul-zero a)) ∙ ap (λ (r : ℕ). a * r % p) (sym z) ∙ inv_f_product a h in
    omega arith

-- half of an even number: its inverse is twice the whole's
pub inv_f_half : (x : ℕ) → x % 2 ≡ 0 → add_f (inv_f x) (inv_f x) ≡ inv_f (x / 2)
unfolding add_f mul_f
inv_f_half x even = pick (ℕ_discrete (x / 2 % p) 0)
  where
    twice : 2 * (x / 2) ≡ x
    twice = omega arith

    two_is_not_zero : (2 % p ≡ 0) ⊎ (x / 2 % p ≡ 0) → x / 2 % p ≡ 0
    two_is_not_zero (inl e) = omega arith
    two_is_not_zero (inr e) = e

    whole : x / 2 % p ≢ 0 → x % p ≢ 0
    whole f e = f (two_is_not_zero (p_euclid 2 (x / 2) (ap (λ (n : ℕ). n % p) twice ∙ e)))

    regroup : (h i : ℕ) → h * (i + i) ≡ 2 * h * i
    regroup h i = omega arith

    pick : Dec (x / 2 % p ≡ 0) → add_f (inv_f x) (inv_f x) ≡ inv_f (x / 2)
    pick (yes z) = ap (λ (n : ℕ). (n + n) % p) none ∙ sym (inv_f_none (x / 2) z)
      where
        none : inv_f x ≡ 0
        none =
            let h : Cong p (x / 2) 0 = record { same = z ∙ sym (zero-mod p) } in
            inv_f_none x (c_eq (sym twice) ⨾ c_mul (c_refl {a = 2}) h ⨾ c_eq (mul-zero 2)).same
    pick (no f) =
        inv_f_by_product (x / 2) (add_f (inv_f x) (inv_f x)) (mod-lt (inv_f x + inv_f x) (lit< tt))
        ((c_mul c_refl c_mod ⨾ c_eq (regroup (x / 2) (inv_f x) ∙ ap (λ (n : ℕ). n * inv_f x) twice)).same ∙ inv_f_product x (whole f))
