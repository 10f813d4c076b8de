-- Euclid's algorithm on p and a, with coefficients that have no sign. Modulo p, a * t1 is r1 and a * t0 is -r0 (`low`, `high`), and
-- t1 * r0 + t0 * r1 is p (`whole`), so that a coefficient is at most p while its remainder is not 0. A remainder is never 0 before
-- it is 1: t * s = p with 1 < s < p cannot be, p being prime. At remainder 1 the coefficient, or p less it, is the inverse. The
-- loop makes two divisions a turn: `Turning` is what it keeps at its test, `Halfway` what holds between the two. Assumes nothing.
use Rattle.std.proofs.Common.{◌≡◌, ℕ, zero, suc, ◌+◌, ◌-◌, ◌*◌, ◌/◌, ◌%◌, ◌<◌, ◌≤◌, ◌≢◌, sym, refl, ap, ◌∙◌, add-zero, mod-lt, mod-eq_of_lt, mul_assoc, add-mul, mul-zero, div-add-mod', zero-add, zero-mul, mul-one, arith}
use native.Mathlib.Nat.{mul-mod_left}
use native.Mathlib.Decide.{ℕ_discrete}
use Rattle.field.specs.Elements.{p, neg_f, mul_f, inv_f}
use Rattle.field.proofs.Congruence.{Cong, c_eq, c_mul, c_add, c_mod, c_refl, c_sym, ◌⨾◌}
use Rattle.field.proofs.Primality.{p_prime}
use Rattle.field.proofs.Fermat.{rest}
use Rattle.field.proofs.Inverses.{inv_f_by_product, inv_f_none, inv_f_product}

-- what a pair of remainders r, s and of coefficients t, u keeps
abbrev pub Whole : ℕ → ℕ → ℕ → ℕ → Type 0
Whole r s t u = u * r + t * s ≡ p

-- r and t after a turn
pub whole_turn : (r s t u : ℕ) → Whole r s t u → Whole (r % s) s (t + r / s * u) u
whole_turn r s t u w = omega (arith, w, ap (λ (x : ℕ). u * x) (div-add-mod' r s))

-- a coefficient is at most p
pub fits : (r s t u : ℕ) → Whole r s t u → 0 < s → t ≤ p
fits r zero t u w h = elim h [ ]
fits r (suc s) t u w h = omega (arith, w)

-- and below it, before the last turn
strict : (r s t u : ℕ) → Whole r s t u → 0 < s → s ≢ 1 → t < p
strict r zero t u w h ne = omega arith
strict r (suc zero) t u w h ne = absurd (ne refl)
strict r (suc (suc s)) t u w h ne = omega (arith, w)

-- a remainder of two turns is never 0, for p is prime
pub rest_turn : (r s t u : ℕ) → Whole r s t u → 0 < s → s ≢ 1 → s < p → 0 < r % s
rest_turn r s t u w h ne l = pick (ℕ_discrete (r % s) 0)
  where
    pick : Dec (r % s ≡ 0) → 0 < r % s
    pick (yes z) =
        let e : (t + r / s * u) * s ≡ p = omega (arith, whole_turn r s t u w, ap (λ (x : ℕ). u * x) z) in
        let b : 0 < p % s = rest p p_prime s (omega arith) l in
        let d : p % s ≡ 0 = ap (λ (x : ℕ). x % s) (sym e) ∙ mul-mod_left (t + r / s * u) s in
        omega arith
    pick (no f) = omega arith

-- a * t is -r and a * u is s modulo p
pub high_turn : (a r s t u : ℕ) → Cong p (a * t + r) 0 → Cong p (a * u) s → Cong p (a * (t + r / s * u) + r % s) 0
high_turn a r s t u ht hu =
    c_eq {b = a * t + (r / s * (a * u) + r % s)} (omega arith)
    ⨾ c_add c_refl (c_add (c_mul c_refl hu) c_refl ⨾ c_eq (div-add-mod' r s))
    ⨾ ht

pub low_turn : (a r s t u : ℕ) → Cong p (a * t) r → Cong p (a * u + s) 0 → Cong p (a * (t + r / s * u)) (r % s)
low_turn a r s t u ht hu =
    c_eq {b = a * t + r / s * (a * u)} (omega arith)
    ⨾ c_add (ht ⨾ c_eq (sym (div-add-mod' r s))) c_refl
    ⨾ c_eq {b = r / s * (a * u + s) + r % s} (omega arith)
    ⨾ c_add (c_mul c_refl hu ⨾ c_eq (mul-zero (r / s))) c_refl
    ⨾ c_eq (zero-add (r % s))

-- what the loop keeps, at the test
pub record Turning (a r0 r1 t0 t1 : ℕ) : Type 0 where
  pub some : 0 < r1
  pub small : r1 < p
  pub fit : t1 < p
  pub whole : Whole r0 r1 t0 t1
  pub high : Cong p (a * t0 + r0) 0
  pub low : Cong p (a * t1) r1

pub begin : (a : ℕ) → 0 < a → a < p → Turning a p a 0 1
begin a h l =
    record {
      some = h;
      small = l;
      fit = omega arith;
      whole = omega arith;
      high = c_eq {b = p} (omega arith) ⨾ record { same = refl };
      low = c_eq (mul-one a);
    }

-- what it keeps between its two turns
pub record Halfway (a r0 r1 t0 t1 : ℕ) : Type 0 where
  pub some : 0 < r0
  pub less : r0 < r1
  pub small : r1 < p
  pub whole : Whole r1 r0 t1 t0
  pub fit : t0 ≤ p
  pub high : Cong p (a * t0 + r0) 0
  pub low : Cong p (a * t1) r1

pub halfway : (a r0 r1 t0 t1 : ℕ) → Turning a r0 r1 t0 t1 → r1 ≢ 1 → Halfway a (r0 % r1) r1 (t0 + r0 / r1 * t1) t1
halfway a r0 r1 t0 t1 i ne =
    record {
      some = rest_turn r0 r1 t0 t1 i.whole i.some ne i.small;
      less = mod-lt r0 i.some;
      small = i.small;
      whole = omega (arith, whole_turn r0 r1 t0 t1 i.whole);
      fit = fits (r0 % r1) r1 (t0 + r0 / r1 * t1) t1 (whole_turn r0 r1 t0 t1 i.whole) i.some;
      high = high_turn a r0 r1 t0 t1 i.high i.low;
      low = i.low;
    }

pub second_fits : (a r0 r1 t0 t1 : ℕ) → Halfway a r0 r1 t0 t1 → t1 + r1 / r0 * t0 ≤ p
second_fits a r0 r1 t0 t1 i = fits (r1 % r0) r0 (t1 + r1 / r0 * t0) t0 (whole_turn r1 r0 t1 t0 i.whole) i.some

pub again : (a r0 r1 t0 t1 : ℕ) → Halfway a r0 r1 t0 t1 → r0 ≢ 1 → Turning a r0 (r1 % r0) t0 (t1 + r1 / r0 * t0)
again a r0 r1 t0 t1 i ne =
    record {
      some = rest_turn r1 r0 t1 t0 i.whole i.some ne (omega arith);
      small = omega (arith, mod-lt r1 i.some);
      fit = strict (r1 % r0) r0 (t1 + r1 / r0 * t0) t0 (whole_turn r1 r0 t1 t0 i.whole) i.some ne;
      whole = omega (arith, whole_turn r1 r0 t1 t0 i.whole);
      high = i.high;
      low = low_turn a r1 r0 t1 t0 i.low i.high;
    }

-- a's inverse is x's where a is x modulo p
inverse : (x a r : ℕ) → a ≡ x % p → r < p → Cong p (a * r) 1 → r ≡ inv_f x
unfolding mul_f
inverse x a r e h i = inv_f_by_product x r h (c_mul (c_sym c_mod ⨾ c_eq (sym e)) c_refl ⨾ i).same

pub none : (x a : ℕ) → a ≡ x % p → a ≡ 0 → 0 ≡ inv_f x
none x a e z = sym (inv_f_none x (sym e ∙ z))

-- the loop ends with r1 at 1
pub ends_low : (x a r0 r1 t0 t1 : ℕ) → a ≡ x % p → Turning a r0 r1 t0 t1 → r1 ≡ 1 → t1 ≡ inv_f x
ends_low x a r0 r1 t0 t1 e i one = inverse x a t1 e i.fit (i.low ⨾ c_eq one)

joined : (a d t r q : ℕ) → d + t ≡ q → r ≡ 1 → a * d + (a * t + r) ≡ a * q + 1
joined a d t r q e o = omega (arith, ap (λ (y : ℕ). a * y) e)

-- or with r0 at 1
pub ends_high : (x a r0 r1 t0 t1 : ℕ) → a ≡ x % p → Halfway a r0 r1 t0 t1 → r0 ≡ 1 → p - t0 ≡ inv_f x
ends_high x a r0 r1 t0 t1 e i one = inverse x a (p - t0) e (pick (ℕ_discrete t0 0)) prod
  where
    pick : Dec (t0 ≡ 0) → p - t0 < p
    pick (yes z) =
        let b : Cong p 1 0 = c_eq {b = a * t0 + r0} (omega (arith, ap (λ (y : ℕ). a * y) z)) ⨾ i.high in
        let o : ◌≡◌ {A = ℕ} 1 0 = b.same in
        omega arith
    pick (no f) = omega (arith, i.fit)

    prod : Cong p (a * (p - t0)) 1
    prod =
        c_eq (sym (add-zero (a * (p - t0)))) ⨾ c_add c_refl (c_sym i.high)
        ⨾ c_eq (joined a (p - t0) t0 r0 p back one)
        ⨾ c_add (c_mul (c_refl {a = a}) (record { same = refl }) ⨾ c_eq (mul-zero a)) c_refl
      where
        back : p - t0 + t0 ≡ p
        back = omega (arith, i.fit)

-- The same down to a remainder whose inverse i is known.
known : (k i : ℕ) → 0 < k → k < p → i ≡ inv_f k → Cong p (k * i) 1
unfolding mul_f
known k i h l e =
    c_eq (ap (λ (n : ℕ). k * n) e) ⨾ record { same = inv_f_product k (λ z. omega (arith, sym (mod-eq_of_lt l) ∙ z)) }

pub table_low : (x a r0 r1 t0 t1 i r : ℕ) → a ≡ x % p → Turning a r0 r1 t0 t1 → i ≡ inv_f r1 → r ≡ mul_f t1 i → r ≡ inv_f x
unfolding mul_f
table_low x a r0 r1 t0 t1 i r e h ei er =
    er ∙ inverse x a (mul_f t1 i) e (mod-lt (t1 * i) (omega arith))
    (c_mul c_refl c_mod ⨾ c_eq (sym (mul_assoc a t1 i)) ⨾ c_mul h.low c_refl ⨾ known r1 i h.some h.small ei)

pub table_high : (x a r0 r1 t0 t1 i m r : ℕ) → a ≡ x % p → Halfway a r0 r1 t0 t1 → i ≡ inv_f r0 → m ≡ mul_f t0 i → r ≡ neg_f m → r ≡ inv_f x
unfolding mul_f neg_f
table_high x a r0 r1 t0 t1 i m r e h ei em er = inverse x a r e (omega (arith, er)) prod
  where
    -- r + m is 0, and a * m is -1
    rm : Cong p (r + m) 0
    rm =
        let l : m < p = omega (arith, em) in
        c_add (c_eq er ⨾ c_mod) c_refl ⨾ c_eq (back l) ⨾ record { same = refl }
      where
        back : m < p → p - m % p + m ≡ p
        back l = omega (arith, mod-eq_of_lt l)

    am : Cong p (a * m + 1) 0
    am =
        c_add (c_mul c_refl (c_eq em ⨾ c_mod) ⨾ c_eq (sym (mul_assoc a t0 i))) (c_sym (known r0 i h.some (omega arith) ei))
        ⨾ c_eq (sym (add-mul (a * t0) r0 i)) ⨾ c_mul h.high c_refl ⨾ c_eq (zero-mul i)

    regroup : a * r + (a * m + 1) ≡ a * (r + m) + 1
    regroup = omega arith

    prod : Cong p (a * r) 1
    prod =
        c_eq (sym (add-zero (a * r))) ⨾ c_add c_refl (c_sym am) ⨾ c_eq regroup
        ⨾ c_add (c_mul (c_refl {a = a}) rm ⨾ c_eq (mul-zero a)) c_refl
