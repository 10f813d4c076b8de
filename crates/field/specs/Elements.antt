-- Elements (document 01, "Elements"): arithmetic modulo p, over the natural numbers. Every operation takes any naturals
-- and answers below p.
use Rattle.std.specs.Prelude.{◌≡◌, ℕ, ◌+◌, ◌-◌, ◌*◌, ◌%◌, ◌^◌, ◌<◌, Bool, ◌≢◌, ◌==◌}
use Rattle.std.specs.Cmp.{IsEquivalence, on_equiv, nat_eq_equiv}

-- "p = 2^64 − 2^32 + 1 = 18446744069414584321"
abbrev pub p : ℕ
p = 18446744069414584321

-- "Add, subtract, multiply .. answer below p, modulo p, for any 64-bit content"
unfoldable pub add_f : ℕ → ℕ → ℕ
add_f a b = (a + b) % p

-- a − b: what b lacks to a multiple of p is added
unfoldable pub sub_f : ℕ → ℕ → ℕ
sub_f a b = (a + (p - b % p)) % p

unfoldable pub neg_f : ℕ → ℕ
neg_f a = (p - a % p) % p

unfoldable pub mul_f : ℕ → ℕ → ℕ
mul_f a b = (a * b) % p

-- a to the power e. It stays shut at two numerals, where a ^ e would be computed whole; proofs/Powers.antt computes it
unfoldable pub pow_f : ℕ → ℕ → ℕ
pow_f a e = a ^ e % p

-- "inverse-or-zero": r is below p; it is 0 where a is 0 modulo p, and elsewhere a · r is 1. Exactly one r is
-- (proofs/Inverses.antt)
pub record InverseOrZero (a r : ℕ) : Type 0 where
  pub below : r < p
  pub none : a % p ≡ 0 → r ≡ 0
  pub product : a % p ≢ 0 → mul_f a r ≡ 1

-- That r, as a function: a^(p − 2), by Fermat. proofs/Inverses.antt shows InverseOrZero a (inv_f a), which is all that is used
-- of it
unfoldable pub inv_f : ℕ → ℕ
inv_f a = pow_f a 18446744069414584319

-- Elements are told apart by their content modulo p
unfoldable pub is_zero_f : ℕ → Bool
is_zero_f a = a % p == 0

unfoldable pub equal_f : ℕ → ℕ → Bool
equal_f a b = a % p == b % p

-- which is an equivalence
pub equal_f_equivalence : IsEquivalence equal_f
unfolding equal_f
equal_f_equivalence = on_equiv (λ a. a % p) nat_eq_equiv
