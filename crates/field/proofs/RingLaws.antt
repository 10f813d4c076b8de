-- Base elements are a commutative ring modulo p: the laws, each by the library's laws of sums and products under %, and the
-- instance 𝔹 of the solver made of them. Equations hold as they stand, on any numbers, but for those with 0 or 1 as neutral
-- element, whose other side is a remainder (add_f 0 a ≡ a % p). Assumes nothing.
use Rattle.std.proofs.Common.{◌≡◌, ℕ, ◌+◌, ◌-◌, ◌*◌, ◌%◌, ◌<◌, sym, refl, ap, ◌∙◌, add_assoc, mod-lt, mul_assoc, mul_comm, add_comm, one-mul, zero-add, zero-mul, mul-add, arith, lit<}
use native.Mathlib.Nat.{mod-mod, add-mod-mod, mod-add-mod, add-mul-mod_self_left}
use Rattle.std.proofs.lemmas.Nat.{mul-mod_first, mul-mod_second}
use Rattle.field.specs.Elements.{p, add_f, mul_f, sub_f, neg_f}
use Rattle.field.proofs.Ring.{Ring}

-- ---- every answer is below p
pub p_pos : 0 < p
p_pos = lit< tt

pub add_f_lt : (a b : ℕ) → add_f a b < p
unfolding add_f
add_f_lt a b = mod-lt (a + b) p_pos

pub mul_f_lt : (a b : ℕ) → mul_f a b < p
unfolding mul_f
mul_f_lt a b = mod-lt (a * b) p_pos

pub sub_f_lt : (a b : ℕ) → sub_f a b < p
unfolding sub_f
sub_f_lt a b = mod-lt (a + (p - b % p)) p_pos

pub neg_f_lt : (a : ℕ) → neg_f a < p
unfolding neg_f
neg_f_lt a = mod-lt (p - a % p) p_pos

-- ---- the laws
pub add_f_comm : (a b : ℕ) → add_f a b ≡ add_f b a
unfolding add_f
add_f_comm a b = ap (λ t. t % p) (add_comm a b)

pub add_f_assoc : (a b d : ℕ) → add_f (add_f a b) d ≡ add_f a (add_f b d)
unfolding add_f
add_f_assoc a b d = mod-add-mod (a + b) p d ∙ ap (λ t. t % p) (add_assoc a b d) ∙ sym (add-mod-mod a (b + d) p)

pub mul_f_comm : (a b : ℕ) → mul_f a b ≡ mul_f b a
unfolding mul_f
mul_f_comm a b = ap (λ t. t % p) (mul_comm a b)

pub mul_f_assoc : (a b d : ℕ) → mul_f (mul_f a b) d ≡ mul_f a (mul_f b d)
unfolding mul_f
mul_f_assoc a b d = mul-mod_first (a * b) d p ∙ ap (λ t. t % p) (mul_assoc a b d) ∙ sym (mul-mod_second a (b * d) p)

pub mul_f_add_f : (a b d : ℕ) → mul_f a (add_f b d) ≡ add_f (mul_f a b) (mul_f a d)
unfolding mul_f add_f
mul_f_add_f a b d =
    mul-mod_second a (b + d) p ∙ ap (λ t. t % p) (mul-add a b d)
    ∙ sym (mod-add-mod (a * b) p ((a * d) % p) ∙ add-mod-mod (a * b) (a * d) p)

-- p - r is (p - 1) r, modulo p
less : (r : ℕ) → r < p → (p - r) + p * r ≡ (p - 1) * r + p
less r r< = omega arith

less_mod : (b : ℕ) → (p - b % p) % p ≡ ((p - 1) * b) % p
less_mod b =
    sym (add-mul-mod_self_left (p - b % p) p (b % p))
    ∙ ap (λ t. t % p) (less (b % p) (mod-lt b p_pos))
    ∙ drop ((p - 1) * (b % p))
    ∙ mul-mod_second (p - 1) b p
  where
    drop : (x : ℕ) → (x + p) % p ≡ x % p
    drop x = omega arith

pub sub_f_is : (a b : ℕ) → sub_f a b ≡ add_f a (mul_f ((p - 1) % p) b)
unfolding sub_f add_f mul_f
sub_f_is a b = sym (add-mod-mod a (p - b % p) p) ∙ ap (λ t. (a + t) % p) (less_mod b)

pub neg_f_is : (a : ℕ) → neg_f a ≡ mul_f ((p - 1) % p) a
unfolding neg_f mul_f
neg_f_is a = less_mod a

-- ---- the laws that hold up to % p
pub add_f_red : (a b : ℕ) → add_f a b % p ≡ add_f a b
unfolding add_f
add_f_red a b = mod-mod (a + b) p

pub mul_f_red : (a b : ℕ) → mul_f a b % p ≡ mul_f a b
unfolding mul_f
mul_f_red a b = mod-mod (a * b) p

pub sub_f_red : (a b : ℕ) → sub_f a b % p ≡ sub_f a b
unfolding sub_f
sub_f_red a b = mod-mod (a + (p - b % p)) p

pub add_f_of_red : (a b : ℕ) → add_f a (b % p) ≡ add_f a b
unfolding add_f
add_f_of_red a b = add-mod-mod a b p

pub mul_f_of_red : (a b : ℕ) → mul_f a (b % p) ≡ mul_f a b
unfolding mul_f
mul_f_of_red a b = mul-mod_second a b p

pub add_f_zero : (a : ℕ) → add_f 0 a ≡ a % p
unfolding add_f
add_f_zero a = ap (λ t. t % p) (zero-add a)

pub mul_f_zero_left : (a : ℕ) → mul_f 0 a ≡ 0
unfolding mul_f
mul_f_zero_left a = ap (λ t. t % p) (zero-mul a)

pub mul_f_one : (a : ℕ) → mul_f 1 a ≡ a % p
unfolding mul_f
mul_f_one a = ap (λ t. t % p) (one-mul a)

pub red_add_f : (a b : ℕ) → (a + b) % p ≡ add_f (a % p) (b % p)
unfolding add_f
red_add_f a b = sym (mod-add-mod a p (b % p) ∙ add-mod-mod a b p)

pub red_mul_f : (a b : ℕ) → (a * b) % p ≡ mul_f (a % p) (b % p)
unfolding mul_f
red_mul_f a b = sym (mul-mod_first a (b % p) p ∙ mul-mod_second a b p)

-- ---- the base field, for the solver
abbrev pub 𝔹 : Ring ℕ
𝔹 = record {
  m = p;
  ◌⊞◌ = add_f;
  ◌⊠◌ = mul_f;
  ◌⊟◌ = sub_f;
  opp = neg_f;
  red = λ x. x % p;
  c = λ n. n % p;
  add_comm = add_f_comm;
  add_assoc = add_f_assoc;
  mul_comm = mul_f_comm;
  mul_assoc = mul_f_assoc;
  mul-add = mul_f_add_f;
  red_add = add_f_red;
  red_mul = mul_f_red;
  add_red = add_f_of_red;
  mul_red = mul_f_of_red;
  zero-add = add_f_zero;
  zero-mul = mul_f_zero_left;
  one-mul = mul_f_one;
  c_add = red_add_f;
  c_mul = red_mul_f;
  c_mod = λ a. mod-mod a p;
  c_red = λ a. mod-mod a p;
  sub_is = sub_f_is;
  neg_is = neg_f_is;
}

pub neg_one : add_f (1 % p) ((p - 1) % p) ≡ 0 % p
unfolding add_f
neg_one = refl
