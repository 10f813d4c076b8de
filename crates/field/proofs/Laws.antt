-- The laws by which the table knows elements. A caller reads this page from top to bottom and cites it; what add_f, sub_f, mul_f
-- and their fellows are made of stays shut above the fields. Identities of sums and products alone are the ring solver's
-- (proofs/Ring.antt, instance 𝔹 of proofs/RingLaws.antt). A "word" below is a number below p.
--
-- The proofs are linear arithmetic modulo p, which `omega` decides; what is said of products rests on Euclid's lemma, p being
-- prime. Assumes nothing.
use Rattle.std.proofs.Common.{◌≡◌, ℕ, ◌+◌, ◌-◌, ◌*◌, ◌/◌, ◌%◌, ◌^◌, ◌<◌, ◌≤◌, true, false, ◌≢◌, ◌⊎◌, sym, refl, ap, ◌∙◌, inl, inr, mod-eq_of_lt, arith, lit<, eq-eqb, ne_eqb, eqb-true}
use native.Mathlib.Nat.{mod-mod}
use native.Mathlib.Decide.{ℕ_discrete}
use borrow.Author.Tests.{eqb-false}
use Rattle.field.specs.Elements.{p, add_f, sub_f, neg_f, mul_f, inv_f, is_zero_f, equal_f}
use Rattle.field.proofs.Fermat.{p_euclid, p_cancel}
-- ---- answers are words: add_f a b < p, and so on; so that a remainder leaves them alone: add_f a b % p ≡ add_f a b
pub use Rattle.field.proofs.RingLaws.{add_f_lt, sub_f_lt, neg_f_lt, mul_f_lt, add_f_red, sub_f_red, mul_f_red}
-- operands count modulo p alone: add_f a (b % p) ≡ add_f a b, mul_f a (b % p) ≡ mul_f a b
pub use Rattle.field.proofs.RingLaws.{add_f_of_red, mul_f_of_red}
-- order and grouping; mul_f a (add_f b d) ≡ add_f (mul_f a b) (mul_f a d)
pub use Rattle.field.proofs.RingLaws.{add_f_comm, add_f_assoc, mul_f_comm, mul_f_assoc, mul_f_add_f}
-- 0 times anything is 0: mul_f 0 a ≡ 0
pub use Rattle.field.proofs.RingLaws.{mul_f_zero_left}
-- ---- inverse-or-zero: inv_f a < p; a % p ≡ 0 → inv_f a ≡ 0; a % p ≢ 0 → mul_f a (inv_f a) ≡ 1; no other word is so (inv_f_only,
-- inv_f_by_product); inv_f (a % p) ≡ inv_f a; a % p ≢ 0 → inv_f a ≢ 0; x % 2 ≡ 0 → add_f (inv_f x) (inv_f x) ≡ inv_f (x / 2)
pub use Rattle.field.proofs.Inverses.{inv_f_lt, inv_f_none, inv_f_product, inv_f_only, inv_f_by_product}
pub use Rattle.field.proofs.Inverses.{inv_f_of_red, inv_f_not_zero, inv_f_half}
-- ---- powers: pow_f a e < p; pow_f a 0 ≡ 1; pow_f a 1 ≡ a % p; pow_f a (e + 1) ≡ mul_f (pow_f a e) a;
-- pow_f a (2 * e) ≡ mul_f (pow_f a e) (pow_f a e); pow_f a (2 * e + 1) ≡ mul_f (mul_f (pow_f a e) (pow_f a e)) a; pow_f (a % p) e ≡ pow_f a e;
-- pow_f (mul_f a a) e ≡ pow_f a (2 * e).
-- Powers and inverses of numerals are computed: pow_f_is, inv_f_computed of proofs/Powers.antt
pub use Rattle.field.proofs.Powers.{pow_f_lt, pow_f_zero, pow_f_one, pow_f_suc, pow_f_double, pow_f_double_suc, pow_f_of_red, pow_f_square}

-- ---- words
pub word_red : {a : ℕ} → a < p → a % p ≡ a
word_red l = mod-eq_of_lt l

-- a word that is not 0 is not 0 modulo p
pub word_not_zero : {a : ℕ} → a < p → a ≢ 0 → a % p ≢ 0
word_not_zero l f z = f (sym (mod-eq_of_lt l) ∙ z)

pub sub_f_of_red : (a b : ℕ) → sub_f a (b % p) ≡ sub_f a b
unfolding sub_f
sub_f_of_red a b = ap (λ (x : ℕ). (a + (p - x)) % p) (mod-mod b p)

pub sub_f_red_of : (a b : ℕ) → sub_f (a % p) b ≡ sub_f a b
unfolding sub_f
sub_f_red_of a b = omega arith

-- ---- 0 and 1
pub add_f_zero_left : (a : ℕ) → a < p → add_f 0 a ≡ a
unfolding add_f
add_f_zero_left a l = omega arith

pub add_f_zero_right : (a : ℕ) → a < p → add_f a 0 ≡ a
add_f_zero_right a l = add_f_comm a 0 ∙ add_f_zero_left a l

pub sub_f_zero_right : (a : ℕ) → a < p → sub_f a 0 ≡ a
unfolding sub_f
sub_f_zero_right a l = omega arith

pub mul_f_one_left : (a : ℕ) → a < p → mul_f 1 a ≡ a
unfolding mul_f
mul_f_one_left a l = omega arith

pub mul_f_one_right : (a : ℕ) → a < p → mul_f a 1 ≡ a
mul_f_one_right a l = mul_f_comm a 1 ∙ mul_f_one_left a l

-- 0 times anything is 0
pub mul_f_zero_right : (a : ℕ) → mul_f a 0 ≡ 0
mul_f_zero_right a = mul_f_comm a 0 ∙ mul_f_zero_left a

-- ---- small numbers are added, multiplied and subtracted as they are
pub add_f_small : (a b : ℕ) → a + b < p → add_f a b ≡ a + b
unfolding add_f
add_f_small a b l = mod-eq_of_lt l

pub mul_f_small : (a b : ℕ) → a * b < p → mul_f a b ≡ a * b
unfolding mul_f
mul_f_small a b l = mod-eq_of_lt l

pub sub_f_small : (a b : ℕ) → b ≤ a → a < p → sub_f a b ≡ a - b
unfolding sub_f
sub_f_small a b l h = omega arith

-- a number and a word more, less the number, is the word, and less twice a number likewise
pub sub_f_more : (a r : ℕ) → r < p → sub_f (a + r) a ≡ r
unfolding sub_f
sub_f_more a r l = omega arith

pub sub_f_double : (a r : ℕ) → r < p → sub_f (2 * a + r) (mul_f 2 a) ≡ r
unfolding sub_f mul_f
sub_f_double a r l = omega arith

-- and below 0 a difference comes back from p
pub sub_f_wraps : (a b : ℕ) → a < b → b < p → sub_f a b ≡ p - (b - a)
unfolding sub_f
sub_f_wraps a b l h = omega arith

-- ---- a difference is 0 where the two sides are the same
pub sub_f_self : (a : ℕ) → sub_f a a ≡ 0
unfolding sub_f
sub_f_self a = omega arith

pub sub_f_same : (a b : ℕ) → a % p ≡ b % p → sub_f a b ≡ 0
unfolding sub_f
sub_f_same a b e = omega arith

pub sub_f_zero_same : (a b : ℕ) → sub_f a b ≡ 0 → a % p ≡ b % p
unfolding sub_f
sub_f_zero_same a b e = omega arith

-- for words: they are equal
pub sub_f_zero_eq : (a b : ℕ) → a < p → b < p → sub_f a b ≡ 0 → a ≡ b
sub_f_zero_eq a b la lb e = sym (mod-eq_of_lt la) ∙ sub_f_zero_same a b e ∙ mod-eq_of_lt lb

-- for words that differ, such as two literals, it is not 0
pub sub_f_not_zero : (a b : ℕ) → a < p → b < p → a ≢ b → sub_f a b ≢ 0
sub_f_not_zero a b la lb f e = f (sub_f_zero_eq a b la lb e)

-- ---- from one side of an equation to the other
pub sub_f_to_add_f : (a b r : ℕ) → a < p → sub_f a b ≡ r → add_f b r ≡ a
unfolding sub_f add_f
sub_f_to_add_f a b r l e = omega arith

pub add_f_to_sub_f : (a b r : ℕ) → r < p → add_f b r ≡ a → sub_f a b ≡ r
unfolding sub_f add_f
add_f_to_sub_f a b r l e = omega arith

-- where nothing wraps: a − b = r on words means a = b + r
pub sub_f_plain : (a b r : ℕ) → a < p → b + r < p → sub_f a b ≡ r → a ≡ b + r
unfolding sub_f
sub_f_plain a b r l h e = omega arith

pub add_f_sub_f : (a b : ℕ) → a < p → add_f (sub_f a b) b ≡ a
unfolding sub_f add_f
add_f_sub_f a b l = omega arith

pub sub_f_add_f : (a b : ℕ) → a < p → sub_f (add_f a b) b ≡ a
unfolding sub_f add_f
sub_f_add_f a b l = omega arith

pub add_f_cancel : (a b d : ℕ) → b < p → d < p → add_f a b ≡ add_f a d → b ≡ d
unfolding add_f
add_f_cancel a b d lb ld e = omega arith

-- the opposite
pub sub_f_zero_left : (a : ℕ) → sub_f 0 a ≡ neg_f a
unfolding sub_f neg_f
sub_f_zero_left a = omega arith

pub add_f_neg_f : (a : ℕ) → add_f a (neg_f a) ≡ 0
unfolding add_f neg_f
add_f_neg_f a = omega arith

-- ---- bits
-- x halves to y, and the bit b is left: x − 2 y = b in the field says so of the numbers
pub bit_law : (x y b : ℕ) → x < p → y < 2 ^ 32 → b ≤ 1 → sub_f x (mul_f 2 y) ≡ b → x ≡ 2 * y + b
unfolding sub_f mul_f
bit_law x y b lx ly lb e = omega arith

-- the bit that leaves a number that is halved
pub bit_of_half : (x : ℕ) → sub_f x (mul_f 2 (x / 2)) ≡ x % 2
unfolding sub_f mul_f
bit_of_half x = omega arith

-- ---- a product is 0 only where a factor is
pub no_zero_divisors : (a b : ℕ) → mul_f a b ≡ 0 → (a % p ≡ 0) ⊎ (b % p ≡ 0)
unfolding mul_f
no_zero_divisors a b e = p_euclid a b e

pub no_zero_divisors_word : (a b : ℕ) → a < p → b < p → mul_f a b ≡ 0 → (a ≡ 0) ⊎ (b ≡ 0)
no_zero_divisors_word a b la lb e = pick (no_zero_divisors a b e)
  where
    pick : (a % p ≡ 0) ⊎ (b % p ≡ 0) → (a ≡ 0) ⊎ (b ≡ 0)
    pick (inl z) = inl (sym (mod-eq_of_lt la) ∙ z)
    pick (inr z) = inr (sym (mod-eq_of_lt lb) ∙ z)

-- one factor is not 0, so the other is
pub mul_f_zero_first : (a b : ℕ) → a < p → b % p ≢ 0 → mul_f a b ≡ 0 → a ≡ 0
mul_f_zero_first a b l f e = pick (no_zero_divisors a b e)
  where
    pick : (a % p ≡ 0) ⊎ (b % p ≡ 0) → a ≡ 0
    pick (inl z) = sym (mod-eq_of_lt l) ∙ z
    pick (inr z) = absurd (f z)

pub mul_f_zero_second : (a b : ℕ) → b < p → a % p ≢ 0 → mul_f a b ≡ 0 → b ≡ 0
mul_f_zero_second a b l f e = mul_f_zero_first b a l f (mul_f_comm b a ∙ e)

pub mul_f_not_zero : (a b : ℕ) → a % p ≢ 0 → b % p ≢ 0 → mul_f a b ≢ 0
mul_f_not_zero a b f g e = pick (no_zero_divisors a b e)
  where
    pick : (a % p ≡ 0) ⊎ (b % p ≡ 0) → ⊥
    pick (inl z) = f z
    pick (inr z) = g z

pub mul_f_not_zero_word : (a b : ℕ) → a < p → b < p → a ≢ 0 → b ≢ 0 → mul_f a b ≢ 0
mul_f_not_zero_word a b la lb f g = mul_f_not_zero a b (word_not_zero la f) (word_not_zero lb g)

-- a factor that is not 0 cancels
pub mul_f_cancel : (a b d : ℕ) → a % p ≢ 0 → mul_f a b ≡ mul_f a d → b % p ≡ d % p
unfolding mul_f
mul_f_cancel a b d f e = (p_cancel a f (record { same = e })).same

pub mul_f_cancel_word : (a b d : ℕ) → a % p ≢ 0 → b < p → d < p → mul_f a b ≡ mul_f a d → b ≡ d
mul_f_cancel_word a b d f lb ld e = sym (mod-eq_of_lt lb) ∙ mul_f_cancel a b d f e ∙ mod-eq_of_lt ld

-- ---- flags: a (a − 1) = 0, or a (1 − a) = 0, says that a is 0 or 1
pub flag_minus_one : (a : ℕ) → a < p → mul_f a (sub_f a 1) ≡ 0 → (a ≡ 0) ⊎ (a ≡ 1)
flag_minus_one a l e = pick (no_zero_divisors_word a (sub_f a 1) l (sub_f_lt a 1) e)
  where
    pick : (a ≡ 0) ⊎ (sub_f a 1 ≡ 0) → (a ≡ 0) ⊎ (a ≡ 1)
    pick (inl z) = inl z
    pick (inr z) = inr (sub_f_zero_eq a 1 l (lit< tt) z)

pub flag_one_minus : (a : ℕ) → a < p → mul_f a (sub_f 1 a) ≡ 0 → (a ≡ 0) ⊎ (a ≡ 1)
flag_one_minus a l e = pick (no_zero_divisors_word a (sub_f 1 a) l (sub_f_lt 1 a) e)
  where
    pick : (a ≡ 0) ⊎ (sub_f 1 a ≡ 0) → (a ≡ 0) ⊎ (a ≡ 1)
    pick (inl z) = inl z
    pick (inr z) = inr (sym (sub_f_zero_eq 1 a (lit< tt) l z))

pub flag_le : {a : ℕ} → (a ≡ 0) ⊎ (a ≡ 1) → a ≤ 1
flag_le (inl z) = omega arith
flag_le (inr z) = omega arith

-- and 0 and 1 are flags
pub flag_zero : mul_f 0 (sub_f 0 1) ≡ 0
flag_zero = mul_f_zero_left (sub_f 0 1)

pub flag_one : mul_f 1 (sub_f 1 1) ≡ 0
flag_one = ap (mul_f 1) (sub_f_self 1) ∙ mul_f_zero_right 1

-- ---- inverse-or-zero
pub inv_f_zero : inv_f 0 ≡ 0
inv_f_zero = inv_f_none 0 refl

pub inv_f_product_word : (a : ℕ) → a < p → a ≢ 0 → mul_f a (inv_f a) ≡ 1
inv_f_product_word a l f = inv_f_product a (word_not_zero l f)

-- 1 − a · i: the mark that a is 0. It is 1 where a is 0, whatever i is, and 0 where i is a's inverse
pub one_minus_zero : (i : ℕ) → sub_f 1 (mul_f 0 i) ≡ 1
one_minus_zero i = ap (sub_f 1) (mul_f_zero_left i) ∙ sub_f_zero_right 1 (lit< tt)

pub one_minus_product_lem : (a : ℕ) → a % p ≢ 0 → sub_f 1 (mul_f a (inv_f a)) ≡ 0
one_minus_product_lem a f = ap (sub_f 1) (inv_f_product a f) ∙ sub_f_self 1

-- a (1 − a · a⁻¹) = 0, for every a
pub zero_or_inverse : (a : ℕ) → mul_f a (sub_f 1 (mul_f a (inv_f a))) ≡ 0
zero_or_inverse a = pick (ℕ_discrete (a % p) 0)
  where
    pick : Dec (a % p ≡ 0) → mul_f a (sub_f 1 (mul_f a (inv_f a))) ≡ 0
    pick (yes z) = mul_f_comm a _ ∙ sym (mul_f_of_red _ a) ∙ ap (mul_f (sub_f 1 (mul_f a (inv_f a)))) z ∙ mul_f_zero_right _
    pick (no f) = ap (mul_f a) (one_minus_product_lem a f) ∙ mul_f_zero_right a

-- a⁻¹ (1 − a · a⁻¹) = 0, for every a
pub inverse_zero_or_inverse : (a : ℕ) → mul_f (inv_f a) (sub_f 1 (mul_f a (inv_f a))) ≡ 0
inverse_zero_or_inverse a = pick (ℕ_discrete (a % p) 0)
  where
    pick : Dec (a % p ≡ 0) → mul_f (inv_f a) (sub_f 1 (mul_f a (inv_f a))) ≡ 0
    pick (yes z) = ap (λ (r : ℕ). mul_f r (sub_f 1 (mul_f a (inv_f a)))) (inv_f_none a z) ∙ mul_f_zero_left _
    pick (no f) = ap (mul_f (inv_f a)) (one_minus_product_lem a f) ∙ mul_f_zero_right (inv_f a)

-- ---- tests: an answer of is-zero and of equality, and what it says of the contents modulo p
pub is_zero_f_yes : (a : ℕ) → a % p ≡ 0 → is_zero_f a ≡ true
unfolding is_zero_f
is_zero_f_yes a e = eq-eqb (a % p) 0 e

pub is_zero_f_no : (a : ℕ) → a % p ≢ 0 → is_zero_f a ≡ false
unfolding is_zero_f
is_zero_f_no a f = ne_eqb (a % p) 0 f

pub is_zero_f_true : (a : ℕ) → is_zero_f a ≡ true → a % p ≡ 0
unfolding is_zero_f
is_zero_f_true a e = eqb-true (a % p) 0 e

pub is_zero_f_false : (a : ℕ) → is_zero_f a ≡ false → a % p ≢ 0
unfolding is_zero_f
is_zero_f_false a e = eqb-false (a % p) 0 e

pub equal_f_yes : (a b : ℕ) → a % p ≡ b % p → equal_f a b ≡ true
unfolding equal_f
equal_f_yes a b e = eq-eqb (a % p) (b % p) e

pub equal_f_no : (a b : ℕ) → a % p ≢ b % p → equal_f a b ≡ false
unfolding equal_f
equal_f_no a b f = ne_eqb (a % p) (b % p) f

pub equal_f_true : (a b : ℕ) → equal_f a b ≡ true → a % p ≡ b % p
unfolding equal_f
equal_f_true a b e = eqb-true (a % p) (b % p) e

pub equal_f_false : (a b : ℕ) → equal_f a b ≡ false → a % p ≢ b % p
unfolding equal_f
equal_f_false a b e = eqb-false (a % p) (b % p) e
