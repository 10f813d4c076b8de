-- Products of words: where a product is 0 and all factors but the last are not, the last one is 0. And the factors of the constraints:
-- a deselector is not 0 at its own opcode, 1 − x · inverse is not 0 at x = 0, a difference of distinct words is not 0.
use Prim.Native.Nat.{ℕ, ◌<◌}
use mathlib.Core.Path.{◌≡◌, refl, sym, ap, ap₂, ◌∙◌, subst}
use mathlib.Core.Logic.{◌≢◌}
use mathlib.Core.Bool.{Bool, true, false}
use mathlib.Core.List.{List, [], ◌∷◌}
use native.Mathlib.Omega.{arith}
use lib.Dec.{lit<, eqb}
use borrow.Author.Tests.{eqb-false}
use Rattle.field.specs.Elements.{p, sub_f, mul_f}
use Rattle.field.proofs.Ring.{con, ◌:+◌, ◌:*◌, ◌:-◌, solve}
use Rattle.field.proofs.RingLaws.{𝔹}
use Rattle.field.proofs.Laws.{mul_f_lt, sub_f_lt, mul_f_not_zero_word, mul_f_zero_second, word_not_zero, sub_f_not_zero, one_minus_zero}
use Rattle.air.specs.Constraints.{instructions, deselect_from, instruction_deselector, one_minus_product_of, equal_bits}

-- a word that is not 0
pub record Nonzero (a : ℕ) : Type 0 where
  pub below : a < p
  pub not_zero : a ≢ 0

pub nonzero_is : {a b : ℕ} → a ≡ b → Nonzero b → Nonzero a
nonzero_is e u = subst Nonzero (sym e) u

pub one : Nonzero 1
one = record { below = lit< tt; not_zero = omega arith }

pub word_one : {a : ℕ} → a ≡ 1 → Nonzero a
word_one e = nonzero_is e one

pub difference : {a b : ℕ} → a < p → b < p → a ≢ b → Nonzero (sub_f a b)
difference {a} {b} la lb f = record { below = sub_f_lt a b; not_zero = sub_f_not_zero a b la lb f }

-- a flag that is 0, less 1
pub zero_less_one : {a : ℕ} → a ≡ 0 → Nonzero (sub_f a 1)
zero_less_one e = difference (omega arith) (lit< tt) (omega arith)

infixl 70 ◌⊠◌
pub ◌⊠◌ : {a b : ℕ} → Nonzero a → Nonzero b → Nonzero (mul_f a b)
◌⊠◌ {a} {b} u v = record { below = mul_f_lt a b; not_zero = mul_f_not_zero_word a b u.below v.below u.not_zero v.not_zero }

-- the last factor of a product that is 0
pub last_zero : {a b : ℕ} → Nonzero a → b < p → mul_f a b ≡ 0 → b ≡ 0
last_zero {a} {b} u l e = mul_f_zero_second a b l (word_not_zero u.below u.not_zero) e

-- ---- deselectors
abbrev Below : List ℕ → Type 0
Below [] = Unit {0}
Below (o ∷ os) = (o < p) × Below os

deselect_nonzero : (product : ℕ) (os : List ℕ) (ci : ℕ) → ci < p → Below os → Nonzero product → Nonzero (deselect_from product os ci ci)
unfolding deselect_from
deselect_nonzero product [] ci l b u = u
deselect_nonzero product (o ∷ os) ci l b u = go (λ q v. deselect_nonzero q os ci l b.1 v) (eqb o ci) refl
  where
    go : ((q : ℕ) → Nonzero q → Nonzero (deselect_from q os ci ci)) → (t : Bool) → eqb o ci ≡ t
        → Nonzero (deselect_from product (o ∷ os) ci ci)
    go rest true e = rw e (rest _ u)
    go rest false e = rw e (rest _ (u ⊠ difference l b.0 (λ q. eqb-false o ci e (sym q))))

pub deselector_nonzero : {ci opcode : ℕ} → ci ≡ opcode → opcode < p → Nonzero (instruction_deselector opcode ci)
unfolding instruction_deselector
deselector_nonzero {ci} {opcode} e l = rw e (deselect_nonzero 1 instructions opcode l (lit< tt, (lit< tt, (lit< tt, (lit< tt, (lit< tt, (lit< tt, tt)))))) one)

-- ---- 1 − x · inverse is 1 where x is 0
pub zero_marked : {x : ℕ} (inverse : ℕ) → x ≡ 0 → Nonzero (one_minus_product_of x inverse)
unfolding one_minus_product_of
zero_marked inverse e = word_one (ap (λ (y : ℕ). sub_f 1 (mul_f y inverse)) e ∙ one_minus_zero inverse)

-- so that x is not 0 where it is 0
pub unmarked : (x inverse : ℕ) → one_minus_product_of x inverse ≡ 0 → x ≢ 0
unmarked x inverse e z = (zero_marked inverse z).not_zero e

pub one_minus_product_lt : (x inverse : ℕ) → one_minus_product_of x inverse < p
unfolding one_minus_product_of
one_minus_product_lt x inverse = sub_f_lt 1 (mul_f x inverse)

-- ---- 1 − l − r + 2 l r is 1 where two bits are equal
pub equal_zeros : {l r : ℕ} → l ≡ 0 → r ≡ 0 → Nonzero (equal_bits l r)
unfolding equal_bits
equal_zeros e f =
    word_one (ap₂ equal_bits e f ∙ solve 𝔹 (con 1 :- con 0 :- con 0 :+ con 2 :* con 0 :* con 0) (con 1) refl [])

pub equal_ones : {l r : ℕ} → l ≡ 1 → r ≡ 1 → Nonzero (equal_bits l r)
unfolding equal_bits
equal_ones e f =
    word_one (ap₂ equal_bits e f ∙ solve 𝔹 (con 1 :- con 1 :- con 1 :+ con 2 :* con 1 :* con 1) (con 1) refl [])
