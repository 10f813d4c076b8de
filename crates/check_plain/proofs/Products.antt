-- Where a product of words is zero: where a factor is. And the factors of the constraints that are: a deselector at another opcode of the
-- six, a difference of equal words. `zs` finds the factor in a product of many. Assumes nothing.
use Prim.Native.Nat.{ℕ}
use mathlib.Core.Path.{◌≡◌, refl, ap, ap₂, ◌∙◌}
use mathlib.Core.Logic.{◌≢◌, ◌⊎◌, inl, inr}
use mathlib.Core.Bool.{Bool, true, false}
use mathlib.Core.List.{List, [], ◌∷◌}
use native.Mathlib.Decide.{ℕ_discrete}
use lib.Dec.{eqb}
use borrow.Author.Tests.{eqb-true}
use Rattle.field.specs.Elements.{add_f, sub_f, mul_f}
use Rattle.field.proofs.Ring.{var, con, ◌:+◌, ◌:*◌, ◌:-◌, solve}
use Rattle.field.proofs.RingLaws.{𝔹}
use Rattle.field.proofs.Laws.{mul_f_zero_left, mul_f_zero_right, sub_f_self}
use Rattle.isa.proofs.Entries.{OneOfSix}
use Rattle.air.specs.Constraints.{instructions, deselect_from, instruction_deselector, equal_bits}

-- ---- a factor 0
pub zero_factor : {a : ℕ} (b : ℕ) → a ≡ 0 → mul_f a b ≡ 0
zero_factor b e = ap (λ (x : ℕ). mul_f x b) e ∙ mul_f_zero_left b

pub factor_zero : (a : ℕ) {b : ℕ} → b ≡ 0 → mul_f a b ≡ 0
factor_zero a e = ap (mul_f a) e ∙ mul_f_zero_right a

pub same_zero : {a b : ℕ} → a ≡ b → sub_f a b ≡ 0
same_zero {a} {b} e = ap (λ (x : ℕ). sub_f x b) e ∙ sub_f_self b

pub ruleset zs = (zero_factor, factor_zero, same_zero)

-- ---- a word that is 0 or 1
abbrev pub IsBit : ℕ → Type 0
IsBit x = (x ≡ 0) ⊎ (x ≡ 1)

pub bit_product : {x : ℕ} → IsBit x → (u : ℕ) → mul_f (mul_f u x) (sub_f x 1) ≡ 0
bit_product (inl e) u = zero_factor _ (factor_zero u e)
bit_product (inr e) u = factor_zero _ (same_zero e)

-- ---- a sum less both its parts
pub less_both : (u v : ℕ) → sub_f (sub_f (add_f u v) u) v ≡ 0
less_both u v = solve 𝔹 ((var 0 :+ var 1) :- var 0 :- var 1) (con 0) refl (u ∷ v ∷ [])

-- ---- deselectors
deselect_zero : (os : List ℕ) (selected ci : ℕ) → deselect_from 0 os selected ci ≡ 0
unfolding deselect_from
deselect_zero [] selected ci = refl
deselect_zero (o ∷ os) selected ci = go (deselect_zero os selected ci) (eqb o selected) refl
  where
    go : deselect_from 0 os selected ci ≡ 0 → (t : Bool) → eqb o selected ≡ t → deselect_from 0 (o ∷ os) selected ci ≡ 0
    go rest true e = rw e rest
    go rest false e = rw (e, mul_f_zero_left) rest

-- ci is in the list
abbrev Among : ℕ → List ℕ → Type 0
Among ci [] = ⊥
Among ci (o ∷ os) = (ci ≡ o) ⊎ Among ci os

deselect_among : (product : ℕ) (os : List ℕ) (selected ci : ℕ) → ci ≢ selected → Among ci os → deselect_from product os selected ci ≡ 0
unfolding deselect_from
deselect_among product [] selected ci n h = elim h [ ]
deselect_among product (o ∷ os) selected ci n (inl e) = go (eqb o selected) refl
  where
    go : (t : Bool) → eqb o selected ≡ t → deselect_from product (o ∷ os) selected ci ≡ 0
    go true k = absurd (n (e ∙ eqb-true o selected k))
    go false k = rw (k, factor_zero product (same_zero e)) (deselect_zero os selected ci)
deselect_among product (o ∷ os) selected ci n (inr h) = go (λ q. deselect_among q os selected ci n h) (eqb o selected) refl
  where
    go : ((q : ℕ) → deselect_from q os selected ci ≡ 0) → (t : Bool) → eqb o selected ≡ t → deselect_from product (o ∷ os) selected ci ≡ 0
    go rest true k = rw k (rest _)
    go rest false k = rw k (rest _)

among : (o : ℕ) → OneOfSix o → Among o instructions
among o (inl e) = inl e
among o (inr (inl e)) = inr (inl e)
among o (inr (inr (inl e))) = inr (inr (inr (inl e)))
among o (inr (inr (inr (inl e)))) = inr (inr (inl e))
among o (inr (inr (inr (inr (inl e))))) = inr (inr (inr (inr (inr (inl e)))))
among o (inr (inr (inr (inr (inr e))))) = inr (inr (inr (inr (inl e))))

-- an opcode of the six is the selected one, or the deselector is zero
pub selected_or_zero : (selected ci : ℕ) → OneOfSix ci → (ci ≡ selected) ⊎ (instruction_deselector selected ci ≡ 0)
unfolding instruction_deselector
selected_or_zero selected ci k = go (ℕ_discrete ci selected)
  where
    go : Dec (ci ≡ selected) → (ci ≡ selected) ⊎ (instruction_deselector selected ci ≡ 0)
    go (yes e) = inl e
    go (no n) = inr (deselect_among 1 instructions selected ci n (among ci k))

-- ---- 1 − l − r + 2 l r is 0 where two bits differ
pub differ_01 : {l r : ℕ} → l ≡ 0 → r ≡ 1 → equal_bits l r ≡ 0
unfolding equal_bits
differ_01 e f = ap₂ equal_bits e f ∙ solve 𝔹 (con 1 :- con 0 :- con 1 :+ con 2 :* con 0 :* con 1) (con 0) refl []

pub differ_10 : {l r : ℕ} → l ≡ 1 → r ≡ 0 → equal_bits l r ≡ 0
unfolding equal_bits
differ_10 e f = ap₂ equal_bits e f ∙ solve 𝔹 (con 1 :- con 1 :- con 0 :+ con 2 :* con 1 :* con 0) (con 0) refl []
