-- The stored inverses of Bits − 33: the numbers are the table of the definition (`stored_is`). One test over all of them says that entry k is
-- below p and its product with k − 33 is 1; and only the inverse is that. Assumes nothing.
use Prim.Native.Nat.{ℕ, ◌+◌, ◌*◌, ◌-◌, ◌%◌, ◌<◌}
use mathlib.Core.Path.{◌≡◌, refl, sym, ◌∙◌}
use mathlib.Core.Bool.{Bool, true, ◌&&◌, and-eq-true_iff}
use mathlib.Core.List.{List, [], ◌∷◌}
use lib.Dec.{eqb, ltb}
use lib.ListN.{length, get_or}
use borrow.Author.Tests.{ltb-true, eqb-true}
use Rattle.field.specs.Elements.{p, sub_f, mul_f}
use Rattle.field.proofs.Ring.{var, con, ◌:*◌, ◌:-◌}
use Rattle.field.proofs.Naturals.{val_den}
use Rattle.field.proofs.Laws.{mul_f_red, inv_f_by_product}
use Rattle.fill_sections.specs.Sections.{bits_minus33_inverse, bits_minus33_inverses}
use Rattle.field.proofs.Tables.{every, every_at, table_at, is_table}

-- the numbers
unfoldable pub stored : List ℕ
stored =
    15651782846776010939 ∷ 576460752169205760 ∷ 7140675123644355221 ∷ 614891468980486144 ∷ 8269230100082399868
    ∷ 8564559746513914149 ∷ 4782489203181558898 ∷ 3547450782579727754 ∷ 4427218576659500237 ∷ 768614336225607680
    ∷ 7218291157597011256 ∷ 14254302235456724248 ∷ 11419412995351885532 ∷ 922337203470729216 ∷ 7767050134490351293
    ∷ 7173733804772338347 ∷ 1085102592318504960 ∷ 1152921504338411520 ∷ 1229782937960972288 ∷ 17129119493027828298
    ∷ 7094901565159455508 ∷ 1537228672451215360 ∷ 10061860401498864175 ∷ 1844674406941458432 ∷ 14347467609544676694
    ∷ 2305843008676823040 ∷ 15811494916641072275 ∷ 3074457344902430720 ∷ 3689348813882916864 ∷ 4611686017353646080
    ∷ 6148914689804861440 ∷ 9223372034707292160 ∷ 18446744069414584320 ∷ []

-- below p, and times k − 33, which is k + (p − 1) 33 modulo p, it is 1
is_inverse : ℕ → ℕ → Bool
is_inverse k x = ltb x p && eqb ((k + (p - 1) * 33) * x % p) 1

product : (k x : ℕ) → (k + (p - 1) * 33) * x % p ≡ 1 → mul_f (sub_f k 33) x ≡ 1
product k x e = sym (mul_f_red (sub_f k 33) x) ∙ sym (val_den ((var 0 :- con 33) :* var 1) (k ∷ x ∷ [])) ∙ e

stored_length_lem : length stored ≡ 33
unfolding stored
stored_length_lem = refl

whole_table : every is_inverse 0 stored ≡ true
unfolding is_inverse stored
whole_table = refl

pub stored_inverse : (k : ℕ) → k < 33 → get_or stored k 0 ≡ bits_minus33_inverse k
unfolding is_inverse bits_minus33_inverse
stored_inverse k h =
    let x = get_or stored k 0 in
    let parts =
    (and-eq-true_iff (ltb x p) (eqb ((k + (p - 1) * 33) * x % p) 1)).0
    (every_at is_inverse stored whole_table k (rw stored_length_lem h)) in
    inv_f_by_product (sub_f k 33) x (ltb-true x p parts.0) (product k x (eqb-true _ 1 parts.1))

-- the numbers are the table of the definition
pub stored_is : stored ≡ bits_minus33_inverses
unfolding bits_minus33_inverses
stored_is = is_table bits_minus33_inverse stored 33 stored_length_lem stored_inverse

pub bits_minus_33 : (k : ℕ) → k < 33 → get_or bits_minus33_inverses k 0 ≡ bits_minus33_inverse k
unfolding bits_minus33_inverses
bits_minus_33 k h = table_at bits_minus33_inverse 33 k h
