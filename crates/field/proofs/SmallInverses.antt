-- The stored inverses of 0 to 255 are the table of the inverses (`stored_is`): they pass the test, which only the inverses do. Assumes nothing.
use Rattle.std.proofs.Common.{◌≡◌, ℕ, zero, suc, ◌*◌, ◌%◌, ◌<◌, true, eqb, ltb, List, get_or, sym, refl, ap, ◌∙◌, ltb-true, eqb-true}
use mathlib.Core.Bool.{and-eq-true_iff}
use Rattle.field.specs.Elements.{p, mul_f, inv_f}
use Rattle.field.specs.SmallInverses.{small_inverses}
use Rattle.field.proofs.Inverses.{inv_f_none, inv_f_by_product}
use Rattle.field.proofs.Tables.{every_at, table_at, is_table}
use Rattle.field.proofs.StoredInverses.{stored, is_inverse, stored_length_lem, whole_table}

at_place : (k : ℕ) → k < 256 → is_inverse k (get_or stored k 0) ≡ true
at_place k h = every_at is_inverse stored whole_table k (rw stored_length_lem h)

stored_inverse : (k : ℕ) → k < 256 → get_or stored k 0 ≡ inv_f k
unfolding is_inverse mul_f
stored_inverse zero h = eqb-true (get_or stored 0 0) 0 (at_place 0 h) ∙ sym (inv_f_none 0 refl)
stored_inverse (suc k) h =
    let x = get_or stored (suc k) 0 in
    let parts = (and-eq-true_iff (ltb x p) (eqb (suc k * x % p) 1)).0 (at_place (suc k) h) in
    inv_f_by_product (suc k) x (ltb-true x p parts.0) (eqb-true _ 1 parts.1)

-- the numbers are the table of the definition
pub stored_is : stored ≡ small_inverses
unfolding small_inverses
stored_is = is_table inv_f stored 256 stored_length_lem stored_inverse

pub small_inverse : (k : ℕ) → k < 256 → get_or small_inverses k 0 ≡ inv_f k
unfolding small_inverses
small_inverse k h = table_at inv_f 256 k h

-- what is read from a copy of the table
pub looked_up_lem : (s : List ℕ) → s ≡ small_inverses → (k : ℕ) → k < 256 → get_or s k 0 ≡ inv_f k
looked_up_lem s e k h = ap (λ (l : List ℕ). get_or l k 0) e ∙ small_inverse k h
