-- The Result of each row of a section, in terms of that row alone (row_result): the plain function of its operands, but for lt, 2
-- where the operands are equal below the first row, and for log_2_floor, Bits more than the logarithm, and −1 where LHS is 0. Ending
-- and carrying lead to it (ending_is, carry_is), since each plain function follows the halving of its operands; and in the first row
-- it is the plain function (first_is).
use Prim.Native.Nat.{ℕ, ◌+◌, ◌-◌, ◌*◌, ◌/◌, ◌%◌, ◌≤◌, ◌<◌}
use mathlib.Core.Path.{◌≡◌, refl, sym, ap, ap₂, ◌∙◌, subst}
use mathlib.Core.Logic.{◌≢◌, ◌⊎◌, inl, inr}
use mathlib.Core.Bool.{cond}
use native.Mathlib.Omega.{arith}
use native.Mathlib.Decide.{ℕ_discrete}
use lib.Dec.{lit<, eqb}
use borrow.Author.Tests.{eq-eqb, ne_eqb, le-ltb}
use Rattle.field.specs.Elements.{p, add_f, mul_f}
use Rattle.field.proofs.Laws.{add_f_small, mul_f_small}
use Rattle.isa.specs.Opcodes.{op_split, op_lt, op_log2_floor, op_and, op_pop_count, op_pow}
use Rattle.isa.specs.PlainFunctions.{plain_lt, plain_and, floor_log2, plain_pow, one_bits, plain_result}
use Rattle.isa.proofs.Entries.{OneOfSix}
use Rattle.isa.proofs.Logarithm.{floor_log2_half, floor_log2_one, floor_log2_below}
use Rattle.isa.proofs.PlainLaws.{lt_bit, lt_same, lt_step, lt_step_same, and_zero_left, and_left, and_step_bits, pow-zero}
use Rattle.isa.proofs.PlainLaws.{pow_step_zero, pow_step_one}
use Rattle.isa.proofs.PlainLaws.{one_bits_zero, one_bits_step, one_bits_le, below_cond, result_below}
use Rattle.check_plain.specs.Plain.{LtEqual, LtCarried, known_0, known_1, bits_01, bits_10, bits_same}
use Rattle.check_plain.proofs.Steps.{low_bit}
use Rattle.std.specs.Prelude.{Some}
use Rattle.fill_results.specs.Results.{ending, carry, carry_lt, carry_log2_floor, carry_pow, carry_and, carry_pop_count}
use Rattle.fill_sections.specs.Sections.{next_lhs}

-- ---- an opcode of the six
pub each_opcode : (P : ℕ → Type 0) → P op_split → P op_lt → P op_log2_floor → P op_and → P op_pop_count → P op_pow → (o : ℕ) → OneOfSix o → P o
each_opcode P a b c d e f o (inl k) = subst P (sym k) a
each_opcode P a b c d e f o (inr (inl k)) = subst P (sym k) b
each_opcode P a b c d e f o (inr (inr (inl k))) = subst P (sym k) c
each_opcode P a b c d e f o (inr (inr (inr (inl k)))) = subst P (sym k) d
each_opcode P a b c d e f o (inr (inr (inr (inr (inl k))))) = subst P (sym k) e
each_opcode P a b c d e f o (inr (inr (inr (inr (inr k))))) = subst P (sym k) f

-- ---- the Result of a row
unfoldable pub lt_result : (copy_flag lhs rhs : ℕ) → ℕ
lt_result copy_flag lhs rhs = cond (eqb lhs rhs) (cond (eqb copy_flag 1) 0 2) (plain_lt lhs rhs)

unfoldable pub log2_floor_result : (bits lhs : ℕ) → ℕ
log2_floor_result bits lhs = cond (eqb lhs 0) (p - 1) (bits + floor_log2 lhs)

unfoldable pub row_result : (ci copy_flag bits lhs rhs : ℕ) → ℕ
row_result ci copy_flag bits lhs rhs =
    cond (eqb ci op_lt) (lt_result copy_flag lhs rhs) (cond (eqb ci op_log2_floor) (log2_floor_result bits lhs) (plain_result ci lhs rhs))

-- ---- at each opcode
module _ (copy_flag bits lhs rhs : ℕ) where
  pub at_split : row_result op_split copy_flag bits lhs rhs ≡ 0
  unfolding row_result plain_result
  at_split = refl

  pub at_lt : row_result op_lt copy_flag bits lhs rhs ≡ lt_result copy_flag lhs rhs
  unfolding row_result
  at_lt = refl

  pub at_log : row_result op_log2_floor copy_flag bits lhs rhs ≡ log2_floor_result bits lhs
  unfolding row_result
  at_log = refl

  pub at_and : row_result op_and copy_flag bits lhs rhs ≡ plain_and lhs rhs
  unfolding row_result plain_result
  at_and = refl

  pub at_pop_count : row_result op_pop_count copy_flag bits lhs rhs ≡ one_bits lhs
  unfolding row_result plain_result
  at_pop_count = refl

  pub at_pow : row_result op_pow copy_flag bits lhs rhs ≡ plain_pow lhs rhs
  unfolding row_result plain_result
  at_pow = refl

-- ---- a number by its half and its lowest bit
bit_below : (x : ℕ) → x % 2 < 2
bit_below x = omega arith

halved : (x : ℕ) → 2 * (x / 2) + x % 2 ≡ x
halved x = omega arith

-- ---- lt
module _ (copy_flag : ℕ) {lhs rhs : ℕ} where
  pub lt_differ : lhs ≢ rhs → lt_result copy_flag lhs rhs ≡ plain_lt lhs rhs
  unfolding lt_result
  lt_differ n = rw (ne_eqb lhs rhs n)

  pub lt_equal_first : copy_flag ≡ 1 → lhs ≡ rhs → lt_result copy_flag lhs rhs ≡ 0
  unfolding lt_result
  lt_equal_first f e = rw (eq-eqb lhs rhs e, eq-eqb copy_flag 1 f)

  pub lt_equal_below : copy_flag ≡ 0 → lhs ≡ rhs → lt_result copy_flag lhs rhs ≡ 2
  unfolding lt_result
  lt_equal_below f e = rw (eq-eqb lhs rhs e, f)

lt_01 : plain_lt 0 1 ≡ 1
unfolding plain_lt
lt_01 = refl

lt_10 : plain_lt 1 0 ≡ 0
unfolding plain_lt
lt_10 = refl

-- what the row below tells, and with it this row's Result
module _ (copy_flag lhs rhs : ℕ) (flag : (copy_flag ≡ 0) ⊎ (copy_flag ≡ 1)) where
  lt_halves : (e : lhs / 2 ≢ rhs / 2) → plain_lt lhs rhs ≡ plain_lt (lhs / 2) (rhs / 2)
  lt_halves n =
      ap₂ plain_lt (sym (halved lhs)) (sym (halved rhs))
      ∙ lt_step (lhs / 2) (rhs / 2) (lhs % 2) (rhs % 2) (bit_below lhs) (bit_below rhs) n

  lt_bits : lhs / 2 ≡ rhs / 2 → plain_lt lhs rhs ≡ plain_lt (lhs % 2) (rhs % 2)
  lt_bits e =
      ap₂ plain_lt (sym (halved lhs)) (sym (halved rhs) ∙ ap (λ (h : ℕ). 2 * h + rhs % 2) (sym e))
      ∙ lt_step_same (lhs / 2) (lhs % 2) (rhs % 2) (bit_below lhs) (bit_below rhs)

  abbrev Carried : Type 0
  Carried = LtCarried copy_flag lhs rhs (lt_result 0 (lhs / 2) (rhs / 2)) (lt_result copy_flag lhs rhs)

  pub lt_carried : Carried
  lt_carried = halves (ℕ_discrete (lhs / 2) (rhs / 2))
    where
      same : (copy_flag ≡ 0) ⊎ (copy_flag ≡ 1) → lhs ≡ rhs → LtEqual copy_flag (lt_result copy_flag lhs rhs)
      same (inl f) e = inr (f, lt_equal_below copy_flag f e)
      same (inr f) e = inl (f, lt_equal_first copy_flag f e)

      open_below : lhs / 2 ≡ rhs / 2 → lt_result 0 (lhs / 2) (rhs / 2) ≡ 2
      open_below e = lt_equal_below 0 refl e

      bits : lhs / 2 ≡ rhs / 2 → (lhs % 2 ≡ 0) ⊎ (lhs % 2 ≡ 1) → (rhs % 2 ≡ 0) ⊎ (rhs % 2 ≡ 1) → Carried
      bits e (inl a) (inl b) = bits_same (open_below e) (a ∙ sym b) (same flag (omega arith))
      bits e (inl a) (inr b) =
          bits_01 (open_below e) a b (lt_differ copy_flag (λ q. omega arith) ∙ lt_bits e ∙ ap₂ plain_lt a b ∙ lt_01)
      bits e (inr a) (inl b) =
          bits_10 (open_below e) a b (lt_differ copy_flag (λ q. omega arith) ∙ lt_bits e ∙ ap₂ plain_lt a b ∙ lt_10)
      bits e (inr a) (inr b) = bits_same (open_below e) (a ∙ sym b) (same flag (omega arith))

      known : lhs / 2 ≢ rhs / 2 → Dec (plain_lt (lhs / 2) (rhs / 2) ≡ 0) → Carried
      known n (yes z) = known_0 (lt_differ 0 n ∙ z) (lt_differ copy_flag (λ q. n (ap (λ (x : ℕ). x / 2) q)) ∙ lt_halves n ∙ z)
      known n (no z) =
          let one : plain_lt (lhs / 2) (rhs / 2) ≡ 1 = omega (arith, lt_bit (lhs / 2) (rhs / 2)) in
          known_1 (lt_differ 0 n ∙ one) (lt_differ copy_flag (λ q. n (ap (λ (x : ℕ). x / 2) q)) ∙ lt_halves n ∙ one)

      halves : Dec (lhs / 2 ≡ rhs / 2) → Carried
      halves (yes e) = bits e (low_bit lhs) (low_bit rhs)
      halves (no n) = known n (ℕ_discrete (plain_lt (lhs / 2) (rhs / 2)) 0)

carry_lt_of : {copy_flag lhs rhs below result : ℕ} → LtCarried copy_flag lhs rhs below result → carry_lt copy_flag lhs rhs below ≡ result
unfolding carry_lt
carry_lt_of (known_0 e f) = rw e (sym f)
carry_lt_of (known_1 e f) = rw e (sym f)
carry_lt_of (bits_01 e a b f) = rw (e, a, b) (sym f)
carry_lt_of (bits_10 e a b f) = rw (e, a, b) (sym f)
carry_lt_of {lhs = lhs} {rhs = rhs} (bits_same e a (inl (c, f))) =
    rw (e, le-ltb (lhs % 2) (rhs % 2) (omega arith), le-ltb (rhs % 2) (lhs % 2) (omega arith), c) (sym f)
carry_lt_of {lhs = lhs} {rhs = rhs} (bits_same e a (inr (c, f))) =
    rw (e, le-ltb (lhs % 2) (rhs % 2) (omega arith), le-ltb (rhs % 2) (lhs % 2) (omega arith), c) (sym f)

-- ---- log_2_floor
pub log_none : (bits : ℕ) {lhs : ℕ} → lhs ≡ 0 → log2_floor_result bits lhs ≡ p - 1
unfolding log2_floor_result
log_none bits {lhs} e = rw (eq-eqb lhs 0 e)

pub log_some : (bits : ℕ) {lhs : ℕ} → lhs ≢ 0 → log2_floor_result bits lhs ≡ bits + floor_log2 lhs
unfolding log2_floor_result
log_some bits {lhs} n = rw (ne_eqb lhs 0 n)

-- LHS is 0; or it is 1, and Result is Bits; or Result is that of the row below
pub data LogCarried (bits lhs below result : ℕ) : Type 0 where
  zero_lhs : lhs ≡ 0 → result ≡ p - 1 → LogCarried bits lhs below result
  last_bit : lhs ≢ 0 → lhs / 2 ≡ 0 → result ≡ bits → LogCarried bits lhs below result
  more_bits : lhs ≢ 0 → lhs / 2 ≢ 0 → result ≡ below → LogCarried bits lhs below result

pub log_carried : (bits next lhs : ℕ) → (next ≡ bits + 1) ⊎ (lhs ≡ 0)
    → LogCarried bits lhs (log2_floor_result next (lhs / 2)) (log2_floor_result bits lhs)
log_carried bits next lhs h = go (ℕ_discrete lhs 0) (ℕ_discrete (lhs / 2) 0) h
  where
    go : Dec (lhs ≡ 0) → Dec (lhs / 2 ≡ 0) → (next ≡ bits + 1) ⊎ (lhs ≡ 0)
        → LogCarried bits lhs (log2_floor_result next (lhs / 2)) (log2_floor_result bits lhs)
    go (yes z) d k = zero_lhs z (log_none bits z)
    go (no n) (yes d) k =
        let one : lhs ≡ 1 = omega arith in
        last_bit n d (log_some bits n ∙ omega (arith, ap floor_log2 one, floor_log2_one))
    go (no n) (no d) (inl k) =
        more_bits n d (log_some bits n ∙ omega (arith, floor_log2_half lhs (omega arith)) ∙ sym (log_some next d))
    go (no n) (no d) (inr z) = absurd (n z)

carry_log_of : {bits lhs below result : ℕ} → LogCarried bits lhs below result → carry_log2_floor bits lhs below ≡ result
unfolding carry_log2_floor
carry_log_of {lhs = lhs} (zero_lhs z e) = rw (eq-eqb lhs 0 z) (sym e)
carry_log_of {lhs = lhs} (last_bit n d e) = rw (ne_eqb lhs 0 n, eq-eqb (lhs / 2) 0 d) (sym e)
carry_log_of {lhs = lhs} (more_bits n d e) = rw (ne_eqb lhs 0 n, ne_eqb (lhs / 2) 0 d) (sym e)

-- ---- and
module _ (lhs rhs : ℕ) where
  pub and_halves : plain_and lhs rhs ≡ 2 * plain_and (lhs / 2) (rhs / 2) + lhs % 2 * (rhs % 2)
  and_halves =
      ap₂ plain_and (sym (halved lhs)) (sym (halved rhs))
      ∙ and_step_bits (lhs / 2) (rhs / 2) (lhs % 2) (rhs % 2) (bit_below lhs) (bit_below rhs)

  carry_and_is : lhs < p → carry_and lhs rhs (plain_and (lhs / 2) (rhs / 2)) ≡ plain_and lhs rhs
  unfolding carry_and
  carry_and_is h =
      let whole = and_halves in
      let small : plain_and lhs rhs < p = omega (arith, and_left lhs rhs) in
      let twice : mul_f 2 (plain_and (lhs / 2) (rhs / 2)) ≡ 2 * plain_and (lhs / 2) (rhs / 2) = mul_f_small 2 _ (omega arith) in
      let bit : mul_f (lhs % 2) (rhs % 2) ≡ lhs % 2 * (rhs % 2) = mul_f_small (lhs % 2) (rhs % 2) (omega arith) in
      ap₂ add_f twice bit ∙ add_f_small _ _ (omega arith) ∙ sym whole

  -- ---- pop_count
  pub carry_pop_count_is : lhs < p → carry_pop_count lhs (one_bits (lhs / 2)) ≡ one_bits lhs
  unfolding carry_pop_count
  carry_pop_count_is h =
      let whole : one_bits lhs ≡ lhs % 2 + one_bits (lhs / 2) =
      ap one_bits (sym (halved lhs)) ∙ one_bits_step (lhs / 2) (lhs % 2) (bit_below lhs)
      in
      add_f_small (one_bits (lhs / 2)) (lhs % 2) (omega (arith, one_bits_le 64 lhs (omega arith))) ∙ omega arith

  -- ---- pow
  pub pow_even : rhs % 2 ≡ 0 → plain_pow lhs rhs ≡ mul_f (plain_pow lhs (rhs / 2)) (plain_pow lhs (rhs / 2))
  pow_even e = let h : rhs ≡ 2 * (rhs / 2) = omega arith in ap (plain_pow lhs) h ∙ pow_step_zero lhs (rhs / 2)

  pub pow_odd : rhs % 2 ≡ 1 → plain_pow lhs rhs ≡ mul_f (mul_f (plain_pow lhs (rhs / 2)) (plain_pow lhs (rhs / 2))) lhs
  pow_odd e = let h : rhs ≡ 2 * (rhs / 2) + 1 = omega arith in ap (plain_pow lhs) h ∙ pow_step_one lhs (rhs / 2)

  carry_pow_is : carry_pow lhs rhs (plain_pow lhs (rhs / 2)) ≡ plain_pow lhs rhs
  unfolding carry_pow
  carry_pow_is = go (low_bit rhs)
    where
      go : (rhs % 2 ≡ 0) ⊎ (rhs % 2 ≡ 1) → carry_pow lhs rhs (plain_pow lhs (rhs / 2)) ≡ plain_pow lhs rhs
      go (inl e) = rw e (sym (pow_even e))
      go (inr e) = rw e (sym (pow_odd e))

-- ---- all six
-- where a row's Result comes from: the row below it in a section, with Bits one more
abbrev CarryAt : ℕ → Type 0
CarryAt ci =
    (copy_flag bits lhs rhs : ℕ) → (copy_flag ≡ 0) ⊎ (copy_flag ≡ 1) → lhs < p
    → carry ci copy_flag bits lhs rhs (row_result ci 0 (bits + 1) (next_lhs ci lhs) (rhs / 2)) ≡ Some (row_result ci copy_flag bits lhs rhs)

carry_split : CarryAt op_split
unfolding carry row_result plain_result
carry_split copy_flag bits lhs rhs f l = refl

carry_lt_lem : CarryAt op_lt
unfolding carry row_result
carry_lt_lem copy_flag bits lhs rhs f l = ap Some (carry_lt_of (lt_carried copy_flag lhs rhs f))

carry_log : CarryAt op_log2_floor
unfolding carry row_result
carry_log copy_flag bits lhs rhs f l = ap Some (carry_log_of (log_carried bits (bits + 1) lhs (inl refl)))

carry_and_lem : CarryAt op_and
unfolding carry row_result plain_result
carry_and_lem copy_flag bits lhs rhs f l = ap Some (carry_and_is lhs rhs l)

carry_pop_count_lem : CarryAt op_pop_count
unfolding carry row_result plain_result
carry_pop_count_lem copy_flag bits lhs rhs f l = ap Some (carry_pop_count_is lhs rhs l)

carry_pow_lem : CarryAt op_pow
unfolding carry row_result plain_result
carry_pow_lem copy_flag bits lhs rhs f l = ap Some (carry_pow_is lhs rhs)

pub carry_is : (ci : ℕ) → OneOfSix ci → CarryAt ci
carry_is = each_opcode CarryAt carry_split carry_lt_lem carry_log carry_and_lem carry_pop_count_lem carry_pow_lem

-- the last row of a section: RHS is 0 and LHS is 0 or CI is pow
abbrev EndingAt : ℕ → Type 0
EndingAt ci =
    (copy_flag bits lhs rhs : ℕ) → ((copy_flag ≡ 0) × (bits ≢ 0)) ⊎ ((copy_flag ≡ 1) × (bits ≡ 0)) → rhs ≡ 0 → (ci ≢ op_pow → lhs ≡ 0)
    → ending ci bits ≡ Some (row_result ci copy_flag bits lhs rhs)

ending_split : EndingAt op_split
unfolding ending row_result plain_result
ending_split copy_flag bits lhs rhs f r l = refl

ending_lt : EndingAt op_lt
unfolding ending row_result
ending_lt copy_flag bits lhs rhs (inl f) r l =
    rw (ne_eqb bits 0 f.1) (ap Some (sym (lt_equal_below copy_flag f.0 (l (λ e. omega arith) ∙ sym r))))
ending_lt copy_flag bits lhs rhs (inr f) r l =
    rw (eq-eqb bits 0 f.1) (ap Some (sym (lt_equal_first copy_flag f.0 (l (λ e. omega arith) ∙ sym r))))

ending_log : EndingAt op_log2_floor
unfolding ending row_result
ending_log copy_flag bits lhs rhs f r l = ap Some (sym (log_none bits (l (λ e. omega arith))))

ending_and : EndingAt op_and
unfolding ending row_result plain_result
ending_and copy_flag bits lhs rhs f r l = ap Some (sym (ap (λ (x : ℕ). plain_and x rhs) (l (λ e. omega arith)) ∙ and_zero_left rhs))

ending_pop_count : EndingAt op_pop_count
unfolding ending row_result plain_result
ending_pop_count copy_flag bits lhs rhs f r l = ap Some (sym (ap one_bits (l (λ e. omega arith)) ∙ one_bits_zero))

ending_pow : EndingAt op_pow
unfolding ending row_result plain_result
ending_pow copy_flag bits lhs rhs f r l = ap Some (sym (ap (plain_pow lhs) r ∙ pow-zero lhs))

pub ending_is : (ci : ℕ) → OneOfSix ci → EndingAt ci
ending_is = each_opcode EndingAt ending_split ending_lt ending_log ending_and ending_pop_count ending_pow

-- ---- the first row
pub first_is : (ci lhs rhs : ℕ) → (ci ≡ op_log2_floor → lhs ≢ 0) → row_result ci 1 0 lhs rhs ≡ plain_result ci lhs rhs
unfolding row_result plain_result
first_is ci lhs rhs h = go (ℕ_discrete ci op_lt) (ℕ_discrete ci op_log2_floor)
  where
    lt_first : Dec (lhs ≡ rhs) → lt_result 1 lhs rhs ≡ plain_lt lhs rhs
    lt_first (yes e) = lt_equal_first 1 refl e ∙ sym (ap (plain_lt lhs) (sym e) ∙ lt_same lhs)
    lt_first (no n) = lt_differ 1 n

    go : Dec (ci ≡ op_lt) → Dec (ci ≡ op_log2_floor) → row_result ci 1 0 lhs rhs ≡ plain_result ci lhs rhs
    go (yes e) d = rw e (lt_first (ℕ_discrete lhs rhs))
    go (no n) (yes e) = rw e (log_some 0 (h e) ∙ omega arith)
    go (no n) (no m) = rw (ne_eqb ci op_lt n, ne_eqb ci op_log2_floor m)

-- ---- every Result is a word
pub row_result_below : (ci copy_flag bits lhs rhs : ℕ) → lhs < p → bits ≤ 32 → row_result ci copy_flag bits lhs rhs < p
unfolding row_result lt_result log2_floor_result
row_result_below ci copy_flag bits lhs rhs h k =
    below_cond (eqb ci op_lt)
    (below_cond (eqb lhs rhs) (below_cond (eqb copy_flag 1) (lit< tt) (lit< tt)) (omega (arith, lt_bit lhs rhs)))
    (below_cond (eqb ci op_log2_floor) (log (ℕ_discrete lhs 0)) (result_below ci lhs rhs h))
  where
    log : Dec (lhs ≡ 0) → cond (eqb lhs 0) (p - 1) (bits + floor_log2 lhs) < p
    log (yes e) = rw (eq-eqb lhs 0 e) (lit< tt)
    log (no n) = rw (ne_eqb lhs 0 n) (omega (arith, floor_log2_below lhs 64 n (omega arith)))
