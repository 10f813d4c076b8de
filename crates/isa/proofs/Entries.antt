-- Laws of entries: what admission hands back (LHS of pow modulo p: pow_admits; all else as it is: admitted_same), what it tells of that entry,
-- its height, and how heights fall as operands are halved (Comparing.antt has the laws of order). Callers use what is said of `admitted e` and of
-- what `judge_entry` finds; only the search of a list asks which words stand for one LHS (lhs_words).
use mathlib.Core.Path.{◌≡◌, refl, sym, ap, ◌∙◌}
use mathlib.Core.Bool.{Bool, true, false, cond, not, ◌&&◌, ◌||◌}
use mathlib.Core.Logic.{◌≢◌, ◌⊎◌, inl, inr}
use Prim.Native.Nat.{ℕ, suc, ◌+◌, ◌/◌, ◌%◌, ◌≤◌, ◌<◌, max}
use native.Mathlib.Nat.{mod-eq_of_lt, mod-lt}
use native.Mathlib.Omega.{arith}
use borrow.Author.Tests.{lt-ltb, le-ltb, eq-eqb, ne_eqb, ltb-true, ltb-false, eqb-true, eqb-false}
use lib.Dec.{eqb, ltb}
use Rattle.std.proofs.lemmas.Bool.{and_from, and_parts}
use Rattle.field.specs.Elements.{p}
use Rattle.words.specs.declared.Refusal.{Refusal}
use Rattle.words.specs.declared.Refusal.TheVariants.{Stranger, Wide, BareLog}
use Rattle.words.specs.Refusals.{Judgement, Fine, Declined, decline_if, or_else}
use Rattle.words.proofs.Judgements.{decline_fine, decline_not_fine, decline_not_true, decline_false, or_next, or_both}
use Rattle.isa.specs.Opcodes.{op_split, op_lt, op_log2_floor, op_and, op_pop_count, op_pow, is_opcode}
use Rattle.isa.specs.declared.U32TableEntry.{U32TableEntry}
use Rattle.std.specs.Prelude.{Ok, Err}
use Rattle.isa.specs.Entries.{lhs, rhs, entry, lhs_limit, rhs_limit, judge_as_it_is, judge_entry, admit_stored, admitted, admission, admit, dominant, height_of, height}
use Rattle.isa.proofs.Logarithm.{height_zero, height_half, height_below, height_positive}

-- ---- opcodes

abbrev pub OneOfSix : ℕ → Type 0
OneOfSix o = (o ≡ op_split) ⊎ ((o ≡ op_lt) ⊎ ((o ≡ op_log2_floor) ⊎ ((o ≡ op_and) ⊎ ((o ≡ op_pop_count) ⊎ (o ≡ op_pow)))))

pub opcode_cases : (o : ℕ) → is_opcode o ≡ true → OneOfSix o
unfolding is_opcode
opcode_cases o e =
    either (eqb o op_split) (eqb-true o op_split)
    (either (eqb o op_lt) (eqb-true o op_lt)
    (either (eqb o op_log2_floor) (eqb-true o op_log2_floor)
    (either (eqb o op_and) (eqb-true o op_and)
    (either (eqb o op_pop_count) (eqb-true o op_pop_count) (eqb-true o op_pow)))))
    e
  where
    either : {A B : Type 0} (s : Bool) {t : Bool} → (s ≡ true → A) → (t ≡ true → B) → (s || t) ≡ true → A ⊎ B
    either true f g h = inl (f refl)
    either false f g h = inr (g h)

-- the converse
pub opcode_is : (o : ℕ) → OneOfSix o → is_opcode o ≡ true
unfolding is_opcode
opcode_is o (inl e) = rw e
opcode_is o (inr (inl e)) = rw e
opcode_is o (inr (inr (inl e))) = rw e
opcode_is o (inr (inr (inr (inl e)))) = rw e
opcode_is o (inr (inr (inr (inr (inl e))))) = rw e
opcode_is o (inr (inr (inr (inr (inr e))))) = rw e

pub not_one_of_six : (o : ℕ) → is_opcode o ≡ false → OneOfSix o → ⊥
not_one_of_six o e k = let z : ◌≡◌ {A = Bool} true false = sym (opcode_is o k) ∙ e in absurd (let w : ◌≡◌ {A = ℕ} 1 0 = ap (λ b. cond b 1 0) z in omega (arith, w))

-- an opcode fits a byte
pub opcode_byte : (o : ℕ) → is_opcode o ≡ true → o < 256
opcode_byte o e = go (opcode_cases o e) where
  go : OneOfSix o → o < 256
  go (inl k) = omega arith
  go (inr (inl k)) = omega arith
  go (inr (inr (inl k))) = omega arith
  go (inr (inr (inr (inl k)))) = omega arith
  go (inr (inr (inr (inr (inl k))))) = omega arith
  go (inr (inr (inr (inr (inr k))))) = omega arith

-- ---- limits

pub limit_pow : {o : ℕ} → o ≡ op_pow → lhs_limit o ≡ p
limit_pow {o} e = rw (eq-eqb o op_pow e)

pub limit_other : {o : ℕ} → o ≢ op_pow → lhs_limit o ≡ 4294967296
limit_other {o} e = rw (ne_eqb o op_pow e)

pub limit_below : (o : ℕ) → lhs_limit o ≤ p
limit_below o = go (eqb o op_pow) where
  go : (t : Bool) → cond t p 4294967296 ≤ p
  go true = omega arith
  go false = omega arith

-- ---- what admission tells

pub record Admissible (e : U32TableEntry) : Type 0 where
  pub known : is_opcode e.opcode ≡ true
  pub left : lhs e < lhs_limit e.opcode
  pub right : rhs e < rhs_limit
  pub log : e.opcode ≡ op_log2_floor → lhs e ≢ 0

not_both : (s t : Bool) → (s && t) ≡ false → s ≡ true → t ≡ false
not_both true t h e = h
not_both false t h e = absurd (let z : ◌≡◌ {A = ℕ} 0 1 = cc in omega arith)

-- 2, then 3, then 4
reasons : (e : U32TableEntry)
    → judge_as_it_is e
    ≡ or_else (decline_if (not (is_opcode e.opcode)) Stranger)
    (or_else (decline_if (not (ltb (lhs e) (lhs_limit e.opcode) && ltb (rhs e) rhs_limit)) Wide)
    (decline_if (eqb e.opcode op_log2_floor && eqb (lhs e) 0) BareLog))
unfolding judge_as_it_is
reasons e = refl

-- an entry is judged fine as it stands exactly where it is admissible
pub judged_admissible : (e : U32TableEntry) → judge_as_it_is e ≡ Fine → Admissible e
judged_admissible e f =
    let a = or_both _ _ (sym (reasons e) ∙ f) in
    let b = or_both _ _ a.1 in
    let w = and_parts (ltb (lhs e) (lhs_limit e.opcode)) (ltb (rhs e) rhs_limit) (decline_not_fine _ _ b.0) in
    let l = decline_fine (eqb e.opcode op_log2_floor && eqb (lhs e) 0) _ b.1 in
    record {
      known = decline_not_fine (is_opcode e.opcode) _ a.0;
      left = ltb-true _ _ w.0;
      right = ltb-true _ _ w.1;
      log = λ k. eqb-false _ _ (not_both (eqb e.opcode op_log2_floor) (eqb (lhs e) 0) l (eq-eqb _ _ k));
    }

pub admissible_judged : (e : U32TableEntry) → Admissible e → judge_as_it_is e ≡ Fine
admissible_judged e a =
    reasons e
    ∙ or_next _ (decline_not_true _ a.known)
    ∙ or_next _ (decline_not_true _ (and_from _ _ (lt-ltb (lhs e) (lhs_limit e.opcode) a.left) (lt-ltb (rhs e) rhs_limit a.right)))
    ∙ decline_false _ (bare (eqb e.opcode op_log2_floor) refl)
  where
    bare : (t : Bool) → eqb e.opcode op_log2_floor ≡ t → (t && eqb (lhs e) 0) ≡ false
    bare true k = ne_eqb (lhs e) 0 (a.log (eqb-true _ _ k))
    bare false k = refl

-- ---- what admission hands back

pub admitted_pow : (e : U32TableEntry) → e.opcode ≡ op_pow → admitted e ≡ entry e.opcode (lhs e % p) (rhs e)
unfolding admitted
admitted_pow e k = rw (eq-eqb e.opcode op_pow k)

pub admitted_other : (e : U32TableEntry) → e.opcode ≢ op_pow → admitted e ≡ e
unfolding admitted
admitted_other e k = rw (ne_eqb e.opcode op_pow k)

-- an entry is handed back as it is where LHS of pow is below p
pub admitted_same : (e : U32TableEntry) → (e.opcode ≡ op_pow → lhs e < p) → admitted e ≡ e
admitted_same e h = go (eqb e.opcode op_pow) refl where
  go : (t : Bool) → eqb e.opcode op_pow ≡ t → admitted e ≡ e
  go true k =
      admitted_pow e (eqb-true _ _ k)
      ∙ ap (λ (n : ℕ). entry e.opcode n (rhs e)) (mod-eq_of_lt (h (eqb-true _ _ k)))
  go false k = admitted_other e (eqb-false _ _ k)

-- a word is the LHS that is handed back, or of pow that plus p: 2^64 is below twice p
pub lhs_words : (e : U32TableEntry) → lhs e < 18446744073709551616
    → (lhs e ≡ lhs (admitted e)) ⊎ ((e.opcode ≡ op_pow) × (lhs e ≡ lhs (admitted e) + p))
lhs_words e h = go (eqb e.opcode op_pow) refl where
  go : (t : Bool) → eqb e.opcode op_pow ≡ t → (lhs e ≡ lhs (admitted e)) ⊎ ((e.opcode ≡ op_pow) × (lhs e ≡ lhs (admitted e) + p))
  go true k = rw (admitted_pow e (eqb-true _ _ k)) (word (ltb (lhs e) p) refl) where
    word : (s : Bool) → ltb (lhs e) p ≡ s → (lhs e ≡ lhs e % p) ⊎ ((e.opcode ≡ op_pow) × (lhs e ≡ lhs e % p + p))
    word true q = let b = ltb-true (lhs e) p q in inl (omega arith)
    word false q = let b = ltb-false (lhs e) p q in inr (eqb-true _ _ k, omega arith)
  go false k = inl (ap (λ (x : U32TableEntry). lhs x) (sym (admitted_other e (eqb-false _ _ k))))

pub admissible_same : (e : U32TableEntry) → Admissible e → admitted e ≡ e
admissible_same e a = admitted_same e (λ k. omega (arith, a.left, limit_pow k))

pub fine_admissible : (e : U32TableEntry) → judge_entry e ≡ Fine → Admissible (admitted e)
unfolding judge_entry
fine_admissible e f = judged_admissible (admitted e) f

pub admissible_fine : (e : U32TableEntry) → Admissible e → judge_entry e ≡ Fine
unfolding judge_entry
admissible_fine e a = ap judge_as_it_is (admissible_same e a) ∙ admissible_judged e a

-- the rule of stored bytes finds nothing exactly where the entry is admissible as it stands
pub as_it_is_admissible : (e : U32TableEntry) → admit_stored e ≡ Fine → Admissible e
unfolding admit_stored
as_it_is_admissible e f = judged_admissible e f

pub admissible_as_it_is : (e : U32TableEntry) → Admissible e → admit_stored e ≡ Fine
unfolding admit_stored
admissible_as_it_is e a = admissible_judged e a

-- what is fine as it stands in stored bytes is admitted, and handed back as it is
pub as_it_is : (e : U32TableEntry) → admit_stored e ≡ Fine → (judge_entry e ≡ Fine) × (admitted e ≡ e)
as_it_is e f = let a = as_it_is_admissible e f in (admissible_fine e a, admissible_same e a)

module _ (e : U32TableEntry) where
  -- opcode and RHS stay, whatever is handed back
  pub opcode_admitted : (admitted e).opcode ≡ e.opcode
  unfolding admitted
  opcode_admitted = go (eqb e.opcode op_pow) where
    go : (t : Bool) → (cond t (entry e.opcode (lhs e % p) (rhs e)) e).opcode ≡ e.opcode
    go true = refl
    go false = refl

  pub rhs_admitted : rhs (admitted e) ≡ rhs e
  unfolding admitted
  rhs_admitted = go (eqb e.opcode op_pow) where
    go : (t : Bool) → rhs (cond t (entry e.opcode (lhs e % p) (rhs e)) e) ≡ rhs e
    go true = refl
    go false = refl

  -- what is handed back is itself admitted, as it is
  pub judge_admitted : judge_entry e ≡ Fine → judge_entry (admitted e) ≡ Fine
  judge_admitted f = admissible_fine (admitted e) (fine_admissible e f)

  pub admitted_again : judge_entry e ≡ Fine → admitted (admitted e) ≡ admitted e
  admitted_again f = admissible_same (admitted e) (fine_admissible e f)

  pub admit_fine : judge_entry e ≡ Fine → admit e ≡ Ok (admitted e)
  unfolding admit
  admit_fine f = rw f

  pub admit_declined : {k : Refusal} → judge_entry e ≡ Declined k → admit e ≡ Err k
  unfolding admit
  admit_declined f = rw f

  -- what an answer tells, whichever rule judged
  pub admission_admitted : (j : Judgement) {a : U32TableEntry} → admission j e ≡ Ok a → (j ≡ Fine) × (a ≡ admitted e)
  admission_admitted Fine f = (refl, cc)
  admission_admitted (Declined k) f = absurd (let w : ◌≡◌ {A = ℕ} 0 1 = cc in omega arith)

  pub admission_refused : (j : Judgement) {k : Refusal} → admission j e ≡ Err k → j ≡ Declined k
  admission_refused Fine f = absurd (let w : ◌≡◌ {A = ℕ} 0 1 = cc in omega arith)
  admission_refused (Declined i) f = cc

  pub admit_admitted : {a : U32TableEntry} → admit e ≡ Ok a → (judge_entry e ≡ Fine) × (a ≡ admitted e)
  unfolding admit
  admit_admitted f = admission_admitted (judge_entry e) f

  pub admit_refused : {k : Refusal} → admit e ≡ Err k → judge_entry e ≡ Declined k
  unfolding admit
  admit_refused f = admission_refused (judge_entry e) f

-- ---- what the two rules do to pow: "Admission of an entry should take LHS of pow modulo p and hand back the reduced entry", and
-- "A stored list with LHS of p or more still gives 3"

pow_fine : (l r : ℕ) → l < p → r < rhs_limit → Admissible (entry op_pow l r)
unfolding is_opcode
pow_fine l r h k = record { known = refl; left = h; right = k; log = λ e. absurd (omega arith) }

pub pow_admits : (l r : ℕ) → r < rhs_limit → admit (entry op_pow l r) ≡ Ok (entry op_pow (l % p) r)
unfolding judge_entry
pow_admits l r k =
    let e = entry op_pow l r in
    let same : admitted e ≡ entry op_pow (l % p) r = admitted_pow e refl in
    admit_fine e (ap judge_as_it_is same ∙ admissible_judged _ (pow_fine (l % p) r (mod-lt l (omega arith)) k)) ∙ ap Ok same

pub pow_stored : (l r : ℕ) → p ≤ l → admit_stored (entry op_pow l r) ≡ Declined Wide
unfolding admit_stored is_opcode
pow_stored l r h = reasons (entry op_pow l r) ∙ rw (le-ltb l p h)

-- ---- bounds on the words of an admissible entry

module _ (e : U32TableEntry) (a : Admissible e) where
  pub lhs_below : lhs e < p
  lhs_below = omega (arith, a.left, limit_below e.opcode)

  pub lhs_small : e.opcode ≢ op_pow → lhs e < 4294967296
  lhs_small n = omega (arith, a.left, limit_other n)

-- ---- the dominant operand and the height

pub dominant_pow : (e : U32TableEntry) → e.opcode ≡ op_pow → dominant e ≡ rhs e
unfolding dominant
dominant_pow e k = rw (eq-eqb e.opcode op_pow k)

pub dominant_other : (e : U32TableEntry) → e.opcode ≢ op_pow → dominant e ≡ max (lhs e) (rhs e)
unfolding dominant
dominant_other e k = rw (ne_eqb e.opcode op_pow k)

-- 0 exactly where a section ends: RHS is 0, and LHS is 0 or the opcode is pow
pub dominant_end : (e : U32TableEntry) → rhs e ≡ 0 → (lhs e ≡ 0) ⊎ (e.opcode ≡ op_pow) → dominant e ≡ 0
dominant_end e r c = go (eqb e.opcode op_pow) refl c where
  go : (t : Bool) → eqb e.opcode op_pow ≡ t → (lhs e ≡ 0) ⊎ (e.opcode ≡ op_pow) → dominant e ≡ 0
  go true k d = dominant_pow e (eqb-true _ _ k) ∙ r
  go false k (inl l) = dominant_other e (eqb-false _ _ k) ∙ omega arith
  go false k (inr l) = absurd (eqb-false _ _ k l)

pub end_dominant : (e : U32TableEntry) → dominant e ≡ 0 → (rhs e ≡ 0) × ((lhs e ≡ 0) ⊎ (e.opcode ≡ op_pow))
end_dominant e z = go (eqb e.opcode op_pow) refl where
  go : (t : Bool) → eqb e.opcode op_pow ≡ t → (rhs e ≡ 0) × ((lhs e ≡ 0) ⊎ (e.opcode ≡ op_pow))
  go true k = (sym (dominant_pow e (eqb-true _ _ k)) ∙ z, inr (eqb-true _ _ k))
  go false k = let m = dominant_other e (eqb-false _ _ k) in (omega arith, inl (omega arith))

-- halving the operands, but LHS of pow, halves the dominant one
pub dominant_half_pow : (e : U32TableEntry) (l : ℕ) → e.opcode ≡ op_pow → dominant (entry e.opcode l (rhs e / 2)) ≡ dominant e / 2
dominant_half_pow e l k = dominant_pow (entry e.opcode l (rhs e / 2)) k ∙ ap (λ (n : ℕ). n / 2) (sym (dominant_pow e k))

pub dominant_half : (e : U32TableEntry) → e.opcode ≢ op_pow → dominant (entry e.opcode (lhs e / 2) (rhs e / 2)) ≡ dominant e / 2
dominant_half e k =
    let a = dominant_other e k in
    let b = dominant_other (entry e.opcode (lhs e / 2) (rhs e / 2)) k in
    omega arith

pub height_end : (e : U32TableEntry) → dominant e ≡ 0 → height e ≡ 1
unfolding height
height_end e z = ap height_of z ∙ height_zero

-- one row more than the entry of the next row
pub height_next : (e f : U32TableEntry) → dominant e ≢ 0 → dominant f ≡ dominant e / 2 → height e ≡ suc (height f)
unfolding height
height_next e f z h = height_half (dominant e) z ∙ ap (λ (n : ℕ). suc (height_of n)) (sym h)

pub height_at_least : (e : U32TableEntry) → 1 ≤ height e
unfolding height
height_at_least e = height_positive (dominant e)

pub dominant_small : (e : U32TableEntry) → Admissible e → dominant e < 4294967296
dominant_small e a = go (eqb e.opcode op_pow) refl where
  go : (t : Bool) → eqb e.opcode op_pow ≡ t → dominant e < 4294967296
  go true k = omega (arith, dominant_pow e (eqb-true _ _ k), a.right)
  go false k =
      let n : e.opcode ≢ op_pow = eqb-false _ _ k in
      omega (arith, dominant_other e n, lhs_small e a n, a.right)

-- "lt 2^32−1,0: 33" is the most
pub height_bound : (e : U32TableEntry) → Admissible e → height e ≤ 33
unfolding height
height_bound e a = height_below (dominant e) 32 (dominant_small e a)

pub height_admitted : (e : U32TableEntry) → judge_entry e ≡ Fine → height (admitted e) ≤ 33
height_admitted e f = height_bound (admitted e) (fine_admissible e f)
