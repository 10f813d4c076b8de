-- Opcodes and their numbers: what a word is that was read as an opcode, and when it is none.
use Rattle.std.proofs.Common.{◌≡◌, ◌≢◌, ℕ, true, false, not, ◌&&◌, eqb, ltb, refl, sym, ap, ◌∙◌}
use Rattle.std.proofs.lemmas.Bool.{ne_eqb}
use Rattle.words.specs.declared.Refusal.{Refusal}
use Rattle.words.specs.declared.Refusal.TheVariants.{Stranger, Wide, BareLog}
use Rattle.words.specs.Refusals.{Judgement, Fine, Declined, decline_if, or_else}
use Rattle.words.proofs.Judgements.{or_first, or_next}
use Rattle.isa.specs.declared.Opcode.{Opcode}
use Rattle.isa.specs.declared.Opcode.TheVariants.{Split, Lt, Log2Floor, And, PopCount, Pow}
use Rattle.isa.specs.declared.U32TableEntry.{U32TableEntry}
use Rattle.isa.specs.Entries.{lhs, rhs, lhs_limit, rhs_limit, judge_as_it_is}
use Rattle.isa.specs.Opcodes.{op_split, op_lt, op_log2_floor, op_and, op_pop_count, op_pow, is_opcode, opcode_number}

pub stranger : (o : ℕ) → o ≢ op_split → o ≢ op_lt → o ≢ op_log2_floor → o ≢ op_and → o ≢ op_pop_count → o ≢ op_pow → is_opcode o ≡ false
unfolding is_opcode
stranger o a b d e f g =
    simp (ne_eqb o op_split a, ne_eqb o op_lt b, ne_eqb o op_log2_floor d, ne_eqb o op_and e, ne_eqb o op_pop_count f, ne_eqb o op_pow g)

-- ---- judging an entry, test by test
abbrev wide : ℕ → U32TableEntry → Judgement
wide limit e = decline_if (not (ltb (lhs e) limit && ltb (rhs e) rhs_limit)) Wide

abbrev bare : U32TableEntry → Judgement
bare e = decline_if (eqb e.opcode op_log2_floor && eqb (lhs e) 0) BareLog

-- the word that was read as a known opcode
pub opcode_at : {word : ℕ} {o k : Opcode} → word ≡ opcode_number o → o ≡ k → word ≡ opcode_number k
opcode_at e q = e ∙ ap opcode_number q

pub known : (opcode : Opcode) → is_opcode (opcode_number opcode) ≡ true
unfolding is_opcode
known Split = refl
known Lt = refl
known Log2Floor = refl
known And = refl
known PopCount = refl
known Pow = refl

pub judged_stranger : (e : U32TableEntry) → is_opcode e.opcode ≡ false → judge_as_it_is e ≡ Declined Stranger
unfolding judge_as_it_is
judged_stranger e h = simp h

judged_known : (e : U32TableEntry) (o : Opcode) {limit : ℕ} → e.opcode ≡ opcode_number o → limit ≡ lhs_limit (opcode_number o)
    → judge_as_it_is e ≡ or_else (wide limit e) (bare e)
unfolding judge_as_it_is
judged_known e o q l = simp (ap is_opcode q ∙ known o) (rw (l, ← q) refl)

pub judged_wide : (e : U32TableEntry) (o : Opcode) {limit : ℕ} {reason : Refusal} → e.opcode ≡ opcode_number o → limit ≡ lhs_limit (opcode_number o)
    → Declined reason ≡ wide limit e → judge_as_it_is e ≡ Declined reason
judged_wide e o q l d = judged_known e o q l ∙ or_first _ (sym d)

pub judged_last : (e : U32TableEntry) (o : Opcode) {limit : ℕ} → e.opcode ≡ opcode_number o → limit ≡ lhs_limit (opcode_number o)
    → Fine ≡ wide limit e → judge_as_it_is e ≡ bare e
judged_last e o q l f = judged_known e o q l ∙ or_next _ (sym f)
