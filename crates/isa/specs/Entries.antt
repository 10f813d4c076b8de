-- Entry and height (document 01, under that heading): admission, the height of an entry, the order of entries.
use Rattle.std.specs.Prelude.{ℕ, ◌+◌, ◌*◌, ◌%◌, max, cond, not, ◌&&◌, List, [], ◌∷◌, eqb, ltb, get_or, Result, Ok, Err}
use Rattle.field.specs.Elements.{p}
use Rattle.words.specs.declared.Refusal.{Refusal}
use Rattle.words.specs.declared.Refusal.TheVariants.{Stranger, Wide, BareLog}
use Rattle.words.specs.Refusals.{Judgement, Fine, Declined, decline_if, or_else}
use Rattle.isa.specs.Opcodes.{op_log2_floor, op_pow, is_opcode}
use Rattle.isa.specs.PlainFunctions.{floor_log2}
use Rattle.isa.specs.declared.U32TableEntry.{U32TableEntry}
use Rattle.std.specs.declared.cmp.Ordering.{Ordering}
use Rattle.std.specs.declared.cmp.Ordering.TheVariants.{Less, Equal, Greater}

-- "An entry is opcode, LHS, RHS."
abbrev pub lhs : U32TableEntry → ℕ
lhs e = e.left_operand

abbrev pub rhs : U32TableEntry → ℕ
rhs e = e.right_operand

abbrev pub entry : ℕ → ℕ → ℕ → U32TableEntry
entry o l r = record { opcode = o; left_operand = l; right_operand = r }

-- its words, in that order, and how many they are
abbrev pub entry_words : U32TableEntry → List ℕ
entry_words e = e.opcode ∷ lhs e ∷ rhs e ∷ []

abbrev pub entry_width : ℕ
entry_width = 3

-- the entry that stands at place i of a list of words, three words an entry
abbrev pub entry_in : List ℕ → ℕ → U32TableEntry
entry_in ws i = entry (get_or ws (entry_width * i) 0) (get_or ws (entry_width * i + 1) 0) (get_or ws (entry_width * i + 2) 0)

-- "both operands below 2^32, but LHS of pow below p"
abbrev pub lhs_limit : ℕ → ℕ
lhs_limit opcode = cond (eqb opcode op_pow) p 4294967296

abbrev pub rhs_limit : ℕ
rhs_limit = 4294967296

-- "both operands below 2^32, but LHS of pow below p; LHS of log_2_floor not 0": an entry as it stands. Refusals 2, 3, 4 in that order
unfoldable pub judge_as_it_is : U32TableEntry → Judgement
judge_as_it_is e =
    or_else (decline_if (not (is_opcode e.opcode)) Stranger)
    (or_else (decline_if (not (ltb (lhs e) (lhs_limit e.opcode) && ltb (rhs e) rhs_limit)) Wide)
    (decline_if (eqb e.opcode op_log2_floor && eqb (lhs e) 0) BareLog))

-- The entry that admission hands back: "LHS of pow modulo p", all else as it is
unfoldable pub admitted : U32TableEntry → U32TableEntry
admitted e = cond (eqb e.opcode op_pow) (entry e.opcode (lhs e % p) (rhs e)) e

-- "Admission of an entry should take LHS of pow modulo p and hand back the reduced entry": it is the reduced entry that is judged
unfoldable pub judge_entry : U32TableEntry → Judgement
judge_entry e = judge_as_it_is (admitted e)

-- "A stored list with LHS of p or more still gives 3": an entry in stored bytes is judged as it stands there
unfoldable pub admit_stored : U32TableEntry → Judgement
admit_stored e = judge_as_it_is e

-- what is handed back after a rule's judgement
abbrev pub Admission : Type 0
Admission = Result U32TableEntry Refusal

abbrev pub admission : Judgement → U32TableEntry → Admission
admission Fine e = Ok (admitted e)
admission (Declined reason) e = Err reason

unfoldable pub admit : U32TableEntry → Admission
admit e = admission (judge_entry e) e

-- "dominant operand is RHS for pow, else the larger"
unfoldable pub dominant : U32TableEntry → ℕ
dominant e = cond (eqb e.opcode op_pow) (rhs e) (max (lhs e) (rhs e))

-- "height is 1 for 0, else 2 + floor log2"
unfoldable pub height_of : ℕ → ℕ
height_of n = cond (eqb n 0) 1 (2 + floor_log2 n)

-- the rows that an entry's section has
unfoldable pub height : U32TableEntry → ℕ
height e = height_of (dominant e)

-- "less, equal or greater, by opcode, then LHS, then RHS, on any words"
abbrev pub compare_words : ℕ → ℕ → Ordering → Ordering
compare_words a b next = cond (ltb a b) Less (cond (ltb b a) Greater next)

unfoldable pub compare_entries : U32TableEntry → U32TableEntry → Ordering
compare_entries x y =
    compare_words x.opcode y.opcode (compare_words (lhs x) (lhs y) (compare_words (rhs x) (rhs y) Equal))
