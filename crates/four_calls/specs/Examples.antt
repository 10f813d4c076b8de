-- "Proved examples" (document 01, under that heading): "These twelve form one table, proved by one theorem" (proofs/Examples.antt). And one of
-- request 11: a key that was dropped back to 0 has no section.
use Rattle.std.specs.Prelude.{ℕ, ◌+◌, ◌-◌, ◌*◌, ◌≡◌, List, [], ◌∷◌, replicate}
use Rattle.field.specs.Elements.{p}
use Rattle.xfield.specs.Extension.{Ext, ext, mul_x}
use Rattle.words.specs.Answers.{done}
use Rattle.isa.specs.Opcodes.{op_lt, op_log2_floor, op_and, op_pop_count, op_pow}
use Rattle.isa.specs.PlainFunctions.{plain_result}
use Rattle.isa.specs.declared.U32TableEntry.{U32TableEntry}
use Rattle.isa.specs.Entries.{lhs, rhs, entry, height}
use Rattle.list.specs.Holds.{HeldList, held_list, section_list}
use Rattle.table.specs.Columns.{main_width, row_at}
use Rattle.std.specs.Prelude.{Some}
use Rattle.fill_sections.specs.Sections.{section, top_result}
use Rattle.fill.specs.Filling.{fill_all}
use Rattle.four_calls.specs.FourCalls.{first_rows_of, padded_table}

pub data Example : Type 0 where
  height_is : U32TableEntry → ℕ → Example
  result_is : U32TableEntry → ℕ → Example
  result_and_padding_are : U32TableEntry → ℕ → ℕ → Example
  cube_is : Ext → Ext → Example

-- "Heights: and 0,0: 1; and 1,0: 2; lt 2^32−1,0: 33; pow p−1,0: 1. Results: lt 0,0: 0 (padding 2); lt 3,3: 0; lt 2,3: 1; pow 0,0: 1;
-- pow 2,64: 4294967295; log_2_floor 1: 0; pop_count 2^32−1: 32. X·X·X = (p−1, 1, 0)."
abbrev pub examples : List Example
examples =
    height_is (entry op_and 0 0) 1
    ∷ height_is (entry op_and 1 0) 2
    ∷ height_is (entry op_lt 4294967295 0) 33
    ∷ height_is (entry op_pow (p - 1) 0) 1
    ∷ result_and_padding_are (entry op_lt 0 0) 0 2
    ∷ result_is (entry op_lt 3 3) 0
    ∷ result_is (entry op_lt 2 3) 1
    ∷ result_is (entry op_pow 0 0) 1
    ∷ result_is (entry op_pow 2 64) 4294967295
    ∷ result_is (entry op_log2_floor 1 0) 0
    ∷ result_is (entry op_pop_count 4294967295 0) 32
    ∷ cube_is (ext 0 1 0) (ext (p - 1) 1 0)
    ∷ []

-- the list of one entry with this multiplicity, and no hold
abbrev pub one_entry : U32TableEntry → ℕ → HeldList
one_entry e multiplicity = held_list (record { capacity = 1; used = 1 }) (e.opcode ∷ lhs e ∷ rhs e ∷ []) (multiplicity ∷ []) (0 ∷ [])

-- the plain function of an entry, and the Result of the first row of its section
pub record HasResult (e : U32TableEntry) (result : ℕ) : Type 0 where
  pub plain : plain_result e.opcode (lhs e) (rhs e) ≡ result
  pub first_row_lem : top_result (section e 1) ≡ Some result

-- the Result of the row below the section, on a table with one row more, after fill and pad
pub record HasPadding (e : U32TableEntry) (result : ℕ) : Type 0 where
  pub padding : (row_at (padded_table (one_entry e 1) (replicate (main_width * (height e + 1)) 0) (height e)) (height e)).result ≡ result

abbrev pub Holds : Example → Type 0
Holds (height_is e h) = height e ≡ h
Holds (result_is e result) = HasResult e result
Holds (result_and_padding_are e result padding) = HasResult e result × HasPadding e padding
Holds (cube_is x y) = mul_x (mul_x x x) x ≡ y

abbrev pub AllHold : List Example → Type 0
AllHold [] = Unit {0}
AllHold (e ∷ es) = Holds e × AllHold es

-- request 11: "so a key dropped to 0 has no section any more". The list of such a key alone is filled with no row: the answer is 0, the table is as it
-- was, and there is no first row
pub record DroppedHasNoSection (e : U32TableEntry) (rows : ℕ) : Type 0 where
  pub fills : fill_all (one_entry e 0) (replicate (main_width * rows) 0) ≡ record { answer = done (0 ∷ []); left = replicate (main_width * rows) 0 }
  pub no_row : first_rows_of (section_list (one_entry e 0)) ≡ []
