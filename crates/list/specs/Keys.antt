-- Keys (document 01, "Recording and stored lists"): when two are equal, and the first place that holds one. What is compared at a place is the
-- entry that admission hands back.
use Rattle.std.specs.Prelude.{ℕ, zero, suc, Bool, cond, ◌&&◌, eqb}
use Rattle.isa.specs.declared.U32TableEntry.{U32TableEntry}
use Rattle.isa.specs.Entries.{lhs, rhs}
use Rattle.list.specs.Lists.{U32List, used, entry_at}

-- equal keys have equal words
unfoldable pub same_key : U32TableEntry → U32TableEntry → Bool
same_key a b = eqb a.opcode b.opcode && (eqb (lhs a) (lhs b) && eqb (rhs a) (rhs b))

-- the first of the n places from i on that holds the key, or i + n
unfoldable pub find_from : U32List → U32TableEntry → ℕ → ℕ → ℕ
find_from l e i zero = i
find_from l e i (suc n) = cond (same_key (entry_at l i) e) i (find_from l e (suc i) n)

-- the first used place that holds the key, or `used` where none does
unfoldable pub find_key : U32List → U32TableEntry → ℕ
find_key l e = find_from l e 0 (used l)
