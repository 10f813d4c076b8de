-- Equal keys (document 01, reason 11).
use Rattle.std.specs.Prelude.{Bool, false, ◌||◌, List, [], ◌∷◌}
use Rattle.isa.specs.declared.U32TableEntry.{U32TableEntry}
use Rattle.list.specs.Keys.{same_key}

-- whether an entry is among these
unfoldable pub occurs : U32TableEntry → List U32TableEntry → Bool
occurs e [] = false
occurs e (f ∷ fs) = same_key e f || occurs e fs

-- 11: "equal keys in a stored list, or one to be written"
unfoldable pub repeats : List U32TableEntry → Bool
repeats [] = false
repeats (e ∷ es) = occurs e es || repeats es
