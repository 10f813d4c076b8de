-- The printed example (document 01, "Recording and stored lists"): "For Indeterminate (1, 0, 0), weights zero, and the one entry and 3, 1 with
-- multiplicity 2 it prints" what follows there, on the padded height of change request 4. The list is stored in the form of change request 9.
use Rattle.std.specs.Prelude.{ℕ, zero, suc, List, [], ◌∷◌, ◌++◌, replicate}
use Rattle.text.specs.Lines.{ascii}

-- fifteen challenge words, the first of them 1
abbrev pub example_challenges : List ℕ
example_challenges = 1 ∷ replicate 119 0

-- N and height; opcode, LHS, RHS; multiplicity
abbrev pub stored_list : List ℕ
stored_list =
    1 ∷ 0 ∷ 0 ∷ 0
    ∷ 3 ∷ 0 ∷ 0 ∷ 0
    ∷ 14
    ∷ 3 ∷ 0 ∷ 0 ∷ 0 ∷ 0 ∷ 0 ∷ 0 ∷ 0
    ∷ 1 ∷ 0 ∷ 0 ∷ 0 ∷ 0 ∷ 0 ∷ 0 ∷ 0
    ∷ 2 ∷ 0 ∷ 0 ∷ 0 ∷ 0 ∷ 0 ∷ 0 ∷ 0 ∷ []

abbrev pub input : List ℕ
input = example_challenges ++ stored_list

-- a text n times
unfoldable pub repeated : ℕ → List ℕ → List ℕ
repeated zero text = []
repeated (suc n) text = text ++ repeated n text

-- "The printed session of document 01 then says `padded 256` and has 253 padding rows; its other lines keep their text."
abbrev pub printed : List ℕ
printed =
    ascii "entries 1 rows 3 padded 256\n"
    ++ ascii "1 0 15651782846776010939 14 3 12297829379609722881 1 1 1 2\n"
    ++ ascii "0 1 576460752169205760 14 1 1 0 0 0 0\n"
    ++ ascii "0 2 7140675123644355221 14 0 0 0 0 0 0\n"
    ++ repeated 253 (ascii "0 0 15651782846776010939 14 0 0 0 0 0 0\n")
    ++ ascii "sum 2 0 0\n"
    ++ ascii "zero\n"
