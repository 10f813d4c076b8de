-- The ten words of a row as a part of a table's words.
use Prim.Native.Nat.{ℕ, zero, suc, ◌+◌, ◌-◌, ◌*◌, ◌≤◌}
use mathlib.Core.Path.{◌≡◌, refl, ap, sym, ◌∙◌}
use mathlib.Core.List.{List, [], ◌∷◌}
use native.Mathlib.Nat.{add-zero, add-suc}
use native.Mathlib.Omega.{arith}
use lib.ListN.{length, get_or, take, drop}
use lib.Seq.{drop-cons}
use Rattle.table.specs.Columns.{main_width, row_at}
use Rattle.table.specs.RowWords.{row_words}

-- the k words from place j + o on
abbrev pub words_at : List ℕ → ℕ → ℕ → ℕ → List ℕ
words_at t j o zero = []
words_at t j o (suc k) = get_or t (j + o) 0 ∷ words_at t j (suc o) k

pub part_words : (t : List ℕ) (j o k : ℕ) → j + o + k ≤ length t → take k (drop (j + o) t) ≡ words_at t j o k
part_words t j o zero h = refl
part_words t j o (suc k) h =
    let e : suc (j + o) ≡ j + suc o = sym (add-suc j o) in
    rw (drop-cons t (j + o) 0 (omega arith), e)
    (ap (λ (l : List ℕ). get_or t (j + o) 0 ∷ l) (part_words t j (suc o) k (omega arith)))

pub row_words_lem : (table : List ℕ) (i : ℕ) → main_width * i + main_width ≤ length table
    → take (main_width * i + main_width - main_width * i) (drop (main_width * i) table) ≡ row_words (row_at table i)
unfolding row_at
row_words_lem table i h =
    let e : main_width * i + main_width - main_width * i ≡ main_width = omega arith in
    rw e
    (ap (λ (j : ℕ). take main_width (drop j table)) (sym (add-zero (main_width * i)))
    ∙ part_words table (main_width * i) 0 main_width (omega arith)
    ∙ ap (λ (j : ℕ). get_or table j 0 ∷ words_at table (main_width * i) 1 9) (add-zero (main_width * i)))
