-- Stored tables: entry k of `table_of` is the rule's value at k (`table_at`), and a list with these entries is that table (`is_table`). A rule is
-- proved at all entries of a list of numbers by one test that is computed over the whole list (`every_at`). Assumes nothing.
use Rattle.std.proofs.Common.{◌≡◌, ℕ, zero, suc, ◌+◌, ◌<◌, Bool, true, ◌&&◌, List, [], ◌∷◌, length, get_or, sym, refl, ap, ◌∙◌, add-zero, add-suc, suc-add, zero-add, arith, ext_get_or}
use mathlib.Core.Bool.{and-eq-true_iff}
use Rattle.field.specs.Tables.{table_of}

-- ---- the table of a rule
pub table_length : (rule : ℕ → ℕ) (i n : ℕ) → length (table_of rule i n) ≡ n
unfolding table_of
table_length rule i zero = refl
table_length rule i (suc n) = ap suc (table_length rule (suc i) n)

table_from : (rule : ℕ → ℕ) (i n k : ℕ) → k < n → get_or (table_of rule i n) k 0 ≡ rule (i + k)
unfolding table_of
table_from rule i zero k h = absurd (omega arith)
table_from rule i (suc n) zero h = rw add-zero refl
table_from rule i (suc n) (suc k) h = rw (add-suc, ← suc-add i k) (table_from rule (suc i) n k (omega arith))

pub table_at : (rule : ℕ → ℕ) (n k : ℕ) → k < n → get_or (table_of rule 0 n) k 0 ≡ rule k
table_at rule n k h = rw zero-add at (table_from rule 0 n k h)

pub is_table : (rule : ℕ → ℕ) (xs : List ℕ) (n : ℕ) → length xs ≡ n → ((k : ℕ) → k < n → get_or xs k 0 ≡ rule k) → xs ≡ table_of rule 0 n
is_table rule xs n e all =
    ext_get_or 0 xs (table_of rule 0 n) (e ∙ sym (table_length rule 0 n))
    (λ k h. all k (omega arith) ∙ sym (table_at rule n k (omega arith)))

-- ---- a test over a whole list

-- the test passes at each entry and its place, counted from i
abbrev pub every : (ℕ → ℕ → Bool) → ℕ → List ℕ → Bool
every test i [] = true
every test i (x ∷ xs) = test i x && every test (suc i) xs

from : (test : ℕ → ℕ → Bool) (xs : List ℕ) (i : ℕ) → every test i xs ≡ true
    → (k : ℕ) → k < length xs → test (i + k) (get_or xs k 0) ≡ true
from test [] i e k h = absurd (omega arith)
from test (x ∷ xs) i e zero h = rw add-zero ((and-eq-true_iff (test i x) (every test (suc i) xs)).0 e).0
from test (x ∷ xs) i e (suc k) h =
    rw (add-suc, ← suc-add i k) (from test xs (suc i) ((and-eq-true_iff (test i x) (every test (suc i) xs)).0 e).1 k (omega arith))

pub every_at : (test : ℕ → ℕ → Bool) (xs : List ℕ) → every test 0 xs ≡ true → (k : ℕ) → k < length xs → test k (get_or xs k 0) ≡ true
every_at test xs e k h = rw zero-add at (from test xs 0 e k h)
