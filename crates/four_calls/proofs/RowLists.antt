-- Lists of rows: what holds of each row, and of each two neighbours, goes through `++` and is so at every index; and the rows of the
-- words of a list of rows are the list. A list of rows is taken to stand below a row, so that none needs to be told apart as empty.
use Prim.Native.Nat.{ℕ, zero, suc, ◌+◌, ◌*◌, ◌≤◌, ◌<◌}
use mathlib.Core.Path.{◌≡◌, refl, sym, ap, ap₂, ◌∙◌}
use mathlib.Core.Bool.{Bool, true, false, cond}
use mathlib.Core.List.{List, [], ◌∷◌, ◌++◌}
use native.Mathlib.Omega.{arith}
use native.Mathlib.Numerals.{add-one}
use lib.Dec.{eqb}
use lib.ListN.{length, get_or, take, replicate}
use lib.Seq.{take-suc, take-length}
use borrow.Author.Tests.{lt-ltb, eq-eqb}
use Rattle.field.specs.Elements.{p}
use Rattle.table.specs.Columns.{Row, main_width, row_at, row_count, all_reduced}
use Rattle.table.proofs.Rows.{RowReduced}
use Rattle.table.specs.RowWords.{table_words}
use Rattle.fill.proofs.ListSections.{words_length}
use Rattle.four_calls.specs.FourCalls.{table_rows_to, copy_flag1}

-- ---- every row
abbrev pub Each : (Row → Type 0) → List Row → Type 0
Each P [] = Unit {0}
Each P (a ∷ xs) = P a × Each P xs

pub each_join : (P : Row → Type 0) (xs ys : List Row) → Each P xs → Each P ys → Each P (xs ++ ys)
each_join P [] ys h k = k
each_join P (a ∷ xs) ys h k = (h.0, each_join P xs ys h.1 k)

pub each_same : (P : Row → Type 0) (n : ℕ) (a : Row) → P a → Each P (replicate n a)
each_same P zero a h = tt
each_same P (suc n) a h = (h, each_same P n a h)

pub each_map : (P Q : Row → Type 0) → ((a : Row) → P a → Q a) → (xs : List Row) → Each P xs → Each Q xs
each_map P Q f [] h = tt
each_map P Q f (a ∷ xs) h = (f a h.0, each_map P Q f xs h.1)

pub each_at : (P : Row → Type 0) (d : Row) (xs : List Row) → Each P xs → (i : ℕ) → i < length xs → P (get_or xs i d)
each_at P d [] h i l = absurd (omega arith)
each_at P d (a ∷ xs) h zero l = h.0
each_at P d (a ∷ xs) h (suc i) l = each_at P d xs h.1 i (omega arith)

-- ---- the last row of a list that stands below the row a
abbrev pub last_of : Row → List Row → Row
last_of a [] = a
last_of a (b ∷ xs) = last_of b xs

pub last_join : (a : Row) (xs ys : List Row) → last_of a (xs ++ ys) ≡ last_of (last_of a xs) ys
last_join a [] ys = refl
last_join a (b ∷ xs) ys = last_join b xs ys

pub last_same : (P : Row → Type 0) (n : ℕ) (a b : Row) → P a → P b → P (last_of a (replicate n b))
last_same P zero a b h k = h
last_same P (suc n) a b h k = last_same P n b b k k

pub last_each : (P : Row → Type 0) (a : Row) (xs : List Row) → P a → Each P xs → P (last_of a xs)
last_each P a [] h k = h
last_each P a (b ∷ xs) h k = last_each P b xs k.0 k.1

pub last_at : (d a : Row) (xs : List Row) (i : ℕ) → i + 1 ≡ length xs → get_or xs i d ≡ last_of a xs
last_at d a [] i l = absurd (omega arith)
last_at d a (b ∷ []) zero l = refl
last_at d a (b ∷ []) (suc i) l = absurd (omega arith)
last_at d a (b ∷ c ∷ xs) zero l = absurd (omega arith)
last_at d a (b ∷ c ∷ xs) (suc i) l = last_at d b (c ∷ xs) i (omega arith)

-- ---- every two neighbours, where the list stands below the row a
abbrev pub Below : (Row → Row → Type 0) → Row → List Row → Type 0
Below Q a [] = Unit {0}
Below Q a (b ∷ xs) = Q a b × Below Q b xs

pub below_join : (Q : Row → Row → Type 0) (a : Row) (xs ys : List Row) → Below Q a xs → Below Q (last_of a xs) ys → Below Q a (xs ++ ys)
below_join Q a [] ys h k = k
below_join Q a (b ∷ xs) ys h k = (h.0, below_join Q b xs ys h.1 k)

pub below_same : (Q : Row → Row → Type 0) (n : ℕ) (a b : Row) → Q a b → Q b b → Below Q a (replicate n b)
below_same Q zero a b h k = tt
below_same Q (suc n) a b h k = (h, below_same Q n b b k k)

below_at_suc : (Q : Row → Row → Type 0) (d a : Row) (xs : List Row) → Below Q a xs → (i : ℕ) → suc i < length xs
    → Q (get_or xs i d) (get_or xs (suc i) d)
below_at_suc Q d a [] h i l = absurd (omega arith)
below_at_suc Q d a (b ∷ []) h i l = absurd (omega arith)
below_at_suc Q d a (b ∷ c ∷ xs) h zero l = h.1.0
below_at_suc Q d a (b ∷ c ∷ xs) h (suc i) l = below_at_suc Q d b (c ∷ xs) h.1 i (omega arith)

pub below_at : (Q : Row → Row → Type 0) (d a : Row) (xs : List Row) → Below Q a xs → (i : ℕ) → i + 1 < length xs
    → Q (get_or xs i d) (get_or xs (i + 1) d)
below_at Q d a xs h i l = rw add-one (below_at_suc Q d a xs h i (omega arith))

-- ---- the rows with CopyFlag 1
pub flagged_join : (xs ys : List Row) → copy_flag1 (xs ++ ys) ≡ copy_flag1 xs ++ copy_flag1 ys
unfolding copy_flag1
flagged_join [] ys = refl
flagged_join (a ∷ xs) ys = go (flagged_join xs ys) (eqb a.copy_flag 1)
  where
    go : copy_flag1 (xs ++ ys) ≡ copy_flag1 xs ++ copy_flag1 ys → (t : Bool)
        → cond t (a ∷ copy_flag1 (xs ++ ys)) (copy_flag1 (xs ++ ys)) ≡ cond t (a ∷ copy_flag1 xs) (copy_flag1 xs) ++ copy_flag1 ys
    go e true = ap (λ (l : List Row). a ∷ l) e
    go e false = e

pub flagged_none : (xs : List Row) → Each (λ a. a.copy_flag ≡ 0) xs → copy_flag1 xs ≡ []
unfolding copy_flag1
flagged_none [] h = refl
flagged_none (a ∷ xs) h = rw h.0 (flagged_none xs h.1)

pub flagged_first : (a : Row) (xs : List Row) → a.copy_flag ≡ 1 → Each (λ b. b.copy_flag ≡ 0) xs → copy_flag1 (a ∷ xs) ≡ a ∷ []
unfolding copy_flag1
flagged_first a xs f h =
    ap (λ (t : Bool). cond t (a ∷ copy_flag1 xs) (copy_flag1 xs)) (eq-eqb a.copy_flag 1 f) ∙ ap (λ (l : List Row). a ∷ l) (flagged_none xs h)

-- ---- the words of rows
pub words_rows : (xs : List Row) → row_count (table_words xs) ≡ length xs
words_rows xs = let whole = words_length xs in omega arith

pub words_reduced : (xs : List Row) → Each RowReduced xs → all_reduced (table_words xs) ≡ true
unfolding table_words all_reduced
words_reduced [] h = refl
words_reduced (a ∷ xs) h =
    rw (
      lt-ltb _ p h.0.copy_flag_below,
      lt-ltb _ p h.0.bits_below,
      lt-ltb _ p h.0.bits_minus33_inv_below,
      lt-ltb _ p h.0.ci_below,
      lt-ltb _ p h.0.lhs_below,
      lt-ltb _ p h.0.lhs_inv_below,
      lt-ltb _ p h.0.rhs_below,
      lt-ltb _ p h.0.rhs_inv_below,
      lt-ltb _ p h.0.result_below,
      lt-ltb _ p h.0.lookup_multiplicity_below,
    )
    (words_reduced xs h.1)

-- one row further on
shift : (a : Row) (xs : List Row) (i k : ℕ)
    → get_or (table_words (a ∷ xs)) (main_width * suc i + k) 0 ≡ get_or (table_words xs) (main_width * i + k) 0
unfolding table_words
shift a xs i k =
    ap (λ (j : ℕ). get_or (table_words (a ∷ xs)) j 0)
    (let e : 10 * suc i + k ≡ suc (suc (suc (suc (suc (suc (suc (suc (suc (suc (10 * i + k)))))))))) = omega arith in e)

pub row_of_words : (d : Row) (xs : List Row) (i : ℕ) → i < length xs → row_at (table_words xs) i ≡ get_or xs i d
unfolding row_at table_words
row_of_words d [] i l = absurd (omega arith)
row_of_words d (a ∷ xs) zero l = refl
row_of_words d (a ∷ xs) (suc i) l = up ∙ row_of_words d xs i (omega arith)
  where
    none : (j : ℕ) → j + 0 ≡ j
    none j = omega arith

    first : get_or (table_words (a ∷ xs)) (main_width * suc i) 0 ≡ get_or (table_words xs) (main_width * i) 0
    first = rw (none (main_width * suc i), none (main_width * i)) at (shift a xs i 0)

    up : row_at (table_words (a ∷ xs)) (suc i) ≡ row_at (table_words xs) i
    up = λ t. record {
      copy_flag = first t;
      bits = shift a xs i 1 t;
      bits_minus33_inv = shift a xs i 2 t;
      ci = shift a xs i 3 t;
      lhs = shift a xs i 4 t;
      lhs_inv = shift a xs i 5 t;
      rhs = shift a xs i 6 t;
      rhs_inv = shift a xs i 7 t;
      result = shift a xs i 8 t;
      lookup_multiplicity = shift a xs i 9 t;
    }

rows_to_words : (d : Row) (xs : List Row) (n : ℕ) → n ≤ length xs → table_rows_to (table_words xs) n ≡ take n xs
unfolding table_rows_to
rows_to_words d xs zero l = refl
rows_to_words d xs (suc n) l =
    ap₂ (λ (rs : List Row) (r : Row). rs ++ (r ∷ [])) (rows_to_words d xs n (omega arith)) (row_of_words d xs n (omega arith))
    ∙ sym (take-suc xs n d (omega arith))

-- the rows of the words of a list of rows are the list
pub rows_of_words : (d : Row) (xs : List Row) → table_rows_to (table_words xs) (row_count (table_words xs)) ≡ xs
rows_of_words d xs = ap (table_rows_to (table_words xs)) (words_rows xs) ∙ rows_to_words d xs (length xs) (omega arith) ∙ take-length xs
