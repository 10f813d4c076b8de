-- Printed rows: the words of a row and of its sum as blocks of the two arrays, how long their lines can be, that parts of them are the whole (rows_join),
-- that a part is made of what is left of the arrays (rows_of_parts) or of their first words (rows_of_first), and a turn of the loop that puts them. Assumes nothing.
use Prim.Native.Nat.{ℕ, zero, suc, ◌+◌, ◌-◌, ◌*◌, ◌≤◌, ◌<◌}
use mathlib.Core.Path.{◌≡◌, refl, sym, ap, ap₂, ◌∙◌}
use mathlib.Core.List.{List, [], ◌∷◌, ◌++◌, append-nil, append_assoc}
use native.Mathlib.Nat.{zero-add, add-zero, add-suc}
use native.Mathlib.Numerals.{add-one}
use native.Mathlib.Omega.{arith}
use lib.ListN.{length, get_or, take, drop, length-append, length-drop}
use lib.Seq.{take_at, drop_at, drop-drop, get_or-drop, get_or-take}
use borrow.Rule.Slice.PartMut.{put_mid}
use Rattle.transcript.proofs.Rows.{words_at, part_words, row_words_lem}
use Rattle.xfield.specs.Extension.{Ext}
use Rattle.table.specs.Columns.{Row, row_at, row_count, aux_at, element_at, main_width, aux_width}
use Rattle.table.specs.RowWords.{row_words}
use Rattle.sums.specs.RunningSum.{element_words}
use Rattle.text.specs.Lines.{row_line}
use Rattle.text.specs.declared.Text.{Text}
use Rattle.text.specs.Put.{HasRoom, Adds}
use Rattle.text.proofs.Lengths.{row_bound}
use Rattle.text.proofs.Adding.{adds_none, adds_then}
use Rattle.archive_text.specs.Unpacking.{printed_row, printed_rows, max_row_line}

pub thirteen_bound : (r : Row) (x : Ext) → length (row_line (row_words r ++ element_words x)) ≤ max_row_line
thirteen_bound r x =
    row_bound r.copy_flag
    (r.bits ∷ r.bits_minus33_inv ∷ r.ci ∷ r.lhs ∷ r.lhs_inv ∷ r.rhs ∷ r.rhs_inv ∷ r.result ∷ r.lookup_multiplicity ∷ element_words x)

-- the ten words of row i, and the three of its sum, as parts of the two arrays
row_part : (table : List ℕ) (i : ℕ) → main_width * i + main_width ≤ length table → take main_width (drop (main_width * i) table) ≡ row_words (row_at table i)
row_part table i h =
    let e : main_width * i + main_width - main_width * i ≡ main_width = omega arith in
    rw e at (row_words_lem table i h)

sum_part : (aux : List ℕ) (i : ℕ) → aux_width * i + aux_width ≤ length aux → take aux_width (drop (aux_width * i) aux) ≡ element_words (aux_at aux i)
unfolding element_at
sum_part aux i h =
    ap (λ (j : ℕ). take aux_width (drop j aux)) (sym (add-zero (aux_width * i)))
    ∙ part_words aux (aux_width * i) 0 aux_width (omega arith)
    ∙ ap (λ (j : ℕ). get_or aux j 0 ∷ words_at aux (aux_width * i) 1 2) (add-zero (aux_width * i))

-- thirteen words, of which the first ten are written over, and then the last three
pub words_joined : {ten three row sum : List ℕ} → ten ≡ row → three ≡ sum → length row ≡ main_width
    → put_mid main_width aux_width (ten ++ (0 ∷ 0 ∷ 0 ∷ [])) three ≡ row ++ sum
words_joined {row = row} {sum = sum} e f h =
    rw (e, f, take_at row (0 ∷ 0 ∷ 0 ∷ []) main_width h, drop_at row (0 ∷ 0 ∷ 0 ∷ []) main_width h, append-nil) refl

-- words of what is left of an array
words_left_from : (xs : List ℕ) (a b j : ℕ) → a + b ≡ j → (o n : ℕ) → words_at (drop a xs) b o n ≡ words_at xs j o n
words_left_from xs a b j e o zero = refl
words_left_from xs a b j e o (suc n) =
    let f : a + (b + o) ≡ j + o = omega (arith, e) in
    ap₂ (λ (x : ℕ) (l : List ℕ). x ∷ l) (get_or-drop a xs (b + o) 0 ∙ ap (λ (k : ℕ). get_or xs k 0) f) (words_left_from xs a b j e (suc o) n)

words_left : (xs : List ℕ) (a b j : ℕ) → a + b ≡ j → (n : ℕ) → get_or (drop a xs) b 0 ∷ words_at (drop a xs) b 1 n ≡ get_or xs j 0 ∷ words_at xs j 1 n
words_left xs a b j e n =
    ap₂ (λ (x : ℕ) (l : List ℕ). x ∷ l) (get_or-drop a xs b 0 ∙ ap (λ (k : ℕ). get_or xs k 0) e) (words_left_from xs a b j e 1 n)

-- words of the first m of an array
words_first_from : (xs : List ℕ) (m j o n : ℕ) → j + o + n ≤ m → words_at (take m xs) j o n ≡ words_at xs j o n
words_first_from xs m j o zero h = refl
words_first_from xs m j o (suc n) h =
    ap₂ (λ (x : ℕ) (l : List ℕ). x ∷ l) (get_or-take m xs (j + o) 0 (omega (arith, h))) (words_first_from xs m j (suc o) n (omega (arith, h)))

words_first : (xs : List ℕ) (m j n : ℕ) → j + 1 + n ≤ m → get_or (take m xs) j 0 ∷ words_at (take m xs) j 1 n ≡ get_or xs j 0 ∷ words_at xs j 1 n
words_first xs m j n h =
    ap₂ (λ (x : ℕ) (l : List ℕ). x ∷ l) (get_or-take m xs j 0 (omega (arith, h))) (words_first_from xs m j 1 n h)

-- the block of w words at number i comes, and the words of the others are left
module _ (w i : ℕ) (xs block rest : List ℕ) (comes : drop (w * i) xs ≡ block ++ rest) (whole : length block ≡ w) where
  block_lem : block ≡ take w (drop (w * i) xs)
  block_lem = sym (take_at block rest w whole) ∙ ap (take w) (sym comes)

  pub block_within : 0 < w → w * i + w ≤ length xs
  block_within h = omega (arith, ap length comes, length-drop (w * i) xs, length-append block rest)

  pub left_lem : (j : ℕ) → j ≡ i + 1 → rest ≡ drop (w * j) xs
  left_lem j next =
      let e : w * i + w ≡ w * j = rw next (omega arith) in
      sym (drop_at block rest w whole) ∙ ap (drop w) (sym comes) ∙ drop-drop w (w * i) xs ∙ ap (λ (k : ℕ). drop k xs) e

-- all rows came where the words of no more are left, or of no more sums
pub no_more_rows : (table : List ℕ) (i : ℕ) → i ≤ row_count table → length (drop (main_width * i) table) < main_width → i ≡ row_count table
no_more_rows table i within none = omega (arith, within, none, length-drop (main_width * i) table)

pub no_more_sums : (table aux : List ℕ) (i : ℕ) → i ≤ row_count table → aux_width * row_count table ≤ length aux
    → length (drop (aux_width * i) aux) < aux_width → i ≡ row_count table
no_more_sums table aux i within enough none = omega (arith, within, enough, none, length-drop (aux_width * i) aux)

-- a row comes with its sum
pub pair_lem : (table aux : List ℕ) (i : ℕ) (row words sum sums : List ℕ) → drop (main_width * i) table ≡ row ++ words → length row ≡ main_width
    → drop (aux_width * i) aux ≡ sum ++ sums → length sum ≡ aux_width → row ++ sum ≡ printed_row table aux i
pair_lem table aux i row words sum sums e l f m =
    ap₂ (λ (a b : List ℕ). a ++ b)
    (block_lem main_width i table row words e l ∙ row_part table i (block_within main_width i table row words e l (omega arith)))
    (block_lem aux_width i aux sum sums f m ∙ sum_part aux i (block_within aux_width i aux sum sums f m (omega arith)))

module _ (table aux : List ℕ) where
  pub line_bound : (i : ℕ) → length (row_line (printed_row table aux i)) ≤ max_row_line
  line_bound i = thirteen_bound (row_at table i) (aux_at aux i)

  pub rows_bound : (from n : ℕ) → length (printed_rows table aux from n) ≤ max_row_line * n
  unfolding printed_rows
  rows_bound from zero = omega arith
  rows_bound from (suc n) =
      omega (arith, rows_bound from n, line_bound (from + n), length-append (printed_rows table aux from n) (row_line (printed_row table aux (from + n))))

  -- so the text may be written in parts
  pub rows_join : (from n m : ℕ) → printed_rows table aux from (n + m) ≡ printed_rows table aux from n ++ printed_rows table aux (from + n) m
  unfolding printed_rows
  rows_join from n zero = rw (add-zero n, append-nil)
  rows_join from n (suc m) =
      let e : from + (n + m) ≡ from + n + m = omega arith in
      rw (add-suc n m, e, rows_join from n m, append_assoc)

  -- and each part from what is left of the two arrays
  row_of_parts : (from i : ℕ) → printed_row (drop (main_width * from) table) (drop (aux_width * from) aux) (0 + i) ≡ printed_row table aux (from + i)
  unfolding row_at element_at
  row_of_parts from i =
      let e : main_width * from + main_width * (0 + i) ≡ main_width * (from + i) = omega arith in
      let f : aux_width * from + aux_width * (0 + i) ≡ aux_width * (from + i) = omega arith in
      ap₂ (λ (a b : List ℕ). a ++ b) (words_left table _ _ _ e 9) (words_left aux _ _ _ f 2)

  pub rows_of_parts : (from n : ℕ) → printed_rows (drop (main_width * from) table) (drop (aux_width * from) aux) 0 n ≡ printed_rows table aux from n
  unfolding printed_rows
  rows_of_parts from zero = refl
  rows_of_parts from (suc n) = ap₂ (λ (lines words : List ℕ). lines ++ row_line words) (rows_of_parts from n) (row_of_parts from n)

  -- of which it has the first k
  row_of_first : (k i : ℕ) → i < k → printed_row (take (main_width * k) table) (take (aux_width * k) aux) i ≡ printed_row table aux i
  unfolding row_at element_at
  row_of_first k i h =
      ap₂ (λ (a b : List ℕ). a ++ b)
      (words_first table (main_width * k) (main_width * i) 9 (omega (arith, h)))
      (words_first aux (aux_width * k) (aux_width * i) 2 (omega (arith, h)))

  pub rows_of_first : (k n : ℕ) → n ≤ k → printed_rows (take (main_width * k) table) (take (aux_width * k) aux) 0 n ≡ printed_rows table aux 0 n
  unfolding printed_rows
  rows_of_first k zero h = refl
  rows_of_first k (suc n) h = ap₂ (λ (lines words : List ℕ). lines ++ row_line words) (rows_of_first k n (omega (arith, h))) (row_of_first k (0 + n) (omega (arith, h)))

  -- ---- the loop
  pub no_rows : (t : Text) → HasRoom t 0 → Adds t (printed_rows table aux 0 0) t
  unfolding printed_rows
  no_rows t h = adds_none t h

  pub one_row_more : (i : ℕ) {old mid new : Text} → Adds old (printed_rows table aux 0 i) mid
      → Adds mid (row_line (printed_row table aux i)) new → Adds old (printed_rows table aux 0 (i + 1)) new
  unfolding printed_rows
  one_row_more i p q = rw (add-one, zero-add i) (adds_then p q)
