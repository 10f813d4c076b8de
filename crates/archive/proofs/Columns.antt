-- The bytes of columns, column by column and word by word, their number, an archive stored part by part; rows read from a part of an archive; and all
-- words of an archive below p, word by word. Assumes nothing.
use Prim.Native.Nat.{ℕ, ◌+◌, ◌*◌, ◌-◌, ◌≤◌, ◌<◌}
use mathlib.Core.Path.{◌≡◌, sym, ap, ◌∙◌}
use mathlib.Core.Bool.{true, false}
use mathlib.Core.List.{List, ◌++◌, map, flat_map}
use native.Mathlib.Nat.{zero-add}
use native.Mathlib.Omega.{arith}
use lib.ListN.{length, get_or, take, drop, length-drop}
use lib.Seq.{sets, length-sets, take_all}
use borrow.Rule.Slice.PartMut.{put_mid}
use Rattle.field.specs.Elements.{p}
use Rattle.words.specs.LittleEndian.{le}
use Rattle.words.specs.Places.{places}
use Rattle.words.proofs.LittleEndian.{length_le, le_at_same}
use Rattle.words.proofs.Places.{length-map, get_d_map, map_cong, flat_cong, length_flat}
use Rattle.words.proofs.Sets.{sets_then}
use Rattle.table.specs.Columns.{main_width, aux_width, row_count, all_reduced}
use Rattle.table.proofs.Rows.{all_reduced_lem}
use Rattle.table.proofs.Shapes.{word_above}
use Rattle.archive.specs.Archives.{word_width, archive_length, column, columns, archive_words, archive_bytes, archived_word, archived_rows, archived_words, rows_from}
use Rattle.std.proofs.lemmas.List.{get_or-drop}
use Rattle.std.proofs.lemmas.Grind.{flat_map-append}
use Rattle.std.proofs.lemmas.List.Folds.{flat_map-map}
use Rattle.archive.proofs.Blocks.{block_end, part_put, flat_flat}

module _ (w : ℕ) (ws : List ℕ) (n : ℕ) where
  -- the bytes of column c
  abbrev pub column_bytes : ℕ → List ℕ
  column_bytes c = flat_map (le word_width) (column w ws n c)

  -- the bytes of the word in row i of it
  abbrev pub cell_bytes : ℕ → ℕ → List ℕ
  cell_bytes c i = le word_width (get_or ws (w * i + c) 0)

  pub column_bytes_lem : (c : ℕ) → column_bytes c ≡ flat_map (cell_bytes c) (places n)
  unfolding flat_map
  column_bytes_lem c = flat_map-map (le word_width) (λ i. get_or ws (w * i + c) 0) (places n)

  pub columns_bytes : flat_map (le word_width) (columns w ws n) ≡ flat_map column_bytes (places w)
  unfolding columns
  columns_bytes = flat_flat (le word_width) (column w ws n) (places w)

  pub cell_length : (c i : ℕ) → length (cell_bytes c i) ≡ word_width
  cell_length c i = length_le word_width (get_or ws (w * i + c) 0)

  pub column_length : (c : ℕ) → length (column_bytes c) ≡ word_width * n
  column_length c = ap length (column_bytes_lem c) ∙ length_flat (cell_bytes c) word_width (λ i. cell_length c i) 0 n

  pub columns_length : length (flat_map (le word_width) (columns w ws n)) ≡ word_width * n * w
  columns_length = ap length columns_bytes ∙ length_flat column_bytes (word_width * n) (λ c. column_length c) 0 w

  -- column c, stored at the front of what lies from its place on
  pub column_put : (c : ℕ) (out part : List ℕ)
      → part ≡ sets (take (length out - word_width * n * c) (drop (word_width * n * c) out)) 0 (column_bytes c)
      → c < w → word_width * n * w ≤ length out
      → put_mid (word_width * n * c) (length out - word_width * n * c) out part ≡ sets out (word_width * n * c) (column_bytes c)
  column_put c out part e h room =
      part_put (word_width * n * c) (length out - word_width * n * c) out (column_bytes c) part e
      (omega (arith, column_length c, block_end (word_width * n) c w h)) (omega (arith, block_end (word_width * n) c w h))

-- an archive, stored part by part: the row count, the main columns, the sum columns
pub put_archive : (table aux d d1 d2 d3 : List ℕ)
    → d1 ≡ sets d 0 (le word_width (row_count table))
    → d2 ≡ sets d1 word_width (flat_map (le word_width) (columns main_width table (row_count table)))
    → d3 ≡ sets d2 (word_width + word_width * row_count table * main_width) (flat_map (le word_width) (columns aux_width aux (row_count table)))
    → d3 ≡ sets d 0 (archive_bytes table aux)
unfolding archive_bytes archive_words flat_map
put_archive table aux d d1 d2 d3 e1 e2 e3 =
    let n = row_count table in
    let main = flat_map (le word_width) (columns main_width table n) in
    let sums = flat_map (le word_width) (columns aux_width aux n) in
    let l = columns_length main_width table n in
    e3
    ∙ sym
    (ap (λ (t : List ℕ). sets d 0 (le word_width n ++ t)) (flat_map-append (le word_width) (columns main_width table n) (columns aux_width aux n))
    ∙ sets_then (le word_width n) (main ++ sums) d d1 0 word_width e1 (omega (arith, length_le word_width n))
    ∙ sets_then main sums d1 d2 word_width (word_width + word_width * n * main_width) e2 (omega arith))

-- the same, the columns each at the front of what lies from their place on
module _ (table aux d d1 main_part sums_part : List ℕ) where
  abbrev sums_at : ℕ
  sums_at = word_width + word_width * row_count table * main_width

  -- the bytes with the main columns
  abbrev main_put : List ℕ
  main_put = put_mid word_width (length d1 - word_width) d1 main_part

  pub put_parts : d1 ≡ sets d 0 (le word_width (row_count table))
      → main_part ≡ sets (take (length d1 - word_width) (drop word_width d1)) 0 (flat_map (le word_width) (columns main_width table (row_count table)))
      → sums_part ≡ sets (take (length main_put - sums_at) (drop sums_at main_put)) 0 (flat_map (le word_width) (columns aux_width aux (row_count table)))
      → archive_length (row_count table) ≤ length d
      → put_mid sums_at (length main_put - sums_at) main_put sums_part ≡ sets d 0 (archive_bytes table aux)
  put_parts e1 e2 e3 room =
      let n = row_count table in
      let main = flat_map (le word_width) (columns main_width table n) in
      let sums = flat_map (le word_width) (columns aux_width aux n) in
      let lm = columns_length main_width table n in
      let ls = columns_length aux_width aux n in
      let l1 : length d1 ≡ length d = ap length e1 ∙ length-sets d 0 (le word_width n) in
      let put : main_put ≡ sets d1 word_width main = part_put word_width (length d1 - word_width) d1 main main_part e2 (omega arith) (omega arith) in
      let l2 : length main_put ≡ length d = ap length put ∙ length-sets d1 word_width main ∙ l1 in
      put_archive table aux d d1 main_put _ e1 put
      (part_put sums_at (length main_put - sums_at) main_put sums sums_part e3 (omega arith) (omega arith))

-- ---- rows whose columns stand at the front of a part of the bytes

pub rows_in_front : (s : List ℕ) (w n : ℕ) → rows_from s 0 w n ≡ flat_map (λ i. map (λ c. archived_word s (n * c + i)) (places w)) (places n)
unfolding rows_from
rows_in_front s w n = flat_cong _ _ 0 n (λ i a b. map_cong _ _ 0 w (λ c a' b'. ap (archived_word s) (zero-add (n * c + i))))

-- row i, stored at the front of what lies from its place on
pub row_put : (w n i : ℕ) (row to part : List ℕ) → part ≡ sets (take (length to - w * i) (drop (w * i) to)) 0 row → length row ≡ w
    → i < n → w * n ≤ length to → put_mid (w * i) (length to - w * i) to part ≡ sets to (w * i) row
row_put w n i row to part e whole h room =
    part_put (w * i) (length to - w * i) to row part e
    (omega (arith, whole, block_end w i n h)) (omega (arith, block_end w i n h))

-- the part from word `from` on
module _ (s : List ℕ) (from : ℕ) where
  abbrev from_word : List ℕ
  from_word = take (length s - word_width * from) (drop (word_width * from) s)

  word_moved : (k : ℕ) → archived_word from_word (0 + k) ≡ archived_word s (from + k)
  unfolding archived_word
  word_moved k =
      let at = word_width * from in
      let whole : from_word ≡ drop at s = take_all (length s - at) (drop at s) (omega (arith, length-drop at s)) in
      le_at_same from_word s (word_width * (0 + k)) (word_width * (from + k)) word_width
      (λ j p.
      let e : at + (word_width * (0 + k) + j) ≡ word_width * (from + k) + j = omega arith in
      rw whole (get_or-drop at s (word_width * (0 + k) + j) 0 ∙ ap (λ (i : ℕ). get_or s i 0) e))

  pub rows_moved : (w n : ℕ) → rows_from from_word 0 w n ≡ rows_from s from w n
  unfolding rows_from
  rows_moved w n = flat_cong _ _ 0 n (λ i a b. map_cong _ _ 0 w (λ c a' b'. word_moved (n * c + i)))

-- ---- all words of the columns below p, as a loop over the words tells it

module _ (s : List ℕ) where
  words_count : length (archived_words s) ≡ (main_width + aux_width) * archived_rows s
  words_count = length-map (archived_word s) 1 ((main_width + aux_width) * archived_rows s)

  -- word k of the bytes among those of the columns
  word_among : (k : ℕ) → 1 ≤ k → k < 1 + (main_width + aux_width) * archived_rows s → get_or (archived_words s) (k - 1) 0 ≡ archived_word s k
  word_among k a b =
      let e : 1 + (k - 1) ≡ k = omega arith in
      get_d_map (archived_word s) 1 ((main_width + aux_width) * archived_rows s) (k - 1) (omega arith) ∙ ap (archived_word s) e

  pub word_found : (k : ℕ) → 1 ≤ k → k < 1 + (main_width + aux_width) * archived_rows s → p ≤ archived_word s k → false ≡ all_reduced (archived_words s)
  word_found k a b h = word_above (archived_words s) (k - 1) (omega (arith, words_count)) (omega (arith, word_among k a b))

  pub words_passed : ((k : ℕ) → 1 ≤ k → k < 1 + (main_width + aux_width) * archived_rows s → archived_word s k < p) → true ≡ all_reduced (archived_words s)
  words_passed h =
      sym
      (all_reduced_lem (archived_words s)
      (λ i l.
      let n = words_count in
      let a : 1 ≤ i + 1 = omega arith in
      let b : i + 1 < 1 + (main_width + aux_width) * archived_rows s = omega arith in
      let e : i + 1 - 1 ≡ i = omega arith in
      let v : get_or (archived_words s) i 0 ≡ archived_word s (i + 1) = rw e at (word_among (i + 1) a b) in
      omega (arith, h (i + 1) a b)))
