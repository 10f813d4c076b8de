-- The rearrangement loses nothing, over the definitions: what was archived is held word for word (`table_held`, `aux_held`), and bytes of a right
-- length are the archive of what they hold (`own_bytes`). A table's columns are blocks of as many words as it has rows, and its rows are blocks of as
-- many words as it has columns; either way the blocks are one run. Assumes nothing.
use Prim.Native.Nat.{ℕ, zero, suc, ◌+◌, ◌*◌, ◌-◌, ◌^◌, ◌≤◌, ◌<◌}
use mathlib.Core.Path.{◌≡◌, refl, sym, ap, ap₂, ◌∙◌}
use mathlib.Core.Bool.{true, and-eq-true_iff}
use mathlib.Core.List.{List, [], ◌∷◌, ◌++◌, map, flat_map}
use native.Mathlib.Nat.{zero-add, add-zero}
use native.Mathlib.Omega.{arith}
use borrow.Author.Tests.{lt-ltb}
use lib.Dec.{lit<, ltb}
use lib.ListN.{length, get_or, take, drop, length-append, get_or-append}
use lib.Seq.{get_or-append-add, take_all}
use Rattle.field.specs.Elements.{p}
use Rattle.words.specs.LittleEndian.{le_at, le}
use Rattle.words.proofs.LittleEndian.{length_le, le_at_left, le_at_right, le_at_le, le_le_at}
use Rattle.words.specs.Places.{places_from, places}
use Rattle.words.proofs.Places.{length-map, get_d_map, map_cong, flat_cong, length_flat, get_d_flat, flat_parts}
use Rattle.table.specs.Columns.{main_width, aux_width, row_count, all_reduced}
use Rattle.table.proofs.Rows.{reduced_word, reduced_join}
use Rattle.archive.specs.Archives.{word_width, archive_length, column, columns, archive_words, archive_bytes}
use Rattle.archive.specs.Archives.{archived_word, archived_rows, archived_words, rows_from, archived_table, archived_aux}
use Rattle.std.proofs.lemmas.List.Folds.{flat_map-map}
use Rattle.archive.proofs.Blocks.{in_blocks, map_moved, run_append, blocks_join, map_places}
use Rattle.archive.proofs.Reasons.{Shaped}

-- ---- words as bytes

word_of : (ws : List ℕ) (k : ℕ) → k < length ws → get_or ws k 0 < 256 ^ word_width → le_at (flat_map (le word_width) ws) (word_width * k) word_width ≡ get_or ws k 0
unfolding flat_map
word_of [] k h b = absurd (omega arith)
word_of (w ∷ ws) zero h b =
    le_at_left (le word_width w) (flat_map (le word_width) ws) 0 word_width (omega (arith, length_le word_width w)) ∙ le_at_le word_width w b
word_of (w ∷ ws) (suc k) h b =
    let e : word_width * suc k ≡ length (le word_width w) + word_width * k = omega (arith, length_le word_width w) in
    rw e (le_at_right (le word_width w) (flat_map (le word_width) ws) (word_width * k) word_width ∙ word_of ws k (omega arith) b)

bytes_length : (ws : List ℕ) → length (flat_map (le word_width) ws) ≡ word_width * length ws
unfolding flat_map
bytes_length [] = refl
bytes_length (w ∷ ws) =
    let r = bytes_length ws in
    length-append (le word_width w) (flat_map (le word_width) ws) ∙ omega (arith, length_le word_width w)

-- ---- words below p, place by place

map_reduced : (f : ℕ → ℕ) (i n : ℕ) → ((j : ℕ) → i ≤ j → j < i + n → f j < p) → all_reduced (map f (places_from i n)) ≡ true
unfolding places_from all_reduced
map_reduced f i zero h = refl
map_reduced f i (suc n) h =
    (and-eq-true_iff (ltb (f i) p) (all_reduced (map f (places_from (suc i) n)))).1
    (lt-ltb (f i) p (h i (omega arith) (omega arith)), map_reduced f (suc i) n (λ j a b. h j (omega arith) (omega arith)))

flat_reduced : (g : ℕ → List ℕ) (i n : ℕ) → ((j : ℕ) → i ≤ j → j < i + n → all_reduced (g j) ≡ true) → all_reduced (flat_map g (places_from i n)) ≡ true
unfolding places_from flat_map all_reduced
flat_reduced g i zero h = refl
flat_reduced g i (suc n) h =
    reduced_join (g i) (flat_map g (places_from (suc i) n)) (h i (omega arith) (omega arith))
    (flat_reduced g (suc i) n (λ j a b. h j (omega arith) (omega arith)))

-- ---- columns of rows

module _ (w : ℕ) (ws : List ℕ) (n : ℕ) where
  columns_length : length (columns w ws n) ≡ n * w
  unfolding columns
  columns_length = length_flat (column w ws n) n (λ c. length-map _ 0 n) 0 w

  column_word : (c i : ℕ) → c < w → i < n → get_or (columns w ws n) (n * c + i) 0 ≡ get_or ws (w * i + c) 0
  unfolding columns
  column_word c i h l =
      get_d_flat (column w ws n) n (λ d. length-map _ 0 n) 0 w c i h l
      ∙ get_d_map (λ j. get_or ws (w * j + (0 + c)) 0) 0 n i l
      ∙ ap₂ (λ (a b : ℕ). get_or ws (w * a + b) 0) (zero-add i) (zero-add c)

  columns_reduced : length ws ≡ w * n → all_reduced ws ≡ true → all_reduced (columns w ws n) ≡ true
  unfolding columns
  columns_reduced e r =
      flat_reduced (column w ws n) 0 w
      (λ c a b. map_reduced (λ i. get_or ws (w * i + c) 0) 0 n
      (λ i a' b'. reduced_word ws r (w * i + c) (let q = in_blocks w n i c (omega arith) (omega arith) in omega arith)))

-- ---- what was archived is held

module _ (table aux : List ℕ) (shape : Shaped table aux) (rt : all_reduced table ≡ true) (rx : all_reduced aux ≡ true) where
  abbrev n : ℕ
  n = row_count table

  abbrev bytes : List ℕ
  bytes = archive_bytes table aux

  words_length : length (archive_words table aux) ≡ 1 + (n * main_width + n * aux_width)
  unfolding archive_words
  words_length =
      ap suc
      (length-append (columns main_width table n) (columns aux_width aux n)
      ∙ ap₂ (λ (a b : ℕ). a + b) (columns_length main_width table n) (columns_length aux_width aux n))
      ∙ omega arith

  pub archive_long : length bytes ≡ archive_length n
  unfolding archive_bytes
  archive_long = let e = words_length in bytes_length (archive_words table aux) ∙ omega arith

  words_reduced : all_reduced (archive_words table aux) ≡ true
  unfolding archive_words all_reduced
  words_reduced =
      let few = shape.table_is_whole.limit in
      (and-eq-true_iff (ltb n p) (all_reduced (columns main_width table n ++ columns aux_width aux n))).1 (
        lt-ltb n p (omega arith),
        reduced_join (columns main_width table n) (columns aux_width aux n)
            (columns_reduced main_width table n shape.table_is_whole.whole rt) (columns_reduced aux_width aux n shape.aux_length rx),
      )

  held : (k : ℕ) → k < 1 + (n * main_width + n * aux_width) → archived_word bytes k ≡ get_or (archive_words table aux) k 0
  unfolding archived_word archive_bytes
  held k h =
      let l = words_length in
      let b = reduced_word (archive_words table aux) words_reduced k (omega arith) in
      word_of (archive_words table aux) k (omega arith) (omega (arith, b, big))
    where
      big : p < 256 ^ word_width
      big = lit< tt

  pub rows_held : archived_rows bytes ≡ n
  unfolding archive_words
  rows_held = held 0 (omega arith)

  pub held_reduced : all_reduced (archived_words bytes) ≡ true
  held_reduced =
      rw rows_held
      (map_reduced (archived_word bytes) 1 ((main_width + aux_width) * n)
      (λ k a b. let l = words_length in rw (held k (omega arith)) (reduced_word (archive_words table aux) words_reduced k (omega arith))))

  main_word : (c i : ℕ) → c < main_width → i < n → archived_word bytes (1 + (n * c + i)) ≡ get_or table (main_width * i + c) 0
  unfolding archive_words
  main_word c i h l =
      let inside = in_blocks n main_width c i h l in
      let e : 1 + (n * c + i) ≡ suc (n * c + i) = omega arith in
      held (1 + (n * c + i)) (omega arith)
      ∙ rw e (get_or-append (columns main_width table n) (columns aux_width aux n) 0 (n * c + i) (omega (arith, columns_length main_width table n))
      ∙ column_word main_width table n c i h l)

  aux_word : (c i : ℕ) → c < aux_width → i < n → archived_word bytes (1 + n * main_width + (n * c + i)) ≡ get_or aux (aux_width * i + c) 0
  unfolding archive_words
  aux_word c i h l =
      let inside = in_blocks n aux_width c i h l in
      let len = columns_length main_width table n in
      let e : 1 + n * main_width + (n * c + i) ≡ suc (length (columns main_width table n) + (n * c + i)) = omega arith in
      held (1 + n * main_width + (n * c + i)) (omega arith)
      ∙ rw e (get_or-append-add (columns main_width table n) (columns aux_width aux n) (n * c + i) 0 ∙ column_word aux_width aux n c i h l)

  rows_of : (from w : ℕ) (ws : List ℕ) → length ws ≡ w * n
      → ((c i : ℕ) → c < w → i < n → archived_word bytes (from + (n * c + i)) ≡ get_or ws (w * i + c) 0) → rows_from bytes from w n ≡ ws
  unfolding rows_from
  rows_of from w ws e words =
      flat_cong _ (λ i. map (λ c. get_or ws (w * i + c) 0) (places w)) 0 n
      (λ i a b. map_cong _ (λ c. get_or ws (w * i + c) 0) 0 w (λ c a' b'. words c i (omega arith) (omega arith)))
      ∙ blocks_join (λ k. get_or ws k 0) w n
      ∙ map_places ws (w * n) e

  pub table_held : archived_table bytes ≡ table
  table_held = rw rows_held (rows_of 1 main_width table shape.table_is_whole.whole (λ c i h l. main_word c i h l))

  pub aux_held : archived_aux bytes ≡ aux
  aux_held = rw rows_held (rows_of (1 + n * main_width) aux_width aux shape.aux_length (λ c i h l. aux_word c i h l))

-- ---- bytes of a right length are the archive of what they hold

module _ (s : List ℕ) where
  abbrev m : ℕ
  m = archived_rows s

  -- word c of row i
  abbrev cell : (from c i : ℕ) → ℕ
  cell from c i = archived_word s (from + (m * c + i))

  pub rows_length : (from w : ℕ) → length (rows_from s from w m) ≡ w * m
  unfolding rows_from
  rows_length from w = length_flat (λ i. map (λ c. cell from c i) (places w)) w (λ i. length-map _ 0 w) 0 m

  row_word : (from w c i : ℕ) → c < w → i < m → get_or (rows_from s from w m) (w * i + c) 0 ≡ cell from c i
  unfolding rows_from
  row_word from w c i h l =
      get_d_flat (λ i. map (λ c. cell from c i) (places w)) w (λ i. length-map _ 0 w) 0 m i c l h
      ∙ get_d_map (λ d. cell from d (0 + i)) 0 w c h
      ∙ ap₂ (λ (d j : ℕ). cell from d j) (zero-add c) (zero-add i)

  -- where no word of the columns is p or more, no word of the rows is
  module _ (r : all_reduced (archived_words s) ≡ true) where
    below : (k : ℕ) → 1 ≤ k → k < 1 + (main_width + aux_width) * m → archived_word s k < p
    below k a q =
        let j : ℕ = k - 1 in
        let e : 1 + j ≡ k = omega arith in
        let w = length-map (archived_word s) 1 ((main_width + aux_width) * m) in
        let l = reduced_word (archived_words s) r j (omega arith) in
        let v = get_d_map (archived_word s) 1 ((main_width + aux_width) * m) j (omega arith) in
        let same : archived_word s (1 + j) ≡ archived_word s k = ap (archived_word s) e in
        omega (arith, l, v, same)

    pub rows_reduced : (from w : ℕ) → 1 ≤ from → from + m * w ≤ 1 + (main_width + aux_width) * m → all_reduced (rows_from s from w m) ≡ true
    unfolding rows_from
    rows_reduced from w a b =
        flat_reduced (λ i. map (λ c. cell from c i) (places w)) 0 m
        (λ i u v. map_reduced (λ c. cell from c i) 0 w
        (λ c u' v'. let q = in_blocks m w c i (omega arith) (omega arith) in below (from + (m * c + i)) (omega arith) (omega arith)))

  columns_again : (from w : ℕ) → columns w (rows_from s from w m) m ≡ map (archived_word s) (places_from from (m * w))
  unfolding columns
  columns_again from w =
      flat_cong _ (λ c. map (λ i. cell from c i) (places m)) 0 w
      (λ c p q. map_cong _ (λ i. cell from c i) 0 m (λ i p' q'. row_word from w c i (omega arith) (omega arith)))
      ∙ blocks_join (λ k. archived_word s (from + k)) m w
      ∙ map_moved (archived_word s) from 0 (m * w)
      ∙ ap (λ (k : ℕ). map (archived_word s) (places_from k (m * w))) (add-zero from)

  pub count_again : row_count (archived_table s) ≡ m
  count_again = let e = rows_length 1 main_width in omega arith

  words_again : archive_words (archived_table s) (archived_aux s) ≡ map (archived_word s) (places (1 + (m * main_width + m * aux_width)))
  unfolding archive_words places_from
  words_again =
      rw (count_again, columns_again 1 main_width, columns_again (1 + m * main_width) aux_width)
      (ap (λ (l : List ℕ). m ∷ l) (run_append (archived_word s) 1 (m * main_width) (m * aux_width)) ∙ first)
    where
      first : m ∷ map (archived_word s) (places_from 1 (m * main_width + m * aux_width)) ≡ map (archived_word s) (places (1 + (m * main_width + m * aux_width)))
      first = run_append (archived_word s) 0 1 (m * main_width + m * aux_width)

  pub own_bytes : ((j : ℕ) → get_or s j 0 < 256) → length s ≡ archive_length m → archive_bytes (archived_table s) (archived_aux s) ≡ s
  unfolding archive_bytes archived_word flat_map
  own_bytes b long =
      let k = 1 + (m * main_width + m * aux_width) in
      ap (flat_map (le word_width)) words_again
      ∙ flat_map-map (le word_width) (archived_word s) (places k)
      ∙ flat_parts s 0 word_width (λ j. le word_width (archived_word s j)) 0 k
      (λ j p q. le_le_at s b word_width (word_width * j) (omega arith) ∙ ap (λ (a : ℕ). take word_width (drop a s)) (sym (zero-add (word_width * j))))
      ∙ take_all (word_width * k) s (omega arith)
