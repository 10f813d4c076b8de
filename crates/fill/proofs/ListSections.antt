-- The sections of a list, joined. A place more adds its section's rows (`rows_more`). Where the list is judged fine, every used place has a
-- section (`section_at_lem`), so there are as many rows as the height says (`rows_height`). Assumes nothing.
use Prim.Native.Nat.{ℕ, zero, suc, ◌+◌, ◌*◌, ◌≤◌, ◌<◌}
use mathlib.Core.Path.{◌≡◌, refl, sym, ap, ◌∙◌}
use mathlib.Core.List.{List, [], ◌∷◌, ◌++◌, append-nil, append_assoc}
use native.Mathlib.Nat.{le_refl}
use native.Mathlib.Numerals.{add-one}
use native.Mathlib.Omega.{arith}
use lib.ListN.{length, length-append}
use lib.Seq.{sets}
use Rattle.words.specs.Places.{places_from, places}
use Rattle.words.specs.Refusals.{Fine}
use Rattle.words.proofs.Places.{places_more}
use Rattle.words.proofs.Sets.{sets_then}
use Rattle.isa.specs.Entries.{height}
use Rattle.list.specs.Lists.{U32List, used, entry_at, multiplicity_at, judge_list}
use Rattle.list.specs.Heights.{list_height}
use Rattle.list.proofs.JudgedLists.{entry_admissible, height_to, height_more, height_none, height_to_mono, list_height_lem}
use Rattle.table.specs.Columns.{Row, main_width}
use Rattle.table.specs.RowWords.{row_words, table_words}
use Rattle.fill_sections.specs.Sections.{first_pending, Section, rows, no_section, section, rows_of, section_words}
use Rattle.fill.specs.Filling.{sections_at, sections}
use Rattle.fill_sections.proofs.Sections.{HasRows, section_rows}

-- ---- words

pub words_append : (rs ss : List Row) → table_words (rs ++ ss) ≡ table_words rs ++ table_words ss
unfolding table_words
words_append [] ss = refl
words_append (r ∷ rs) ss = ap (λ (ws : List ℕ). row_words r ++ ws) (words_append rs ss)

pub words_length : (rs : List Row) → length (table_words rs) ≡ main_width * length rs
unfolding table_words
words_length [] = refl
words_length (r ∷ rs) = omega (arith, words_length rs)

-- ---- the rows of a section, and of the sections of some places

pub section_words_lem : (s : Section) → section_words s ≡ table_words (rows_of s)
unfolding table_words
section_words_lem (rows first more) = refl
section_words_lem no_section = refl

abbrev pub section_at : U32List → ℕ → Section
section_at l i = section (entry_at l i) (multiplicity_at l i)

pub rows_append : (l : U32List) (is js : List ℕ) → sections_at l (is ++ js) ≡ sections_at l is ++ sections_at l js
unfolding sections_at
rows_append l [] js = refl
rows_append l (i ∷ is) js =
    ap (λ (rs : List Row). rows_of (section_at l i) ++ rs) (rows_append l is js)
    ∙ sym (append_assoc (rows_of (section_at l i)) (sections_at l is) (sections_at l js))

-- ---- among the first n places

unfoldable pub rows_to : U32List → ℕ → List Row
rows_to l n = sections_at l (places n)

module _ (l : U32List) where
  pub rows_none : rows_to l 0 ≡ []
  unfolding rows_to sections_at places_from
  rows_none = refl

  pub rows_more : (n : ℕ) → rows_to l (suc n) ≡ rows_to l n ++ rows_of (section_at l n)
  unfolding rows_to sections_at
  rows_more n =
      ap (sections_at l) (sym (places_more n))
      ∙ rows_append l (places n) (n ∷ [])
      ∙ ap (λ (rs : List Row). sections_at l (places n) ++ rs) (append-nil (rows_of (section_at l n)))

-- ---- a list that is judged fine

module _ (l : U32List) (fine : judge_list l ≡ Fine) where
  pub section_at_lem : (i : ℕ) → i < used l
      → HasRows (height (entry_at l i)) (first_pending (entry_at l i) (multiplicity_at l i)) (section_at l i)
  section_at_lem i h = section_rows (entry_at l i) (multiplicity_at l i) (entry_admissible l fine i h)

  section_height_at : (i : ℕ) → i < used l → length (rows_of (section_at l i)) ≡ height (entry_at l i)
  section_height_at i h = let s = section_at_lem i h in rw s.is s.count

  pub rows_height_to : (n : ℕ) → n ≤ used l → length (rows_to l n) ≡ height_to l n
  rows_height_to zero h = rw (rows_none l, height_none l)
  rows_height_to (suc n) h =
      let e = rows_height_to n (omega arith) in
      rw (rows_more l n, height_more l n) (simp length-append (omega (arith, e, section_height_at n (omega arith))))

  -- as many rows as the height says
  pub rows_height : length (sections l) ≡ list_height l
  unfolding rows_to
  rows_height = rows_height_to (used l) (le_refl (used l)) ∙ sym (list_height_lem l)

  -- the rows before a place and those of its section are among those of the list
  pub room_at : (i : ℕ) → i < used l → height_to l i + height (entry_at l i) ≤ list_height l
  room_at i h = omega (arith, height_more l i, height_to_mono l (suc i) (used l) h, list_height_lem l)

  -- the words of the first n places, and those of one more
  pub words_turn : (n row : ℕ) (before between after : List ℕ) → n < used l → row ≡ height_to l n
      → between ≡ sets before 0 (table_words (rows_to l n))
      → after ≡ sets between (main_width * row) (section_words (section_at l n))
      → after ≡ sets before 0 (table_words (rows_to l (n + 1)))
  words_turn n row before between after h r e f =
      let at : main_width * row ≡ 0 + length (table_words (rows_to l n)) =
      omega (arith, words_length (rows_to l n), rows_height_to n (omega arith)) in
      rw (add-one n, rows_more l n, words_append (rows_to l n) (rows_of (section_at l n)), ← section_words_lem (section_at l n))
      (f ∙ sym (sets_then (table_words (rows_to l n)) (section_words (section_at l n)) before between 0 (main_width * row) e at))
