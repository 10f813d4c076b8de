-- What the answers of fill and pad tell. Where fill answers a height, the list was judged fine, so its sections are honest, and the
-- height has room in the table (7); the table then holds their words. Pad refuses nothing of what fill left and answered
-- (`pad_done`), and makes the table the words of the sections and of padding (`padded_is`).
use Prim.Native.Nat.{ℕ, zero, suc, ◌+◌, ◌-◌, ◌*◌, ◌/◌, ◌%◌, ◌≤◌, ◌<◌}
use mathlib.Core.Path.{◌≡◌, refl, sym, ap, ap₂, ◌∙◌, subst}
use mathlib.Core.Bool.{true, not, ◌&&◌}
use mathlib.Core.List.{List, [], ◌∷◌, ◌++◌, append-nil}
use native.Mathlib.Omega.{arith}
use lib.Dec.{eqb, ltb}
use lib.ListN.{length, get_or, drop, replicate, length-append, length-replicate, get_or-append, drop_of_length-le}
use lib.Seq.{sets, length-sets}
use borrow.Author.Tests.{ltb-false, le-ltb}
use Rattle.words.specs.Limits.{max_rows}
use Rattle.words.specs.Places.{places_from}
use Rattle.words.specs.Answers.{Answer, done}
use Rattle.words.specs.Refusals.{decline_if, Fine}
use Rattle.words.specs.declared.Refusal.TheVariants.{Shape, Short, Unreduced}
use Rattle.words.proofs.Judgements.{or_both, or_next, decline_fine, decline_false, decline_not_fine, decline_not_true}
use Rattle.words.specs.Outcomes.{Outcome}
use Rattle.words.proofs.Outcomes.{outcome_fine, done_fine}
use Rattle.words.proofs.Sets.{sets_append, sets_front}
use Rattle.list.specs.Lists.{U32List, used, judge_list}
use Rattle.list.specs.Heights.{section_places, list_height}
use Rattle.list.specs.Holds.{HeldList, section_list, judge_held}
use Rattle.list.proofs.JudgedLists.{list_admitted, entry_admissible}
use Rattle.list.proofs.HeldLists.{held_judged}
use Rattle.table.specs.Columns.{Row, main_width, row_at, row_count, table_shape, all_reduced}
use Rattle.table.proofs.Rows.{TableShape, table_shaped}
use Rattle.table.specs.RowWords.{row_words, table_words}
use Rattle.fill.specs.Filling.{filled, fill_reason, fill_all}
use Rattle.fill.specs.Padding.{padding_row, last_filled, padded, pad_reason, pad_all}
use Rattle.fill.proofs.ListSections.{words_append, words_length}
use Rattle.four_calls.specs.FourCalls.{filled_table, padded_table}
use Rattle.four_calls.proofs.HonestRows.{HonestRow, reduced}
use Rattle.four_calls.proofs.RowLists.{Each, each_at, last_of, last_at, words_reduced, row_of_words}
use Rattle.four_calls.proofs.Tables.{EachPlace, PlaceOk, HonestSections, honest_sections, front, front_end, padded_rows}

-- ---- a list that is judged fine
places_each : (P : ℕ → Type 0) (i n : ℕ) → ((j : ℕ) → j < i + n → P j) → EachPlace P (places_from i n)
unfolding places_from
places_each P i zero h = tt
places_each P i (suc n) h = (h i (omega arith), places_each P (suc i) n (λ j k. h j (omega arith)))

list_places : (l : U32List) → judge_list l ≡ Fine → EachPlace (PlaceOk l) (section_places l)
list_places l fine =
    let h = list_admitted l fine in
    places_each (PlaceOk l) 0 (used l)
    (λ i k.
    let b : i < used l = omega arith in
    record { admissible = entry_admissible l fine i b; multiplicity_limit_lem = let m = h.multiplicity i b in omega arith })

-- ---- fill
pub record Filled (held : HeldList) (table : List ℕ) (height : ℕ) : Type 0 where
  pub sections : HonestSections (section_list held) (section_places (section_list held))
  pub shape_true : table_shape table ≡ true
  pub shape : TableShape table
  pub height_is_lem : height ≡ list_height (section_list held)
  pub room : height ≤ row_count table
  pub filled_is : filled_table held table ≡ sets table 0 (table_words sections.all_rows_lem)

-- the reasons of fill
record FillFine (held : HeldList) (table : List ℕ) : Type 0 where
  pub shape_true : table_shape table ≡ true
  pub judged : judge_list (section_list held) ≡ Fine
  pub room : list_height (section_list held) ≤ row_count table

fill_fine : (held : HeldList) (table : List ℕ) → fill_reason held table ≡ Fine → FillFine held table
unfolding fill_reason
fill_fine held table h =
    let height = list_height (section_list held) in
    let a = or_both (decline_if (not (table_shape table)) Shape) _ h in
    let b = or_both (judge_held held) _ a.1 in
    record {
      shape_true = decline_not_fine (table_shape table) Shape a.0;
      judged = held_judged held b.0;
      room = ltb-false (row_count table) height (decline_fine (ltb (row_count table) height) Short b.1);
    }

module _ (held : HeldList) (table : List ℕ) (fine : fill_reason held table ≡ Fine) where
  abbrev l : U32List
  l = section_list held

  sections_honest : HonestSections l (section_places l)
  sections_honest = honest_sections l (section_places l) (list_places l (fill_fine held table fine).judged)

  pub fill_filled : Filled held table (list_height l)
  unfolding fill_all
  fill_filled =
      let f = fill_fine held table fine in
      record {
        sections = sections_honest;
        shape_true = f.shape_true;
        shape = table_shaped table f.shape_true;
        height_is_lem = refl;
        room = f.room;
        filled_is =
            ap (λ (due : Outcome (List ℕ)). due.left) (outcome_fine (list_height l ∷ []) table (filled l table) fine)
            ∙ ap (λ (rs : List Row). sets table 0 (table_words rs)) sections_honest.sections_are;
      }

  -- fill answers the height
  pub fill_answer : (fill_all held table).answer ≡ done (list_height l ∷ [])
  unfolding fill_all
  fill_answer = ap (λ (due : Outcome (List ℕ)). due.answer) (outcome_fine (list_height l ∷ []) table (filled l table) fine)

-- an answer other than a reason comes from no reason
fill_reason_lem : (held : HeldList) (table : List ℕ) {values : List ℕ} → (fill_all held table).answer ≡ done values → fill_reason held table ≡ Fine
unfolding fill_all
fill_reason_lem held table h =
    let l = section_list held in
    (done_fine (fill_reason held table) (list_height l ∷ []) table (filled l table) h).0

pub fill_done : (held : HeldList) (table : List ℕ) (height : ℕ) → (fill_all held table).answer ≡ done (height ∷ []) → Filled held table height
fill_done held table height h =
    let fine = fill_reason_lem held table h in
    let same : list_height (section_list held) ≡ height = ap (λ (a : Answer). get_or a.values 0 0) (sym (fill_answer held table fine) ∙ h) in
    subst (Filled held table) same (fill_filled held table fine)

-- ---- pad
-- the shape is told by the length
pub shape_by_length : (s t : List ℕ) → length s ≡ length t → table_shape s ≡ table_shape t
unfolding table_shape
shape_by_length s t e = ap (λ (n : ℕ). eqb (n % main_width) 0 && not (ltb max_rows (n / main_width))) e

module _ {held : HeldList} {table : List ℕ} {height : ℕ} (f : Filled held table height) where
  abbrev filled_rows : List Row
  filled_rows = f.sections.all_rows_lem

  rows_are : length filled_rows ≡ height
  unfolding list_height
  rows_are = f.sections.row_count ∙ sym f.height_is_lem

  filled_length : length (filled_table held table) ≡ length table
  filled_length = ap length f.filled_is ∙ length-sets table 0 (table_words filled_rows)

  words_fit : length (table_words filled_rows) ≤ length table
  words_fit = omega (arith, words_length filled_rows, rows_are, f.room, f.shape.whole)

  -- the first rows of the filled table
  filled_row : (i : ℕ) → i < height → row_at (filled_table held table) i ≡ get_or filled_rows i front
  unfolding row_at
  filled_row i k =
      ap (λ (ws : List ℕ). row_at ws i) (f.filled_is ∙ sets_front (table_words filled_rows) table words_fit)
      ∙ front_row
      ∙ row_of_words front filled_rows i (omega (arith, rows_are))
    where
      rest : List ℕ
      rest = drop (length (table_words filled_rows)) table

      word : (j : ℕ) → j < main_width * height → get_or (table_words filled_rows ++ rest) j 0 ≡ get_or (table_words filled_rows) j 0
      word j n = get_or-append (table_words filled_rows) rest 0 j (omega (arith, words_length filled_rows, rows_are))

      front_row : row_at (table_words filled_rows ++ rest) i ≡ row_at (table_words filled_rows) i
      front_row = λ t. record {
        copy_flag = word (main_width * i) (omega arith) t;
        bits = word (main_width * i + 1) (omega arith) t;
        bits_minus33_inv = word (main_width * i + 2) (omega arith) t;
        ci = word (main_width * i + 3) (omega arith) t;
        lhs = word (main_width * i + 4) (omega arith) t;
        lhs_inv = word (main_width * i + 5) (omega arith) t;
        rhs = word (main_width * i + 6) (omega arith) t;
        rhs_inv = word (main_width * i + 7) (omega arith) t;
        result = word (main_width * i + 8) (omega arith) t;
        lookup_multiplicity = word (main_width * i + 9) (omega arith) t;
      }

  -- the last filled row: its words are below p, and padding below it is padding below the last row of the sections
  record LastFilled (row : Row) : Type 0 where
    pub words_below : all_reduced (row_words row) ≡ true
    pub padding_is : padding_row row ≡ padding_row (last_of front filled_rows)

  honest_words : (row : Row) → HonestRow row → all_reduced (row_words row) ≡ true
  unfolding table_words
  honest_words row h = words_reduced (row ∷ []) (reduced h, tt)

  filled_honest : Each HonestRow filled_rows
  filled_honest = (f.sections.chain front front_end).each

  last_filled_lem : LastFilled (last_filled (filled_table held table) height)
  unfolding padding_row all_reduced
  last_filled_lem = go height refl filled_rows refl
    where
      go : (n : ℕ) → height ≡ n → (rs : List Row) → filled_rows ≡ rs → LastFilled (last_filled (filled_table held table) n)
      go zero e [] k = record { words_below = refl; padding_is = ap (λ (xs : List Row). padding_row (last_of front xs)) (sym k) }
      go zero e (r ∷ rs) k = absurd (omega (arith, ap length k, rows_are))
      go (suc n) e rs k =
          let row_is = filled_row n (omega arith) in
          record {
            words_below =
                subst (λ (row : Row). all_reduced (row_words row) ≡ true) (sym row_is)
                (honest_words (get_or filled_rows n front) (each_at HonestRow front filled_rows filled_honest n (omega (arith, rows_are))));
            padding_is = ap padding_row (row_is ∙ last_at front front filled_rows n (omega (arith, rows_are)));
          }

  pad_reason_lem : pad_reason (filled_table held table) height ≡ Fine
  unfolding pad_reason
  pad_reason_lem =
      let count = filled_length in
      or_next _ (decline_not_true Shape (shape_by_length (filled_table held table) table filled_length ∙ f.shape_true))
      ∙ or_next _ (decline_false Short (le-ltb (row_count (filled_table held table)) height (omega (arith, f.room))))
      ∙ decline_not_true Unreduced last_filled_lem.words_below

  -- pad refuses nothing that fill left and answered
  pub pad_done : (pad_all (filled_table held table) height).answer ≡ done []
  unfolding pad_all
  pad_done = ap (λ (due : Outcome (List ℕ)). due.answer) (outcome_fine [] (filled_table held table) (padded (filled_table held table) height) pad_reason_lem)

  abbrev pub final_rows : List Row
  final_rows = padded_rows filled_rows (row_count table - height)

  pub final_count : length final_rows ≡ row_count table
  final_count =
      length-append filled_rows (replicate (row_count table - height) (padding_row (last_of front filled_rows)))
      ∙ omega (arith, rows_are, f.room, length-replicate (row_count table - height) (padding_row (last_of front filled_rows)))

  -- the table after fill and pad: the words of the sections and of padding, and no others
  pub padded_is : padded_table held table height ≡ table_words final_rows
  unfolding pad_all
  padded_is =
      ap (λ (due : Outcome (List ℕ)). due.left) (outcome_fine [] (filled_table held table) (padded (filled_table held table) height) pad_reason_lem)
      ∙ ap₂ (λ (n : ℕ) (row : Row). sets (filled_table held table) (main_width * height) (table_words (replicate n row)))
      (ap (λ (n : ℕ). n / main_width - height) filled_length) last_filled_lem.padding_is
      ∙ ap₂ (λ (ws : List ℕ) (at : ℕ). sets ws at B) f.filled_is (omega (arith, words_length filled_rows, rows_are))
      ∙ sym (sets_append A B table 0)
      ∙ sets_front (A ++ B) table (omega (arith, whole))
      ∙ ap (λ (ws : List ℕ). (A ++ B) ++ ws) (drop_of_length-le table {i = length (A ++ B)} (omega (arith, whole)))
      ∙ append-nil (A ++ B)
      ∙ sym (words_append filled_rows padding)
    where
      padding : List Row
      padding = replicate (row_count table - height) (padding_row (last_of front filled_rows))

      A : List ℕ
      A = table_words filled_rows

      B : List ℕ
      B = table_words padding

      whole : length (A ++ B) ≡ length table
      whole =
          ap length (sym (words_append filled_rows padding)) ∙ words_length final_rows ∙ ap (λ (n : ℕ). main_width * n) final_count
          ∙ sym f.shape.whole
