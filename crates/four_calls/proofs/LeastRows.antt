-- THE BOUND IS REACHED (`filled_is_shortest`): on as many rows as fill reports, the four calls make a table that passes, in which each key
-- that gets a section has a CopyFlag 1 row of its own, and no such table is shorter (row_bound/proofs/RowBound.antt). The CopyFlag 1 rows of what the
-- calls leave are the first rows of these keys, in list order (`four_calls`): so the own row of the k-th is the k-th of them.
use Prim.Native.Nat.{ℕ, zero, suc, ◌<◌}
use mathlib.Core.Path.{◌≡◌, refl, sym, ap, ◌∙◌, subst}
use mathlib.Core.Logic.{◌⊎◌, inl, inr}
use mathlib.Core.Bool.{Bool, true, false, cond}
use mathlib.Core.List.{List, [], ◌∷◌, ◌++◌, append-nil}
use native.Mathlib.Omega.{arith}
use lib.Dec.{eqb, ltb}
use lib.ListN.{length, get_or, length-append, get_or-append}
use lib.Seq.{get_or-append_seam}
use borrow.Author.Tests.{eqb-true, ltb-true, ltb-false}
use Rattle.list.specs.Lists.{U32List}
use Rattle.list.specs.Heights.{section_places, entries_at, section_entries}
use Rattle.list.specs.Holds.{HeldList, section_list}
use Rattle.table.specs.Columns.{Row, row_at, row_count}
use Rattle.air.proofs.Judging.{accepted}
use Rattle.air.proofs.Claims.{zero_iff}
use Rattle.fill_sections.specs.Sections.{first_row}
use Rattle.row_bound.specs.OwnRows.{entry_of, entry_in, OwnRows}
use Rattle.row_bound.proofs.RowBound.{no_shorter_than_filled}
use Rattle.four_calls.specs.FourCalls.{table_rows_to, copy_flag1, first_rows_at, first_rows_of, padded_table}
use Rattle.four_calls.specs.LeastRows.{FilledIsShortest}
use Rattle.four_calls.proofs.RowLists.{flagged_join}
use Rattle.four_calls.proofs.Tables.{front}
use Rattle.four_calls.proofs.Calls.{fill_done}
use Rattle.four_calls.proofs.FourCalls.{padded_rows_lem, four_calls}

-- ---- the places of rows among the first n rows of a table: each has CopyFlag 1, and they rise
record Places (table : List ℕ) (n : ℕ) (rs : List Row) : Type 0 where
  place : ℕ → ℕ
  inside : (k : ℕ) → k < length rs → place k < n
  flagged : (k : ℕ) → k < length rs → (row_at table (place k)).copy_flag ≡ 1
  is : (k : ℕ) → k < length rs → row_at table (place k) ≡ get_or rs k front
  rising : (j k : ℕ) → j < k → k < length rs → place j < place k

-- row n is none of them
skipped : {table : List ℕ} {n : ℕ} {rs : List Row} → Places table n rs → Places table (suc n) rs
skipped w = record {
  place = w.place;
  inside = λ k h. let b = w.inside k h in omega arith;
  flagged = w.flagged;
  is = w.is;
  rising = w.rising;
}

-- row n is the last of them
module _ {table : List ℕ} {n : ℕ} {rs : List Row} (w : Places table n rs) (f : (row_at table n).copy_flag ≡ 1) where
  abbrev longer : List Row
  longer = rs ++ (row_at table n ∷ [])

  place : ℕ → ℕ
  place k = cond (ltb k (length rs)) (w.place k) n

  -- a position is one of those before, or the last
  Spot : ℕ → Type 0
  Spot k = ((k < length rs) × (place k ≡ w.place k)) ⊎ ((k ≡ length rs) × (place k ≡ n))

  spot : (k : ℕ) → k < length longer → Spot k
  unfolding place Spot
  spot k h = go (ltb k (length rs)) refl
    where
      go : (t : Bool) → ltb k (length rs) ≡ t
          → ((k < length rs) × (cond t (w.place k) n ≡ w.place k)) ⊎ ((k ≡ length rs) × (cond t (w.place k) n ≡ n))
      go true e = inl (ltb-true k (length rs) e, refl)
      go false e = let m = ltb-false k (length rs) e in let l = length-append rs (row_at table n ∷ []) in inr (omega arith, refl)

  joined : Places table (suc n) longer
  unfolding Spot
  joined = record {
    place = place;
    inside = λ k h. in_rows k (spot k h);
    flagged = λ k h. flag k (spot k h);
    is = λ k h. same k (spot k h);
    rising = λ j k q h. rise j k q (spot j (omega arith)) (spot k h);
  }
    where
      in_rows : (k : ℕ) → Spot k → place k < suc n
      in_rows k (inl c) = let b = w.inside k c.0 in omega (arith, c.1)
      in_rows k (inr c) = omega (arith, c.1)

      flag : (k : ℕ) → Spot k → (row_at table (place k)).copy_flag ≡ 1
      flag k (inl c) = ap (λ (i : ℕ). (row_at table i).copy_flag) c.1 ∙ w.flagged k c.0
      flag k (inr c) = ap (λ (i : ℕ). (row_at table i).copy_flag) c.1 ∙ f

      same : (k : ℕ) → Spot k → row_at table (place k) ≡ get_or longer k front
      same k (inl c) = ap (row_at table) c.1 ∙ w.is k c.0 ∙ sym (get_or-append rs (row_at table n ∷ []) front k c.0)
      same k (inr c) =
          ap (row_at table) c.1 ∙ sym (get_or-append_seam rs (row_at table n) [] front) ∙ ap (λ (i : ℕ). get_or longer i front) (sym c.0)

      rise : (j k : ℕ) → j < k → Spot j → Spot k → place j < place k
      rise j k q (inl a) (inl b) = let r = w.rising j k q b.0 in omega (arith, a.1, b.1)
      rise j k q (inl a) (inr b) = let r = w.inside j a.0 in omega (arith, a.1, b.1)
      rise j k q (inr a) (inl b) = absurd (omega (arith, a.0, b.0))
      rise j k q (inr a) (inr b) = absurd (omega (arith, a.0, b.0))

-- the places of all CopyFlag 1 rows
flagged_places : (table : List ℕ) (n : ℕ) → Places table n (copy_flag1 (table_rows_to table n))
unfolding table_rows_to copy_flag1
flagged_places table zero = record {
  place = λ k. k;
  inside = λ k h. absurd (omega arith);
  flagged = λ k h. absurd (omega arith);
  is = λ k h. absurd (omega arith);
  rising = λ j k q h. absurd (omega arith);
}
flagged_places table (suc n) =
    subst (Places table (suc n)) (sym (flagged_join (table_rows_to table n) (row_at table n ∷ [])))
    (go (flagged_places table n) (eqb (row_at table n).copy_flag 1) refl)
  where
    go : Places table n (copy_flag1 (table_rows_to table n)) → (t : Bool) → eqb (row_at table n).copy_flag 1 ≡ t
        → Places table (suc n) (copy_flag1 (table_rows_to table n) ++ cond t (row_at table n ∷ []) [])
    go w true e = joined w (eqb-true _ 1 e)
    go w false e = subst (Places table (suc n)) (sym (append-nil _)) (skipped w)

-- ---- the first rows of a list are about its entries
first_rows_length : (l : U32List) (is : List ℕ) → length (first_rows_at l is) ≡ length (entries_at l is)
unfolding first_rows_at entries_at
first_rows_length l [] = refl
first_rows_length l (i ∷ is) = ap suc (first_rows_length l is)

first_rows_tell : (l : U32List) (is : List ℕ) (k : ℕ) → k < length (entries_at l is)
    → entry_of (get_or (first_rows_at l is) k front) ≡ entry_in (entries_at l is) k
unfolding first_rows_at entries_at first_row
first_rows_tell l [] k h = absurd (omega arith)
first_rows_tell l (i ∷ is) zero h = refl
first_rows_tell l (i ∷ is) (suc k) h = first_rows_tell l is k (omega arith)

-- rising places are apart
places_apart : {table : List ℕ} {n : ℕ} {rs : List Row} (w : Places table n rs) (j k : ℕ) → j < length rs → k < length rs
    → w.place j ≡ w.place k → j ≡ k
places_apart w j k a b e = go (ltb j k) refl (ltb k j) refl
  where
    go : (s : Bool) → ltb j k ≡ s → (t : Bool) → ltb k j ≡ t → j ≡ k
    go true x t y = absurd (let r = w.rising j k (ltb-true j k x) b in omega arith)
    go false x true y = absurd (let r = w.rising k j (ltb-true k j y) a in omega arith)
    go false x false y = let m = ltb-false j k x in let n = ltb-false k j y in omega arith

own_rows : (l : U32List) (table : List ℕ) (w : Places table (row_count table) (first_rows_of l)) → OwnRows table (section_entries l) w.place
own_rows l table w =
    let size = first_rows_length l (section_places l) in
    record {
      inside = λ k h. w.inside k (omega arith);
      flagged = λ k h. w.flagged k (omega arith);
      tells = λ k h. ap entry_of (w.is k (omega arith)) ∙ first_rows_tell l (section_places l) k h;
      apart = λ j k a b e. places_apart w j k (omega arith) (omega arith) e;
    }

-- ---- the bound is reached
pub filled_is_shortest : (held : HeldList) (table aux challenges : List ℕ) (height : ℕ) (sum : List ℕ)
    → FilledIsShortest held table aux challenges height sum
filled_is_shortest held table aux challenges height sum rows calls =
    let l = section_list held in
    let made = four_calls held table aux challenges height sum (omega arith) calls in
    let padded = padded_table held table height in
    let places : Places padded (row_count padded) (first_rows_of l)
    = subst (Places padded (row_count padded)) made.first_rows (flagged_places padded (row_count padded)) in
    let count : row_count padded ≡ row_count table = padded_rows_lem (fill_done held table height calls.fill) in
    record {
      honest = record { zero = made.zero; own = places.place; own_rows = own_rows l padded places };
      none_shorter = λ other other_aux other_challenges o.
          let some = (accepted other other_aux other_challenges ((zero_iff other other_aux other_challenges).0 o.zero).0).some_row in
          let bound = no_shorter_than_filled other other_aux other_challenges o.zero held o.own o.own_rows table height calls.fill in
          omega arith;
    }
