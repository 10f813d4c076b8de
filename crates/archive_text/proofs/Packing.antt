-- The archive that is due for a table's text: where extension is made, archiving its sums is not refused (archive_follows), since they are below p and
-- three a row, and there is room; and how long the archive is. Assumes nothing.
use Prim.Native.Nat.{ℕ, ◌*◌, ◌≤◌}
use mathlib.Core.Path.{◌≡◌, refl, sym, ap, ◌∙◌}
use mathlib.Core.Bool.{and-eq-true_iff}
use mathlib.Core.List.{List, [], ◌++◌, flat_map}
use native.Mathlib.Omega.{arith}
use borrow.Author.Tests.{eq-eqb}
use lib.ListN.{length, length-append}
use Rattle.std.specs.Prelude.{Result, Ok, Err, IsErrAnd}
use Rattle.std.proofs.lemmas.Result.{err_from_is_err_and}
use Rattle.words.specs.Limits.{max_rows}
use Rattle.words.specs.Outcomes.{Outcome, Leaves, completed_answer}
use Rattle.words.specs.Refusals.{refusal_number, Fine, Declined}
use Rattle.words.specs.LittleEndian.{le}
use Rattle.words.specs.declared.Refusal.{Refusal}
use Rattle.words.proofs.Answers.{declined_not_done}
use Rattle.words.proofs.Judgements.{or_both, decline_not_fine}
use Rattle.words.proofs.LittleEndian.{length_le}
use Rattle.words.proofs.Outcomes.{outcome_fine, done_fine}
use Rattle.xfield.specs.declared.XFieldElement.{XFieldElement}
use Rattle.table.specs.Columns.{main_width, aux_width, row_count, table_shape, aux_shape}
use Rattle.sums.specs.RunningSum.{sum_words}
use Rattle.sums.specs.LookupSum.{summand_at}
use Rattle.sums.proofs.SumWords.{sums_length, sums_reduced}
use Rattle.fill.specs.Extending.{extend_reason, extend_all}
use Rattle.extend.specs.Extensions.{extended_answer}
use Rattle.extend.proofs.Reasons.{extendable}
use Rattle.archive.specs.Archives.{word_width, archive_length, columns, archive_words, archive_bytes, archive_reason, archive_all}
use Rattle.std.proofs.lemmas.Grind.{flat_map-append}
use Rattle.archive.proofs.Columns.{columns_length}
use Rattle.archive.proofs.Reasons.{archive_fine, archivable, shaped}
use Rattle.text.specs.Lines.{refused_line}
use Rattle.text.specs.Put.{Put}
use Rattle.numbers.specs.declared.Fault.{Fault as TextFault}
use Rattle.table_text.specs.TableText.{Stage, most_rows, end_number, taken_of, IsFed}
use Rattle.archive_text.specs.declared.Fault.{Fault}
use Rattle.archive_text.specs.declared.Fault.TheVariants.{Taken, Refused}
use Rattle.archive_text.specs.Outputs.{Output, written, refused, fault_line}
use Rattle.archive_text.specs.Packing.{pack_table, pack_taken, pack_ended, max_archive, IsArchived, IsPacked}
use Rattle.archive_text.proofs.Outputs.{output_refused, output_made}

-- ---- what leaves a function at a `?`
-- the reason of a call that refuses
pub fault_of : {T : Type 0} {k : Refusal} (r : Result T Fault) → IsErrAnd r (λ e. e ≡ Refused k) → r ≡ Err (Refused k)
fault_of r e = let p = err_from_is_err_and r e in p.1 ∙ ap Err p.2

-- the fault of a text
pub fault_taken : {T : Type 0} {k : TextFault} (r : Result T Fault) → IsErrAnd r (λ e. e ≡ Taken k) → r ≡ Err (Taken k)
fault_taken r e = let p = err_from_is_err_and r e in p.1 ∙ ap Err p.2

-- ---- archiving
-- the bytes of an archive
pub archive_length_lem : (table aux : List ℕ) → length (archive_bytes table aux) ≡ archive_length (row_count table)
unfolding archive_bytes archive_words flat_map
archive_length_lem table aux =
    let n = row_count table in
    let m = columns main_width table n in
    let a = columns aux_width aux n in
    let split : flat_map (le word_width) (m ++ a) ≡ flat_map (le word_width) m ++ flat_map (le word_width) a = flat_map-append (le word_width) m a in
    length-append (le word_width n) (flat_map (le word_width) (m ++ a))
    ∙ rw (length_le, split, length-append, columns_length main_width table n, columns_length aux_width aux n) (omega arith)

module _ (table sums out : List ℕ) (e : archive_reason table sums out ≡ Fine) where
  -- done: the archive is at the front
  pub archive_put : {after : List ℕ} → Leaves (archive_all table sums out) (completed_answer Fine) after → (n : ℕ) → n ≡ archive_length (row_count table)
      → Put out 0 (archive_bytes table sums) after n
  unfolding archive_all
  archive_put l n h = record {
    place = omega (arith, archive_length_lem table sums);
    fits = omega (arith, (archivable table sums out e).room);
    held = l.left ∙ ap (λ (o : Outcome (List ℕ)). o.left) (outcome_fine [] out _ e);
  }

  pub rows_limit : row_count table ≤ max_rows
  rows_limit = (shaped table sums (archivable table sums out e).right).table_is_whole.limit

  -- refused: it is not
  pub archive_made : {after : List ℕ} (reason : Refusal) → Leaves (archive_all table sums out) (completed_answer (Declined reason)) after → ⊥
  unfolding archive_all
  archive_made reason l =
      declined_not_done reason (l.answer ∙ ap (λ (o : Outcome (List ℕ)). o.answer) (outcome_fine [] out _ e))

-- ---- extension, then the archive
abbrev sums_of : (challenges table : List ℕ) → List ℕ
sums_of challenges table = sum_words (summand_at table challenges) (row_count table)

module _ (challenges table aux : List ℕ) where
  pub archive_follows : (out : List ℕ) → extend_reason table aux challenges ≡ Fine → length table ≤ 10 * most_rows → max_archive ≤ length out
      → archive_reason table (sums_of challenges table) out ≡ Fine
  unfolding extend_reason aux_shape
  archive_follows out e few room =
      let shape = ((and-eq-true_iff (table_shape table) _).0 (decline_not_fine _ _ (or_both _ _ e).0)).0 in
      let sums = sums_length (summand_at table challenges) (row_count table) in
      archive_fine table (sums_of challenges table) out
      (rw (shape, eq-eqb (length (sums_of challenges table)) (aux_width * row_count table) sums))
      (omega arith)
      (rw ((extendable table aux challenges e).table_reduced, sums_reduced (summand_at table challenges) (row_count table)))

  module _ (sum : XFieldElement) (after : List ℕ) (made : Leaves (extend_all table aux challenges) (extended_answer (Ok sum)) after) where
    extension_fine : extend_reason table aux challenges ≡ Fine
    unfolding extend_all
    extension_fine = (done_fine _ _ _ _ (sym made.answer)).0

    extension_sums : after ≡ sums_of challenges table
    unfolding extend_all
    extension_sums = made.left ∙ ap (λ (o : Outcome (List ℕ)). o.left) (outcome_fine _ aux _ extension_fine)

    pub sums_archived : (out : List ℕ) → length table ≤ 10 * most_rows → max_archive ≤ length out → archive_reason table after out ≡ Fine
    sums_archived out few room = rw extension_sums (archive_follows out extension_fine few room)

    pub table_archived : pack_table challenges table aux ≡ written (archive_bytes table after)
    unfolding pack_table
    table_archived = rw (← made.answer, ← made.left) (output_made _ _)

  pub table_refused : (reason : Refusal) (after : List ℕ) → Leaves (extend_all table aux challenges) (extended_answer (Err reason)) after
      → pack_table challenges table aux ≡ refused (refused_line (refusal_number reason))
  unfolding pack_table
  table_refused reason after l = rw (← l.answer) (output_refused _ reason)

-- ---- what is put
-- a line goes to standard error, and nothing to standard output
pub line_packed : {due : Output} {d d1 : List ℕ} {n : ℕ} (line : List ℕ) → due ≡ refused line → Put d 0 line d1 n
    → (due.out ≡ []) × Put d 0 due.error d1 n
line_packed line e p = rw e (refl, p)

module _ (due : Output) (before mid : List ℕ) {r : Result ℕ Fault} (step : IsArchived due before mid r) where
  pub archive_packed : {n : ℕ} → r ≡ Ok n → IsPacked due before mid (Ok n)
  archive_packed e = rw e at step

  pub fault_packed : (fault : Fault) → r ≡ Err fault → {after : List ℕ} {n : ℕ} → Put mid 0 (fault_line fault) after n → IsPacked due before after (Err n)
  fault_packed fault e p =
      let s : IsArchived due before mid (Err fault) = rw e at step in
      line_packed (fault_line fault) s.0 (rw s.1 at p)

  pub room_kept : (fault : Fault) → r ≡ Err fault → length mid ≡ length before
  room_kept fault e =
      let s : IsArchived due before mid (Err fault) = rw e at step in
      ap length s.1

-- ---- the end of a text
module _ (stage : Stage) (words aux : List ℕ) {end : Stage} {after : List ℕ} (ended : IsFed (end_number stage words) end after)
    (taken : Result ℕ TextFault) (judged : taken ≡ taken_of end) where
  pub ended_as : (is : Result ℕ TextFault) → taken ≡ is → pack_ended stage words aux ≡ pack_taken is after aux
  unfolding pack_ended
  ended_as is e = rw (← ended.stage, ← ended.words, ← judged, e)
