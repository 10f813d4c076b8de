-- The check of what came back, as three calls make it: from what archiving then restoring ensures, and the check, to the law. Assumes nothing.
use Prim.Native.Nat.{ℕ, ◌≤◌}
use mathlib.Core.Path.{◌≡◌, refl, sym, ap, ap₂, ◌∙◌}
use mathlib.Core.List.{List, []}
use native.Mathlib.Omega.{arith}
use borrow.Author.Tests.{eq-eqb, ne_eqb}
use lib.ListN.{length, take, drop, length-append}
use lib.Seq.{take_at}
use Rattle.std.specs.Prelude.{Err}
use Rattle.words.specs.Answers.{Answer, done}
use Rattle.words.specs.Outcomes.{Outcome, unless_declined}
use Rattle.words.specs.Refusals.{Judgement, Fine, Declined}
use Rattle.words.specs.declared.Refusal.{Refusal}
use Rattle.words.proofs.Answers.{number_positive, declined_not_done}
use Rattle.words.proofs.Outcomes.{unless_fine}
use Rattle.table.specs.Columns.{row_count}
use Rattle.air.specs.Check.{check_all}
use Rattle.check_table.specs.Verdicts.{Verdict, verdict_answer}
use Rattle.archive.specs.Archives.{archive_length, archive_bytes, archive_reason, archive_all, restore_all, TableAndAux, table_and_aux}
use Rattle.archive.proofs.Reasons.{shaped, shapes_right, archivable, Restorable, restorable}
use Rattle.archive_trips.specs.ArchiveTrips.{archive_then_restore, IsArchivedThenRestored, check_restored, IsCheckedRestored}
use Rattle.archive_trips.proofs.Rearranged.{rows_held}
use Rattle.archive_trips.proofs.RoundTrips.{archived_bytes}
use Rattle.archive_trips.proofs.TwoCalls.{restore_answered}

-- where two calls are done, the first found nothing
unless_done : {L : Type 0} (j : Judgement) (before : L) (second : Outcome L) → done [] ≡ (unless_declined j before second).answer → j ≡ Fine
unless_done Fine before second e = refl
unless_done (Declined reason) before second e = absurd (declined_not_done reason (sym e))

module _ (table aux out to_table to_aux out_after : List ℕ) (after : TableAndAux) where
  -- the rows that came back lie within the arrays
  pub back_within : IsArchivedThenRestored table aux out to_table to_aux Fine out_after after
      → (length table ≤ length after.table) × (length aux ≤ length after.aux)
  unfolding archive_then_restore
  back_within t =
      let second = restore_all (take (archive_length (row_count table)) (archive_all table aux out).left) to_table to_aux in
      let fine : archive_reason table aux out ≡ Fine = unless_done _ (table_and_aux to_table to_aux) second t.exact.answer in
      let told : done [] ≡ second.answer
      = t.exact.answer ∙ ap (λ (o : Outcome TableAndAux). o.answer) (unless_fine (table_and_aux to_table to_aux) second fine) in
      let h : Restorable (archive_bytes table aux) to_table to_aux
      = rw (archived_bytes table aux out fine) at (restorable _ to_table to_aux (restore_answered _ to_table to_aux told)) in
      let a = archivable table aux out fine in
      let n = rows_held table aux (shaped table aux a.right) a.table_reduced a.aux_reduced in
      let room = h.room in
      let b = t.law fine (shapes_right to_table to_aux h.right) (omega arith) in
      let l = ap length b.table_back ∙ length-append table (drop (length table) to_table) in
      let m = ap length b.aux_back ∙ length-append aux (drop (length aux) to_aux) in
      (omega arith, omega arith)

  module _ (challenges : List ℕ) where
    pub trip_refused : (k : Refusal) → IsArchivedThenRestored table aux out to_table to_aux (Declined k) out_after after
        → IsCheckedRestored table aux challenges out to_table to_aux (Err k) out_after after
    unfolding check_restored
    trip_refused k t =
        let n = ap (λ (a : Answer). a.number) t.exact.answer in
        record {
          exact = rw (ne_eqb (archive_then_restore table aux out to_table to_aux).answer.number 0 (λ z. omega (arith, number_positive k))) t.exact.answer;
          bytes = t.bytes;
          arrays = t.exact.left;
          law = λ e right room. absurd (declined_not_done k (t.law e right room).answer);
        }

    pub then_checked : (r : Verdict) → IsArchivedThenRestored table aux out to_table to_aux Fine out_after after
        → verdict_answer r ≡ check_all (take (length table) after.table) (take (length aux) after.aux) challenges
        → IsCheckedRestored table aux challenges out to_table to_aux r out_after after
    unfolding check_restored
    then_checked r t c =
        let n = ap (λ (a : Answer). a.number) (sym t.exact.answer) in
        record {
          exact =
              rw (eq-eqb (archive_then_restore table aux out to_table to_aux).answer.number 0 n)
              (c ∙ ap (λ (x : TableAndAux). check_all (take (length table) x.table) (take (length aux) x.aux) challenges) t.exact.left);
          bytes = t.bytes;
          arrays = t.exact.left;
          law = λ e right room.
              let b = t.law e right room in
              c
              ∙ ap₂ (λ (x y : List ℕ). check_all x y challenges)
              (ap (take (length table)) b.table_back ∙ take_at table (drop (length table) to_table) (length table) refl)
              (ap (take (length aux)) b.aux_back ∙ take_at aux (drop (length aux) to_aux) (length aux) refl);
        }
