-- What is due for an archive: a line where it has too many rows, or where restoring is refused; else its rows, at most as many as are taken
-- (few_rows). Assumes nothing.
use Prim.Native.Nat.{ℕ, ◌≤◌, ◌<◌}
use mathlib.Core.Path.{◌≡◌, refl, sym}
use mathlib.Core.Bool.{Bool, true, false}
use mathlib.Core.List.{List}
use native.Mathlib.Omega.{arith}
use borrow.Author.Tests.{le-leb, lt-ltb, ltb-true, ltb-false}
use lib.Dec.{ltb}
use lib.ListN.{length}
use Rattle.std.specs.Prelude.{Result, Ok, Err}
use Rattle.words.specs.Limits.{max_rows}
use Rattle.words.specs.Outcomes.{Leaves, completed_answer}
use Rattle.words.specs.Refusals.{refusal_number, Fine, Declined}
use Rattle.words.specs.declared.Refusal.{Refusal}
use Rattle.words.proofs.Outcomes.{done_fine}
use Rattle.archive.specs.Archives.{word_width, archived_rows, restore_reason, restore_all, table_and_aux}
use Rattle.archive.proofs.Reasons.{restorable}
use Rattle.text.specs.Lines.{refused_line, too_many_line}
use Rattle.text.specs.Put.{Put}
use Rattle.table_text.specs.TableText.{most_rows}
use Rattle.archive_text.specs.declared.Fault.{Fault}
use Rattle.archive_text.specs.Outputs.{Output, written, refused, fault_line}
use Rattle.archive_text.specs.Unpacking.{printed_rows, too_many_rows, unpack_all, IsRestored, IsUnpacked}
use Rattle.archive_text.proofs.Outputs.{output_refused, output_made}

-- ---- the row count
pub above_most : (s : List ℕ) → word_width ≤ length s → most_rows < archived_rows s → archived_rows s ≤ max_rows → too_many_rows s ≡ true
unfolding too_many_rows
above_most s has more few =
    rw (le-leb word_width (length s) has, lt-ltb most_rows (archived_rows s) more, le-leb (archived_rows s) max_rows few) refl

-- ---- what is due
module _ (s table aux : List ℕ) where
  pub too_many_line_lem : too_many_rows s ≡ true → unpack_all s table aux ≡ refused (too_many_line (archived_rows s) most_rows)
  unfolding unpack_all
  too_many_line_lem e = rw e

  module _ (few : too_many_rows s ≡ false) where
    pub restore_refused : (reason : Refusal) {t x : List ℕ} → Leaves (restore_all s table aux) (completed_answer (Declined reason)) (table_and_aux t x)
        → unpack_all s table aux ≡ refused (refused_line (refusal_number reason))
    unfolding unpack_all
    restore_refused reason l = rw (few, ← l.answer) (output_refused _ reason)

    pub restore_done : {t x : List ℕ} → Leaves (restore_all s table aux) (completed_answer Fine) (table_and_aux t x)
        → unpack_all s table aux ≡ written (printed_rows t x 0 (archived_rows s))
    unfolding unpack_all
    restore_done l = rw (few, ← l.answer, ← l.left) (output_made _ _)

    module _ {t x : List ℕ} (l : Leaves (restore_all s table aux) (completed_answer Fine) (table_and_aux t x)) where
      restore_fine : restore_reason s table aux ≡ Fine
      unfolding restore_all
      restore_fine = (done_fine _ _ _ _ (sym l.answer)).0

      pub restored_count : word_width ≤ length s
      restored_count = omega (arith, (restorable s table aux restore_fine).complete.long)

      pub few_rows : archived_rows s ≤ most_rows
      few_rows = go (ltb most_rows (archived_rows s)) refl where
        go : (b : Bool) → ltb most_rows (archived_rows s) ≡ b → archived_rows s ≤ most_rows
        go false e = ltb-false most_rows (archived_rows s) e
        go true e =
            let more = ltb-true most_rows (archived_rows s) e in
            let many : too_many_rows s ≡ true = above_most s restored_count more (restorable s table aux restore_fine).complete.few in
            absurd (cc (few, many))

-- ---- what is put
module _ (due : Output) (table aux : List ℕ) {r : Result ℕ Fault} (step : IsRestored due table aux r) where
  pub rows_restored : {n : ℕ} → r ≡ Ok n → IsRestored due table aux (Ok n)
  rows_restored e = rw e at step

  pub fault_unpacked : (fault : Fault) → r ≡ Err fault → {before after : List ℕ} {n : ℕ} → Put before 0 (fault_line fault) after n
      → IsUnpacked due table aux before after (Err n)
  fault_unpacked fault e p =
      let s : IsRestored due table aux (Err fault) = rw e at step in
      rw s (refl, p)

pub rows_unpacked : {due : Output} (table aux : List ℕ) (n k : ℕ) → n ≡ k → due ≡ written (printed_rows table aux 0 k) → k ≤ most_rows
    → (due ≡ written (printed_rows table aux 0 n)) × (n ≤ most_rows)
rows_unpacked table aux n k e h m = rw e (h, m)
