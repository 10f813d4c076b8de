-- Writing then reading, and reading then writing, as two calls make them: from what each call ensures to the law. Where the first call refuses,
-- the second is not made and the law asks nothing.
use mathlib.Core.Path.{◌≡◌, sym, ap, ◌∙◌}
use mathlib.Core.List.{List}
use Prim.Native.Nat.{ℕ, ◌≤◌, ◌<◌}
use native.Mathlib.Omega.{arith}
use lib.ListN.{length, get_or, take}
use lib.Seq.{length-sets}
use Rattle.words.specs.Outcomes.{Outcome, Leaves}
use Rattle.words.specs.declared.Refusal.{Refusal}
use Rattle.words.proofs.Outcomes.{reason_told, unless_fine, unless_told}
use Rattle.list.specs.Holds.{HeldList, section_list}
use Rattle.std.specs.Prelude.{Result, Ok, Err}
use Rattle.list_bytes.specs.Packed.{stored_places, stored_length, stored_bytes}
use Rattle.list_stored.specs.Stored.{read_reason, read_all, read_answer, write_reason, write_all, written_answer}
use Rattle.list_round_trips.specs.RoundTrips.{write_then_read, IsWrittenThenRead, read_then_write, IsReadThenWritten}
use Rattle.list_bytes.proofs.StoredPlaces.{length_stored_places}
use Rattle.list_stored.proofs.Reasons.{writable}
use Rattle.list_round_trips.proofs.RoundTrips.{read_answered, write_answered, written_is, written_length, written_reads_back, read_writes_back}

module _ (h : HeldList) (out : List ℕ) where
  pub written_within : (n : ℕ) (after : List ℕ) → Leaves (write_all h out) (written_answer (Ok n)) after → n ≤ length after
  written_within n after w =
      let e = write_answered h out n (sym w.answer) in
      let m = written_length h out n (sym w.answer) in
      let r = (writable h out e).room in
      let g : length after ≡ length out
      = ap length (w.left ∙ ap (λ (x : Outcome (List ℕ)). x.left) (written_is h out e)) ∙ length-sets out 0 (stored_bytes (section_list h)) in
      omega arith

  module _ (to : HeldList) where
    pub write_refused : (k : Refusal) (after : List ℕ) → Leaves (write_all h out) (written_answer (Err k)) after
        → IsWrittenThenRead h out to (Err k) after to
    unfolding write_then_read write_all
    write_refused k after w = record {
      exact = unless_told (write_reason h out) _ _ _ k w.answer to _;
      bytes = w.left;
      law = λ e. absurd (reason_told (write_reason h out) _ _ _ k w.answer e);
    }

    pub then_read : (n : ℕ) (bytes : List ℕ) (r : Result ℕ Refusal) (after : HeldList) → Leaves (write_all h out) (written_answer (Ok n)) bytes
        → Leaves (read_all to (take n bytes)) (read_answer r) after → IsWrittenThenRead h out to r bytes after
    unfolding write_then_read
    then_read n bytes r after w d =
        let e = write_answered h out n (sym w.answer) in
        let m : n ≡ stored_length (length (stored_places (section_list h))) = written_length h out n (sym w.answer) ∙ ap stored_length (sym (length_stored_places (section_list h))) in
        let f : read_all to (take n bytes) ≡ read_all to (take (stored_length (length (stored_places (section_list h)))) (write_all h out).left) = rw (m, w.left) in
        record {
          exact = rw (unless_fine to _ e, ← f) d;
          bytes = w.left;
          law = λ _ sh none room.
              let b = rw (← w.left) at (written_reads_back h to out n (sym w.answer) sh none room) in
              record { answer = d.answer ∙ b.answer; list = rw d.left b.list; holds = rw d.left b.holds };
        }

module _ (h : HeldList) (s out : List ℕ) where
  pub read_refused : (k : Refusal) (after : HeldList) → Leaves (read_all h s) (read_answer (Err k)) after
      → IsReadThenWritten h s out (Err k) after out
  unfolding read_then_write read_all
  read_refused k after d = record {
    exact = unless_told (read_reason h s) _ _ _ k d.answer out _;
    list = d.left;
    law = λ e. absurd (reason_told (read_reason h s) _ _ _ k d.answer e);
  }

  pub then_written : (n : ℕ) (after : HeldList) (r : Result ℕ Refusal) (bytes : List ℕ) → ((j : ℕ) → get_or s j 0 < 256)
      → Leaves (read_all h s) (read_answer (Ok n)) after → Leaves (write_all after out) (written_answer r) bytes → IsReadThenWritten h s out r after bytes
  unfolding read_then_write
  then_written n after r bytes b d w =
      let e = read_answered h s n (sym d.answer) in
      let v = rw d.left at w in
      record {
        exact = rw (unless_fine out _ e) v;
        list = d.left;
        law = λ _ none room.
            let a = read_writes_back h s out n b (sym d.answer) none room in
            (a.0, a.1, record { answer = v.answer ∙ a.2.answer; bytes = v.left ∙ a.2.bytes });
      }
