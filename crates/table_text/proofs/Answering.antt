-- The text that is due after extension, after the check and at the end of a table's text: from what each call's contract says of its answer,
-- and the text that was put then. Assumes nothing.
use Prim.Native.Nat.{ℕ}
use mathlib.Core.Path.{◌≡◌, refl, sym, ap, ◌∙◌}
use mathlib.Core.List.{List, [], ◌∷◌}
use native.Mathlib.Omega.{arith}
use lib.ListN.{length}
use Rattle.words.specs.Outcomes.{Leaves}
use Rattle.words.specs.Refusals.{refusal_number}
use Rattle.words.specs.declared.Refusal.{Refusal}
use Rattle.xfield.specs.declared.XFieldElement.{XFieldElement}
use Rattle.xfield.specs.XFieldElements.{ext_of}
use Rattle.air.specs.Check.{check_all}
use Rattle.sums.specs.RunningSum.{element_words}
use Rattle.fill.specs.Extending.{extend_all}
use Rattle.extend.specs.Extensions.{extended_answer}
use Rattle.check_search.specs.declared.Nonzero.{Nonzero}
use Rattle.check_search.specs.Nonzeros.{group_number, nonzero_answer}
use Rattle.check_table.specs.Verdicts.{Verdict, verdict_answer}
use Rattle.text.specs.Lines.{verdict_line, refused_line, field_line}
use Rattle.text.specs.declared.Text.{Text}
use Rattle.text.specs.Put.{Put, HasRoom, Adds}
use Rattle.text.proofs.Lengths.{field_length, verdict_bound}
use Rattle.text.proofs.Adding.{reached}
use Rattle.text.proofs.Putting.{put_then}
use Rattle.transcript.specs.Transcript.{unless_refused}
use Rattle.transcript.proofs.Steps.{refused, text_made}
use Rattle.names.specs.Names.{name_of}
use Rattle.names.proofs.Named.{name_bound}
use Rattle.std.specs.Prelude.{Result, Ok, Err, Option, Some, None}
use Rattle.numbers.specs.declared.Fault.{Fault}
use Rattle.table_text.specs.TableText.{Stage, end_number, taken_of, IsFed}
use Rattle.table_text.specs.Answers.{verdict_lines, verdict_due, verdict_text, taken_text, answer_text, max_answer}

-- ---- the check
-- the verdict after its name, wherever they stand in a buffer
module _ {d d1 : List ℕ} {at r : ℕ} (v : Verdict) where
  pub verdict_nonzero : {d2 : List ℕ} {a : ℕ} (found : Nonzero) → v ≡ Ok (Some found)
      → Put d at (field_line (name_of (group_number found.group) found.index)) d2 a
      → Put d2 a (verdict_line (group_number found.group ∷ found.row ∷ found.index ∷ element_words (ext_of found.value))) d1 r → Put d at (verdict_due v) d1 r
  unfolding unless_refused verdict_lines
  verdict_nonzero found e p q = rw e (put_then p q)

module _ {old new : Text} where
  pub verdict_refused : (reason : Refusal) {v : Verdict} → v ≡ Err reason → Adds old (refused_line (refusal_number reason)) new → Adds old (verdict_due v) new
  verdict_refused reason e p = rw (e, refused _ reason refl) p

  pub found_none : {o : Option Nonzero} → o ≡ None → Adds old (verdict_line []) new → Adds old (verdict_due (Ok o)) new
  unfolding verdict_lines
  found_none e p = rw (e, text_made _ [] refl) p

  pub found_some : {mid : Text} (found : Nonzero) {o : Option Nonzero} → o ≡ Some found
      → Adds old (field_line (name_of (group_number found.group) found.index)) mid
      → Adds mid (verdict_line (nonzero_answer found).values) new → Adds old (verdict_due (Ok o)) new
  found_some {mid} found {o} e p q = record {
    put = verdict_nonzero (Ok o) {d2 = mid.out.now} {a = mid.len} found (ap Ok e) p.put q.put;
    same = q.same ∙ p.same;
  }

-- there is room for the verdict after a name
pub nonzero_fits : {old mid : Text} (group : ℕ) (found : Nonzero) → HasRoom old max_answer → Adds old (field_line (name_of group found.index)) mid
    → HasRoom mid (length (verdict_line (nonzero_answer found).values))
nonzero_fits group found h p =
    let r = reached p in
    omega (arith, r.len, r.size, h, field_length (name_of group found.index), name_bound group found.index, verdict_bound (nonzero_answer found).values)

-- ---- extension, then the check
module _ (challenges table aux : List ℕ) where
  pub extension_refused : (reason : Refusal) (after : List ℕ) {v : Verdict} → v ≡ Err reason
      → Leaves (extend_all table aux challenges) (extended_answer (Err reason)) after → verdict_due v ≡ verdict_text challenges table aux
  unfolding verdict_text
  extension_refused reason after is e = rw (is, refused _ reason refl, refused _ reason e.answer)

  pub extension_made : (sum : XFieldElement) (after : List ℕ) (v : Verdict)
      → Leaves (extend_all table aux challenges) (extended_answer (Ok sum)) after → verdict_answer v ≡ check_all table after challenges
      → verdict_due v ≡ verdict_text challenges table aux
  unfolding verdict_text
  extension_made sum after v e k = rw (text_made _ (element_words (ext_of sum)) (sym e.answer), ← e.left, ← k)

-- ---- the end of a text
module _ {old new : Text} (stage : Stage) (words aux : List ℕ) {end : Stage} {after : List ℕ} (ended : IsFed (end_number stage words) end after)
    (taken : Result ℕ Fault) (judged : taken ≡ taken_of end) where
  pub answer_put : (is : Result ℕ Fault) → taken ≡ is → Adds old (taken_text is after aux) new → Adds old (answer_text stage words aux) new
  unfolding answer_text
  answer_put is e p = rw (← ended.stage, ← ended.words, ← judged, e) p
