-- THE LAW of two recorders (not_noticed). At the end of both runs the lists are judged alike, have one height and one sum, and the same keys are counted; so
-- plan, fill, pad, extend and check answer the same. Keys that are not counted get no section, so those that the other recorder brought do not show. Assumes
-- nothing.
use Prim.Native.Nat.{ℕ}
use mathlib.Core.Path.{◌≡◌, refl, sym, ap, ◌∙◌, subst}
use mathlib.Core.List.{List}
use lib.Dec.{eqb}
use Rattle.xfield.specs.Extension.{zero_x}
use Rattle.list.specs.Heights.{list_height}
use Rattle.list.specs.Holds.{HeldList, section_list, judge_held}
use Rattle.list.proofs.HeldLists.{held_shape_fine}
use Rattle.list_record.specs.Plan.{plan_all}
use Rattle.list_record.proofs.Views.{EachPlace}
use Rattle.list_record.proofs.RecordViews.{view_of, PlaceAdmitted}
use Rattle.list_laws.specs.Calls.{after}
use Rattle.table.specs.Challenges.{Challenges, challenges_of}
use Rattle.four_calls.specs.FourCalls.{first_rows_of, none_zero, sum_from}
use Rattle.client_law.proofs.Servers.{server_sum}
use Rattle.client_law.proofs.ClientLaw.{section_judged}
use Rattle.shared_law.specs.Recorders.{Recorder, SharedList, own, Made, run}
use Rattle.shared_law.specs.Alone.{NoneFull, alone}
use Rattle.shared_law.specs.NotNoticed.{SameAlone, NotNoticed}
use Rattle.shared_law.proofs.Together.{Matched}
use Rattle.shared_law.proofs.CountedRows.{rows_weight, section_height, zero_weight, section_zeros}
use Rattle.shared_law.proofs.TermWeights.{covers_sum}
use Rattle.shared_law.proofs.Endings.{open_same, counts_same, alone_admitted}
use Rattle.shared_law.proofs.SameRuns.{same_run, same_verdict}
use Rattle.shared_law.proofs.Runs.{fresh_runs, ending, ending_admitted}

module _ (S O : HeldList) (m : Matched S O) (each : EachPlace PlaceAdmitted (view_of S)) where
  judged_same : judge_held S ≡ judge_held O
  unfolding judge_held
  judged_same =
      rw (
        held_shape_fine S m.shaped_s,
        held_shape_fine O m.shaped_o,
        open_same S O m,
        section_judged S m.shaped_s each,
        section_judged O m.shaped_o (alone_admitted S O m each),
      )

  height_same : list_height (section_list S) ≡ list_height (section_list O)
  height_same = section_height S ∙ m.covers.sums rows_weight (λ k. refl) ∙ sym (section_height O)

  zeros_same : (c : Challenges) → none_zero c (first_rows_of (section_list S)) ≡ none_zero c (first_rows_of (section_list O))
  zeros_same c =
      section_zeros c S ∙ ap (λ (n : ℕ). eqb n 0) (m.covers.sums (zero_weight c) (λ k. refl)) ∙ sym (section_zeros c O)

  sums_same : (c : Challenges) → sum_from c zero_x (first_rows_of (section_list S)) ≡ sum_from c zero_x (first_rows_of (section_list O))
  sums_same c = server_sum c S ∙ covers_sum c m.covers ∙ sym (server_sum c O)

  plan_same : plan_all S ≡ plan_all O
  unfolding plan_all
  plan_same = rw (judged_same, height_same)

  pub matched_same : SameAlone S O
  matched_same = record {
    height = plan_same;
    counts = counts_same S O m;
    run = λ t u a b c p q. same_run S O t u a b c p q judged_same height_same (zeros_same (challenges_of c)) (sums_same (challenges_of c));
    verdict = λ t u a b c p q.
        same_verdict S O t u a b c
        (same_run S O t u a b c p q judged_same height_same (zeros_same (challenges_of c)) (sums_same (challenges_of c)));
  }

pub not_noticed : (r : Recorder) (s : SharedList) (o : HeldList) (ms : List Made) → NotNoticed r s o ms
not_noticed r s o ms f g c takes none =
    let answers = (fresh_runs r s o f g c ms takes none).0 in
    record {
      same =
          matched_same (own r (run s ms)) (after o (alone r s o ms)) (ending r s o f g c ms takes none)
          (ending_admitted r s o f g c ms takes none);
      answers = answers;
      none_full = subst NoneFull answers none;
    }
