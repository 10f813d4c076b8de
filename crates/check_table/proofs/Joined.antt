-- What the check answers: the reason against it, or what its search found. One group after another: what a group's search finds is the answer,
-- and after nothing the next group decides. Assumes nothing.
use Rattle.std.proofs.Common.{◌≡◌, refl, ℕ, ◌+◌, ◌<◌, ◌≤◌, List, length, get_or, drop, add-one, sym, ap, ◌∙◌, Option, Some, None}
use lib.ListN.{drop_of_length-le}
use lib.Seq.{drop-cons}
use Rattle.words.specs.Answers.{Answer}
use Rattle.words.specs.declared.Refusal.{Refusal}
use Rattle.words.specs.Refusals.{Fine, Declined}
use Rattle.air.specs.Check.{zero_answer, check_reason, first_nonzero, check_all}
use Rattle.check_search.specs.declared.Group.TheVariants.{Initial}
use Rattle.check_search.specs.declared.Nonzero.{Nonzero}
use Rattle.std.specs.Prelude.{Ok, Err}
use Rattle.check_search.specs.Finds.{followed_by}
use Rattle.check_table.specs.Groups.{search_group}
use Rattle.check_table.specs.Verdicts.{verdict_answer}
use Rattle.check_table.proofs.Groups.{all_groups, first_in_groups, AreLeft}

module _ (table aux challenges : List ℕ) where
  pub refused : {reason : Refusal} → Declined reason ≡ check_reason table aux challenges → verdict_answer (Err reason) ≡ check_all table aux challenges
  unfolding check_all
  refused e = rw (sym e) refl

  pub searched : (o : Option Nonzero) → Fine ≡ check_reason table aux challenges → followed_by o zero_answer ≡ first_nonzero table aux challenges
      → verdict_answer (Ok o) ≡ check_all table aux challenges
  unfolding check_all
  searched o e f = is_verdict o ∙ f ∙ rw (sym e) refl where
    is_verdict : (o : Option Nonzero) → verdict_answer (Ok o) ≡ followed_by o zero_answer
    is_verdict None = refl
    is_verdict (Some n) = refl

  -- no group is left
  pub groups_passed : (i : ℕ) → length all_groups ≤ i → AreLeft table aux challenges (drop i all_groups) → zero_answer ≡ first_nonzero table aux challenges
  groups_passed i h left = sym (left ∙ ap (first_in_groups table aux challenges) (drop_of_length-le all_groups h))

  -- from group i on, in which a search found o
  module _ (i : ℕ) (h : i < length all_groups) (left : AreLeft table aux challenges (drop i all_groups)) (o : Option Nonzero)
      (s : (next : Answer) → followed_by o next ≡ search_group table aux challenges (get_or all_groups i Initial) next) where
    from_here : first_nonzero table aux challenges ≡ followed_by o (first_in_groups table aux challenges (drop (i + 1) all_groups))
    from_here = left ∙ rw (drop-cons all_groups i Initial h, add-one i) (sym (s _))

    pub group_passed : o ≡ None → AreLeft table aux challenges (drop (i + 1) all_groups)
    group_passed e = from_here ∙ rw e refl

    pub group_found : {n : Nonzero} → o ≡ Some n → followed_by (Some n) zero_answer ≡ first_nonzero table aux challenges
    group_found e = sym (from_here ∙ rw e refl)
