-- Requests of the same admitted entries, in whatever words, are answered alike: the reasons and the sum look at nothing else. So a base of pow counts
-- as its reduced form. Assumes nothing.
use Prim.Native.Nat.{ℕ, ◌<◌}
use mathlib.Core.Path.{◌≡◌, ap, ◌∙◌}
use mathlib.Core.List.{List}
use native.Mathlib.Omega.{arith}
use lib.ListN.{length}
use Rattle.words.specs.Refusals.{first_reason}
use Rattle.words.proofs.Judgements.{first_cong}
use Rattle.isa.specs.Entries.{judge_entry, admitted}
use Rattle.sums.specs.RunningSum.{running_sum}
use Rattle.sums.proofs.RunningSums.{sum_cong}
use Rattle.client_sum.specs.Client.{request_count, request_at, request_summand, request_reason, client_shape, client_reason, client_sum, client_all}

module _ (requests others challenges : List ℕ) (long : length requests ≡ length others)
    (alike : (i : ℕ) → i < request_count requests → admitted (request_at requests i) ≡ admitted (request_at others i)) where
  same_summand : (i : ℕ) → i < request_count requests → request_summand requests challenges i ≡ request_summand others challenges i
  unfolding request_summand
  same_summand i l = rw (alike i l)

  same_reason : (i : ℕ) → i < request_count requests → request_reason requests challenges i ≡ request_reason others challenges i
  unfolding request_reason judge_entry
  same_reason i l = rw (alike i l, same_summand i l)

  same_count : request_count requests ≡ request_count others
  same_count = rw long

  same_sum : client_sum requests challenges ≡ client_sum others challenges
  unfolding client_sum
  same_sum =
      sum_cong (request_summand requests challenges) (request_summand others challenges) (request_count requests) same_summand
      ∙ ap (running_sum (request_summand others challenges)) same_count

  same_reasons : first_reason (request_reason requests challenges) 0 (request_count requests)
      ≡ first_reason (request_reason others challenges) 0 (request_count others)
  same_reasons =
      first_cong (request_reason requests challenges) (request_reason others challenges) 0 (request_count requests)
      (λ i low high. same_reason i (omega arith))
      ∙ ap (first_reason (request_reason others challenges) 0) same_count

  same_shape : client_shape requests challenges ≡ client_shape others challenges
  unfolding client_shape
  same_shape = rw long

  same_judgement : client_reason requests challenges ≡ client_reason others challenges
  unfolding client_reason
  same_judgement = rw (same_shape, same_reasons)

  pub client_alike : client_all requests challenges ≡ client_all others challenges
  unfolding client_all
  client_alike = rw (same_judgement, same_sum)
