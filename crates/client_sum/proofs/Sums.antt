-- The client's sum, request by request: each adds the inverse of its denominator to the sum of those before it (client_adds), and with no
-- request it is zero (client_none). The sum is a running sum of summands with flag and multiplicity 1, and such a summand adds one inverse
-- (adds_inverse); the requests before the last are read alike with and without it. Assumes nothing.
use Prim.Native.Nat.{ℕ, suc, ◌+◌, ◌*◌, ◌%◌, ◌<◌}
use mathlib.Core.Path.{◌≡◌, refl, sym, ap, ◌∙◌}
use mathlib.Core.List.{List, [], ◌++◌}
use native.Mathlib.Omega.{arith}
use lib.ListN.{length, get_or, length-append, get_or-append}
use lib.Seq.{get_or-append-add}
use Rattle.xfield.specs.Extension.{Ext, zero_x, add_x, Reduced}
use Rattle.xfield.specs.Inverses.{inv_x}
use Rattle.xfield.proofs.Laws.{scale_x_one, add_x_of_red, sub_x_reduced}
use Rattle.isa.specs.Entries.{entry_words, entry_width, admitted}
use Rattle.isa.specs.declared.U32TableEntry.{U32TableEntry}
use Rattle.table.specs.Challenges.{challenges_of, denominator}
use Rattle.sums.specs.RunningSum.{add_summand, running_sum}
use Rattle.sums.proofs.RunningSums.{adds_share, sum_turn, sum_cong}
use Rattle.client_sum.specs.Client.{entry_denominator, request_count, request_at, request_summand, client_sum}

-- ---- one request
module _ (requests challenges : List ℕ) where
  -- the denominator of request i's admitted entry
  abbrev pub request_denominator : ℕ → Ext
  request_denominator i = entry_denominator (challenges_of challenges) (admitted (request_at requests i))

  pub adds_inverse : (sum : Ext) (i : ℕ)
      → add_summand sum (request_summand requests challenges i) ≡ add_x sum (inv_x (request_denominator i))
  unfolding request_summand
  adds_inverse sum i = adds_share sum _ refl ∙ ap (add_x sum) (scale_x_one _) ∙ add_x_of_red sum _

  -- a turn of the loop that adds them
  pub request_turn : (i : ℕ) {sum next : Ext} → sum ≡ running_sum (request_summand requests challenges) i
      → next ≡ add_x sum (inv_x (request_denominator i)) → next ≡ running_sum (request_summand requests challenges) (i + 1)
  request_turn i {sum} e f = sum_turn (request_summand requests challenges) i e (f ∙ sym (adds_inverse sum i))

  pub request_reduced : (i : ℕ) → Reduced (request_denominator i)
  unfolding denominator
  request_reduced i = sub_x_reduced _ _

-- ---- one request more
pub client_none : (challenges : List ℕ) → client_sum [] challenges ≡ zero_x
unfolding client_sum running_sum
client_none challenges = refl

module _ (requests challenges : List ℕ) (e : U32TableEntry) (whole : length requests % entry_width ≡ 0) where
  abbrev more : List ℕ
  more = requests ++ entry_words e

  count_more : request_count more ≡ suc (request_count requests)
  count_more = let l = length-append requests (entry_words e) in omega arith

  whole_length : length requests ≡ entry_width * request_count requests
  whole_length = omega arith

  earlier : (i : ℕ) → i < request_count requests → request_at more i ≡ request_at requests i
  unfolding request_at
  earlier i l =
      rw (word (entry_width * i) (omega arith), word (entry_width * i + 1) (omega arith), word (entry_width * i + 2) (omega arith))
    where
      word : (j : ℕ) → j < entry_width * request_count requests → get_or more j 0 ≡ get_or requests j 0
      word j k = get_or-append requests (entry_words e) 0 j (omega (arith, whole_length))

  latest : request_at more (request_count requests) ≡ e
  unfolding request_at
  latest =
      rw (
        word 0 (entry_width * request_count requests) (omega arith),
        word 1 (entry_width * request_count requests + 1) refl,
        word 2 (entry_width * request_count requests + 2) refl,
      )
    where
      word : (k j : ℕ) → j ≡ entry_width * request_count requests + k → get_or more j 0 ≡ get_or (entry_words e) k 0
      word k j f =
          ap (λ (i : ℕ). get_or more i 0) (f ∙ ap (λ (n : ℕ). n + k) (sym whole_length)) ∙ get_or-append-add requests (entry_words e) k 0

  same_summand : (i : ℕ) → i < request_count requests → request_summand more challenges i ≡ request_summand requests challenges i
  unfolding request_summand
  same_summand i l = rw (earlier i l)

  -- the last request, on the sum of the others
  last_added : client_sum more challenges
      ≡ add_summand (running_sum (request_summand more challenges) (request_count requests)) (request_summand more challenges (request_count requests))
  unfolding client_sum running_sum
  last_added = ap (running_sum (request_summand more challenges)) count_more

  others : running_sum (request_summand more challenges) (request_count requests) ≡ client_sum requests challenges
  unfolding client_sum
  others = sum_cong (request_summand more challenges) (request_summand requests challenges) (request_count requests) same_summand

  -- "each request adds the inverse of its denominator"
  pub client_adds : client_sum more challenges ≡ add_x (client_sum requests challenges) (inv_x (entry_denominator (challenges_of challenges) (admitted e)))
  client_adds =
      last_added ∙ adds_inverse more challenges _ (request_count requests)
      ∙ ap (λ (x : Ext). add_x x (inv_x (request_denominator more challenges (request_count requests)))) others
      ∙ ap (λ (f : U32TableEntry). add_x (client_sum requests challenges) (inv_x (entry_denominator (challenges_of challenges) (admitted f)))) latest
