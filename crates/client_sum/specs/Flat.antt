-- Reason 9 of a client's sum (change request 13): "met by a denominator of (0, 0, 0) and by nothing else, in .. the client's sum".
use Rattle.std.specs.Prelude.{ℕ, ◌<◌, ◌≡◌, ◌↔◌, true, List}
use Rattle.words.specs.Answers.{declined}
use Rattle.words.specs.Refusals.{first_reason, Fine}
use Rattle.words.specs.declared.Refusal.TheVariants.{Flat}
use Rattle.xfield.specs.Extension.{zero_x}
use Rattle.isa.specs.Entries.{judge_entry, admitted}
use Rattle.table.specs.Columns.{all_reduced}
use Rattle.table.specs.Challenges.{challenges_of}
use Rattle.client_sum.specs.Client.{entry_denominator, request_count, request_at, request_reason, client_shape, client_all}

-- a request whose denominator, that of the admitted entry, is zero: nothing is against those before it, and it is admitted
pub record FirstFlat (requests challenges : List ℕ) (i : ℕ) : Type 0 where
  pub there : i < request_count requests
  pub before : first_reason (request_reason requests challenges) 0 i ≡ Fine
  pub is_admitted : judge_entry (request_at requests i) ≡ Fine
  pub zero_denominator : entry_denominator (challenges_of challenges) (admitted (request_at requests i)) ≡ zero_x

-- 1 and 8 are not met, and there is such a request
pub record OnlyFlat (requests challenges : List ℕ) : Type 0 where
  pub shapes : client_shape requests challenges ≡ true
  pub reduced : all_reduced challenges ≡ true
  pub some_request : (i : ℕ) × FirstFlat requests challenges i

-- exactly then the answer is 9
abbrev pub FlatExactly : (requests challenges : List ℕ) → Type 0
FlatExactly requests challenges = (client_all requests challenges ≡ declined Flat) ↔ OnlyFlat requests challenges
