-- The client's sum (request 2): the processor's end of the lookup, "the sum of `LookupArg::compute_terminal`, taken over compressed rows".
use Rattle.std.specs.Prelude.{ℕ, ◌/◌, ◌%◌, Bool, not, ◌&&◌, List, eqb, length, Result, Ok, Err}
use Rattle.words.specs.Answers.{Answer, done, declined}
use Rattle.words.specs.Outcomes.{answered}
use Rattle.words.specs.Refusals.{decline_if, or_else, first_reason, Judgement}
use Rattle.words.specs.declared.Refusal.{Refusal}
use Rattle.words.specs.declared.Refusal.TheVariants.{Shape, Unreduced, Flat}
use Rattle.xfield.specs.Extension.{Ext}
use Rattle.xfield.specs.declared.XFieldElement.{XFieldElement}
use Rattle.xfield.specs.XFieldElements.{ext_of}
use Rattle.isa.specs.PlainFunctions.{plain_result}
use Rattle.isa.specs.Entries.{lhs, rhs, entry_in, entry_width, judge_entry, admitted}
use Rattle.isa.specs.declared.U32TableEntry.{U32TableEntry}
use Rattle.table.specs.Columns.{all_reduced}
use Rattle.table.specs.Challenges.{Challenges, challenges_of, challenges_shape, denominator}
use Rattle.sums.specs.RunningSum.{Summand, running_sum, denominator_ok, element_words}

-- "its denominator, its Result being the plain function (0 for split)"; CI is the opcode
abbrev pub entry_denominator : Challenges → U32TableEntry → Ext
entry_denominator c e = denominator c (lhs e) (rhs e) e.opcode (plain_result e.opcode (lhs e) (rhs e))

-- requests are entries, three words each
abbrev pub request_count : List ℕ → ℕ
request_count requests = length requests / entry_width

-- request i
unfoldable pub request_at : List ℕ → ℕ → U32TableEntry
request_at requests i = entry_in requests i

-- what it brings to the sum: the inverse of its denominator, once. Request 7: "the client's sum use the reduced one"
unfoldable pub request_summand : (requests challenges : List ℕ) → ℕ → Summand
request_summand requests challenges i =
    record { flag = 1; multiplicity = 1; denominator = entry_denominator (challenges_of challenges) (admitted (request_at requests i)) }

-- "from (0, 0, 0), each request adds the inverse of its denominator"
unfoldable pub client_sum : (requests challenges : List ℕ) → Ext
client_sum requests challenges = running_sum (request_summand requests challenges) (request_count requests)

-- reason 1 is "requests not 3 words an entry", or challenges not 15 words
unfoldable pub client_shape : (requests challenges : List ℕ) → Bool
client_shape requests challenges = eqb (length requests % entry_width) 0 && challenges_shape challenges

-- ".. 2, 3, 4, 9" of request i
unfoldable pub request_reason : (requests challenges : List ℕ) → ℕ → Judgement
request_reason requests challenges i =
    or_else (judge_entry (request_at requests i)) (decline_if (not (denominator_ok (request_summand requests challenges i))) Flat)

-- "Errors: 1, 8, then 2, 3, 4, 9 request by request." 8 is about the challenges: a request's word p or more is for 2 and 3 to judge
unfoldable pub client_reason : (requests challenges : List ℕ) → Judgement
client_reason requests challenges =
    or_else (decline_if (not (client_shape requests challenges)) Shape)
    (or_else (decline_if (not (all_reduced challenges)) Unreduced)
    (first_reason (request_reason requests challenges) 0 (request_count requests)))

-- the call: the sum's three words, or the first reason's number
unfoldable pub client_all : (requests challenges : List ℕ) → Answer
client_all requests challenges = answered (client_reason requests challenges) (element_words (client_sum requests challenges))

-- the sum over the requests, or why the call is declined; and what that answer of the code means
abbrev pub Terminal : Type 0
Terminal = Result XFieldElement Refusal

abbrev pub terminal_answer : Terminal → Answer
terminal_answer (Ok x) = done (element_words (ext_of x))
terminal_answer (Err reason) = declined reason
