-- THE LAW of two recorders (request 11): "if none of a pad's calls met 'list full', its height, nonzero counts per key, last sum and check verdict in demand
-- 3's run are those of its own calls alone, in their order, on a fresh list of the same capacity, each confirm or drop taking the position that the same
-- earlier call answers there, with as many table rows and the same challenges." Proved for every recorder, list, run of calls, table, aux and challenges
-- (proofs/NotNoticed.antt). That none of its calls meets 6 alone, and that each tells the same there, are conclusions.
use Rattle.std.specs.Prelude.{ℕ, ◌≡◌, cond, List, [], ◌∷◌, map, eqb, length, get_or}
use Rattle.words.specs.Answers.{Answer}
use Rattle.isa.specs.declared.U32TableEntry.{U32TableEntry}
use Rattle.list.specs.Lists.{capacity, multiplicity_at}
use Rattle.list.specs.Holds.{HeldList}
use Rattle.list_record.specs.Recording.{place_in, known}
use Rattle.list_record.specs.Plan.{plan_all}
use Rattle.list_laws.specs.Calls.{Call, after, Fresh}
use Rattle.air.specs.Check.{check_all}
use Rattle.fill.specs.Filling.{fill_all}
use Rattle.fill.specs.Padding.{pad_all}
use Rattle.fill.specs.Extending.{extend_all}
use Rattle.four_calls.specs.Run.{run_all}
use Rattle.shared_law.specs.Recorders.{Recorder, SharedList, own, Made, makes, run, FreshShared}
use Rattle.shared_law.specs.Alone.{own_answers, answers_of, NoneFull, TakesOwn, alone}

-- how often a key is counted on a list; a key that does not stand there is not
unfoldable pub count_of : HeldList → U32TableEntry → ℕ
count_of h k = cond (known h k) (multiplicity_at h.list (place_in h k)) 0

-- an answer, and those after it where it is no refusal
abbrev pub and_then : Answer → List Answer → List Answer
and_then a rest = a ∷ cond (eqb a.number 0) rest []

-- "demand 3's run": what fill, pad, extend and check answer, each on what the one before answered or left, to the first that refuses. Fill answers the
-- height, extend the last sum, check the verdict
unfoldable pub run_answers : HeldList → (table aux challenges : List ℕ) → List Answer
run_answers h table aux challenges =
    let filling = fill_all h table in
    let padding = pad_all filling.left (get_or filling.answer.values 0 0) in
    let extension = extend_all padding.left aux challenges in
    and_then filling.answer
    (and_then padding.answer (and_then extension.answer (check_all padding.left extension.left challenges ∷ [])))

-- two lists with the same plan, the same counts and the same answers in a run, refusals included, whatever the tables and the aux hold
pub record SameAlone (S O : HeldList) : Type 0 where
  pub height : plan_all S ≡ plan_all O
  pub counts : (k : U32TableEntry) → count_of S k ≡ count_of O k
  pub run : (t u a b c : List ℕ) → length t ≡ length u → length a ≡ length b → run_answers S t a c ≡ run_answers O u b c
  pub verdict : (t u a b c : List ℕ) → length t ≡ length u → length a ≡ length b → (run_all S t a c).answer ≡ (run_all O u b c).answer

pub record Unnoticed (r : Recorder) (s : SharedList) (o : HeldList) (ms : List Made) : Type 0 where
  pub same : SameAlone (own r (run s ms)) (after o (alone r s o ms))
  pub answers : own_answers r s ms ≡ answers_of o (alone r s o ms)
  pub none_full : NoneFull (answers_of o (alone r s o ms))

abbrev pub NotNoticed : Recorder → SharedList → HeldList → List Made → Type 0
NotNoticed r s o ms =
    FreshShared s → Fresh o → capacity o.list ≡ s.sizes.capacity → TakesOwn r [] s ms → NoneFull (own_answers r s ms) → Unnoticed r s o ms

-- "alone" on a shared list whose other recorder makes no calls: the own list and the answers are those of the same calls on a list of one recorder, of which
-- the law speaks (proofs/AsAlone.antt, for every fresh list)
pub record AsAlone (r : Recorder) (o : SharedList) (cs : List Call) : Type 0 where
  pub list : own r (run o (map (makes r) cs)) ≡ after (own r o) cs
  pub answers : own_answers r o (map (makes r) cs) ≡ answers_of (own r o) cs
