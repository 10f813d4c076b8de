-- Runs of two recorders, computed from the definitions, on lists whose unused places hold other words.
--   shared_order, alone_order, example: the first records A; the second records B and A. The shared list has A before B, the second's own calls alone make B
--   before A, and through the law the second does not notice.
--   literal_shared, literal_alone, literal_not_own: its conditions are needed. The first records A; the second holds B, which is answered 1, and confirms 0, a
--   number that no call of its own was answered: 16 on the shared list, done alone.
--   full_shared, full_alone: on one place the first records A and the second B: 6 on the shared list, done alone.
-- Assumes nothing.
use Prim.Native.Nat.{ℕ}
use mathlib.Core.Path.{◌≡◌, refl, sym, subst}
use mathlib.Core.Bool.{Bool, true, false}
use mathlib.Core.List.{List, [], ◌∷◌}
use native.Mathlib.Omega.{arith}
use Rattle.words.specs.Answers.{done, declined}
use Rattle.words.specs.declared.Refusal.TheVariants.{ListFull, NoHold}
use Rattle.isa.specs.Opcodes.{op_lt, op_and, is_opcode}
use Rattle.isa.specs.declared.U32TableEntry.{U32TableEntry}
use Rattle.isa.specs.Entries.{entry, judge_as_it_is, judge_entry, admitted}
use Rattle.list.specs.Lists.{key_at, multiplicity_at, entry_at, list_shape, count_full}
use Rattle.list.specs.Keys.{same_key, find_from, find_key}
use Rattle.list.specs.Holds.{HeldList, held_list, hold_at, held_shape}
use Rattle.list_record.specs.Recording.{place_reason, record_reason, record_with}
use Rattle.list_record.specs.Holding.{drop_reason, confirm_reason, confirm_all}
use Rattle.list_laws.specs.Calls.{Call, call_all, after, Fresh}
use Rattle.list_shared.specs.Shared.{other_shape, cleared, beside, record_shared, hold_shared}
use Rattle.shared_law.specs.Recorders.{Recorder, SharedList, own, call_shared, Made, makes, run, FreshShared}
use Rattle.shared_law.specs.Alone.{told, own_answers, answers_of, NoneFull, position, TakesOwn, alone_call, next, alone_from, alone}
use Rattle.shared_law.specs.NotNoticed.{Unnoticed}
use Rattle.shared_law.proofs.NotNoticed.{not_noticed}

abbrev A : U32TableEntry
A = entry op_and 3 1

abbrev B : U32TableEntry
B = entry op_lt 2 3

-- ---- the law is not empty

abbrev two_places : SharedList
two_places = record {
  sizes = record { capacity = 2; used = 0 };
  keys = 9 ∷ 9 ∷ 9 ∷ 9 ∷ 9 ∷ 9 ∷ [];
  firsts = record { multiplicities = 7 ∷ 7 ∷ []; holds = 5 ∷ 5 ∷ [] };
  seconds = record { multiplicities = 8 ∷ 8 ∷ []; holds = 6 ∷ 6 ∷ [] };
}

-- of the same capacity, with other words
abbrev two_alone : HeldList
two_alone = held_list (record { capacity = 2; used = 0 }) (1 ∷ 2 ∷ 3 ∷ 4 ∷ 5 ∷ 6 ∷ []) (3 ∷ 4 ∷ []) (1 ∷ 2 ∷ [])

abbrev three_calls : List Made
three_calls = makes Recorder.first (Call.records A) ∷ makes Recorder.second (Call.records B) ∷ makes Recorder.second (Call.records A) ∷ []

two_fresh : FreshShared two_places
unfolding held_shape list_shape
two_fresh = record { firsts = refl; seconds = refl; unused = refl }

two_alone_fresh : Fresh two_alone
unfolding held_shape list_shape
two_alone_fresh = record { shape = refl; unused = refl }

three_answers : own_answers Recorder.second two_places three_calls ≡ done [] ∷ done [] ∷ []
unfolding
    own_answers told call_shared record_shared beside other_shape cleared record_with record_reason place_reason held_shape list_shape hold_at multiplicity_at entry_at key_at
    find_key find_from same_key count_full judge_entry judge_as_it_is admitted is_opcode
three_answers = refl

shared_order : own Recorder.second (run two_places three_calls)
    ≡ held_list (record { capacity = 2; used = 2 }) (op_and ∷ 3 ∷ 1 ∷ op_lt ∷ 2 ∷ 3 ∷ []) (1 ∷ 1 ∷ []) (0 ∷ 0 ∷ [])
unfolding
    run call_shared record_shared beside other_shape cleared record_with record_reason place_reason held_shape list_shape hold_at multiplicity_at entry_at key_at
    find_key find_from same_key count_full judge_entry judge_as_it_is admitted is_opcode
shared_order = refl

alone_order : after two_alone (alone Recorder.second two_places two_alone three_calls)
    ≡ held_list (record { capacity = 2; used = 2 }) (op_lt ∷ 2 ∷ 3 ∷ op_and ∷ 3 ∷ 1 ∷ []) (1 ∷ 1 ∷ []) (0 ∷ 0 ∷ [])
unfolding
    after alone_from alone_call next call_all record_with record_reason place_reason held_shape list_shape hold_at multiplicity_at entry_at key_at
    find_key find_from same_key count_full judge_entry judge_as_it_is admitted is_opcode
alone_order = refl

three_takes : TakesOwn Recorder.second [] two_places three_calls
unfolding TakesOwn
three_takes = (tt, (tt, tt))

three_not_full : NoneFull (own_answers Recorder.second two_places three_calls)
three_not_full = subst NoneFull (sym three_answers) (λ q. omega arith, (λ q. omega arith, tt))

pub example : Unnoticed Recorder.second two_places two_alone three_calls
example = not_noticed Recorder.second two_places two_alone three_calls two_fresh two_alone_fresh refl three_takes three_not_full

-- ---- literal positions

abbrev literal_calls : List Made
literal_calls = makes Recorder.first (Call.records A) ∷ makes Recorder.second (Call.holds B) ∷ makes Recorder.second (Call.confirms 0) ∷ []

literal_shared : own_answers Recorder.second two_places literal_calls ≡ done [] ∷ declined NoHold ∷ []
unfolding
    own_answers told call_shared record_shared hold_shared beside other_shape cleared record_with record_reason place_reason confirm_all confirm_reason drop_reason
    held_shape list_shape hold_at multiplicity_at entry_at key_at find_key find_from same_key count_full judge_entry judge_as_it_is admitted is_opcode
literal_shared = refl

literal_alone : answers_of two_alone (Call.holds B ∷ Call.confirms 0 ∷ []) ≡ done [] ∷ done [] ∷ []
unfolding
    answers_of told call_all record_with record_reason place_reason confirm_all confirm_reason drop_reason
    held_shape list_shape hold_at multiplicity_at entry_at key_at find_key find_from same_key count_full judge_entry judge_as_it_is admitted is_opcode
literal_alone = refl

-- the condition that fails: the number is none that an own call answered
literal_not_own : TakesOwn Recorder.second [] two_places literal_calls → ⊥
unfolding
    TakesOwn position call_shared record_shared hold_shared beside other_shape cleared record_with record_reason place_reason
    held_shape list_shape hold_at multiplicity_at entry_at key_at find_key find_from same_key count_full judge_entry judge_as_it_is admitted is_opcode
literal_not_own t = let f : ◌≡◌ {A = Bool} false true = t.1.0 in let z : ◌≡◌ {A = ℕ} 0 1 = cc in omega arith

-- ---- list full

abbrev one_place : SharedList
one_place = record {
  sizes = record { capacity = 1; used = 0 };
  keys = 9 ∷ 9 ∷ 9 ∷ [];
  firsts = record { multiplicities = 7 ∷ []; holds = 5 ∷ [] };
  seconds = record { multiplicities = 8 ∷ []; holds = 6 ∷ [] };
}

abbrev one_alone : HeldList
one_alone = held_list (record { capacity = 1; used = 0 }) (1 ∷ 2 ∷ 3 ∷ []) (3 ∷ []) (1 ∷ [])

abbrev two_calls : List Made
two_calls = makes Recorder.first (Call.records A) ∷ makes Recorder.second (Call.records B) ∷ []

full_shared : own_answers Recorder.second one_place two_calls ≡ declined ListFull ∷ []
unfolding
    own_answers told call_shared record_shared beside other_shape cleared record_with record_reason place_reason held_shape list_shape hold_at multiplicity_at entry_at key_at
    find_key find_from same_key count_full judge_entry judge_as_it_is admitted is_opcode
full_shared = refl

full_alone : answers_of one_alone (alone Recorder.second one_place one_alone two_calls) ≡ done [] ∷ []
unfolding
    answers_of alone_from alone_call next told call_all record_with record_reason place_reason held_shape list_shape hold_at multiplicity_at entry_at key_at
    find_key find_from same_key count_full judge_entry judge_as_it_is admitted is_opcode
full_alone = refl
