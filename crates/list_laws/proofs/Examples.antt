-- What calls leave and count, on two lists whose unused places hold other words, computed from the definitions.
--   mixed: a recording, holds, confirms and drops, some of them refused: what is held and dropped is not counted, a hold that is confirmed is counted once.
--   stopped: a replay of two steps on one place, the second refused with 6: the first is counted.
-- Assumes nothing.
use mathlib.Core.Path.{◌≡◌, refl}
use mathlib.Core.List.{List, [], ◌∷◌}
use Rattle.isa.specs.Opcodes.{op_lt, op_and, is_opcode}
use Rattle.isa.specs.Entries.{entry, judge_as_it_is, judge_entry, admitted}
use Rattle.list.specs.Lists.{key_at, multiplicity_at, entry_at, list_shape, count_full}
use Rattle.list.specs.Keys.{same_key, find_from, find_key}
use Rattle.list.specs.Holds.{HeldList, held_list, hold_at, held_shape}
use Rattle.list_record.specs.Recording.{place_reason, record_reason, record_with, record_each}
use Rattle.list_record.specs.Holding.{drop_reason, confirm_reason, confirm_all, drop_all}
use Rattle.list_replay.specs.Steps.{step_at, step_entries}
use Rattle.list_replay.specs.Replay.{record_together, step_all, replay_from, replay_reason, replay_all, entries_from}
use Rattle.list_laws.specs.Calls.{Call, call_all, after, counts, counted}

-- ---- calls of all kinds but replays

abbrev two_places : HeldList
two_places = held_list (record { capacity = 2; used = 0 }) (9 ∷ 9 ∷ 9 ∷ 9 ∷ 9 ∷ 9 ∷ []) (9 ∷ 9 ∷ []) (5 ∷ 5 ∷ [])

-- refused: a confirm before there is an entry, one without a hold, a hold of no opcode, a confirm past the places
abbrev mixed_calls : List Call
mixed_calls =
    Call.confirms 0 ∷ Call.records (entry op_and 3 1) ∷ Call.holds (entry op_and 3 1) ∷ Call.holds (entry op_lt 2 3) ∷ Call.confirms 0 ∷ Call.confirms 0
    ∷ Call.drops 1 ∷ Call.holds (entry 5 0 0) ∷ Call.confirms 7 ∷ []

mixed_left : after two_places mixed_calls
    ≡ held_list (record { capacity = 2; used = 2 }) (op_and ∷ 3 ∷ 1 ∷ op_lt ∷ 2 ∷ 3 ∷ []) (2 ∷ 0 ∷ []) (0 ∷ 0 ∷ [])
unfolding
    after
    call_all
    record_with
    record_reason
    place_reason
    confirm_all
    confirm_reason
    drop_all
    drop_reason
    held_shape
    list_shape
    hold_at
    multiplicity_at
    entry_at
    key_at
    find_key
    find_from
    same_key
    count_full
    judge_entry
    judge_as_it_is
    admitted
    is_opcode
mixed_left = refl

mixed_counted : counted two_places mixed_calls ≡ entry op_and 3 1 ∷ entry op_and 3 1 ∷ []
unfolding
    counted
    counts
    call_all
    record_with
    record_reason
    place_reason
    confirm_all
    confirm_reason
    drop_all
    drop_reason
    held_shape
    list_shape
    hold_at
    multiplicity_at
    entry_at
    key_at
    find_key
    find_from
    same_key
    count_full
    judge_entry
    judge_as_it_is
    admitted
    is_opcode
mixed_counted = refl

-- ---- a replay that stops

abbrev one_place : HeldList
one_place = held_list (record { capacity = 1; used = 0 }) (9 ∷ 9 ∷ 9 ∷ []) (9 ∷ []) (5 ∷ [])

abbrev two_steps : List Call
two_steps = Call.replays (op_and ∷ 1 ∷ 1 ∷ op_and ∷ 2 ∷ 2 ∷ []) ∷ []

stopped_left : after one_place two_steps ≡ held_list (record { capacity = 1; used = 1 }) (op_and ∷ 1 ∷ 1 ∷ []) (1 ∷ []) (0 ∷ [])
unfolding
    after
    call_all
    replay_all
    replay_reason
    replay_from
    step_all
    step_at
    step_entries
    record_together
    record_each
    record_with
    record_reason
    place_reason
    held_shape
    list_shape
    hold_at
    multiplicity_at
    entry_at
    key_at
    find_key
    find_from
    same_key
    count_full
    judge_entry
    judge_as_it_is
    admitted
    is_opcode
stopped_left = refl

stopped_counted : counted one_place two_steps ≡ entry op_and 1 1 ∷ []
unfolding
    counted
    counts
    call_all
    replay_all
    replay_reason
    replay_from
    entries_from
    step_all
    step_at
    step_entries
    record_together
    record_each
    record_with
    record_reason
    place_reason
    held_shape
    list_shape
    hold_at
    multiplicity_at
    entry_at
    key_at
    find_key
    find_from
    same_key
    count_full
    judge_entry
    judge_as_it_is
    admitted
    is_opcode
stopped_counted = refl
