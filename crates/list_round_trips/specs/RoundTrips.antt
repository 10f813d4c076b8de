-- The two round trips of stored lists: what was written reads back as the counted keys with their counts, and what was accepted, without a
-- multiplicity 0, is written again in the new form, to the same bytes where it has that form. Holds are "not stored in files": what reads back has none.
use Rattle.std.specs.Prelude.{ℕ, ◌≤◌, ◌<◌, ◌≡◌, ◌≢◌, List, [], ◌∷◌, ◌++◌, length, take, drop, Result}
use Rattle.words.specs.Answers.{done}
use Rattle.words.specs.Outcomes.{Outcome, Leaves, unless_declined}
use Rattle.words.specs.Refusals.{Fine}
use Rattle.words.specs.declared.Refusal.{Refusal}
use Rattle.list.specs.Lists.{U32List, capacity, used, key_at, entry_at, multiplicity_at}
use Rattle.list.specs.Holds.{HeldList, hold_at, held_shape, section_list}
use Rattle.list_bytes.specs.Packed.{stored_places, stored_length, stored_n, stored_multiplicity}
use Rattle.list_stored.specs.Stored.{read_reason, read_all, read_answer, write_reason, write_all, written_answer}

-- "a written list reads back reduced": a has as many entries as b, and its keys are, word by word and in their order, the entries that admission
-- hands back of b's, with b's multiplicities
pub record SameList (a b : U32List) : Type 0 where
  pub count : used a ≡ used b
  pub keys : (i : ℕ) → i < used b → key_at a i ≡ entry_at b i
  pub multiplicities : (i : ℕ) → i < used b → multiplicity_at a i ≡ multiplicity_at b i

-- a reading has answered the number of entries of the list l, and left the same list, with no hold
pub record ReadsBack (l : U32List) (reading : Outcome HeldList) : Type 0 where
  pub answer : reading.answer ≡ done (used l ∷ [])
  pub list : SameList reading.left.list l
  pub holds : (i : ℕ) → i < used l → hold_at reading.left i ≡ 0

-- a writing to `out` has answered the length of the bytes s, and left them there; what follows them is as it was
pub record WrittenAgain (s out : List ℕ) (writing : Outcome (List ℕ)) : Type 0 where
  pub answer : writing.answer ≡ done (length s ∷ [])
  pub bytes : writing.left ≡ s ++ drop (length s) out

-- "'same bytes again' holds for lists of the new length, and an old one is written to the new form of the same list": t has the new length,
-- holds the list that s holds, and is s itself where s has the new length
pub record NewForm (h : HeldList) (s t : List ℕ) : Type 0 where
  pub long : length t ≡ stored_length (stored_n s)
  pub same_list : read_all h t ≡ read_all h s
  pub same_bytes : length s ≡ stored_length (stored_n s) → t ≡ s

-- Writing the list h to `out`, then reading what was written onto another list; nothing is read where writing refuses
unfoldable pub write_then_read : HeldList → List ℕ → HeldList → Outcome HeldList
write_then_read h out to =
    unless_declined (write_reason h out) to (read_all to (take (stored_length (length (stored_places (section_list h)))) (write_all h out).left))

-- What both calls leave, and the law: a list that is not refused reads back as the list of its counted keys, onto any list of right shape that has no
-- key, and room for it
pub record IsWrittenThenRead (h : HeldList) (out : List ℕ) (to : HeldList) (r : Result ℕ Refusal) (out_after : List ℕ) (after : HeldList) : Type 0 where
  pub exact : Leaves (write_then_read h out to) (read_answer r) after
  pub bytes : out_after ≡ (write_all h out).left
  pub law : write_reason h out ≡ Fine → held_shape to ≡ Fine → used to.list ≡ 0 → used (section_list h) ≤ capacity to.list
      → ReadsBack (section_list h) (record { answer = read_answer r; left = after })

-- Reading the bytes s onto the list h, then writing the list to `out`; nothing is written where reading refuses
unfoldable pub read_then_write : HeldList → List ℕ → List ℕ → Outcome (List ℕ)
read_then_write h s out = unless_declined (read_reason h s) out (write_all (read_all h s).left out)

-- "without a key of multiplicity 0"
abbrev pub NoneZero : List ℕ → Type 0
NoneZero s = (i : ℕ) → i < stored_n s → stored_multiplicity s i ≢ 0

-- What both calls leave, and the law: bytes that are not refused, without a key of multiplicity 0, are written again in the new form, wherever there is
-- room for it, whatever words stood in the holds before
pub record IsReadThenWritten (h : HeldList) (s out : List ℕ) (r : Result ℕ Refusal) (after : HeldList) (out_after : List ℕ) : Type 0 where
  pub exact : Leaves (read_then_write h s out) (written_answer r) out_after
  pub list : after ≡ (read_all h s).left
  pub law : read_reason h s ≡ Fine → NoneZero s → stored_length (stored_n s) ≤ length out
      → (t : List ℕ) × NewForm h s t × WrittenAgain t out (record { answer = written_answer r; left = out_after })
