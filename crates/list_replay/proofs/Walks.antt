-- Steps and walks, as the code goes through them: entries recorded together are all recorded or none is (together_done, together_refused); a
-- step is what its entries make of it (step_as_lem), and leaves the list where it is refused (step_left); a walk goes on after an accepted step, ends
-- at a refused one, and at the last (walk_on, walk_stops, walk_ends). Assumes nothing.
use Prim.Native.Nat.{ℕ, suc, ◌+◌, ◌-◌, ◌/◌, ◌%◌, ◌≤◌, ◌<◌}
use mathlib.Core.Path.{◌≡◌, refl, sym, ap, ◌∙◌}
use mathlib.Core.Bool.{Bool, true, false, cond, not, ◌&&◌, ◌||◌}
use mathlib.Core.List.{List, [], ◌∷◌}
use mathlib.Core.Logic.{◌≢◌}
use native.Mathlib.Omega.{arith}
use native.Mathlib.Numerals.{add-one}
use lib.Dec.{eqb, ltb}
use lib.ListN.{length}
use borrow.Author.Tests.{eq-eqb, ne_eqb}
use Rattle.field.specs.Elements.{p}
use Rattle.std.specs.Prelude.{Ok, Err}
use Rattle.words.specs.Answers.{Answer, done, declined}
use Rattle.words.specs.Refusals.{refusal_number, Fine, Declined, Judgement}
use Rattle.words.specs.Outcomes.{Outcome, Leaves, completed_answer}
use Rattle.words.specs.declared.Refusal.{Refusal}
use Rattle.words.specs.declared.Refusal.TheVariants.{Stranger, Wide, ZeroDivisor}
use Rattle.words.proofs.Answers.{number_positive}
use Rattle.isa.specs.declared.U32TableEntry.{U32TableEntry}
use Rattle.isa.specs.Opcodes.{op_split, op_lt, op_log2_floor, op_and, op_pop_count, op_pow, op_div_mod, op_xor, op_merkle_step, op_merkle_step_mem}
use Rattle.isa.specs.Entries.{entry, rhs_limit}
use Rattle.list.specs.Holds.{HeldList, held_shape}
use Rattle.list_record.specs.Recording.{Recorded, record_all, record_each, recorded_answer}
use Rattle.list_record.proofs.RecordEach.{number_of, refused_left, each_accepted, each_refused}
use Rattle.list_replay.specs.declared.Step.{Step}
use Rattle.list_replay.specs.declared.StepEntries.TheVariants.{One, Two}
use Rattle.list_replay.specs.Steps.{step_width, step_at, Entries, split_step, div_mod_step, merkle_step, step_entries}
use Rattle.list_replay.specs.Replay.{record_together, step_as, step_all, stopped_at, replay_from, replay_reason, replay_all, replayed_answer}

pub declined_positive : (k : Refusal) → refusal_number k ≡ 0 → ⊥
declined_positive k z = omega (arith, number_positive k)

-- ---- entries recorded together

module _ (l : HeldList) (es : List U32TableEntry) where
  pub together_each : number_of (record_each l es) ≡ 0 → record_together l es ≡ record_each l es
  unfolding record_together
  together_each z = rw (eq-eqb (number_of (record_each l es)) 0 z)

  pub together_number : number_of (record_together l es) ≡ number_of (record_each l es)
  unfolding record_together
  together_number = refl

  pub together_left : number_of (record_together l es) ≢ 0 → (record_together l es).left ≡ l
  unfolding record_together
  together_left n = rw (ne_eqb (number_of (record_each l es)) 0 n)

  pub together_done : (rest : HeldList) {after : HeldList} → record_each l es ≡ record_each rest [] → after ≡ rest
      → Leaves (record_together l es) (done []) after
  unfolding record_each
  together_done rest q e =
      let all = together_each (ap number_of q) ∙ q in
      rw all (record { answer = refl; left = e })

  pub together_refused : (k : Refusal) → (record_each l es).answer ≡ declined k → Leaves (record_together l es) (declined k) l
  unfolding record_together
  together_refused k q =
      let n : number_of (record_each l es) ≢ 0 = λ z. declined_positive k (sym (ap (λ (a : Answer). a.number) q) ∙ z) in
      record { answer = sym q; left = sym (together_left n) }

-- ---- one entry

module _ (l : HeldList) (e : U32TableEntry) {a : Recorded} {after : HeldList} (made : Leaves (record_all l e) (recorded_answer a) after) where
  pub one_done : {i : ℕ} → a ≡ Ok i → Leaves (record_together l (e ∷ [])) (done []) after
  one_done q =
      let z : number_of (record_all l e) ≡ 0 = ap (λ (x : Answer). x.number) (sym made.answer ∙ ap recorded_answer q) in
      together_done l (e ∷ []) (record_all l e).left (each_accepted l e [] z) made.left

  pub one_refused : {k : Refusal} → a ≡ Err k → Leaves (record_together l (e ∷ [])) (declined k) after
  one_refused {k} q =
      let answer : (record_all l e).answer ≡ declined k = sym made.answer ∙ ap recorded_answer q in
      let n : number_of (record_all l e) ≢ 0 = λ z. declined_positive k (sym (ap (λ (x : Answer). x.number) answer) ∙ z) in
      let kept : after ≡ l = made.left ∙ refused_left l e n in
      rw kept (together_refused l (e ∷ []) k (ap (λ (o : Outcome HeldList). o.answer) (each_refused l e [] n) ∙ answer))

-- ---- a step

pub step_as_lem : (l : HeldList) (s : Step) {es : Entries} → step_entries s ≡ es → step_all l s ≡ step_as l es
unfolding step_all
step_as_lem l s q = rw q

pub step_left : (l : HeldList) (s : Step) → number_of (step_all l s) ≢ 0 → (step_all l s).left ≡ l
unfolding step_all
step_left l s n = go (step_entries s) n where
  go : (es : Entries) → number_of (step_as l es) ≢ 0 → (step_as l es).left ≡ l
  go (Ok (One e)) n = together_left l (e ∷ []) n
  go (Ok (Two e f)) n = together_left l (e ∷ f ∷ []) n
  go (Err k) n = refl

-- the two entries of a step have different opcodes
abbrev Differ : Entries → Type 0
Differ (Ok (One e)) = Unit {0}
Differ (Ok (Two e f)) = e.opcode ≢ f.opcode
Differ (Err k) = Unit {0}

split_differ : (v : ℕ) → Differ (split_step v)
split_differ v = go (ltb v p) where
  go : (t : Bool) → Differ (cond t (Ok (One (entry op_split (v % 4294967296) (v / 4294967296)))) (Err Wide))
  go true = tt
  go false = tt

merkle_differ : (i : ℕ) → Differ (merkle_step i)
merkle_differ i = go (ltb i rhs_limit) where
  go : (t : Bool) → Differ (cond t (Ok (One (entry op_split i (i / 2)))) (Err Wide))
  go true = tt
  go false = tt

div_mod_differ : (n d : ℕ) → Differ (div_mod_step n d)
div_mod_differ n d = go (not (ltb n rhs_limit && ltb d rhs_limit)) (eqb d 0) where
  go : (s t : Bool) → Differ (cond s (Err Wide) (cond t (Err ZeroDivisor) (Ok (Two (entry op_lt (n % d) d) (entry op_split n (n / d))))))
  go true t = tt
  go false true = tt
  go false false = λ k. omega arith

pub two_differ : (s : Step) {e f : U32TableEntry} → step_entries s ≡ Ok (Two e f) → e.opcode ≢ f.opcode
unfolding step_entries
two_differ s q =
    rw q at
    (go (eqb s.opcode op_split) (eqb s.opcode op_log2_floor || eqb s.opcode op_pop_count)
    (eqb s.opcode op_lt || (eqb s.opcode op_and || eqb s.opcode op_pow))
    (eqb s.opcode op_xor) (eqb s.opcode op_div_mod) (eqb s.opcode op_merkle_step || eqb s.opcode op_merkle_step_mem))
  where
    go : (a b c d e f : Bool)
        → Differ
        (cond a (split_step s.first)
        (cond b (Ok (One (entry s.opcode s.first 0)))
        (cond c (Ok (One (entry s.opcode s.first s.second)))
        (cond d (Ok (One (entry op_and s.first s.second)))
        (cond e (div_mod_step s.first s.second)
        (cond f (merkle_step s.first)
        (Err Stranger)))))))
    go true b c d e f = split_differ s.first
    go false true c d e f = tt
    go false false true d e f = tt
    go false false false true e f = tt
    go false false false false true f = div_mod_differ s.first s.second
    go false false false false false true = merkle_differ s.first
    go false false false false false false = tt

-- ---- a walk

module _ (l : HeldList) (trace : List ℕ) where
  pub from_accepted : (i n : ℕ) → number_of (step_all l (step_at trace i)) ≡ 0
      → replay_from l trace i (suc n) ≡ replay_from (step_all l (step_at trace i)).left trace (suc i) n
  unfolding replay_from
  from_accepted i n z = rw (eq-eqb (number_of (step_all l (step_at trace i))) 0 z)

  pub from_refused : (i n : ℕ) → number_of (step_all l (step_at trace i)) ≢ 0
      → replay_from l trace i (suc n) ≡ stopped_at (number_of (step_all l (step_at trace i))) i l
  unfolding replay_from
  from_refused i n z = rw (ne_eqb (number_of (step_all l (step_at trace i))) 0 z)

  pub walk_on : (i n : ℕ) → i < n → number_of (step_all l (step_at trace i)) ≡ 0
      → replay_from l trace i (n - i) ≡ replay_from (step_all l (step_at trace i)).left trace (i + 1) (n - (i + 1))
  walk_on i n h z =
      let d : n - i ≡ suc (n - (i + 1)) = omega arith in
      rw (d, add-one i) (from_accepted i (n - suc i) z)

  pub walk_stops : (i n : ℕ) → i < n → number_of (step_all l (step_at trace i)) ≢ 0
      → replay_from l trace i (n - i) ≡ stopped_at (number_of (step_all l (step_at trace i))) i l
  walk_stops i n h z = let d : n - i ≡ suc (n - (i + 1)) = omega arith in rw d (from_refused i (n - (i + 1)) z)

  pub walk_ends : (i n : ℕ) → n ≤ i → replay_from l trace i (n - i) ≡ stopped_at 0 i l
  unfolding replay_from
  walk_ends i n h = let d : n - i ≡ 0 = omega arith in rw d

  -- ---- a replay

  pub shape_stops : {k : Refusal} → held_shape l ≡ Declined k → replay_all l trace ≡ stopped_at (refusal_number k) 0 l
  unfolding replay_all replay_reason
  shape_stops q = rw q

  pub torn_stops : held_shape l ≡ Fine → length trace % step_width ≢ 0 → replay_all l trace ≡ stopped_at 1 0 l
  unfolding replay_all replay_reason
  torn_stops q n = rw (q, ne_eqb (length trace % step_width) 0 n)

  pub walks : held_shape l ≡ Fine → length trace % step_width ≡ 0 → replay_all l trace ≡ replay_from l trace 0 (length trace / step_width)
  unfolding replay_all replay_reason
  walks q z = rw (q, eq-eqb (length trace % step_width) 0 z)

-- ---- a turn of the loop that walks: l₀ is the list as it was lent, l the list at step i

module _ (l₀ : HeldList) (trace : List ℕ) (n : ℕ) (l : HeldList) (i : ℕ) where
  pub walk_goes_on : {a : Judgement} {after : HeldList} → i < n → replay_from l₀ trace 0 n ≡ replay_from l trace i (n - i)
      → Leaves (step_all l (step_at trace i)) (completed_answer a) after → a ≡ Fine
      → replay_from l₀ trace 0 n ≡ replay_from after trace (i + 1) (n - (i + 1))
  walk_goes_on h reached made q =
      let z : number_of (step_all l (step_at trace i)) ≡ 0 = ap (λ (x : Answer). x.number) (sym made.answer ∙ ap completed_answer q) in
      reached ∙ walk_on l trace i n h z ∙ ap (λ (m : HeldList). replay_from m trace (i + 1) (n - (i + 1))) (sym made.left)

  pub walk_stopped : {a : Judgement} {k : Refusal} {after : HeldList} → i < n → replay_all l₀ trace ≡ replay_from l₀ trace 0 n
      → replay_from l₀ trace 0 n ≡ replay_from l trace i (n - i) → Leaves (step_all l (step_at trace i)) (completed_answer a) after → a ≡ Declined k
      → Leaves (replay_all l₀ trace) (replayed_answer (Err (record { reason = k; done = i }))) after
  walk_stopped {a} {k} h all reached made q =
      let told : number_of (step_all l (step_at trace i)) ≡ refusal_number k = ap (λ (x : Answer). x.number) (sym made.answer ∙ ap completed_answer q) in
      let refused : number_of (step_all l (step_at trace i)) ≢ 0 = λ z. declined_positive k (sym told ∙ z) in
      rw (all ∙ reached ∙ walk_stops l trace i n h refused, told) (record { answer = refl; left = made.left ∙ step_left l (step_at trace i) refused })

  pub walk_ended : (i ≤ n) × (n ≤ i) → replay_all l₀ trace ≡ replay_from l₀ trace 0 n → replay_from l₀ trace 0 n ≡ replay_from l trace i (n - i)
      → Leaves (replay_all l₀ trace) (replayed_answer (Ok n)) l
  walk_ended h all reached =
      let same : i ≡ n = omega arith in
      rw (all ∙ reached ∙ walk_ends l trace i n h.1, same) (record { answer = refl; left = refl })
