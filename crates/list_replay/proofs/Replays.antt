-- What a replay is, for every list and trace. It is refused for the shape, or walks (replay_walks).
--   replay_prefix: a replay that did k steps leaves the list that the first k steps alone make, all of them accepted.
--   replay_records: an accepted replay is its steps' entries recorded one after the other.
--   step_admissible: the entries of split, div_mod and the Merkle steps are admitted, so that after 2, 3 and 13 only 5 and 6 are left for them.
-- Assumes nothing.
use Prim.Native.Nat.{ℕ, zero, suc, ◌+◌, ◌*◌, ◌-◌, ◌/◌, ◌%◌, ◌≤◌, ◌<◌}
use mathlib.Core.Path.{◌≡◌, refl, sym, ap, ◌∙◌}
use mathlib.Core.Bool.{Bool, true, false, not, cond, ◌&&◌}
use mathlib.Core.List.{List, [], ◌∷◌, ◌++◌}
use mathlib.Core.Logic.{◌⊎◌, inl, inr}
use native.Mathlib.Nat.{mod-lt, div-le_self}
use native.Mathlib.Omega.{arith}
use lib.Dec.{eqb, ltb}
use lib.ListN.{length, get_or, take}
use lib.Seq.{get_or-take, length-take-le}
use borrow.Author.Tests.{eqb-true, eqb-false, ltb-true}
use Rattle.field.specs.Elements.{p}
use Rattle.std.specs.Prelude.{Ok, Err}
use Rattle.words.specs.Answers.{done}
use Rattle.words.specs.Outcomes.{Outcome}
use Rattle.words.specs.Refusals.{Judgement, Fine, Declined}
use Rattle.words.specs.declared.Refusal.TheVariants.{Shape, Wide, ZeroDivisor}
use Rattle.words.proofs.Judgements.{or_both, decline_not_fine}
use Rattle.isa.specs.Opcodes.{op_split, op_lt, op_div_mod, op_merkle_step, op_merkle_step_mem, is_opcode}
use Rattle.isa.specs.Entries.{entry, rhs_limit, judge_entry}
use Rattle.isa.proofs.Entries.{admissible_fine}
use Rattle.list.specs.Holds.{HeldList, held_shape}
use Rattle.list_record.specs.Recording.{record_each}
use Rattle.list_record.proofs.RecordEach.{number_of, each_append}
use Rattle.list_replay.specs.declared.Step.{Step}
use Rattle.list_replay.specs.declared.StepEntries.TheVariants.{One, Two}
use Rattle.list_replay.specs.Steps.{step_width, step_at, Entries, split_step, div_mod_step, merkle_step, step_entries, entries_of}
use Rattle.list_replay.specs.Replay.{step_as, step_all, stopped_at, replay_from, replay_reason, replayed_as, replay_all, entries_from, trace_entries}
use Rattle.list_replay.proofs.Walks.{declined_positive, together_each, together_number, from_accepted, from_refused, walks}

-- ---- nothing speaks against the list and the trace

pub record Whole (l : HeldList) (trace : List ℕ) : Type 0 where
  pub list : held_shape l ≡ Fine
  pub steps : length trace % step_width ≡ 0

pub whole : (l : HeldList) (trace : List ℕ) → replay_reason l trace ≡ Fine → Whole l trace
unfolding replay_reason
whole l trace q =
    let a = or_both (held_shape l) _ q in
    record { list = a.0; steps = eqb-true _ _ (decline_not_fine (eqb (length trace % step_width) 0) Shape a.1) }

-- ---- the first k steps

same_steps : (l : HeldList) (s t : List ℕ) (i n : ℕ) → ((j : ℕ) → i ≤ j → j < i + n → step_at s j ≡ step_at t j)
    → replay_from l s i n ≡ replay_from l t i n
unfolding replay_from
same_steps l s t i zero f = refl
same_steps l s t i (suc n) f =
    ap
    (λ (x : Step). cond (eqb (step_all l x).answer.number 0) (replay_from (step_all l x).left s (suc i) n)
    (stopped_at (step_all l x).answer.number i l))
    (f i (omega arith) (omega arith))
    ∙ ap
    (λ (r : Outcome HeldList). cond (eqb (step_all l (step_at t i)).answer.number 0) r
    (stopped_at (step_all l (step_at t i)).answer.number i l))
    (same_steps (step_all l (step_at t i)).left s t (suc i) n (λ j a b. f j (omega arith) (omega arith)))

pub record Prefix (l : HeldList) (trace : List ℕ) (i n k : ℕ) : Type 0 where
  pub from : i ≤ k
  pub within : k ≤ i + n
  pub walk : replay_from l trace i (k - i) ≡ stopped_at 0 k (replay_from l trace i n).left

steps_done_lem : {k i : ℕ} {a : Outcome HeldList} (number : ℕ) (l : HeldList) → a ≡ stopped_at number i l → a.answer.values ≡ k ∷ [] → k ≡ i
steps_done_lem number l q e = let w = sym (ap (λ (o : Outcome HeldList). o.answer.values) q) ∙ e in cc

stopped_here : (l : HeldList) (trace : List ℕ) (i n k number : ℕ) → replay_from l trace i n ≡ stopped_at number i l
    → (replay_from l trace i n).answer.values ≡ k ∷ [] → Prefix l trace i n k
unfolding replay_from
stopped_here l trace i n k number q e =
    let same : k ≡ i = steps_done_lem number l q e in
    record {
      from = omega arith;
      within = omega arith;
      walk = let none : k - i ≡ 0 = omega arith in rw (none, same, q);
    }

walk_prefix : (l : HeldList) (trace : List ℕ) (i n k : ℕ) → (replay_from l trace i n).answer.values ≡ k ∷ [] → Prefix l trace i n k
unfolding replay_from
walk_prefix l trace i zero k e = stopped_here l trace i zero k 0 refl e
walk_prefix l trace i (suc n) k e =
    go (walk_prefix (step_all l (step_at trace i)).left trace (suc i) n k) (eqb (number_of (step_all l (step_at trace i))) 0) refl
  where
    next : HeldList
    next = (step_all l (step_at trace i)).left

    go : ((replay_from (step_all l (step_at trace i)).left trace (suc i) n).answer.values ≡ k ∷ []
        → Prefix (step_all l (step_at trace i)).left trace (suc i) n k)
        → (t : Bool) → eqb (number_of (step_all l (step_at trace i))) 0 ≡ t → Prefix l trace i (suc n) k
    go rest true q =
        let z = eqb-true _ _ q in
        let step = from_accepted l trace i n z in
        let r = rest (sym (ap (λ (o : Outcome HeldList). o.answer.values) step) ∙ e) in
        let d : k - i ≡ suc (k - suc i) = omega (arith, r.from) in
        record {
          from = omega (arith, r.from);
          within = omega (arith, r.within);
          walk =
              ap (replay_from l trace i) d ∙ from_accepted l trace i (k - suc i) z ∙ r.walk
              ∙ ap (λ (o : Outcome HeldList). stopped_at 0 k o.left) (sym step);
        }
    go rest false q = stopped_here l trace i (suc n) k (number_of (step_all l (step_at trace i))) (from_refused l trace i n (eqb-false _ _ q)) e

-- "with the list as the steps before it made it, and returns .. how many were done"
pub replay_prefix : (l : HeldList) (trace : List ℕ) (k : ℕ) → replay_reason l trace ≡ Fine → (replay_all l trace).answer.values ≡ k ∷ []
    → replay_all l (take (step_width * k) trace) ≡ stopped_at 0 k (replay_all l trace).left
unfolding step_at
replay_prefix l trace k fine e =
    let w = whole l trace fine in
    let all = walks l trace w.list w.steps in
    let steps = length trace / step_width in
    let pre = walk_prefix l trace 0 steps k (sym (ap (λ (o : Outcome HeldList). o.answer.values) all) ∙ e) in
    let long : step_width * k ≤ length trace = omega (arith, pre.within) in
    let cut : length (take (step_width * k) trace) ≡ step_width * k = length-take-le (step_width * k) trace long in
    let count : length (take (step_width * k) trace) / step_width ≡ k = omega arith in
    let none : k - 0 ≡ k = omega arith in
    walks l (take (step_width * k) trace) w.list (omega arith)
    ∙ ap (replay_from l (take (step_width * k) trace) 0) count
    ∙ same_steps l (take (step_width * k) trace) trace 0 k (λ j a b. kept j (omega arith))
    ∙ ap (replay_from l trace 0) (sym none)
    ∙ pre.walk ∙ ap (λ (o : Outcome HeldList). stopped_at 0 k o.left) (sym all)
  where
    word : (i : ℕ) → i < step_width * k → get_or (take (step_width * k) trace) i 0 ≡ get_or trace i 0
    word i h = get_or-take (step_width * k) trace i 0 h

    kept : (j : ℕ) → j < k → step_at (take (step_width * k) trace) j ≡ step_at trace j
    kept j h = rw (word (step_width * j) (omega arith), word (step_width * j + 1) (omega arith), word (step_width * j + 2) (omega arith))

-- ---- an accepted replay

pub step_records : (l : HeldList) (s : Step) → number_of (step_all l s) ≡ 0 → record_each l (entries_of (step_entries s)) ≡ step_all l s
unfolding step_all
step_records l s z = go (step_entries s) z where
  go : (es : Entries) → number_of (step_as l es) ≡ 0 → record_each l (entries_of es) ≡ step_as l es
  go (Ok (One e)) z = sym (together_each l (e ∷ []) (sym (together_number l (e ∷ [])) ∙ z))
  go (Ok (Two e f)) z = sym (together_each l (e ∷ f ∷ []) (sym (together_number l (e ∷ f ∷ [])) ∙ z))
  go (Err k) z = absurd (declined_positive k z)

walk_records : (l : HeldList) (trace : List ℕ) (i n : ℕ) → number_of (replay_from l trace i n) ≡ 0
    → record_each l (entries_from trace i n) ≡ record { answer = done []; left = (replay_from l trace i n).left }
unfolding entries_from record_each replay_from
walk_records l trace i zero z = refl
walk_records l trace i (suc n) z =
    go (walk_records (step_all l (step_at trace i)).left trace (suc i) n) (eqb (number_of (step_all l (step_at trace i))) 0) refl
  where
    go : (number_of (replay_from (step_all l (step_at trace i)).left trace (suc i) n) ≡ 0
        → record_each (step_all l (step_at trace i)).left (entries_from trace (suc i) n)
        ≡ record { answer = done []; left = (replay_from (step_all l (step_at trace i)).left trace (suc i) n).left })
        → (t : Bool) → eqb (number_of (step_all l (step_at trace i))) 0 ≡ t
        → record_each l (entries_of (step_entries (step_at trace i)) ++ entries_from trace (suc i) n)
        ≡ record { answer = done []; left = (replay_from l trace i (suc n)).left }
    go rest true q =
        let a = eqb-true _ _ q in
        let step = step_records l (step_at trace i) a in
        let on = from_accepted l trace i n a in
        each_append l (entries_of (step_entries (step_at trace i))) (entries_from trace (suc i) n) (ap number_of step ∙ a)
        ∙ ap (λ (o : Outcome HeldList). record_each o.left (entries_from trace (suc i) n)) step
        ∙ rest (sym (ap number_of on) ∙ z)
        ∙ ap (λ (o : Outcome HeldList). record { answer = done []; left = o.left }) (sym on)
    go rest false q = let n0 = eqb-false _ _ q in absurd (n0 (sym (ap number_of (from_refused l trace i n n0)) ∙ z))

pub replay_walks : (l : HeldList) (trace : List ℕ) → number_of (replay_all l trace) ≡ 0
    → replay_all l trace ≡ replay_from l trace 0 (length trace / step_width)
unfolding replay_all
replay_walks l trace z = go (replay_reason l trace) z where
  go : (j : Judgement) → number_of (replayed_as j l trace) ≡ 0 → replayed_as j l trace ≡ replay_from l trace 0 (length trace / step_width)
  go Fine z = refl
  go (Declined k) z = absurd (declined_positive k z)

pub replay_records : (l : HeldList) (trace : List ℕ) → number_of (replay_all l trace) ≡ 0
    → record_each l (trace_entries trace) ≡ record { answer = done []; left = (replay_all l trace).left }
replay_records l trace z =
    let all = replay_walks l trace z in
    walk_records l trace 0 (length trace / step_width) (sym (ap number_of all) ∙ z)
    ∙ ap (λ (o : Outcome HeldList). record { answer = done []; left = o.left }) (sym all)

-- ---- what split, div_mod and the Merkle steps record is admitted

abbrev pub AllAdmitted : Entries → Type 0
AllAdmitted (Ok (One e)) = judge_entry e ≡ Fine
AllAdmitted (Ok (Two e f)) = (judge_entry e ≡ Fine) × (judge_entry f ≡ Fine)
AllAdmitted (Err reason) = Unit {0}

split_fine : (a b : ℕ) → a < rhs_limit → b < rhs_limit → judge_entry (entry op_split a b) ≡ Fine
unfolding is_opcode
split_fine a b h k = admissible_fine (entry op_split a b) (record { known = refl; left = h; right = k; log = λ q. absurd (omega arith) })

lt_fine : (a b : ℕ) → a < rhs_limit → b < rhs_limit → judge_entry (entry op_lt a b) ≡ Fine
unfolding is_opcode
lt_fine a b h k = admissible_fine (entry op_lt a b) (record { known = refl; left = h; right = k; log = λ q. absurd (omega arith) })

split_admitted : (v : ℕ) → AllAdmitted (split_step v)
split_admitted v = go (ltb v p) refl where
  go : (t : Bool) → ltb v p ≡ t → AllAdmitted (cond t (Ok (One (entry op_split (v % 4294967296) (v / 4294967296)))) (Err Wide))
  go true q = let h = ltb-true v p q in split_fine (v % 4294967296) (v / 4294967296) (omega arith) (omega arith)
  go false q = tt

merkle_admitted : (i : ℕ) → AllAdmitted (merkle_step i)
merkle_admitted i = go (ltb i rhs_limit) refl where
  go : (t : Bool) → ltb i rhs_limit ≡ t → AllAdmitted (cond t (Ok (One (entry op_split i (i / 2)))) (Err Wide))
  go true q = let h = ltb-true i rhs_limit q in split_fine i (i / 2) h (omega arith)
  go false q = tt

div_mod_admitted : (n d : ℕ) → AllAdmitted (div_mod_step n d)
div_mod_admitted n d = go (ltb n rhs_limit) refl (ltb d rhs_limit) refl (eqb d 0) refl where
  go : (s : Bool) → ltb n rhs_limit ≡ s → (t : Bool) → ltb d rhs_limit ≡ t → (z : Bool) → eqb d 0 ≡ z
      → AllAdmitted (cond (not (s && t)) (Err Wide) (cond z (Err ZeroDivisor) (Ok (Two (entry op_lt (n % d) d) (entry op_split n (n / d))))))
  go true q true r true z = tt
  go true q true r false z =
      let a = ltb-true n rhs_limit q in
      let b = ltb-true d rhs_limit r in
      let c = eqb-false d 0 z in (
        lt_fine (n % d) d (omega (arith, mod-lt n {m = d} (omega arith))) b,
        split_fine n (n / d) a (omega (arith, div-le_self n d)),
      )
  go true q false r z zz = tt
  go false q t r z zz = tt

pub step_admissible : (s : Step)
    → (s.opcode ≡ op_split) ⊎ ((s.opcode ≡ op_div_mod) ⊎ ((s.opcode ≡ op_merkle_step) ⊎ (s.opcode ≡ op_merkle_step_mem)))
    → AllAdmitted (step_entries s)
unfolding step_entries
step_admissible s (inl k) = rw k (split_admitted s.first)
step_admissible s (inr (inl k)) = rw k (div_mod_admitted s.first s.second)
step_admissible s (inr (inr (inl k))) = rw k (merkle_admitted s.first)
step_admissible s (inr (inr (inr k))) = rw k (merkle_admitted s.first)
