-- `lookup::find_value` meets its contract: of the runs that are passed `position` tells that none holds the value, and of the places from there on `find`
-- tells which is the first that does. Assumes nothing.
use Rattle.std.proofs.Common.{◌≡◌, ◌≢◌, ℕ, ◌+◌, ◌*◌, ◌/◌, ◌-◌, ◌≤◌, ◌<◌, true, false, List, [], length, get_or, Option, Some, None, MatchOption, IsSomeAnd, IfSome, sym, ap, ◌∙◌, arith, rules, tests, Bor}
use Rattle.std.specs.Option.{unwrap_or, option_map}
use Rattle.std.specs.Iterator.Runs.{Run, AllItems, AllItemsBelow, IsChunksExactRun}
use Rattle.std.specs.List.{IsSubsliceAt}
use Rattle.std.proofs.lemmas.Option.{none-some}
use Rattle.std.proofs.lemmas.Iterator.{first_from_Range}
use Rattle.lookup.specs.Cascades.{find_from}
use Rattle.lookup.specs.Recordings.{occurs}
use Rattle.lookup.proofs.Finding.{run_of, find_runs, find_at}
use Rattle.lookup.proofs.find_value.Goals as goal

present : {X : Type 0} (o : Option X) (P : X → Type 0) {y : X} → option_map (λ x. x) o ≡ Some y → IfSome o P → IsSomeAnd o P
present None P e h = absurd (none-some _ e)
present (Some x) P e h = h

-- how many runs are passed, and that none of them holds the value
module _ {S : Type 0} {steps : S → Option (Bor (List ℕ)) → S → Type 0} (u : Run steps) (xs : List ℕ) (v : ℕ) (runs : IsChunksExactRun u 256 xs)
    (Keeps : Type 0) (Hit Missed : Bor (List ℕ) → Type 0) (keeps : Keeps) (missed : (x : Bor (List ℕ)) → Missed x → occurs v x.now ≡ false) where
  missed_at : (k : ℕ) (o : Option (Bor (List ℕ))) → IfSome o (λ x. (length x.now ≡ 256) × (k * 256 + 256 ≤ length xs) × IsSubsliceAt 256 xs (k * 256) x.now)
      → IsSomeAnd o Missed → occurs v (run_of xs k) ≡ false
  missed_at k None c m = absurd m
  missed_at k (Some x) c m = ap (occurs v) (sym c.2.0) ∙ missed x m

  passed : (r : Option ℕ) {m : ℕ} → m ≡ unwrap_or r (length xs / 256)
      → MatchOption r ((u.whole ≡ true) × (Keeps → AllItems u Missed)) (λ i. (u.len ≡ i + 1) × (Keeps → IsSomeAnd (u.at i) Hit × AllItemsBelow u i Missed))
      → (256 * m ≤ length xs) × ((k : ℕ) → k < m → occurs v (run_of xs k) ≡ false)
  passed None e told =
      let all = runs.1 told.0 in
      rw e
      (omega arith, λ k h. missed_at k (u.at k) (runs.2 k) (present (u.at k) Missed (u.reads k (record { ref_ptr = (0, 0); now = [] }) (omega (arith, all))) (told.1 keeps k)))
  passed (Some i) e told = rw e (omega (arith, runs.0, told.0), λ k h. missed_at k (u.at k) (runs.2 k) ((told.1 keeps).1 k h))

-- what the search from place i on tells of the search from place 0 on
found : (keys : List ℕ) (v i : ℕ) (r : Option ℕ) → i ≤ length keys → find_from keys v 0 (length keys) ≡ find_from keys v i (length keys - i)
    → MatchOption r ((k : ℕ) → i ≤ k → k < length keys → get_or keys k 0 ≢ v)
    (λ at. (i ≤ at) × (at < length keys) × (get_or keys at 0 ≡ v) × ((k : ℕ) → i ≤ k → k < at → get_or keys k 0 ≢ v))
    → MatchOption r (find_from keys v 0 (length keys) ≡ length keys) (λ at. (at < length keys) × (at ≡ find_from keys v 0 (length keys)))
found keys v i None h q none = q ∙ find_at keys v i (length keys) (length keys) h (omega arith) none (λ b. absurd (omega arith))
found keys v i (Some at) h q told = (told.1, sym (q ∙ find_at keys v i at (length keys) told.0 (omega (arith, told.1)) told.3 (λ b. told.2)))

pub returns : goal.returns
returns c =
    let keys = c.args.keys.now in
    let v = c.args.value in
    let chunks = c.chunks_exact.ensures in
    let run = c.position.ensures.runs in
    let u = run.0 in
    let runs = rw (run.1, chunks.size, chunks.rest) at (chunks.runs u u.seen) in
    let past = passed u keys v (runs (omega arith)) _ _ _ (λ x r q k. search rules) (λ x k. search (rules, tests)) c.position.result c.unwrap_or-passed.ensures run.2 in
    let asked = first_from_Range _ _ _ _ (λ place. get_or keys place 0 ≡ v) (λ place. get_or keys place 0 ≢ v) c.find.ensures.ran (λ x q k. search (rules, tests)) (λ x q k. search (rules, tests)) in
    found keys v (256 * c.unwrap_or-passed.result) _ (omega (arith, past.0))
    (find_runs keys v c.unwrap_or-passed.result (omega (arith, past.0)) past.1) asked
