-- `list::find` meets its contract: of the eights that are passed `position` tells that each differs from the key, and of the places from there on `find`
-- tells which is the first that holds it. Assumes nothing.
use Rattle.std.proofs.Common.{◌≡◌, ℕ, ◌+◌, ◌*◌, ◌-◌, ◌/◌, ◌≤◌, ◌<◌, true, false, List, [], length, Option, Some, None, MatchOption, IsSomeAnd, IfSome, Bor, sym, subst, ◌∙◌, arith, rules, tests}
use Rattle.std.specs.Option.{unwrap_or}
use Rattle.std.specs.Iterator.Runs.{Run, AllItems, AllItemsBelow, IsChunksExactRun}
use Rattle.std.specs.List.{IsSubsliceAt}
use Rattle.std.proofs.lemmas.Iterator.{first_from_Range}
use Rattle.isa.specs.declared.U32TableEntry.{U32TableEntry}
use Rattle.isa.specs.Entries.{lhs, entry_width}
use Rattle.list.specs.Lists.{U32List, u32_list, entry_at}
use Rattle.list.specs.Keys.{same_key, find_from}
use Rattle.list.specs.Eights.{EightDiffer, other_word}
use Rattle.list.proofs.Finding.{present, Apart, eight_at, find_eights, find_at}
use Rattle.list.proofs.find.Goals as goal

-- how many eights are passed, and that each of them differs from the key
module _ {S : Type 0} {steps : S → Option (Bor (List ℕ)) → S → Type 0} (u : Run steps) (keys : List ℕ) (key : U32TableEntry) (other : ℕ) (is : other ≡ other_word key)
    (runs : IsChunksExactRun u 24 keys) (Keeps : Type 0) (Hit Missed : Bor (List ℕ) → Type 0) (keeps : Keeps)
    (missed : (x : Bor (List ℕ)) → Missed x → (EightDiffer x.now 0 (lhs key)) × (EightDiffer x.now 0 other)) where
  missed_at : (k : ℕ) (o : Option (Bor (List ℕ))) → IfSome o (λ x. (length x.now ≡ 24) × (k * 24 + 24 ≤ length keys) × IsSubsliceAt 24 keys (k * 24) x.now)
      → IsSomeAnd o Missed → Apart keys key k
  missed_at k None c m = absurd m
  missed_at k (Some x) c m =
      let d = missed x m in
      (eight_at keys k (lhs key) c.2 d.0, eight_at keys k (other_word key) c.2 (subst (EightDiffer x.now 0) is d.1))

  passed : (r : Option ℕ) {m : ℕ} → m ≡ unwrap_or r (length keys / entry_width / 8)
      → MatchOption r ((u.whole ≡ true) × (Keeps → AllItems u Missed)) (λ i. (u.len ≡ i + 1) × (Keeps → IsSomeAnd (u.at i) Hit × AllItemsBelow u i Missed))
      → (8 * m ≤ length keys / entry_width) × ((k : ℕ) → k < m → Apart keys key k)
  passed None e told =
      let all = runs.1 told.0 in
      rw e
      (omega arith, λ k h. missed_at k (u.at k) (runs.2 k) (present (u.at k) Missed (u.reads k (record { ref_ptr = (0, 0); now = [] }) (omega (arith, all))) (told.1 keeps k)))
  passed (Some i) e told = rw e (omega (arith, runs.0, told.0), λ k h. missed_at k (u.at k) (runs.2 k) ((told.1 keeps).1 k h))

-- what the search from place i on tells of the search from place 0 on
found : (l : U32List) (e : U32TableEntry) (n i : ℕ) (r : Option ℕ) → i ≤ n → find_from l e 0 n ≡ find_from l e i (n - i)
    → MatchOption r ((k : ℕ) → i ≤ k → k < n → same_key (entry_at l k) e ≡ false)
    (λ at. (i ≤ at) × (at < n) × (same_key (entry_at l at) e ≡ true) × ((k : ℕ) → i ≤ k → k < at → same_key (entry_at l k) e ≡ false))
    → unwrap_or r n ≡ find_from l e 0 n
found l e n i None h q none = sym (q ∙ find_at l e i n n h (omega arith) none (λ b. absurd (omega arith)))
found l e n i (Some at) h q told = sym (q ∙ find_at l e i at n told.0 (omega (arith, told.1)) told.3 (λ b. told.2))

pub returns-clause-first : goal.returns-clause-first
returns-clause-first c = λ s ms.
    let keys = c.args.keys.now in
    let key = c.args.key in
    let l = u32_list s keys ms in
    let chunks = c.chunks_exact.ensures in
    let run = c.position.ensures.runs in
    let u = run.0 in
    let runs = rw (run.1, chunks.size, chunks.rest) at (chunks.runs u u.seen) in
    let past = passed u keys key c.other_word-other.result c.other_word-other.ensures (runs (omega arith)) _ _ _ (λ x r q k. search rules) (λ x k. search (rules, tests)) c.position.result c.unwrap_or-passed.ensures run.2 in
    let asked = first_from_Range _ _ _ _ (λ place. same_key (entry_at l place) key ≡ true) (λ place. same_key (entry_at l place) key ≡ false) c.find.ensures.ran (λ x q k. search (rules, tests)) (λ x q k. search (rules, tests)) in
    found l key (length keys / entry_width) (8 * c.unwrap_or-passed.result) c.find.result (omega (arith, past.0))
    (find_eights l key (λ j. (c.type_inv.keys j).fits) c.unwrap_or-passed.result (length keys / entry_width) (omega (arith, past.0)) past.1)
    asked
