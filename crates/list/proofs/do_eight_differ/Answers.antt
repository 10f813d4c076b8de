-- `list::do_eight_differ` meets its contract: `all` tells of each of the eight keys that its word is another. Assumes nothing.
use Rattle.std.proofs.Common.{◌≡◌, ◌≢◌, ℕ, ◌+◌, ◌*◌, ◌≤◌, Bool, true, false, List, [], length, get_or, Option, Some, None, MatchBool, IsSomeAnd, IfSome, Bor, ap, ◌∙◌, subst, arith, rules, tests}
use Rattle.std.specs.Iterator.Runs.{Run, AllItems, IsChunksExactRun}
use Rattle.std.specs.List.{IsSubsliceAt}
use Rattle.std.proofs.lemmas.Bool.{false≢true}
use Rattle.isa.specs.Entries.{entry_width}
use Rattle.list.specs.Eights.{EightDiffer}
use Rattle.list.proofs.Finding.{present}
use Rattle.list.proofs.do_eight_differ.Goals as goal

module _ {S : Type 0} {steps : S → Option (Bor (List ℕ)) → S → Type 0} (u : Run steps) (eight : List ℕ) (lhs : ℕ) (runs : IsChunksExactRun u entry_width eight)
    (Keeps : Type 0) (Yes : Bor (List ℕ) → Type 0) (keeps : Keeps) (yes : (x : Bor (List ℕ)) → Yes x → get_or x.now 1 0 ≢ lhs) where
  differs_at : (k : ℕ) (o : Option (Bor (List ℕ)))
      → IfSome o (λ x. (length x.now ≡ entry_width) × (k * entry_width + entry_width ≤ length eight) × IsSubsliceAt entry_width eight (k * entry_width) x.now)
      → IsSomeAnd o Yes → get_or eight (entry_width * (0 + k) + 1) 0 ≢ lhs
  differs_at k None c m = absurd m
  differs_at k (Some x) c m =
      let place : k * entry_width + 1 ≡ entry_width * (0 + k) + 1 = omega arith in
      subst (λ (w : ℕ). w ≢ lhs) (c.2.2 1 0 (omega arith) ∙ ap (λ (i : ℕ). get_or eight i 0) place) (yes x m)

  all_differ : (No : Type 0) (r : Bool) → length eight ≡ entry_width * 8 → MatchBool r ((u.whole ≡ true) × (Keeps → AllItems u Yes)) No → r ≡ true → EightDiffer eight 0 lhs
  unfolding EightDiffer
  all_differ No true long told e =
      let all = runs.1 told.0 in
      λ k b. differs_at k (u.at k) (runs.2 k) (present (u.at k) Yes (u.reads k (record { ref_ptr = (0, 0); now = [] }) (omega (arith, all, long))) (told.1 keeps k))
  all_differ No false long told e = absurd (false≢true e)

pub returns : goal.returns
returns c =
    let eight = c.args.eight.now in
    let chunks = c.chunks_exact.ensures in
    let run = c.all.ensures.runs in
    let u = run.0 in
    let runs = rw (run.1, chunks.size, chunks.rest) at (chunks.runs u u.seen) in
    all_differ u eight c.args.left_operand (runs (omega arith)) _ _ (λ x r q k. search rules) (λ x k. search (rules, tests)) _ c.all.result c.requires run.2
