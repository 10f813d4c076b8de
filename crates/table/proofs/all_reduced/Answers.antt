-- `table::all_reduced` meets its contract: where `all` says yes, the words of each ten are below p, and with them those before them, so that those which are
-- left decide; where it says no, a ten has a word that is not below p. Assumes nothing.
use Rattle.std.proofs.Common.{◌≡◌, ℕ, ◌+◌, ◌*◌, ◌-◌, ◌/◌, ◌%◌, ◌<◌, ◌≤◌, Bool, true, false, true≢false, List, [], length, get_or, Option, Some, None, MatchBool, IsSomeAnd, IfSome, Bor, sym, ap, ◌∙◌, refl, subst, arith, rules, tests}
use native.Mathlib.Decide.{dec_lt}
use Rattle.std.specs.Prelude.{drop}
use Rattle.std.specs.Option.{option_map}
use Rattle.std.specs.Iterator.Runs.{Run, AllItems, AnyItem, IsChunksExactRun}
use Rattle.std.specs.List.{IsSubsliceAt}
use Rattle.std.proofs.lemmas.Option.{none-some}
use Rattle.std.proofs.lemmas.List.{get_or-drop, length-drop}
use Rattle.field.specs.Elements.{p}
use Rattle.table.specs.Columns.{all_reduced}
use Rattle.table.specs.Tens.{TenBelow}
use Rattle.table.proofs.Rows.{reduced_word, all_reduced_lem}
use Rattle.table.proofs.Tens.{ten_below, tens_below, reduced_take, reduced_drop}
use Rattle.table.proofs.all_reduced.Goals as goal

present : {X : Type 0} (o : Option X) (P : X → Type 0) {y : X} → option_map (λ x. x) o ≡ Some y → IfSome o P → IsSomeAnd o P
present None P e h = absurd (none-some _ e)
present (Some x) P e h = h

-- the answer is no where a part of the words has the answer no
part_decides : (words part : List ℕ) → (all_reduced words ≡ true → all_reduced part ≡ true) → all_reduced part ≡ false → false ≡ all_reduced words
part_decides words part whole refused = go (all_reduced words) refl
  where
    go : (t : Bool) → all_reduced words ≡ t → false ≡ t
    go true h = absurd (true≢false (sym (whole h) ∙ refused))
    go false h = refl

module _ {S : Type 0} {steps : S → Option (Bor (List ℕ)) → S → Type 0} (u : Run steps) (words : List ℕ) (runs : IsChunksExactRun u 10 words)
    (Keeps : Type 0) (Yes No : Bor (List ℕ) → Type 0) (keeps : Keeps)
    (yes_means : (x : Bor (List ℕ)) → Yes x → all_reduced x.now ≡ true) (no_means : (x : Bor (List ℕ)) → No x → all_reduced x.now ≡ false) where
  abbrev Ten : ℕ → Option (Bor (List ℕ)) → Type 0
  Ten k o = IfSome o (λ x. (length x.now ≡ 10) × (k * 10 + 10 ≤ length words) × IsSubsliceAt 10 words (k * 10) x.now)

  abbrev Told : Bool → Type 0
  Told r = MatchBool r ((u.whole ≡ true) × (Keeps → AllItems u Yes)) (Keeps → AnyItem u No)

  below_at : (k : ℕ) (o : Option (Bor (List ℕ))) → Ten k o → IsSomeAnd o Yes → TenBelow words (10 * k)
  below_at k None c m = absurd m
  below_at k (Some x) c m =
      let place : k * 10 ≡ 10 * k = omega arith in
      subst (TenBelow words) place (ten_below words (k * 10) c.1 (ap all_reduced (sym c.2.0) ∙ yes_means x m))

  above_at : (k : ℕ) (o : Option (Bor (List ℕ))) → Ten k o → IsSomeAnd o No → false ≡ all_reduced words
  above_at k None c m = absurd m
  above_at k (Some x) c m =
      part_decides words x.now (λ h. ap all_reduced c.2.0 ∙ reduced_take (drop (k * 10) words) 10 (reduced_drop words (k * 10) h)) (no_means x m)

  all_tens : (r : Bool) → Told r → r ≡ true → (k : ℕ) → k < 10 * (length words / 10) → get_or words k 0 < p
  all_tens true t e k l =
      let all = runs.1 t.0 in
      tens_below words u.len
      (λ i h. below_at i (u.at i) (runs.2 i) (present (u.at i) Yes (u.reads i (record { ref_ptr = (0, 0); now = [] }) h) (t.1 keeps i)))
      k (omega (arith, all))
  all_tens false t e k l = absurd (true≢false (sym e))

  some_ten : (r : Bool) → Told r → r ≡ false → r ≡ all_reduced words
  some_ten true t e = absurd (true≢false e)
  some_ten false t e = let some = t keeps in above_at some.0 (u.at some.0) (runs.2 some.0) some.2

-- what is left decides, where the tens before it are below p
rest_decides : (words : List ℕ) (t : Bool) → t ≡ all_reduced (drop (length words - length words % 10) words)
    → ((k : ℕ) → k < 10 * (length words / 10) → get_or words k 0 < p) → t ≡ all_reduced words
rest_decides words false e before =
    part_decides words (drop (length words - length words % 10) words) (reduced_drop words (length words - length words % 10)) (sym e)
rest_decides words true e before = sym (all_reduced_lem words (λ i l. go i l (dec_lt i (10 * (length words / 10)))))
  where
    at : ℕ
    at = length words - length words % 10

    go : (i : ℕ) → i < length words → Dec (i < 10 * (length words / 10)) → get_or words i 0 < p
    go i l (yes b) = before i b
    go i l (no b) =
        subst (λ (w : ℕ). w < p) (get_or-drop at words (i - at) 0 ∙ ap (λ (k : ℕ). get_or words k 0) (omega arith))
        (reduced_word (drop at words) (sym e) (i - at) (omega (arith, length-drop at words)))

pub returns-then-all : goal.returns-then-all
returns-then-all c =
    let chunks = c.chunks_exact-tens.ensures in
    let run = c.all.ensures.runs in
    let u = run.0 in
    let runs = rw (run.1, chunks.size, chunks.rest) at (chunks.runs u u.seen) in
    rest_decides c.args.words.now _ (c.are_ten_reduced.ensures ∙ ap all_reduced (c.remainder-rest.ensures ∙ chunks.remainder))
    (all_tens u c.args.words.now (runs (omega arith)) _ _ _ (λ x r q k. search rules) (λ x k. search (rules, tests)) (λ x k. search (rules, tests)) c.all.result run.2 c.if-all.true)

pub returns-else-all : goal.returns-else-all
returns-else-all c =
    let chunks = c.chunks_exact-tens.ensures in
    let run = c.all.ensures.runs in
    let u = run.0 in
    let runs = rw (run.1, chunks.size, chunks.rest) at (chunks.runs u u.seen) in
    some_ten u c.args.words.now (runs (omega arith)) _ _ _ (λ x r q k. search rules) (λ x k. search (rules, tests)) (λ x k. search (rules, tests)) c.all.result run.2 c.if-all.false
