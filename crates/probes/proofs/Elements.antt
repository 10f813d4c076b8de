-- Extension elements one after the other, three words each: a loop that stores one after another leaves all of them (`elements_turn`), runs
-- that follow one another are one run (`then`), and the forty values fill their array (`all_stored`); and the tests of lengths. Assumes nothing.
use Prim.Native.Nat.{ℕ, ◌+◌, ◌*◌, ◌%◌, ◌≤◌, ◌<◌}
use mathlib.Core.Path.{◌≡◌, refl, sym, ap, ◌∙◌}
use mathlib.Core.Bool.{true, false}
use mathlib.Core.List.{List, [], ◌∷◌, ◌++◌, map, append_assoc, append-nil}
use native.Mathlib.Omega.{arith}
use native.Mathlib.Numerals.{add-one}
use lib.ListN.{length, get_or, take, length-map, length-append, drop_of_length-le, get_or-map}
use lib.Seq.{sets, take-suc, length-take-le}
use borrow.Author.Count.{below_more}
use borrow.Author.Tests.{eq-eqb, ne_eqb}
use Rattle.words.proofs.Sets.{sets_then, sets_front, get_d_sets_below, get_d_sets_in}
use Rattle.xfield.specs.Extension.{Ext, words_x, InverseOrZeroX}
use Rattle.xfield.specs.XFieldElements.{ext_of}
use Rattle.xfield.specs.declared.XFieldElement.{XFieldElement}
use Rattle.table.specs.Columns.{Row, row_at, element_at, aux_at}
use Rattle.table.specs.Challenges.{Challenges, challenges_of}
use Rattle.air.specs.Constraints.{initial_constraints, consistency_constraints, transition_constraints, terminal_constraints}
use Rattle.air.proofs.Lists.{initial_length, consistency_length, transition_length}
use Rattle.probes.specs.Probes.{words_of, constraints_of, constraint_words, ext_inverses_fit}

-- ---- words of elements
words_append : (xs ys : List Ext) → words_of (xs ++ ys) ≡ words_of xs ++ words_of ys
unfolding words_of
words_append [] ys = refl
words_append (x ∷ xs) ys = ap (λ (ws : List ℕ). x.a ∷ x.b ∷ x.c ∷ ws) (words_append xs ys)

words_length : (xs : List Ext) → length (words_of xs) ≡ 3 * length xs
unfolding words_of
words_length [] = refl
words_length (x ∷ xs) = let e = words_length xs in omega arith

-- a run of elements after another
pub then : (before between after : List ℕ) (xs ys : List Ext) (j k : ℕ) → between ≡ sets before j (words_of xs) → after ≡ sets between k (words_of ys)
    → k ≡ j + 3 * length xs → after ≡ sets before j (words_of (xs ++ ys))
then before between after xs ys j k e f at =
    f ∙ sym (rw (words_append xs ys) (sets_then (words_of xs) (words_of ys) before between j k e (omega (arith, words_length xs, at))))

-- ---- a loop over elements
pub elements_turn : (before values after : List ℕ) (xs : List XFieldElement) (from i : ℕ) (d : XFieldElement) → i < length xs
    → values ≡ sets before (3 * from) (words_of (take i (map ext_of xs)))
    → after ≡ sets values (3 * (from + i)) (words_x (ext_of (get_or xs i d))) → after ≡ sets before (3 * from) (words_of (take (i + 1) (map ext_of xs)))
unfolding words_of
elements_turn before values after xs from i d h e f =
    let vs = map ext_of xs in
    let inside : i < length vs = omega (arith, length-map xs ext_of) in
    rw (add-one, take-suc vs i (ext_of d) inside, get_or-map ext_of xs i d)
    (then before values after (take i vs) (ext_of (get_or xs i d) ∷ []) (3 * from) (3 * (from + i)) e f
    (omega (arith, length-take-le i vs (omega (arith, inside)))))

-- ---- the forty
-- a run as long as the array is the array
whole : (ws l : List ℕ) → length ws ≡ length l → sets l 0 ws ≡ ws
whole ws l e =
    sets_front ws l (omega (arith, e)) ∙ ap (λ (rest : List ℕ). ws ++ rest) (drop_of_length-le l {i = length ws} (omega (arith, e))) ∙ append-nil ws

module _ (c : Challenges) (upper lower : Row) (sum next : Ext) where
  forty : length (constraints_of c upper lower sum next) ≡ 40
  unfolding constraints_of initial_constraints consistency_constraints transition_constraints terminal_constraints
  forty = refl

  pub all_stored : (v₀ v₁ v₂ v₃ v₄ : List ℕ) (is cs ts es : List Ext) → length v₀ ≡ 120
      → is ≡ initial_constraints c upper sum → cs ≡ consistency_constraints upper
      → ts ≡ transition_constraints c upper lower sum next → es ≡ terminal_constraints upper
      → v₁ ≡ sets v₀ 0 (words_of is) → v₂ ≡ sets v₁ 3 (words_of cs) → v₃ ≡ sets v₂ 48 (words_of ts) → v₄ ≡ sets v₃ 114 (words_of es)
      → v₄ ≡ words_of (constraints_of c upper lower sum next)
  unfolding constraints_of
  all_stored v₀ v₁ v₂ v₃ v₄ is cs ts es n a b d e e₁ e₂ e₃ e₄ =
      let i₁ : length is ≡ 1 = ap length a ∙ initial_length c upper sum in
      let c₁₅ : length cs ≡ 15 = ap length b ∙ consistency_length upper in
      let t₂₂ : length ts ≡ 22 = ap length d ∙ transition_length c upper lower sum next in
      let r₃ = then v₁ v₂ v₃ cs ts 3 48 e₂ e₃ (omega arith) in
      let r₄ = then v₁ v₃ v₄ (cs ++ ts) es 3 114 r₃ e₄ (omega (arith, length-append cs ts)) in
      let all = then v₀ v₁ v₄ is ((cs ++ ts) ++ es) 0 3 e₁ r₄ (omega arith) in
      all
      ∙ ap (λ (vs : List Ext). sets v₀ 0 (words_of vs)) (rw (append_assoc cs ts es, a, b, d, e) refl)
      ∙ whole _ v₀ (words_length (constraints_of c upper lower sum next) ∙ omega (arith, forty, n))

-- of the rows, sums and challenges that the words hold
pub words_held : (rows aux challenges after : List ℕ) {c : Challenges} {upper lower : Row} {sum next : Ext} → c ≡ challenges_of challenges
    → upper ≡ row_at rows 0 → lower ≡ row_at rows 1 → sum ≡ aux_at aux 0 → next ≡ aux_at aux 1 → after ≡ words_of (constraints_of c upper lower sum next)
    → after ≡ constraint_words rows aux challenges
unfolding constraint_words
words_held rows aux challenges after a b d e f g = g ∙ rw (a, b, d, e, f) refl

-- ---- inverses of elements
element_stored : (out : List ℕ) (i : ℕ) (x : Ext) → 3 * i + 3 ≤ length out → element_at (sets out (3 * i) (words_x x)) i ≡ x
unfolding element_at
element_stored out i x h =
    let ws : List ℕ = x.a ∷ x.b ∷ x.c ∷ [] in
    let at : 3 * i ≡ 3 * i + 0 = omega arith in
    let first : get_or (sets out (3 * i) ws) (3 * i) 0 ≡ x.a =
    ap (λ (k : ℕ). get_or (sets out (3 * i) ws) k 0) at ∙ get_d_sets_in ws out (3 * i) 0 0 (omega arith) (omega (arith, h)) in
    let second = get_d_sets_in ws out (3 * i) 1 0 (omega arith) (omega (arith, h)) in
    let third = get_d_sets_in ws out (3 * i) 2 0 (omega arith) (omega (arith, h)) in
    rw (first, second, third)

element_kept : (out ws : List ℕ) (i k : ℕ) → k < i → element_at (sets out (3 * i) ws) k ≡ element_at out k
unfolding element_at
element_kept out ws i k h =
    rw (
      get_d_sets_below ws out (3 * i) (3 * k) 0 (omega arith),
      get_d_sets_below ws out (3 * i) (3 * k + 1) 0 (omega arith),
      get_d_sets_below ws out (3 * i) (3 * k + 2) 0 (omega arith),
    )

-- a turn of the loop: one element more is the inverse
pub inverses_turn : (words out after : List ℕ) (i : ℕ) (x y : Ext) → 3 * i + 3 ≤ length out → x ≡ element_at words i → InverseOrZeroX x y
    → after ≡ sets out (3 * i) (words_x y)
    → ((k : ℕ) → k < i → InverseOrZeroX (element_at words k) (element_at out k))
    → (k : ℕ) → k < i + 1 → InverseOrZeroX (element_at words k) (element_at after k)
inverses_turn words out after i x y h e v f all =
    below_more
    (λ (k : ℕ). InverseOrZeroX (element_at words k) (element_at after k))
    i
    (λ k l. rw (f, element_kept out (words_x y) i k l) (all k l))
    (rw (f, element_stored out i y h, ← e) v)

pub ext_words_differ : (words out : List ℕ) → (length words ≡ length out → ⊥) → ext_inverses_fit words out ≡ false
unfolding ext_inverses_fit
ext_words_differ words out h = rw (ne_eqb (length words) (length out) h)

pub not_whole : (words out : List ℕ) → length words ≡ length out → (length words % 3 ≡ 0 → ⊥) → ext_inverses_fit words out ≡ false
unfolding ext_inverses_fit
not_whole words out e h = rw (eq-eqb (length words) (length out) e, ne_eqb (length words % 3) 0 h)

pub ext_inverses_fit_lem : (words out : List ℕ) → length words ≡ length out → length words % 3 ≡ 0 → ext_inverses_fit words out ≡ true
unfolding ext_inverses_fit
ext_inverses_fit_lem words out e h = rw (eq-eqb (length words) (length out) e, eq-eqb (length words % 3) 0 h)
