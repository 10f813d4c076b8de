-- Elements of three words, one after the other: how many words they are, a turn of the loop that stores them, and what it has stored at its
-- end; and the tests of lengths. Assumes nothing.
use Prim.Native.Nat.{ℕ, zero, suc, ◌+◌, ◌*◌, ◌%◌, ◌/◌}
use mathlib.Core.Path.{◌≡◌, refl, sym, ap, ◌∙◌}
use mathlib.Core.Bool.{true, false}
use mathlib.Core.List.{List, ◌++◌, append-nil}
use native.Mathlib.Omega.{arith}
use native.Mathlib.Numerals.{add-one}
use lib.ListN.{length, length-append, drop}
use lib.Seq.{sets, drop-length}
use borrow.Author.Tests.{eq-eqb, ne_eqb}
use Rattle.words.proofs.Sets.{sets_then, sets_front}
use Rattle.xfield.specs.Extension.{Ext, words_x}
use Rattle.table.specs.Columns.{element_at}
use Rattle.probes.specs.ExtensionProbes.{elements_fit, words_of_first, elementwise}
use Rattle.probes.proofs.Places.{left_differs, right_differs, products_fit_lem}

-- ---- lengths
pub left_is_other : (left right out : List ℕ) → (length left ≡ length out → ⊥) → elements_fit left right out ≡ false
unfolding elements_fit
left_is_other left right out h = rw (left_differs left right out h)

pub right_is_other : (left right out : List ℕ) → length left ≡ length out → (length right ≡ length out → ⊥) → elements_fit left right out ≡ false
unfolding elements_fit
right_is_other left right out e h = rw (right_differs left right out e h)

pub not_whole : (left right out : List ℕ) → length left ≡ length out → length right ≡ length out → (length left % 3 ≡ 0 → ⊥)
    → elements_fit left right out ≡ false
unfolding elements_fit
not_whole left right out e f h = rw (products_fit_lem left right out e f, ne_eqb (length left % 3) 0 h)

pub elements_fit_lem : (left right out : List ℕ) → length left ≡ length out → length right ≡ length out → length left % 3 ≡ 0
    → elements_fit left right out ≡ true
unfolding elements_fit
elements_fit_lem left right out e f h = rw (products_fit_lem left right out e f, eq-eqb (length left % 3) 0 h)

-- ---- the words of some elements
module _ (elements : ℕ → Ext) where
  words_length : (n : ℕ) → length (words_of_first elements n) ≡ 3 * n
  unfolding words_of_first
  words_length zero = refl
  words_length (suc n) = let rest = words_length n in length-append (words_of_first elements n) (words_x (elements n)) ∙ omega arith

  -- a turn of the loop: element i is stored behind the i before it
  pub element_turn : (i : ℕ) (old : List ℕ) {out after : List ℕ} {value : Ext} → out ≡ sets old 0 (words_of_first elements i) → value ≡ elements i
      → after ≡ sets out (3 * i) (words_x value) → after ≡ sets old 0 (words_of_first elements (i + 1))
  unfolding words_of_first
  element_turn i old {out} e f g =
      rw add-one
      (g ∙ rw f (sym (sets_then (words_of_first elements i) (words_x (elements i)) old out 0 (3 * i) e (omega (arith, words_length i)))))

  -- at the end the words stored are all
  all_elements : (n : ℕ) (old : List ℕ) → length old ≡ 3 * n → sets old 0 (words_of_first elements n) ≡ words_of_first elements n
  all_elements n old h =
      let words = words_of_first elements n in
      let same : length words ≡ length old = words_length n ∙ sym h in
      sets_front words old (omega arith)
      ∙ ap (λ (k : ℕ). words ++ drop k old) same ∙ ap (λ (r : List ℕ). words ++ r) (drop-length old) ∙ append-nil words

pub are_elementwise : (operation : Ext → Ext → Ext) (left right old : List ℕ) {out : List ℕ} (n : ℕ)
    → n ≡ length left / 3 → length left % 3 ≡ 0 → length left ≡ length old
    → out ≡ sets old 0 (words_of_first (λ (i : ℕ). operation (element_at left i) (element_at right i)) n)
    → out ≡ elementwise operation left right
unfolding elementwise
are_elementwise operation left right old n e h l g =
    let f : ℕ → Ext = λ i. operation (element_at left i) (element_at right i) in
    g ∙ all_elements f n old (omega (arith, e, h, l)) ∙ ap (words_of_first f) e
