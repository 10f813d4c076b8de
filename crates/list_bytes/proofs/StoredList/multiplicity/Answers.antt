-- `list_bytes::StoredList::multiplicity` meets its contract: the multiplicities begin after the n keys, and the length tells their width. Assumes nothing.
use Prim.Native.Nat.{ℕ, ◌+◌, ◌*◌, ◌≤◌}
use mathlib.Core.Path.{◌≡◌, subst, ◌∙◌}
use mathlib.Core.List.{List}
use native.Mathlib.Omega.{arith}
use lib.ListN.{length}
use Rattle.words.specs.LittleEndian.{le_at}
use Rattle.list_bytes.specs.Packed.{keys_end, multiplicity_width, old_multiplicity_width, length_with, old_length, width_of, stored_n, stored_multiplicity}
use Rattle.list_bytes.proofs.Format.{width_old, width_other}
use Rattle.list_bytes.proofs.StoredList.multiplicity.Goals as goal

-- the length of an old list, as the code adds it up
abbrev old_end : ℕ → ℕ
old_end n = keys_end n + old_multiplicity_width * n

module _ (s : List ℕ) (n : ℕ) where
  new_width : n ≡ stored_n s → (length s ≡ old_end n → ⊥) → width_of s ≡ multiplicity_width
  new_width e f = width_other s (λ l. f (l ∙ subst (λ (k : ℕ). old_length k ≡ old_end n) e (omega arith)))

  at_width : (w i : ℕ) → n ≡ stored_n s → width_of s ≡ w → le_at s (keys_end n + w * i) w ≡ stored_multiplicity s i
  unfolding stored_multiplicity
  at_width w i e h = rw (e, h)

  old_at : (i : ℕ) → n ≡ stored_n s → length s ≡ old_end n
      → le_at s (keys_end n + old_multiplicity_width * i) old_multiplicity_width ≡ stored_multiplicity s i
  old_at i e l = at_width old_multiplicity_width i e (width_old s (l ∙ subst (λ (k : ℕ). old_end n ≡ old_length k) e (omega arith)))

  new_at : (i : ℕ) → n ≡ stored_n s → (length s ≡ old_end n → ⊥)
      → le_at s (keys_end n + multiplicity_width * i) multiplicity_width ≡ stored_multiplicity s i
  new_at i e f = at_width multiplicity_width i e (new_width e f)

pub word_at-requires : goal.word_at-requires
word_at-requires c =
    let list = c.args.self.now in
    let new = new_width _ _ list.whole.0 c.if-self-at.false in
    let room = subst (λ (w : ℕ). length_with w list.n ≤ length list.bytes.now) new list.whole.2 in
    omega (arith, room, c.requires)

pub returns-then-self-at : goal.returns-then-self-at
returns-then-self-at c =
    c.half_at.ensures.exact ∙ old_at _ _ c.args.i c.args.self.now.whole.0 c.if-self-at.true

pub returns-else-self-at : goal.returns-else-self-at
returns-else-self-at c =
    c.word_at.ensures ∙ new_at _ _ c.args.i c.args.self.now.whole.0 c.if-self-at.false
