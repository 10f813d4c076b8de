-- `list_stored::stored_list` meets its contract: each return is one of the tests of the definition. Bytes too few to read the number of entries have a
-- wrong length whatever it is. Assumes nothing.
use mathlib.Core.Path.{◌≡◌, refl, sym, ap, ◌∙◌}
use mathlib.Core.Bool.{Bool, true, false, not}
use mathlib.Core.List.{List}
use Prim.Native.Nat.{ℕ, ◌≤◌}
use native.Mathlib.Omega.{arith}
use borrow.Author.Tests.{eqb-true, eqb-false}
use lib.ListN.{length}
use Rattle.words.specs.Limits.{max_places}
use Rattle.list_bytes.specs.Packed.{stored_n, stored_length, old_length}
use Rattle.list_stored.proofs.Reasons.{Whole, old_long, new_long, whole_room, whole_fine, torn_short, torn_many, torn_length}
use Rattle.list_stored.proofs.stored_list.Goals.{then-n-gt-MAX_PLACES-via-then-n-gt-MAX_PLACES, then-n-gt-MAX_PLACES-via-else-n-gt-MAX_PLACES+then-bytes-length_with-2, then-bytes-length_with, else-bytes-length_with}
use Rattle.list_stored.proofs.stored_list.Goals as goal

module _ (s : List ℕ) {n : ℕ} (e : n ≡ stored_n s) (few : n ≤ max_places) where
  old_whole : {m : ℕ} → length s ≡ m → m ≡ old_length n → Whole s
  old_whole f g = record { few = omega arith; long = old_long s (f ∙ g ∙ ap old_length e) }

  new_whole : {m : ℕ} → length s ≡ m → m ≡ stored_length n → Whole s
  new_whole f g = record { few = omega arith; long = new_long s (f ∙ g ∙ ap stored_length e) }

-- a test that is asked the other way round
turned : (t : Bool) {v b : Bool} → v ≡ not t → v ≡ b → t ≡ not b
turned true e f = ap not (sym e ∙ f)
turned false e f = ap not (sym e ∙ f)

pub returns-then-bytes-lt-HEAD_WIDTH : goal.returns-then-bytes-lt-HEAD_WIDTH
returns-then-bytes-lt-HEAD_WIDTH c = torn_short c.args.bytes.now c.if-bytes-lt-HEAD_WIDTH.true

pub returns-then-n-gt-MAX_PLACES : goal.returns-then-n-gt-MAX_PLACES
returns-then-n-gt-MAX_PLACES c =
    let s = c.args.bytes.now in
    let n = c.stored_n-n.ensures in
    elim c.then-n-gt-MAX_PLACES.branch [
      | then-n-gt-MAX_PLACES-via-then-n-gt-MAX_PLACES w ↦ torn_many s (let h = w.if-n-gt-MAX_PLACES.true in omega arith)
      | then-n-gt-MAX_PLACES-via-else-n-gt-MAX_PLACES+then-bytes-length_with-2 w ↦
          elim w.if-bytes-length_with.branch [
            | then-bytes-length_with v ↦
                torn_length s
                (λ e. v.if-bytes-length_with.true (e ∙ ap old_length (sym n) ∙ sym w.length_with.ensures))
                (λ e. eqb-false _ _ (turned _ v.value-is w.if-bytes-length_with-2.true) (e ∙ ap stored_length (sym n) ∙ sym v.length_with-then-bytes-length_with.ensures))
            | else-bytes-length_with v ↦ absurd (eqb-false _ _ (turned _ v.value-is w.if-bytes-length_with-2.true) v.if-bytes-length_with.false)
          ]
    ]

-- bytes of one of the two lengths have the old one, or, where they do not, the new one
pub invariant_of-result : goal.invariant_of-result
invariant_of-result c =
    let n = c.stored_n-n.ensures in
    let few = c.if-n-gt-MAX_PLACES.false in
    let whole : Whole c.args.bytes.now = elim c.if-bytes-length_with.branch [
      | then-bytes-length_with v ↦ new_whole _ n (omega arith) (eqb-true _ _ (turned _ v.value-is c.if-bytes-length_with-2.false)) v.length_with-then-bytes-length_with.ensures
      | else-bytes-length_with v ↦ old_whole _ n (omega arith) v.if-bytes-length_with.false c.length_with.ensures
    ] in
    record { whole = (n, omega arith, whole_room _ _ n whole) }

pub returns : goal.returns
returns c =
    let n = c.stored_n-n.ensures in
    let few = c.if-n-gt-MAX_PLACES.false in
    let whole : Whole c.args.bytes.now = elim c.if-bytes-length_with.branch [
      | then-bytes-length_with v ↦ new_whole _ n (omega arith) (eqb-true _ _ (turned _ v.value-is c.if-bytes-length_with-2.false)) v.length_with-then-bytes-length_with.ensures
      | else-bytes-length_with v ↦ old_whole _ n (omega arith) v.if-bytes-length_with.false c.length_with.ensures
    ] in
    (refl, whole_fine _ whole)
