-- What each way out of a call of one of the two recorders leaves, said of the definition `beside` (beside_wrong, beside_done), and so what a call leaves that
-- `call_beside` made or refused (called_beside, same_beside). Assumes nothing.
use mathlib.Core.Path.{◌≡◌, refl, sym, ap, ◌∙◌}
use mathlib.Core.Bool.{Bool, true, false, not, ◌&&◌}
use lib.Dec.{eqb}
use lib.ListN.{length}
use Rattle.std.specs.Prelude.{Result, Err, IfErr, OnOk, IsErrAnd}
use Rattle.std.proofs.lemmas.Result.{err_from_is_err_and}
use Rattle.words.specs.Answers.{Answer}
use Rattle.words.specs.Outcomes.{Outcome, Leaves}
use Rattle.words.specs.Refusals.{Fine, Declined}
use Rattle.words.specs.declared.Refusal.{Refusal}
use Rattle.words.specs.declared.Refusal.TheVariants.{Shape}
use Rattle.words.proofs.Judgements.{decline_true, decline_false}
use Rattle.list.specs.declared.LentListMut.{LentListMut}
use Rattle.list.specs.Lists.{capacity, used}
use Rattle.list.specs.Holds.{HeldList}
use Rattle.list.specs.Lent.{held_in_mut, SameArrays}
use Rattle.list_shared.specs.Shared.{Counts, other_shape, cleared, beside}
use Rattle.list_shared.specs.Lent.{shared}

-- the other's shape is wrong where a test of it says so
module _ (h : HeldList) (other : Counts) where
  abbrev fits : Bool
  fits = eqb (length other.multiplicities) (capacity h.list) && eqb (length other.holds) (capacity h.list)

  pub shape_wrong : {test : Bool} → test ≡ fits → not test ≡ true → other_shape h other ≡ Declined Shape
  unfolding other_shape
  shape_wrong e taken = decline_true Shape (ap not (sym e) ∙ taken)

same : {own own' : HeldList} {other other' : Counts} → own ≡ own' → other ≡ other' → shared own other ≡ shared own' other'
same p q = rw (p, q) refl

-- `wrong` is the answer where the other's arrays are of the wrong shape, and `a` is what the call alone does
module _ (wrong : Answer) (a : Outcome HeldList) (h : HeldList) (other : Counts) where
  pub beside_wrong : other_shape h other ≡ Declined Shape → Leaves (beside wrong a h other) wrong (shared h other)
  unfolding beside
  beside_wrong e = rw e (record { answer = refl; left = refl })

  pub beside_done : {given : Answer} {own : HeldList} {left : Counts} → other_shape h other ≡ Fine → Leaves a given own
      → left ≡ cleared (used h.list) (used own.list) other → Leaves (beside wrong a h other) given (shared own left)
  unfolding beside
  beside_done e w f =
      rw e
      (record {
        answer = w.answer;
        left = same w.left (f ∙ ap (λ (x : HeldList). cleared (used h.list) (used x.list) other) w.left);
      })

-- what `call_beside` ensures: `Given` is how a refusal becomes an error of the call, `Made` that the call was made
module _ {A E : Type 0} (Given : Refusal → E → Type 0) (Made : Type 0) (list left : LentListMut) (other after : Counts) (r : Result A E) where
  abbrev pub Refused : Type 0
  Refused = IfErr (other_shape (held_in_mut list) other) (λ reason. IsErrAnd r (Given reason) × (left ≡ list) × (after ≡ other))

  abbrev pub Called : Type 0
  Called = OnOk (other_shape (held_in_mut list) other) (Made × (after ≡ cleared list.sizes.used left.sizes.used other))

  -- by cases: the shape is wrong, or it is right
  told : {P : Type 0} → Refused → Called
      → (other_shape (held_in_mut list) other ≡ Declined Shape → IsErrAnd r (Given Shape) × (left ≡ list) × (after ≡ other) → P)
      → (other_shape (held_in_mut list) other ≡ Fine → Made × (after ≡ cleared list.sizes.used left.sizes.used other) → P)
      → P
  unfolding other_shape
  told {P} refused called wrong right =
      go (not (eqb (length other.multiplicities) list.sizes.capacity && eqb (length other.holds) list.sizes.capacity)) refl
    where
      go : (t : Bool) → not (eqb (length other.multiplicities) list.sizes.capacity && eqb (length other.holds) list.sizes.capacity) ≡ t → P
      go true e = wrong (decline_true Shape e) (rw (decline_true Shape e) at refused)
      go false e = right (decline_false Shape e) (rw (decline_false Shape e) at called)

  pub called_beside : (answer : Result A E → Answer) (wrong : Answer) (a : Outcome HeldList) → Refused → Called
      → ((e : E) → Given Shape e → answer (Err e) ≡ wrong) → (Made → Leaves a (answer r) (held_in_mut left))
      → Leaves (beside wrong a (held_in_mut list) other) (answer r) (shared (held_in_mut left) after)
  called_beside answer wrong a refused called as_wrong as_due =
      told refused called
      (λ e t.
      let gave = err_from_is_err_and r t.0 in
      rw (ap answer gave.1 ∙ as_wrong gave.0 gave.2, t.1, t.2) (beside_wrong wrong a (held_in_mut list) other e))
      (λ e t. beside_done wrong a (held_in_mut list) other e (as_due t.0) t.1)

  pub same_beside : Refused → Called → (Made → SameArrays list left) → SameArrays list left
  same_beside refused called made =
      told refused called (λ e t. rw t.1 (record { keys = refl; multiplicities = refl; holds = refl })) (λ e t. made t.0)
