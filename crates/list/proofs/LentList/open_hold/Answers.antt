-- `list::LentList::open_hold` meets its contract: `all` tells of each used place that its hold is 0, or of one that it is not; past the holds' end there is none.
-- Assumes nothing.
use Rattle.std.proofs.Common.{◌≡◌, ◌≢◌, ℕ, ◌<◌, ◌≤◌, Bool, true, false, not, length, get_or, take, MatchBool, sym, ap, ◌∙◌, arith, rules, tests}
use Rattle.std.specs.List.{HoldsAt, AllWithin}
use Rattle.std.proofs.lemmas.List.{get_or-take, length-take, get_or_past}
use Rattle.std.proofs.lemmas.Iterator.{cases_from_all, YieldsList-from_slice, YieldsList-from_take}
use Rattle.std.proofs.lemmas.Bool.{cases_lt}
use mathlib.Core.Logic.{⊎_elim}
use Rattle.words.specs.Refusals.{decline_if, Fine, Declined}
use Rattle.words.specs.declared.Refusal.TheVariants.{OpenHold}
use Rattle.list.specs.Lists.{used}
use Rattle.list.specs.Holds.{HeldList, hold_at, open_hold}
use Rattle.list.proofs.HeldLists.{closed, not_closed}
use Rattle.list.proofs.LentList.open_hold.Goals as goal

-- the used places' holds, of which each is 0, or one is not
module _ (h : HeldList) where
  same : (k : ℕ) → k < used h.list → hold_at h k ≡ get_or (take (used h.list) h.holds) k 0
  unfolding hold_at
  same k l = sym (get_or-take (used h.list) h.holds k 0 l)

  few : length (take (used h.list) h.holds) ≤ used h.list
  few = omega (arith, length-take (used h.list) h.holds)

  each_closed : AllWithin (λ x. x ≡ 0) (take (used h.list) h.holds) 0 (length (take (used h.list) h.holds)) → Fine ≡ open_hold h
  each_closed f =
      sym
      (closed h
      (λ i k. same i k ∙ ⊎_elim (λ (b : i < length (take (used h.list) h.holds)). f i 0 (omega arith) b) (λ (b : length (take (used h.list) h.holds) ≤ i). get_or_past _ i 0 b) (cases_lt i _)))

  one_open : (k : ℕ) × (k < length (take (used h.list) h.holds)) × HoldsAt (λ x. x ≢ 0) (take (used h.list) h.holds) k → Declined OpenHold ≡ open_hold h
  one_open w = let b = few in sym (not_closed h w.0 (omega (arith, w.1)) (λ e. w.2 0 (sym (same w.0 (omega (arith, w.1))) ∙ e)))

  told : (r : Bool) → MatchBool r (AllWithin (λ x. x ≡ 0) (take (used h.list) h.holds) 0 (length (take (used h.list) h.holds))) ((k : ℕ) × (k < length (take (used h.list) h.holds)) × HoldsAt (λ x. x ≢ 0) (take (used h.list) h.holds) k)
      → decline_if (not r) OpenHold ≡ open_hold h
  told true f = each_closed f
  told false w = one_open w

pub returns-then-all : goal.returns-then-all
returns-then-all c =
    let cases = cases_from_all _ _ _ (λ x. x ≡ 0) (λ x. x ≢ 0) c.all.ensures.ran
    (YieldsList-from_take c.args.self.now.list.sizes.used (YieldsList-from_slice c.args.self.now.holds.now cc) cc) (λ x q k. search (rules, tests)) (λ x q k. search (rules, tests)) in
    ap (λ (r : Bool). decline_if (not r) OpenHold) (sym c.if-all.true) ∙ told _ _ cases

pub returns-else-all : goal.returns-else-all
returns-else-all c =
    let cases = cases_from_all _ _ _ (λ x. x ≡ 0) (λ x. x ≢ 0) c.all.ensures.ran
    (YieldsList-from_take c.args.self.now.list.sizes.used (YieldsList-from_slice c.args.self.now.holds.now cc) cc) (λ x q k. search (rules, tests)) (λ x q k. search (rules, tests)) in
    ap (λ (r : Bool). decline_if (not r) OpenHold) (sym c.if-all.false) ∙ told _ _ cases
