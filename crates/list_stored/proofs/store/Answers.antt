-- `list_stored::store` meets its contract: 11, then 7, and no byte is stored before both are asked; the height is the list's own, as it is
-- required. Assumes nothing.
use mathlib.Core.Path.{sym, ◌∙◌}
use native.Mathlib.Omega.{arith}
use Rattle.list_repeats.proofs.Repeats.{used_repeats}
use Rattle.list_stored.proofs.Reasons.{store_repeat, store_short, store_fine, stored_refused, stored_done}
use Rattle.list_stored.proofs.store.Goals as goal

pub returns-then-has_repeats : goal.returns-then-has_repeats
returns-then-has_repeats c = stored_refused _ _ _ (store_repeat _ _ (sym (used_repeats _ c.args.places.now.in_bounds.1 c.used_keys.ensures c.has_repeats.ensures) ∙ c.if-has_repeats.true))

pub returns-then-out-length : goal.returns-then-out-length
returns-then-out-length c =
    stored_refused _ _ _
    (store_short _ _ (sym (used_repeats _ c.args.places.now.in_bounds.1 c.used_keys.ensures c.has_repeats.ensures) ∙ c.if-has_repeats.false)
    (let e = c.length_with-length.ensures in let h = c.if-out-length.true in omega arith))

pub returns : goal.returns
returns c =
    stored_done _ _ _ _ _ _
    (store_fine _ _ (sym (used_repeats _ c.args.places.now.in_bounds.1 c.used_keys.ensures c.has_repeats.ensures) ∙ c.if-has_repeats.false) (let e = c.length_with-length.ensures in let h = c.if-out-length.false in omega arith))
    c.length_with-length.ensures
    c.requires c.put_list.ensures
