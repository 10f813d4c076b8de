-- What each way out of `fill` leaves, said of the definition `fill_all` (`fill_shape`, `fill_list`, `fill_short`, `fill_done`). Assumes nothing.
use Prim.Native.Nat.{ℕ, ◌≤◌, ◌<◌}
use mathlib.Core.Path.{◌≡◌, ap, ◌∙◌}
use mathlib.Core.Bool.{true, false, not}
use mathlib.Core.List.{List, [], ◌∷◌}
use borrow.Author.Tests.{lt-ltb, le-ltb}
use Rattle.std.specs.Prelude.{Ok}
use Rattle.words.specs.Answers.{declined}
use Rattle.words.specs.Outcomes.{Leaves}
use Rattle.words.specs.declared.Refusal.{Refusal}
use Rattle.words.specs.declared.Refusal.TheVariants.{Shape, Short}
use Rattle.words.specs.Refusals.{Fine, Declined}
use Rattle.words.proofs.Judgements.{decline_true, decline_false, decline_not_true, or_first, or_next}
use Rattle.words.proofs.Outcomes.{leaves_done, leaves_declined}
use Rattle.list.specs.Heights.{list_height}
use Rattle.list.proofs.HeldLists.{held_height}
use Rattle.list.specs.Holds.{HeldList, section_list, judge_held}
use Rattle.table.specs.Columns.{row_count, table_shape}
use Rattle.fill.specs.Filling.{Filled, filled, fill_reason, fill_all, filled_answer}

module _ (held : HeldList) (table : List ℕ) where
  -- the table as it was, and the reason
  abbrev Declines : Refusal → Type 0
  Declines reason = Leaves (fill_all held table) (declined reason) table

  refused : {reason : Refusal} → fill_reason held table ≡ Declined reason → Declines reason
  unfolding fill_all
  refused e = leaves_declined _ _ _ e

  pub fill_shape : table_shape table ≡ false → Declines Shape
  unfolding fill_reason
  fill_shape e = refused (or_first _ (decline_true Shape (ap not e)))

  module _ (shape : table_shape table ≡ true) where
    pub fill_list : {reason : Refusal} → judge_held held ≡ Declined reason → Declines reason
    unfolding fill_reason
    fill_list e = refused (or_next _ (decline_not_true Shape shape) ∙ or_first _ e)

    module _ (fine : judge_held held ≡ Fine) where
      pub fill_short : row_count table < list_height (section_list held) → Declines Short
      unfolding fill_reason
      fill_short h = refused (or_next _ (decline_not_true Shape shape) ∙ or_next _ fine ∙ decline_true Short (lt-ltb _ _ h))

      -- the definition's answer and table where nothing is declined
      pub fill_fine : list_height (section_list held) ≤ row_count table → fill_reason held table ≡ Fine
      unfolding fill_reason
      fill_fine h = or_next _ (decline_not_true Shape shape) ∙ or_next _ fine ∙ decline_false Short (le-ltb _ _ h)

      pub fill_done : {r : Filled} {after : List ℕ} → list_height (section_list held) ≤ row_count table → r ≡ Ok (list_height (section_list held)) → after ≡ filled (section_list held) table
          → Leaves (fill_all held table) (filled_answer r) after
      unfolding fill_all
      fill_done h e f = leaves_done (list_height (section_list held) ∷ []) table (filled (section_list held) table) (fill_fine h) (ap filled_answer e) f

-- the ways out of `fill` before the list is judged and after it
pub ruleset refused_steps = (fill_shape, fill_short, held_height)
