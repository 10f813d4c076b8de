-- `lookup::would_pass_limit` meets its contract: the sum is past the limit where the greatest word stands for it. Assumes nothing.
use Prim.Native.Nat.{ℕ, min}
use mathlib.Core.Path.{◌≡◌, refl, sym, ap, ◌∙◌}
use mathlib.Core.Bool.{Bool, true, false}
use native.Mathlib.Omega.{arith}
use lib.Dec.{ltb}
use borrow.Author.Tests.{lt-ltb, le-ltb, ltb-true, ltb-false}
use Rattle.words.specs.Limits.{multiplicity_limit}
use Rattle.list.specs.Lists.{count_full}
use Rattle.lookup.proofs.would_pass_limit.Goals as goal

cut_alike : (sum : ℕ) → count_full (min sum 18446744073709551615) ≡ count_full sum
unfolding count_full
cut_alike sum = go (ltb multiplicity_limit sum) refl where
  go : (t : Bool) → ltb multiplicity_limit sum ≡ t → ltb multiplicity_limit (min sum 18446744073709551615) ≡ ltb multiplicity_limit sum
  go true e = let past = ltb-true multiplicity_limit sum e in lt-ltb _ _ (omega arith) ∙ sym e
  go false e = let within = ltb-false multiplicity_limit sum e in le-ltb _ _ (omega arith) ∙ sym e

pub returns : goal.returns
returns c = c.count_full.ensures ∙ ap count_full c.saturating_add.ensures ∙ cut_alike _
