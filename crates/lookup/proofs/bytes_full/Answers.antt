-- `lookup::bytes_full` meets its contract: the two cases of `bytes_full`, equal bytes and bytes that differ. Assumes nothing.
use Prim.Native.Nat.{ℕ, ◌+◌, ◌<◌}
use mathlib.Core.Path.{◌≡◌, sym, ◌∙◌}
use mathlib.Core.Bool.{Bool, true, false}
use mathlib.Core.List.{List}
use borrow.Author.Rules.{rules}
use lib.ListN.{length, get_or}
use Rattle.words.specs.Limits.{byte_rows}
use Rattle.list.specs.Lists.{count_full}
use Rattle.lookup.specs.ByteLookup.{high_byte, low_byte}
use Rattle.lookup.specs.Cascades.{bytes_full}
use Rattle.lookup.proofs.LookupCases.{full_equal, full_differ}
use Rattle.lookup.proofs.bytes_full.Goals as goal

-- the answers about the two bytes, as the code asks for them
module _ (bs : List ℕ) (v : ℕ) {high low : ℕ} {asked : Bool} (all : length bs ≡ byte_rows) (small : v < 65536) (h : high ≡ high_byte v) (l : low ≡ low_byte v) where
  equal_asked : high ≡ low → asked ≡ count_full (get_or bs high 0 + 2) → asked ≡ bytes_full bs v
  equal_asked e a = a ∙ rw h (sym (full_equal bs v all small (sym h ∙ e ∙ l)))

  high_full : (high ≡ low → ⊥) → asked ≡ count_full (get_or bs high 0 + 1) → asked ≡ true → asked ≡ bytes_full bs v
  high_full d a t = t ∙ rw (full_differ bs v all small (λ e. d (h ∙ e ∙ sym l)), ← h, sym a ∙ t)

  low_asked : {first : Bool} → (high ≡ low → ⊥) → first ≡ count_full (get_or bs high 0 + 1) → first ≡ false → asked ≡ count_full (get_or bs low 0 + 1)
      → asked ≡ bytes_full bs v
  low_asked d f t a = a ∙ rw (full_differ bs v all small (λ e. d (h ∙ e ∙ sym l)), ← h, ← l, sym f ∙ t)

pub returns-then-high-low : goal.returns-then-high-low
returns-then-high-low c = equal_asked _ _ (search rules) (search rules) c.bytes_of-high.ensures.0 c.bytes_of-high.ensures.1 (search rules) c.would_pass_limit.ensures

pub returns-then-would_pass_limit : goal.returns-then-would_pass_limit
returns-then-would_pass_limit c =
    high_full _ _ (search rules) (search rules) c.bytes_of-high.ensures.0 c.bytes_of-high.ensures.1 c.if-high-low.false c.would_pass_limit-else-high-low.ensures
    c.if-would_pass_limit.true

pub returns-else-would_pass_limit : goal.returns-else-would_pass_limit
returns-else-would_pass_limit c =
    low_asked _ _ (search rules) (search rules) c.bytes_of-high.ensures.0 c.bytes_of-high.ensures.1 c.if-high-low.false c.would_pass_limit-else-high-low.ensures
    c.if-would_pass_limit.false c.would_pass_limit-else-would_pass_limit.ensures
