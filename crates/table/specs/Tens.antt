-- Ten words below p at once. No contract of a call cites this page.
use Rattle.std.specs.Prelude.{ℕ, ◌+◌, ◌<◌, List, get_or}
use Rattle.field.specs.Elements.{p}

-- the ten words from `at` on are below p
unfoldable pub TenBelow : List ℕ → ℕ → Type 0
TenBelow words at = (k : ℕ) → k < 10 → get_or words (at + k) 0 < p
