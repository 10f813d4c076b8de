-- What "p is prime" means (document 01, "Elements": "That p is prime is proved").
use Rattle.std.specs.Prelude.{◌≡◌, ℕ, ◌<◌, ◌⊎◌}
use Rattle.std.specs.Int.{◌∣◌}

-- n is more than 1, and its only divisors are 1 and n
unfoldable pub Prime : ℕ → Type 0
Prime n = (1 < n) × ((d : ℕ) → d ∣ n → (d ≡ 1) ⊎ (d ≡ n))
