-- `lookup::LentLookupsMut::store_limb` meets its contract: what is required makes room, at a place that is known and at a new one. Assumes nothing.
use Prim.Native.Nat.{ℕ, ◌+◌, ◌≤◌, ◌<◌}
use mathlib.Core.Path.{◌≡◌}
use native.Mathlib.Omega.{arith}
use lib.ListN.{length, get_or}
use Rattle.std.specs.Prelude.{Option, Some, None, Ok}
use Rattle.words.specs.Limits.{multiplicity_limit, byte_rows}
use Rattle.list.proofs.JudgedLists.{count_within}
use Rattle.lookup.specs.ByteLookup.{high_byte, low_byte}
use Rattle.lookup.specs.Cascades.{Lookups, used, raised_byte}
use Rattle.lookup.specs.Lent.{lookups_in}
use Rattle.lookup.specs.Placing.{Fits}
use Rattle.lookup.proofs.LookupCases.{bytes_within}
use Rattle.lookup.proofs.LentLookupsMut.store_limb.Goals as goal

-- what is required, where the value is known
fits_known : (t : Lookups) (v : ℕ) {p : Option ℕ} {i : ℕ} → p ≡ Some i → Fits t v (Ok p)
    → (i < length t.values.multiplicities) × (get_or t.values.multiplicities i 0 + 1 ≤ multiplicity_limit)
fits_known t v e f = let g = rw e at f in (g.0, count_within _ g.1)

-- and where it is new
record Room (t : Lookups) (v : ℕ) : Type 0 where
  key : used t.values < length t.values.keys
  multiplicity : used t.values < length t.values.multiplicities
  bytes : length t.byte_multiplicities ≡ byte_rows
  high : get_or t.byte_multiplicities (high_byte v) 0 + 1 ≤ multiplicity_limit
  low : get_or (raised_byte t.byte_multiplicities (high_byte v)) (low_byte v) 0 + 1 ≤ multiplicity_limit

fits_new : (t : Lookups) (v : ℕ) {p : Option ℕ} → v < 65536 → p ≡ None → Fits t v (Ok p) → Room t v
fits_new t v h e f =
    let g = rw e at f in
    let b = bytes_within t.byte_multiplicities v g.2 h g.3 in
    record { key = g.0; multiplicity = g.1; bytes = g.2; high = b.0; low = b.1 }

pub overflow_add-self : goal.overflow_add-self
overflow_add-self c =
    let f = fits_known (lookups_in c.args.self.now) c.args.limb c.in-Some.is c.requires in
    record { fits = omega (arith, f.1) }

pub overflow_add-self-in-None : goal.overflow_add-self-in-None
overflow_add-self-in-None c =
    let f = fits_new (lookups_in c.args.self.now) c.args.limb c.ranges.limb.fits c.in-None.is c.requires in
    rw c.bytes_of-high.ensures.0 (record { fits = omega (arith, f.high) })

pub overflow_add-self-in-None-2 : goal.overflow_add-self-in-None-2
overflow_add-self-in-None-2 c =
    let f = fits_new (lookups_in c.args.self.now) c.args.limb c.ranges.limb.fits c.in-None.is c.requires in
    rw (c.bytes_of-high.ensures.0, c.bytes_of-high.ensures.1) (record { fits = omega (arith, f.low) })
