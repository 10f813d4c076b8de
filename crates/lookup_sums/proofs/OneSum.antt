-- The byte lookup is the cascade on the values below 256, since byte 0 goes to 0: so one loop makes both sums. Assumes nothing.
use Prim.Native.Nat.{ℕ, ◌/◌, ◌%◌, ◌<◌}
use mathlib.Core.Path.{◌≡◌, refl}
use mathlib.Core.List.{List}
use native.Mathlib.Omega.{arith}
use lib.ListN.{get_or}
use Rattle.words.specs.Limits.{byte_rows}
use Rattle.lookup.specs.ByteLookup.{byte_output, cascade_output}
use Rattle.lookup_sums.specs.LookupSums.{byte_summand, cascade_summand}

zero_to_zero : byte_output 0 ≡ 0
unfolding byte_output
zero_to_zero = refl

pub cascade_of_byte : (i : ℕ) → i < byte_rows → cascade_output i ≡ byte_output i
unfolding cascade_output
cascade_of_byte i h =
    let hi : i / 256 ≡ 0 = omega arith in
    let lo : i % 256 ≡ i = omega arith in
    let z = zero_to_zero in
    rw (hi, lo) (omega arith)

-- over keys that are 0, 1, 2, ..
pub byte_summand_lem : (keys bytes challenges : List ℕ) (i : ℕ) → i < byte_rows → get_or keys i 0 ≡ i
    → cascade_summand keys bytes challenges i ≡ byte_summand bytes challenges i
unfolding cascade_summand byte_summand
byte_summand_lem keys bytes challenges i h e = rw (e, cascade_of_byte i h)
