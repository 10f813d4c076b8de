-- What one byte is, kind by kind: a space, a newline, a digit, any other. Assumes nothing.
use Prim.Native.Nat.{ℕ, ◌-◌, ◌≤◌, ◌<◌}
use mathlib.Core.Path.{◌≡◌, refl}
use mathlib.Core.Bool.{true, false}
use native.Mathlib.Omega.{arith}
use borrow.Author.Tests.{ne_eqb, le-leb, lt-leb}
use Rattle.numbers.specs.Numbers.{line_of_next, gap_step, digit_step, step_of}
use Rattle.numbers.specs.declared.Place.{Place}
use Rattle.std.specs.Prelude.{Ok, Err, unwrap_or}

module _ (p : Place) where
  pub step_space : step_of p 32 ≡ Ok (gap_step p (line_of_next p) false)
  unfolding step_of
  step_space = refl

  pub step_newline : step_of p 10 ≡ Ok (gap_step p (line_of_next p) true)
  unfolding step_of
  step_newline = refl

  module _ (byte : ℕ) where
    pub step_below : (byte ≡ 32 → ⊥) → (byte ≡ 10 → ⊥) → byte < 48 → step_of p byte ≡ Err (line_of_next p)
    unfolding step_of
    step_below s n h = rw (ne_eqb byte 32 s, ne_eqb byte 10 n, lt-leb 48 byte h)

    pub step_above : 57 < byte → step_of p byte ≡ Err (line_of_next p)
    unfolding step_of
    step_above h = rw (ne_eqb byte 32 (omega arith), ne_eqb byte 10 (omega arith), le-leb 48 byte (omega arith), lt-leb byte 57 h)

    pub step_digit : 48 ≤ byte → byte ≤ 57 → step_of p byte ≡ digit_step (line_of_next p) (unwrap_or p.number 0) (byte - 48)
    unfolding step_of
    step_digit l h = rw (ne_eqb byte 32 (omega arith), ne_eqb byte 10 (omega arith), le-leb 48 byte l, le-leb byte 57 h)
